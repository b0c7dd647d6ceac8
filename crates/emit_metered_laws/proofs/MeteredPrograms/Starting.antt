-- Programs with a meter from their start on.
use Rattle.std.proofs.Common.{◌≡◌, ℕ, zero, suc, ◌+◌, ◌-◌, ◌*◌, ◌≤◌, Some, refl, ap, sym, subst, ◌∙◌, arith, inr}
use Rattle.run_definition.specs.Question.{Question}
use Rattle.run_definition.specs.Answer.{Answer}
use Rattle.run_definition.specs.Turn.{Turn, moves, ends, leaves, asks}
use Rattle.run_simulation_laws.specs.Meter.{metered}
use Rattle.run_simulation_laws.specs.Pairs.{FollowsByMeter, by_meter, metered_pair}
use Rattle.mips_definition.specs.State as guest
use Rattle.mips_definition.specs.Step as guest_step
use Rattle.mips_definition.specs.Step.{after_loader, loader_question}
use Rattle.jvm_definition.specs.Step.{JvmState, jvm_start, jvm_turn}
use Rattle.emit_loading_laws.specs.Loaded.{memory_turns}
use Rattle.emit_loading_laws.specs.Made.{IsProgram}
use Rattle.emit_loading_laws.specs.Metered.{HasBegunByMeter, LoadsByMeter, MeteredLoadingFollows, MeteredProgramsLoad, SpentLoadingFollows, SpentProgramsEnd}
use Rattle.meter.specs.Guards.{left_field}
use Rattle.trampoline_laws.specs.Classes.{is_span}
use Rattle.emit_program_laws.specs.Choosing.{BegunProgramsChoose}
use Rattle.emit_program_laws.specs.Entered.{IsGuest}
use Rattle.emit_program_laws.specs.Translated.{TranslatedProgram, guest_start}
use Rattle.emit_metered_laws.specs.Metering.{spent}
use Rattle.emit_metered_laws.specs.Programs.{IsMeteredProgram, LoadsByMeterWithin, MeteredProgram, resting}
use Rattle.emit_metered_laws.proofs.MeteredPrograms.Renaming.{follows-so}

-- what is used of the laws of loading
pub record LoadingLaws : Type 0 where
  pub load : MeteredProgramsLoad
  pub follow : MeteredLoadingFollows
  pub end : SpentProgramsEnd
  pub end_so : SpentLoadingFollows
  pub chooses : BegunProgramsChoose

-- ---- turns of a guest with a meter

-- a turn that asks asks with what is left
next_of : {S : Type 0} → (Answer → S) → Turn S → Answer → S
next_of otherwise (moves t) = otherwise
next_of otherwise (ends e) = otherwise
next_of otherwise (leaves q e) = otherwise
next_of otherwise (asks q next) = next

asks-next : {S : Type 0} (q r : Question) (next later : Answer → S) → asks q next ≡ asks r later → next ≡ later
unfolding next_of
asks-next q r next later e = ap (next_of next) e

module _ (laws : LoadingLaws) (p : MeteredProgram) (is : IsMeteredProgram p) (most : ℕ) (within : LoadsByMeterWithin p most) where
  abbrev t : TranslatedProgram
  t = p.translated

  abbrev here : guest.State
  here = guest_start t

  abbrev begun_in : JvmState
  begun_in = jvm_start t.program

  abbrev limit : ℕ → ℕ
  limit k = most + 2 * 1024

  abbrev Begun : ℕ → guest.State → JvmState → Type 0
  Begun = HasBegunByMeter t.own t.choose

  abbrev FollowsTo : (ℕ → guest.State → JvmState → Type 0) → ℕ → Type 0
  FollowsTo Rests left = FollowsByMeter guest_step.turn (jvm_turn t.program t.words) spent Rests limit left here begun_in

  -- where they have begun they rest
  guest-after : (a : Answer) → IsGuest t.order t.code (after_loader here a)
  guest-after a = record { begun = refl; pending = refl; order_is = is.order_is; code_is = refl }

  begun-rests : (left : ℕ) (a : Answer) (y : JvmState) → Begun left (after_loader here a) y → resting p left (after_loader here a) y
  begun-rests left a y b = record {
    rests = record {
      guest_is = guest-after a;
      pc_word = is.entry_word;
      stands = inr (inr (inr (laws.chooses t.own t.choose (after_loader here a) y b.begun)));
    };
    left_is = record { field = ap (λ (s : JvmState). s.fields left_field) b.begun.stands ∙ b.left_is.0; small = b.left_is.1 };
  }

  -- ---- a turn at least is on the meter

  enough : (left : ℕ) → p.turns ≡ suc left → FollowsTo Begun (suc left)
  enough left turns_are =
      let loads = laws.load t.program t.words t.own t.apart t.choose t.pages (is_span t.classes) t.beginning t.texts t.shares t.fillers t.readable t.writable t.page_words t.code p.turns is.begins (omega (arith, turns_are)) is.few_turns is.memory_is is.makers_are_none in
      let one_less : p.turns - 1 ≡ left = omega (arith, turns_are) in
      let e : left + 1 ≡ suc left = omega arith in
      let room : memory_turns t.shares t.fillers + 16 + 9 ≤ most + 2 * 1024 = omega (arith, within) in
      subst (FollowsTo Begun) e
      (laws.follow t.program t.words t.own t.apart t.choose (is_span t.classes) (memory_turns t.shares t.fillers + 16) left (most + 2 * 1024) here spent refl
      (subst (λ n. LoadsByMeter t.program t.words t.own t.apart t.choose (is_span t.classes) (memory_turns t.shares t.fillers + 16) n here) one_less loads) room)

  abbrev by_it : ℕ → Turn (ℕ × guest.State)
  by_it left = metered guest_step.turn spent (left, here)

  enough-rests : (left : ℕ) → FollowsTo Begun (suc left) → FollowsTo (resting p) (suc left)
  enough-rests left f =
      follows-so (metered_pair guest_step.turn (jvm_turn t.program t.words) spent) (by_meter Begun) (by_meter (resting p)) limit (suc left, here) begun_in
      (λ u moving. asks-not-moves u moving) so f
    where
      asks-not-moves : (u : ℕ × guest.State) → asks (loader_question here) (λ a. (left, after_loader here a)) ≡ moves u → ⊥
      asks-not-moves u moving = cc

      so : (q : Question) (later : Answer → ℕ × guest.State) (a : Answer) (l : JvmState) → by_it (suc left) ≡ asks q later → by_meter Begun (later a) l → by_meter (resting p) (later a) l
      so q later a l asked first =
          let same : (λ b. (left, after_loader here b)) ≡ later = asks-next (loader_question here) q (λ b. (left, after_loader here b)) later asked in
          let at : (left, after_loader here a) ≡ later a = ap (λ (f : Answer → ℕ × guest.State). f a) same in
          subst (λ (s : ℕ × guest.State). by_meter (resting p) s l) at
          (begun-rests left a l (subst (λ (s : ℕ × guest.State). by_meter Begun s l) (sym at) first))

  -- ---- none is

  none : p.turns ≡ 0 → FollowsTo Begun 0
  none turns_are =
      let begins = subst (λ n. IsProgram t.program t.own t.apart t.choose t.pages (Some n) t.beginning t.texts t.fillers) turns_are is.begins in
      let at_once = laws.end t.program t.words t.own t.apart t.choose t.pages (is_span t.classes) t.beginning t.texts t.shares t.fillers t.readable t.writable t.page_words begins is.memory_is is.makers_are_none in
      laws.end_so t.program t.words t.own t.apart t.choose (is_span t.classes) (memory_turns t.shares t.fillers + 8) (most + 2 * 1024) t.beginning.entry here spent refl at_once (omega (arith, within))

  none-rests : FollowsTo Begun 0 → FollowsTo (resting p) 0
  none-rests f =
      follows-so (metered_pair guest_step.turn (jvm_turn t.program t.words) spent) (by_meter Begun) (by_meter (resting p)) limit (0, here) begun_in
      (λ u moving. ends-not-moves u moving) so f
    where
      ends-not-moves : (u : ℕ × guest.State) → ends (spent here) ≡ moves u → ⊥
      ends-not-moves u moving = cc

      so : (q : Question) (later : Answer → ℕ × guest.State) (a : Answer) (l : JvmState) → by_it 0 ≡ asks q later → by_meter Begun (later a) l → by_meter (resting p) (later a) l
      so q later a l asked first = absurd (let never : ends (spent here) ≡ asks q later = asked in cc)

  -- ---- from the start

  begins-by : (n : ℕ) → p.turns ≡ n → FollowsTo (resting p) n
  begins-by zero turns_are = none-rests (none turns_are)
  begins-by (suc left) turns_are = enough-rests left (enough left turns_are)

  pub begins : FollowsTo (resting p) p.turns
  begins = begins-by p.turns refl
