-- The law of a turn with a meter.
use Rattle.std.proofs.Common.{◌≡◌, ℕ, ◌+◌, ◌*◌, inl, inr, true, not, ◌&&◌, ◌||◌, ◌==◌, List, Option, Some, None, refl, ap, sym, ◌∙◌, subst, arith}
use Rattle.std.proofs.lemmas.Bool.{true≢false}
use Rattle.run_definition.specs.declared.order.Order.{Order}
use Rattle.run_definition.specs.Turn.{ends}
use Rattle.run_simulation_laws.specs.Pairs.{FollowsByMeter, LawByMeter, by_meter, metered_pair}
use Rattle.run_simulation_laws.proofs.Paying.{not-paid, paid, paid-before}
use Rattle.mips_definition.specs.State as guest
use Rattle.mips_definition.specs.Step as guest_step
use Rattle.jvm_definition.specs.Program.{Program}
use Rattle.jvm_definition.specs.Step.{JvmState, jvm_turn}
use Rattle.meter.specs.Guards.{left_field}
use Rattle.trampoline_laws.specs.Classes.{CodeClass, is_span, span_words}
use Rattle.trampoline_laws.specs.Programs.{IsTranslated}
use Rattle.trampoline_laws.proofs.TrampolineLaws.Elements.{all-at}
use Rattle.emit_program_laws.specs.Choosing.{ChoosesWords, ComesToMissing, ComesToWord}
use Rattle.emit_program_laws.specs.Rests.{AtUnit, Rests, StandsSomewhere}
use Rattle.emit_program_laws.specs.Entered.{IsGuest}
use Rattle.emit_program_laws.specs.Standing.{IsStray}
use Rattle.emit_program_laws.proofs.TurnLaws.Law.{follows-wider}
use Rattle.emit_metered_laws.specs.Metering.{HasLeftIn, RestsByMeter, spent}
use Rattle.emit_metered_laws.specs.Spending.{MetersArePaidOrSpent, Pays, PaysOrSpends, Spends, uncounted, unit_limit}
use Rattle.emit_metered_laws.proofs.MeteredPrograms.Given.{BetweenLaws, UnitLaws, WordLaws}
use Rattle.emit_metered_laws.proofs.MeteredPrograms.Later.{comes-later}
use Rattle.emit_metered_laws.proofs.MeteredPrograms.Left.{left-then}
use Rattle.emit_metered_laws.proofs.MeteredPrograms.Strays.{stray-turn}
use Rattle.emit_metered_laws.proofs.MeteredPrograms.Words.{word-turn}

-- the limit of the law
abbrev pub turn_limit : ℕ → ℕ
turn_limit n = 1024 * n

module _ (unit_laws : UnitLaws) (laws : WordLaws) (between : BetweenLaws) (program : Program) (words : ℕ) (order : Order) (choose missing : ℕ) (classes : List CodeClass) (code : ℕ → Option ℕ) (is_in : IsTranslated true program order choose missing classes code) where
  abbrev Rest : ℕ → guest.State → JvmState → Type 0
  Rest = RestsByMeter program words order choose classes code

  abbrev Comes : ℕ → ℕ → guest.State → JvmState → Type 0
  Comes most left t y = PaysOrSpends program words Rest most left t y

  leads : ChoosesWords program words order choose missing classes code
  leads = between.program.lead true program words order choose missing classes code is_in

  -- where a span is chosen first
  chosen-turn : (left : ℕ) (t : guest.State) (y : JvmState) → IsGuest order code t → HasLeftIn left y → ComesToWord program words order choose classes t y → Comes 200 left t y
  chosen-turn left t y guest_is has c =
      let in_time = c.in_time in
      let there = left-then program words (is_span classes) c.turns 0 1 left y c.after (between.fields program words left_field) c.goes has in
      comes-later program words Rest c.turns 12 200 left t y c.after (omega (arith, in_time)) c.goes.comes
      (word-turn unit_laws laws between program words order choose missing classes code is_in left t c.after guest_is there c.arrives)

  chooses-by : (left : ℕ) (t : guest.State) (y : JvmState) → IsGuest order code t → HasLeftIn left y → (word : Option ℕ) → code t.pc ≡ word → ((w : ℕ) → code t.pc ≡ Some w → ComesToWord program words order choose classes t y) → (IsStray code t.pc → ComesToMissing program words classes missing t y) → Comes 200 left t y
  chooses-by left t y guest_is has None is enters strays =
      let stray : IsStray code t.pc = inr is in
      comes-later program words Rest 0 80 200 left t y y (omega arith) refl
      (stray-turn between program words order choose missing classes code is_in t guest_is stray left y has (strays stray))
  chooses-by left t y guest_is has (Some w) is enters strays = chosen-turn left t y guest_is has (enters w is)

  -- the classes stand in no piece, since none begins with a word
  in-no-piece : (t : guest.State) (y : JvmState) → AtUnit program words order classes choose y t → ⊥
  in-no-piece t y s =
      let c = s.class in
      let own = span_words c s.span in
      let metered : c.metered ≡ true = all-at (λ (d : CodeClass). d.metered ≡ true) classes s.number c is_in.metered_are s.there in
      true≢false (sym s.held.begin ∙ ap (λ m. not m && (s.word == own.first || c.leads s.word)) metered)

  rest-turn : (left : ℕ) (t : guest.State) (y : JvmState) → Rests program words order choose classes code t y → HasLeftIn left y → StandsSomewhere program words order classes choose y t → Comes 200 left t y
  rest-turn left t y r has (inl s) =
      comes-later program words Rest 0 12 200 left t y y (omega arith) refl
      (word-turn unit_laws laws between program words order choose missing classes code is_in left t y r.guest_is has s)
  rest-turn left t y r has (inr (inl s)) = absurd (in-no-piece t y s)
  rest-turn left t y r has (inr (inr (inl s))) =
      chooses-by left t y r.guest_is has (code t.pc) refl (λ w is. leads.from_run t w y r.guest_is is r.pc_word s)
      (λ stray. leads.stray_run t y stray r.pc_word s)
  rest-turn left t y r has (inr (inr (inr s))) =
      chooses-by left t y r.guest_is has (code t.pc) refl (λ w is. leads.from_choose t w y r.guest_is is s)
      (λ stray. leads.stray_choose t y stray r.pc_word s)

  pub paid-or-spent : (left : ℕ) (t : guest.State) (y : JvmState) → Rest left t y → Comes 200 left t y
  paid-or-spent left t y r = rest-turn left t y r.rests r.left_is r.rests.stands

-- ---- the classes follow the guest with so much on its meter

module _ (told : MetersArePaidOrSpent) (program : Program) (words : ℕ) (order : Order) (choose missing : ℕ) (classes : List CodeClass) (code : ℕ → Option ℕ) (is_in : IsTranslated true program order choose missing classes code) where
  abbrev Resting : ℕ → guest.State → JvmState → Type 0
  Resting = RestsByMeter program words order choose classes code

  abbrev FollowsFrom : (ℕ → ℕ) → ℕ → guest.State → JvmState → Type 0
  FollowsFrom limit left t y = FollowsByMeter guest_step.turn (jvm_turn program words) spent Resting limit left t y

  -- how many turns of the classes so many of the guest's take, with those that come before
  abbrev late_limit : ℕ → ℕ
  late_limit n = 264 * n + 213

  pays-follow : (left : ℕ) (t : guest.State) (y : JvmState) → Pays program words Resting 200 left t y → FollowsFrom turn_limit left t y
  pays-follow left t y p =
      let few = p.first_few in
      let own : FollowsFrom unit_limit left t p.there =
      subst (λ n. FollowsFrom unit_limit n t p.there) p.taken_off
      (paid (uncounted program words) spent Resting p.remain unit_limit t p.there p.follows) in
      let late : FollowsFrom late_limit left t y =
      paid-before guest_step.turn (jvm_turn program words) spent Resting unit_limit late_limit p.first left t y p.there p.comes own (λ n. omega (arith, few)) in
      follows-wider (metered_pair guest_step.turn (jvm_turn program words) spent) (by_meter Resting) late_limit turn_limit (λ n. omega arith) (left, t) y late

  spends-follow : (left : ℕ) (t : guest.State) (y : JvmState) → Spends program words 200 left t y → FollowsFrom turn_limit left t y
  spends-follow left t y s =
      let in_time = s.in_time in
      not-paid guest_step.turn (jvm_turn program words) spent Resting turn_limit left s.turns t s.guest_at y s.before s.guest_comes s.comes
      (s.ends_so ∙ ap (λ z. ends z) (sym s.same_unit)) s.no_sooner (omega (arith, in_time))

  turn-by : (left : ℕ) (t : guest.State) (y : JvmState) → PaysOrSpends program words Resting 200 left t y → FollowsFrom turn_limit left t y
  turn-by left t y (inl p) = pays-follow left t y p
  turn-by left t y (inr s) = spends-follow left t y s

  pub metered-turns-followed : LawByMeter guest_step.turn (jvm_turn program words) spent Resting 1024
  metered-turns-followed (left, t) y r = turn-by left t y (told program words order choose missing classes code left t y is_in r)
