-- Loading leads to where the classes rest.
use Rattle.std.proofs.Common.{◌≡◌, ℕ, ◌+◌, ◌*◌, ◌≤◌, Bool, false, Option, refl, ap, sym, subst, ◌∙◌, arith, inr}
use Rattle.std.specs.List.{sum_by}
use Rattle.run_definition.specs.Question.{Question}
use Rattle.run_definition.specs.Answer.{Answer}
use Rattle.run_definition.specs.Turn.{Turn, moves, ends, leaves, asks}
use Rattle.run_simulation_laws.specs.Trail.{Step, moved}
use Rattle.run_simulation_laws.specs.Turns.{Pair}
use Rattle.run_simulation_laws.specs.Turns as runs
use Rattle.mips_definition.specs.State as guest
use Rattle.mips_definition.specs.Step.{loader_question, after_loader}
use Rattle.jvm_definition.specs.Step.{JvmState, jvm_start, jvm_turn}
use Rattle.emit_paths_laws.specs.Classes.{entries, executed}
use Rattle.trampoline_laws.specs.Classes.{is_span}
use Rattle.emit_loading_laws.specs.Loaded.{memory_turns}
use Rattle.emit_loading_laws.specs.Made.{Begins, HasBegun, Loads, begun_at}
use Rattle.emit_loading_laws.proofs.LoadingCodeLaws.Runs.{loads-in-runs}
use Rattle.emit_program_laws.specs.Entered.{IsGuest}
use Rattle.emit_program_laws.specs.Counted.{weight, pair}
use Rattle.emit_program_laws.specs.Rests.{Rests}
use Rattle.emit_program_laws.specs.Translated.{TranslatedProgram, IsTranslatedProgram, LoadsWithin, guest_start}
use Rattle.emit_program_laws.proofs.TranslationRuns.Given.{LoadingLaws}
use Rattle.emit_program_laws.proofs.TranslationRuns.Counting.{allowed, credit-within, looks-at-no-target, counts-nothing}

-- ---- loading, by another word for where it ends

next_of : {S : Type 0} → (Answer → S) → Turn S → Answer → S
next_of otherwise (moves t) = otherwise
next_of otherwise (ends e) = otherwise
next_of otherwise (leaves q e) = otherwise
next_of otherwise (asks q next) = next

asks-next : {S : Type 0} (q r : Question) (next later : Answer → S) → asks q next ≡ asks r later → next ≡ later
unfolding next_of
asks-next q r next later e = ap (next_of next) e

pub rests-so : {G J I : Type 0} (p : Pair G J I) (First Then : G → J → Type 0) (limit : ℕ) (allowed : I → ℕ) (g : G) (j : J) (q : Question) (next : Answer → G) → p.guest g ≡ asks q next → ((a : Answer) (x : J) → First (next a) x → Then (next a) x) → runs.Loads p First limit allowed g j → runs.Loads p Then limit allowed g j
rests-so {G} {J} p First Then limit allowed g j q next asked so l =
    let same : next ≡ l.guest_next = asks-next q l.question next l.guest_next (sym asked ∙ l.guest_asks) in
    let so_there : (a : Answer) (x : J) → First (l.guest_next a) x → Then (l.guest_next a) x = subst (λ (f : Answer → G). (a : Answer) (x : J) → First (f a) x → Then (f a) x) same so in
    record {
      question = l.question;
      guest_next = l.guest_next;
      class_turns = l.class_turns;
      class_at = l.class_at;
      class_next = l.class_next;
      guest_asks = l.guest_asks;
      class_comes = l.class_comes;
      class_asks = l.class_asks;
      in_time = l.in_time;
      answered = λ a fit. let c = l.answered a fit in record {
        more = c.more;
        rest = c.rest;
        comes = c.comes;
        rests = so_there a c.rest c.rests;
        in_time = c.in_time;
        counted = c.counted;
      };
    }

-- ---- loading of a translated program

module _ (laws : LoadingLaws) (t : TranslatedProgram) (is : IsTranslatedProgram t) (marked : guest.State → Bool) (extra : ℕ) (within : LoadsWithin t extra) where
  abbrev Begun : guest.State → JvmState → Type 0
  Begun = HasBegun t.own t.choose

  abbrev Resting : guest.State → JvmState → Type 0
  Resting = Rests t.program t.words t.order t.choose t.classes t.code

  has-begun : (x : JvmState) (s : guest.State) (b : Begins t.program t.words t.own t.apart t.choose 8 x s) → Begun s (begun_at t.program t.words t.own t.apart t.choose 8 x s b)
  has-begun x s b = record {
    workspace = b.workspace;
    below = b.below;
    stands = refl;
    held = b.held;
    pc_is = b.pc_is;
    no_operands = b.no_operands;
    waits_in = b.waits_in;
  }

  guest-after : (a : Answer) → IsGuest t.order t.code (after_loader (guest_start t) a)
  guest-after a = record { begun = refl; pending = refl; order_is = is.order_is; code_is = refl }

  begun-rests : (a : Answer) (x : JvmState) → Begun (after_loader (guest_start t) a) x → Resting (after_loader (guest_start t) a) x
  begun-rests a x begun = record {
    guest_is = guest-after a;
    pc_word = is.entry_word;
    stands = inr (inr (inr (laws.chooses t.own t.choose (after_loader (guest_start t) a) x begun)));
  }

  loads : Loads t.program t.words t.own t.apart t.choose (is_span t.classes) (memory_turns t.shares t.fillers + 7) (guest_start t)
  loads =
      laws.loads t.program t.words t.own t.apart t.choose t.pages (is_span t.classes) t.beginning t.texts t.shares t.fillers t.readable t.writable t.page_words t.code is.begins is.memory_is is.makers_are_none

  chooses-in-no-span : is_span t.classes t.choose ≡ false
  chooses-in-no-span =
      (laws.numbered false t.program t.order t.choose t.missing t.classes t.code is.code_is).lower t.choose is.code_is.choose_low

  loads-to-begun : runs.Loads (pair t.program t.words t.classes marked) Begun (extra + 2 * 512) allowed (guest_start t) (jvm_start t.program)
  loads-to-begun =
      let time : memory_turns t.shares t.fillers + 7 + 9 ≤ extra + 2 * 512 = omega (arith, within) in
      loads-in-runs t.program t.words t.own t.apart t.choose (is_span t.classes) (memory_turns t.shares t.fillers + 7) (extra + 2 * 512) (guest_start t) (pair t.program t.words t.classes marked) Begun allowed (weight t.classes) refl refl (looks-at-no-target laws t.classes) (λ i. refl) (counts-nothing t.classes t.choose chooses-in-no-span) refl loads time has-begun (λ i x s b. credit-within t.classes i (begun_at t.program t.words t.own t.apart t.choose 8 x s b))

  pub loads-to-rest : runs.Loads (pair t.program t.words t.classes marked) Resting (extra + 2 * 512) allowed (guest_start t) (jvm_start t.program)
  loads-to-rest =
      rests-so (pair t.program t.words t.classes marked) Begun Resting (extra + 2 * 512) allowed (guest_start t) (jvm_start t.program) (loader_question (guest_start t)) (after_loader (guest_start t)) refl begun-rests loads-to-begun

  -- ---- no span is entered up to the call

  abbrev counted_entries : Step JvmState → ℕ
  counted_entries = executed t.program (entries (is_span t.classes))

  pub none-entered : sum_by counted_entries (moved (jvm_turn t.program t.words) loads-to-rest.class_turns (jvm_start t.program)) ≡ 0
  unfolding loads-to-rest loads-to-begun rests-so loads-in-runs
  none-entered =
      let counts = (loads.reaches.reaches.path 0).counts (entries (is_span t.classes)) (laws.looks.of_entries (is_span t.classes)) in
      let none = loads.reaches.quiet.no_entries in
      omega (arith, counts, none)

  pub none-at-call : (to : Option JvmState) → counted_entries (record { from = loads-to-rest.class_at; to = to }) ≡ 0
  unfolding loads-to-rest loads-to-begun rests-so loads-in-runs
  none-at-call to = loads.no_entry to
