-- From the start of a program to where the guest has begun.
use Rattle.std.proofs.Common.{◌≡◌, ℕ, ◌+◌, ◌-◌, ◌^◌, ◌<◌, ◌≤◌, ◌==◌, Bool, if◌then◌else◌, IsTrue, List, [], ◌∷◌, ◌++◌, Option, Some, None, refl, ap, sym, subst, ◌∙◌, arith}
use Rattle.std.proofs.lemmas.Bool.{ne_eqb}
use Rattle.run_definition.specs.Answer.{Answer, answer_fits}
use Rattle.run_definition.specs.Memory.{Memory}
use Rattle.mips_definition.specs.State.{argument_page}
use Rattle.mips_definition.specs.Step.{loader_question, order_number}
use Rattle.elf_image_parts.specs.declared.page_run.PageRun.{PageRun}
use Rattle.jvm_definition.specs.declared.value.Value.{Value}
use Rattle.jvm_definition.specs.declared.value.Value.TheVariants.{Int as int, Array as array}
use Rattle.jvm_definition.specs.Program.{Program}
use Rattle.jvm_definition.specs.Values.{no_arrays}
use Rattle.jvm_definition.specs.Effect.{Workspace}
use Rattle.jvm_definition.specs.Step.{JvmState, entered_frame, field_zero, frame_placed, jvm_start}
use Rattle.emit_steps.specs.declared.step.Step.{Step}
use Rattle.emit_steps.specs.Placing.{LiesAt}
use Rattle.emit_steps.specs.Widths.{bytes_before, size}
use Rattle.emit_layout.specs.FieldNumbers.{readable_field, writable_field}
use Rattle.meter.specs.Guards.{left_field}
use Rattle.emit_loading.specs.declared.beginning.Beginning.{Beginning}
use Rattle.emit_loading.specs.Starting.{meter_code, begun_code}
use Rattle.emit_steps.specs.Laws.{PartsLie}
use Rattle.emit_paths_laws.specs.Laws.{CodeIsPathElsewhere}
use Rattle.meter_laws.specs.Laws.{CountedCodeIsPaid, CountedCodeEnds}
use Rattle.meter_laws.specs.Meters.{HasLeft}
use Rattle.emit_loading_laws.specs.Quiet.{Quietly}
use Rattle.emit_loading_laws.specs.Loaded.{Filler, MakersAreNone, MakesMemory, memory_turns, paged}
use Rattle.emit_loading_laws.specs.Made.{readable_place, writable_place, HasMade, IsProgram, Loads, over, with_tables, start_of}
use Rattle.emit_loading_laws.specs.Metered.{LoadsByMeter, EndsAtOnce}
use Rattle.emit_loading_laws.proofs.LoadingCodeLaws.Quietly.{quiet-join, quiet-itself}
use Rattle.emit_loading_laws.proofs.LoadingCodeLaws.Making.{makes-memory}
use Rattle.emit_loading_laws.proofs.LoadingCodeLaws.Asking.{BeginsWith, asking-reached, no-entry, next, asks-it, begins, left-there}
use Rattle.emit_loading_laws.proofs.LoadingCodeLaws.Metered.{lowered, meter-passes, meter-ends}

module _ (paths : CodeIsPathElsewhere) (parts : PartsLie) (program : Program) (words own m choose pages : ℕ) (is_span : ℕ → Bool) (meter : Option ℕ) (b : Beginning) (texts : List ℕ) (shares : List (List PageRun)) (fillers : List Filler) (readable writable : ℕ → Bool) (page_words : ℕ → List ℕ) (code : ℕ → Option ℕ) (is : IsProgram program own m choose pages meter b texts fillers) (makes : MakesMemory program words m pages texts shares fillers readable writable page_words) (none : MakersAreNone is_span pages fillers) where
  abbrev locals : ℕ → Value
  locals = (entered_frame own []).locals

  abbrev fields : ℕ → Value
  fields = λ f. field_zero (program.field f)

  abbrev memory : Memory
  memory = paged readable writable page_words

  abbrev steps : List Step
  steps = begun_code b choose

  with-tables : BeginsWith (with_tables fields)
  with-tables = record {
    zeros = λ f low.
        ap (λ t. if t then array writable_place else if f == readable_field then array readable_place else fields f) (ne_eqb f writable_field (λ e. absurd (omega (arith, e, low))))
        ∙ ap (λ t. if t then array readable_place else fields f) (ne_eqb f readable_field (λ e. absurd (omega (arith, e, low))))
        ∙ ap field_zero (is.ints f low);
    unlinked = ap field_zero is.linked;
    readable_is = refl;
    writable_is = refl;
  }

  has-made : HasMade program words own m is_span (memory_turns shares fillers) (meter_code meter b.entry ++ steps) locals [] fields [] memory
  has-made =
      makes-memory paths parts program words own m pages is_span texts shares fillers readable writable page_words makes none is.apart locals [] fields [] (omega arith) (meter_code meter b.entry ++ steps) is.run_lies

  abbrev at : ℕ
  at = has-made.comes.at

  -- where the memory is made
  abbrev made : Workspace
  made = over locals [] (with_tables fields) has-made.heap

  lies : (given : Option ℕ) → meter ≡ given → LiesAt program own at (meter_code given b.entry ++ steps)
  lies given is_given = subst (λ turns. LiesAt program own at (meter_code turns b.entry ++ steps)) is_given has-made.comes.lies

  -- from there on
  from-made : (more : ℕ) (x : JvmState) → Quietly program words m is_span more (frame_placed own at made []) x → Quietly program words m is_span (memory_turns shares fillers + more) (jvm_start program) x
  from-made more x reaches =
      subst (λ first. Quietly program words m is_span (memory_turns shares fillers + more) (record { fields = fields; heap = no_arrays; frames = entered_frame first [] ∷ [] }) x) (sym is.first)
      (quiet-join program words m is_span (memory_turns shares fillers) more (frame_placed own 0 (over locals [] fields no_arrays) []) (frame_placed own at made []) x has-made.comes.quietly reaches)

  -- where the call is made
  module _ (before place : ℕ) (given_fields : ℕ → Value) (given : BeginsWith given_fields) (there : LiesAt program own place steps) (reaches : Quietly program words m is_span before (frame_placed own at made []) (frame_placed own place (over locals [] given_fields has-made.heap) [])) where
    abbrev asking : JvmState
    asking = frame_placed own (place + bytes_before steps 7) (over locals (int (order_number b.order) ∷ int b.heap_bytes ∷ int b.heap_start ∷ int argument_page ∷ int 0 ∷ array writable_place ∷ array readable_place ∷ []) given_fields has-made.heap) []

    loads-there : Loads program words own m choose is_span (memory_turns shares fillers + (before + 7)) (start_of b memory code)
    loads-there = record {
      asking = asking;
      reaches = from-made (before + 7) asking
          (quiet-join program words m is_span before 7 (frame_placed own at made []) (frame_placed own place (over locals [] given_fields has-made.heap) []) asking reaches
          (asking-reached paths program words own m is_span choose is.apart is.choose_is b memory code locals given_fields given has-made.heap has-made.held place there));
      no_entry = λ to. no-entry paths program words own m is_span choose is.apart is.choose_is b memory code locals given_fields given has-made.heap has-made.held place there to;
      next = next paths program words own m is_span choose is.apart is.choose_is b memory code locals given_fields given has-made.heap has-made.held place there;
      asks_it = asks-it paths program words own m is_span choose is.apart is.choose_is b memory code locals given_fields given has-made.heap has-made.held place there;
      begins = begins paths program words own m is_span choose is.apart is.choose_is b memory code locals given_fields given has-made.heap has-made.held place there;
    }

    still-left : (left : ℕ) → HasLeft left (over locals [] given_fields has-made.heap) → (a : Answer) (fit : IsTrue (answer_fits a (loader_question (start_of b memory code)))) → HasLeft left (loads-there.begins a fit).workspace
    unfolding loads-there
    still-left left has a fit =
        left-there paths program words own m is_span choose is.apart is.choose_is b memory code locals given_fields given has-made.heap has-made.held place there a fit left has

  -- ---- without a meter

  pub program-loads : meter ≡ None → Loads program words own m choose is_span (memory_turns shares fillers + 7) (start_of b memory code)
  program-loads unmetered =
      loads-there 0 at (with_tables fields) with-tables (lies None unmetered) (quiet-itself program words m is_span (frame_placed own at made []))

  -- ---- with one

  module _ (turns : ℕ) (has : meter ≡ Some turns) (small : turns < 2 ^ 31) where
    abbrev metered : List Step
    metered = meter_code (Some turns) b.entry

    lie : LiesAt program own at metered × LiesAt program own (at + size metered) steps
    lie = parts program own at metered steps refl (lies (Some turns) has)

    abbrev paid_off : Workspace
    paid_off = lowered turns made

    given-then : BeginsWith paid_off.fields
    given-then = record {
      zeros = λ f low.
          ap (λ t. if t then int (turns - 1) else if t then int turns else with_tables fields f) (ne_eqb f left_field (λ e. absurd (omega (arith, e, low))))
          ∙ with-tables.zeros f low;
      unlinked = with-tables.unlinked;
      readable_is = refl;
      writable_is = refl;
    }

    pub metered-loads : CountedCodeIsPaid → 1 ≤ turns → LoadsByMeter program words own m choose is_span (memory_turns shares fillers + 16) (turns - 1) (start_of b memory code)
    metered-loads paid some =
        let passes = meter-passes paths program words own m is_span at turns b.entry made [] is.apart lie.0 small paid some in
        record {
          loads = loads-there 9 (at + size metered) paid_off.fields given-then lie.1 passes;
          left_then = still-left 9 (at + size metered) paid_off.fields given-then lie.1 passes (turns - 1) (refl, omega (arith, small));
        }

  -- where no turn is put on it
  pub spent-ends : CountedCodeEnds → meter ≡ Some 0 → EndsAtOnce program words m is_span (memory_turns shares fillers + 8) b.entry
  spent-ends ends has =
      let e = meter-ends paths program words own m is_span at b.entry made [] is.apart (lie 0 has (omega arith)).0 ends in
      record { last = e.last; reaches = from-made 8 e.last e.reaches; ends_so = e.ends_so }
