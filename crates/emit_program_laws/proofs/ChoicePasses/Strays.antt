-- From the methods that choose to the method for addresses outside all code, and from there to the end of the run.
use Rattle.std.proofs.Common.{◌≡◌, ℕ, ◌+◌, ◌%◌, ◌^◌, ◌≤◌, ◌⊎◌, inl, inr, Bool, List, [], ◌∷◌, Option, None, refl, ap, sym, subst, ◌∙◌, arith}
use Rattle.run_definition.specs.Words.{IsWord}
use Rattle.run_definition.specs.declared.order.Order.{Order}
use Rattle.run_definition.specs.Turn.{ends, «fault»}
use Rattle.run_definition.specs.declared.fault.Fault.{Fault}
use Rattle.mips_definition.specs.State as guest
use Rattle.jvm_definition.specs.declared.value.Value.TheVariants.{Int as int}
use Rattle.jvm_definition.specs.Program.{Program}
use Rattle.jvm_definition.specs.Effect.{Workspace, faults}
use Rattle.jvm_definition.specs.Step.{JvmState, Frame, frame_placed, jvm_turn}
use Rattle.jvm_definition_laws.specs.Stretch.{body_workspace}
use Rattle.emit_steps.specs.declared.step.Step.{Step}
use Rattle.emit_layout.specs.FieldNumbers.{pc_field}
use Rattle.emit_spans_laws.specs.GuestCodeLaws.Pieces.{HoldsAll}
use Rattle.trampoline.specs.Choosers.{main_chooser, missing_method}
use Rattle.trampoline.specs.Trees.{first_of}
use Rattle.trampoline_laws.specs.Choosing.{AreStarts, chosen, IsWithin, IsReached}
use Rattle.meter_laws.specs.Meters.{spent_fault, with_spent}
use Rattle.trampoline_laws.specs.Coming.{Calls, Stops, begins_anew, with_address, with_stray, stray_fault}
use Rattle.trampoline_laws.specs.Classes.{CodeClass, address, end_of, starts_of, is_span}
use Rattle.trampoline_laws.specs.Programs.{IsTranslated, StandsInProgram}
use Rattle.emit_program_laws.specs.Choosing.{MeteredStraysEnd, SpentStraysEnd, StraysEnd}
use Rattle.emit_program_laws.specs.Going.{ComesTo}
use Rattle.emit_program_laws.specs.Standing.{IsStray, StandsChoosing, AtChoose, AtMissing, AtRun, EndsStray, HasStateOf, HoldsAtMissing}
use Rattle.emit_program_laws.proofs.ChoicePasses.Given.{CodeLaws, ChooserLaws, MissingLaws, SpanLaws, ProgramLaws}
use Rattle.emit_program_laws.proofs.ChoicePasses.Starts.{class-starts, main-starts, stands-in}
use Rattle.emit_program_laws.proofs.ChoicePasses.Going.{Leads, leads-then, leads-so, leads-sooner, comes-so}
use Rattle.emit_program_laws.proofs.ChoicePasses.Choosing.{Entered, call-comes, fault-comes}
use Rattle.emit_program_laws.proofs.ChoicePasses.Ranges.{within-or-not, can-fetch}
use Rattle.emit_program_laws.proofs.ChoicePasses.Classes.{main-silent, missing-silent, no-entry, run-returns}

-- ---- to the method for addresses outside all code

module _ {metered : Bool} (laws : CodeLaws) (choosers : ChooserLaws) (spans : SpanLaws) (program_laws : ProgramLaws) (program : Program) (words : ℕ) (order : Order) (classes : List CodeClass) (choose missing : ℕ) (code : ℕ → Option ℕ) (is_in : IsTranslated metered program order choose missing classes code) (t : guest.State) (low : IsWord t.pc) (stray : IsStray code t.pc) where
  abbrev numbers : ℕ → Bool
  numbers = is_span classes

  abbrev main : List Step
  main = main_chooser (starts_of missing classes) missing

  abbrev Missing : JvmState → Type 0
  Missing = HoldsAtMissing missing t

  main_starts : AreStarts program 2048 (starts_of missing classes)
  main_starts = main-starts program_laws program order choose missing classes code is_in

  no-word : t.pc % 4 ≡ 0 → IsStray code t.pc → code t.pc ≡ None
  no-word aligned (inl apart) = absurd (apart aligned)
  no-word aligned (inr none) = none

  call-misses : (most few : ℕ) (at_start : Frame) (w : Workspace) → few ≤ 12 → HoldsAll w t → w.operands ≡ [] → w.fields pc_field ≡ int t.pc → Calls program words most main w (with_address w t.pc) missing few begins_anew → Leads program words numbers (most + 1) 0 0 Missing (frame_placed choose 0 w (at_start ∷ []))
  call-misses most few at_start w less held none pc_is call =
      let v = with_address w t.pc in
      leads-so program words numbers (most + 1) 0 0 (Entered program words numbers choose missing v (at_start ∷ [])) Missing (frame_placed choose 0 w (at_start ∷ []))
      (λ y e. record {
        there = record { workspace = body_workspace [] v; others = e.waiting ∷ at_start ∷ []; pc_is = pc_is; is_there = e.is_there };
        held = spans.held w (body_workspace [] v) t refl refl held;
      })
      (call-comes laws program words numbers choose main is_in.choose_lies (main-silent choosers missing (starts_of missing classes)) most few missing 0 w v (at_start ∷ []) less none (omega arith) (no-entry (numbers missing) ((program_laws.numbered metered program order choose missing classes code is_in).lower missing is_in.missing_low)) call)

  -- from the method that chooses among classes
  stands-misses : (at_start : Frame) (w : Workspace) → HoldsAll w t → w.operands ≡ [] → w.fields pc_field ≡ int t.pc → IsReached (starts_of missing classes) t.pc ⊎ (IsReached (starts_of missing classes) t.pc → ⊥) → Leads program words numbers 43 0 0 Missing (frame_placed choose 0 w (at_start ∷ []))
  stands-misses at_start w held none pc_is (inl reached) =
      let starts = starts_of missing classes in
      let v = with_address w t.pc in
      let is_chosen : chosen starts t.pc ≡ missing = program_laws.strays metered program order choose missing classes code is_in t.pc reached (no-word reached.0 stray) in
      call-misses 42 12 at_start w (omega arith) held none pc_is
      (subst (λ m. Calls program words 42 main w v m 12 begins_anew) is_chosen (choosers.main_calls program words missing t.pc starts w main_starts pc_is reached))
  stands-misses at_start w held none pc_is (inr outside) =
      leads-sooner program words numbers 10 43 0 0 Missing (frame_placed choose 0 w (at_start ∷ [])) (omega arith)
      (call-misses 9 1 at_start w (omega arith) held none pc_is
      (choosers.main_strays program words missing t.pc (starts_of missing classes) w main_starts.some main_starts.rise is_in.missing_is low pc_is outside))

  choose-leads : (at_start : Frame) (y : JvmState) → StandsChoosing choose (at_start ∷ []) y t → Leads program words numbers 43 0 0 Missing y
  choose-leads at_start y s =
      subst (λ (z : JvmState). Leads program words numbers 43 0 0 Missing z) (sym s.is_there)
      (stands-misses at_start s.workspace s.held s.no_operands s.pc_is (within-or-not (first_of (starts_of missing classes)) (2 ^ 31) t.pc))

  pub choose-misses : (y : JvmState) → AtChoose choose y t → ComesTo program words numbers 70 0 0 Missing y
  choose-misses y s = comes-so program words numbers 43 70 0 Missing y (omega arith) (choose-leads s.at_start y s.stands)

  -- no word outside all code is one of a class
  outside-class : (c : CodeClass) → StandsInProgram program code c → IsWithin (address c 0) (end_of c) t.pc → ⊥
  outside-class c stands within =
      let is_class = stands.has.is_class in
      let k = (program_laws.classes.fill c is_class).only t.pc within in
      let in_range = is_class.within in
      can-fetch code c.start c.words (c.first + k.0) stands.range (omega (arith, k.1, in_range)) (sym (ap code k.2) ∙ no-word within.0 stray)

  pub run-misses : (y : JvmState) → AtRun program words classes choose y t → ComesTo program words numbers 70 0 0 Missing y
  run-misses y s =
      let stands = stands-in program_laws program order choose missing classes code is_in s.number s.class s.there in
      let Between : JvmState → Type 0 = λ z. StandsChoosing choose (s.at_start ∷ []) z t in
      comes-so program words numbers 68 70 0 Missing y (omega arith)
      (leads-then program words numbers 25 43 0 0 0 0 Between Missing y
      (run-returns laws choosers spans program words classes choose missing code program_laws.classes s.number s.class s.there stands (class-starts program_laws program order choose missing classes code is_in s.number s.class s.there) t s.in_main s.at_start s.main_waits low (outside-class s.class stands) y s.stands)
      (λ z h. choose-leads s.at_start z h))

-- ---- from there

module _ {metered : Bool} (laws : CodeLaws) (method : MissingLaws) (program : Program) (words : ℕ) (order : Order) (choose missing : ℕ) (classes : List CodeClass) (code : ℕ → Option ℕ) (is_in : IsTranslated metered program order choose missing classes code) (most a : ℕ) (y : JvmState) (s : AtMissing missing a y) (v : Workspace) where
  -- where its code ends the run in a fault
  method-faults : (f : Fault) → Stops program words most (missing_method metered) s.workspace v (faults f) → ComesTo program words (is_span classes) most 0 0 (λ z. (jvm_turn program words z ≡ ends («fault» f)) × HasStateOf v z) y
  method-faults f stops =
      let numbers = is_span classes in
      let Ends : JvmState → Type 0 = λ z. (jvm_turn program words z ≡ ends («fault» f)) × HasStateOf v z in
      subst (λ (z : JvmState). ComesTo program words numbers most 0 0 Ends z) (sym s.is_there)
      (comes-so program words numbers most most 0 Ends (frame_placed missing 0 s.workspace s.others) (omega arith)
      (fault-comes laws program words numbers missing (missing_method metered) is_in.missing_lies (missing-silent method metered) most s.workspace v f s.others stops))

  -- and nothing more is said of where
  method-strays : Stops program words most (missing_method metered) s.workspace v (faults (stray_fault a)) → ComesTo program words (is_span classes) most 0 0 (EndsStray program words a) y
  method-strays stops =
      let c = method-faults (stray_fault a) stops in
      record { turns = c.turns; in_time = c.in_time; after = c.after; goes = c.goes; arrives = c.arrives.0 }

pub strays-end : CodeLaws → MissingLaws → StraysEnd
strays-end laws method program words order choose missing classes code a y is_in s =
    method-strays laws method program words order choose missing classes code is_in 10 a y s (with_stray s.workspace a)
    (method.plain program words a s.workspace s.pc_is)

pub metered-strays-end : CodeLaws → MissingLaws → MeteredStraysEnd
metered-strays-end laws method program words order choose missing classes code left a y is_in s has some =
    method-strays laws method program words order choose missing classes code is_in 13 a y s (with_stray s.workspace a)
    (method.metered program words left a s.workspace s.pc_is has some)

pub spent-strays-end : CodeLaws → MissingLaws → SpentStraysEnd
spent-strays-end laws method program words order choose missing classes code a y is_in s has =
    method-faults laws method program words order choose missing classes code is_in 6 a y s (with_spent s.workspace a) (spent_fault a)
    (method.spent program words a s.workspace s.pc_is has)
