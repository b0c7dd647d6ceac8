-- From the methods that choose to the code of a word.
use Rattle.std.proofs.Common.{rules, ◌≡◌, ℕ, ◌+◌, ◌<◌, ◌≤◌, ◌⊎◌, inl, inr, Bool, true, false, if◌then◌else◌, List, [], ◌∷◌, length, slice_get, Option, Some, refl, ap, sym, subst, ◌∙◌, arith}
use Rattle.run_definition.specs.Words.{IsWord}
use Rattle.run_definition.specs.declared.order.Order.{Order}
use Rattle.mips_definition.specs.State as guest
use Rattle.delay_slots.specs.declared.unit.Unit.{Unit}
use Rattle.delay_slots.specs.Units.{units_of}
use Rattle.jvm_definition.specs.declared.value.Value.TheVariants.{Int as int}
use Rattle.jvm_definition.specs.Program.{Program}
use Rattle.jvm_definition.specs.Effect.{Workspace}
use Rattle.jvm_definition.specs.Step.{JvmState, Frame, frame_placed}
use Rattle.jvm_definition_laws.specs.Stretch.{body_workspace}
use Rattle.emit_steps.specs.declared.step.Step.{Step}
use Rattle.emit_layout.specs.FieldNumbers.{pc_field}
use Rattle.emit_spans.specs.declared.span_words.SpanWords.{SpanWords}
use Rattle.emit_spans.specs.Laying.{base}
use Rattle.trampoline.specs.declared.start.Start.{Start}
use Rattle.trampoline.specs.Choosers.{class_chooser, main_chooser, missing_method}
use Rattle.emit_paths_laws.specs.Classes.{puts}
use Rattle.emit_paths_laws.specs.Paths.{weigh}
use Rattle.emit_spans_laws.specs.GuestFollows.Sites as sites
use Rattle.emit_spans_laws.specs.GuestCodeLaws.Pieces.{HoldsAll}
use Rattle.emit_spans_laws.specs.Entering.{entering, IsEntered}
use Rattle.emit_spans_laws.specs.Resuming.{FieldsHoldAll}
use Rattle.trampoline_laws.specs.Choosing.{AreStarts, chosen, IsWithin, IsReached}
use Rattle.trampoline_laws.specs.Coming.{Calls, begins_anew, with_address}
use Rattle.trampoline_laws.specs.Weights.{beside_calls}
use Rattle.trampoline_laws.specs.Classes.{CodeClass, address, end_of, run_of, span_at, span_words, span_starts, starts_of, is_span}
use Rattle.trampoline_laws.specs.Programs.{IsTranslated, StandsInProgram}
use Rattle.emit_program_laws.specs.Going.{ComesTo, Waits, with_frame, work_of}
use Rattle.emit_program_laws.specs.Entered.{IsGuest}
use Rattle.emit_program_laws.specs.Standing.{StandsChoosing, AtChoose, AtRun, AtWord, span_site, word_entry}
use Rattle.emit_program_laws.proofs.ChoicePasses.Given.{CodeLaws, ChooserLaws, MissingLaws, SpanLaws, ClassLaws, ProgramLaws}
use Rattle.emit_program_laws.proofs.ChoicePasses.Starts.{class-starts, main-starts, stands-in}
use Rattle.emit_program_laws.proofs.ChoicePasses.Going.{Moves, Leads, moves-path, moves-so, leads-then, comes-so}
use Rattle.emit_program_laws.proofs.ChoicePasses.Choosing.{IsSilent, Entered, call-comes, return-comes}
use Rattle.emit_program_laws.proofs.ChoicePasses.Ranges.{within-or-not}

-- ---- choosers count nothing beside their calls

pub class-silent : ChooserLaws → (first end : ℕ) (starts : List Start) → IsSilent (class_chooser starts first end)
class-silent laws first end starts weight spares =
    let beside = laws.spared.beside weight spares in
    (laws.weigh (beside_calls weight) beside.comparing).class_choosers first end starts ∙ laws.no_calls (beside_calls weight) starts beside.calls

pub main-silent : ChooserLaws → (missing : ℕ) (starts : List Start) → IsSilent (main_chooser starts missing)
main-silent laws missing starts weight spares =
    let beside = laws.spared.beside weight spares in
    let all = (laws.weigh (beside_calls weight) beside.comparing).main_choosers missing starts in
    let calls = laws.no_calls (beside_calls weight) starts beside.calls in
    omega (arith, all, calls)

pub missing-silent : MissingLaws → (metered : Bool) → IsSilent (missing_method metered)
missing-silent laws metered weight spares = (laws.weigh (beside_calls weight) (laws.spared.beside weight spares).comparing).strays metered

-- nor does the code with which the method of a span begins write a field
entering-writes : (f : ℕ) (units : List Unit) (leads : ℕ → Bool) (span : SpanWords) → weigh (puts f) (entering units leads span) ≡ 0
entering-writes f units leads span = search rules

-- a call of a span is one entry at most, and that of another method none
one-entry : (b : Bool) → (if b then 1 else 0) ≤ 1
one-entry true = omega arith
one-entry false = omega arith

pub no-entry : (b : Bool) → b ≡ false → (if b then 1 else 0) ≤ 0
no-entry true e = cc
no-entry false e = omega arith

-- ---- a frame that waits

-- it comes back to the beginning of its method, which chooses
pub back-chooses : (program : Program) (words : ℕ) (is_span : ℕ → Bool) (same_held : FieldsHoldAll) (m : ℕ) (f : Frame) (others : List Frame) (t : guest.State) (w : Workspace) (y : JvmState) → Waits program words is_span m f others → HoldsAll w t → w.fields pc_field ≡ int t.pc → y ≡ with_frame f others w.fields w.heap → Leads program words is_span 12 0 0 (λ z. StandsChoosing m others z t) y
back-chooses program words is_span same_held m f others t w y waits held pc_is is =
    let u = work_of f w.fields w.heap in
    let end = frame_placed m 0 u others in
    let way = moves-so program words is_span waits.turns_back 0 (with_frame f others w.fields w.heap) end (waits.back w.fields w.heap) in
    record {
      turns = waits.turns_back;
      in_time = waits.in_time;
      after = end;
      way = subst (λ (s : JvmState). Moves program words is_span waits.turns_back 0 0 s end) (sym is) way;
      arrives = record {
        workspace = u;
        held = same_held w u t refl refl held;
        no_operands = refl;
        pc_is = pc_is;
        is_there = refl;
      };
    }

-- ---- one class

module _ (laws : CodeLaws) (choosers : ChooserLaws) (spans : SpanLaws) (program : Program) (words : ℕ) (classes : List CodeClass) (choose missing : ℕ) (code : ℕ → Option ℕ) where
  abbrev numbers : ℕ → Bool
  numbers = is_span classes

  module _ (class_laws : ClassLaws) (number : ℕ) (c : CodeClass) (there : slice_get classes number ≡ Some c) (stands : StandsInProgram program code c) (starts : AreStarts program 2048 (span_starts c)) (t : guest.State) where
    -- its method that chooses
    abbrev chooser : List Step
    chooser = class_chooser (span_starts c) (address c 0) (end_of c)

    module _ (in_main at_start : Frame) (waits : Waits program words numbers choose in_main (at_start ∷ [])) where
      abbrev below : List Frame
      below = in_main ∷ at_start ∷ []

      -- from the method of a span to the code of a word
      module _ (order : Order) (guest_is : IsGuest order code t) (j k : ℕ) (j_below : j < length c.spans) (from : (span_at c j).first ≤ k) (to : k < (span_at c j).first + (span_at c j).words) (pc : t.pc ≡ address c k) (v : Workspace) (held : HoldsAll v t) (pc_is : v.fields pc_field ≡ int t.pc) where
        abbrev own_words : SpanWords
        own_words = span_words c j

        enters-word : (y : JvmState) → Entered program words numbers (run_of c) (c.first_method + j) v below y → Leads program words numbers 14 1 0 (λ z. AtWord program words order classes choose z t) y
        enters-word y e =
            let others = e.waiting ∷ below in
            let site = span_site program words c j others in
            let u = body_workspace [] v in
            let has = stands.has in
            let is_class = has.is_class in
            let high = (class_laws.lie c j is_class j_below).in_range in
            let low = is_class.low in
            let enter : IsEntered site (units_of c.words) c.leads own_words u (word_entry c j (c.first + k)) = (spans.enters site (units_of c.words) c.leads own_words (has.spans_lie j j_below) (omega (arith, high, low))).words (c.first + k) u (omega (arith, from)) (omega (arith, to)) (pc_is ∙ ap int pc) in
            let units = units_of c.words in
            let end = sites.stands site (word_entry c j (c.first + k)) u in
            let counts = spans.counts units c.leads own_words in
            let reads_none = counts.no_reads in
            let chars_none = counts.no_chars in
            let one_switch = counts.one_switch in
            let entries_none = counts.no_entries numbers in
            let way : Moves program words numbers enter.turns 1 0 (sites.stands site 0 u) end = moves-path program words numbers (c.first_method + j) 0 (base own_words) enter.turns 1 0 (λ weight. weigh weight (entering units c.leads own_words)) (sites.stands site 0 u) end enter.path (record { no_reads = reads_none; no_chars = chars_none; no_writes = λ f. entering-writes f units c.leads own_words; few_switches = omega (arith, one_switch); few_entries = omega (arith, entries_none) }) in
            record {
              turns = enter.turns;
              in_time = enter.in_time;
              after = end;
              way = subst (λ (s : JvmState). Moves program words numbers enter.turns 1 0 s end) (sym e.is_there) way;
              arrives = record {
                number = number;
                class = c;
                there = there;
                span = j;
                span_below = j_below;
                others = others;
                below = record { in_class = e.waiting; in_main = in_main; at_start = at_start; others_are = refl; class_waits = e.waits; main_waits = waits };
                word = c.first + k;
                workspace = u;
                stands = record {
                  above = omega (arith, from);
                  below = omega (arith, to);
                  rests = record { held = spans.held v u t refl refl held; no_operands = refl };
                  pc = pc;
                  pending = guest_is.pending;
                  order_is = guest_is.order_is;
                };
                is_there = refl;
              };
            }

      -- from the class's method that chooses
      pub run-enters : (order : Order) → IsGuest order code t → (k : ℕ) → k < c.count → t.pc ≡ address c k → (y : JvmState) → StandsChoosing (run_of c) below y t → Leads program words numbers 60 1 1 (λ z. AtWord program words order classes choose z t) y
      run-enters order guest_is k less pc y s =
          let is_class = stands.has.is_class in
          let found = class_laws.found c k is_class less in
          let fills = class_laws.fill c is_class in
          let callee = c.first_method + found.number in
          let w = s.workspace in
          let v = with_address w t.pc in
          let within : IsWithin (address c 0) (end_of c) t.pc = subst (IsWithin (address c 0) (end_of c)) (sym pc) (fills.within k less) in
          let is_chosen : chosen (span_starts c) t.pc ≡ callee = ap (chosen (span_starts c)) pc ∙ found.chosen_is in
          let call : Calls program words 45 chooser w v callee 12 begins_anew = subst (λ m. Calls program words 45 chooser w v m 12 begins_anew) is_chosen (choosers.class_calls program words (address c 0) (end_of c) t.pc (span_starts c) w starts fills.end_low s.pc_is within) in
          let start = frame_placed (run_of c) 0 w below in
          let Arrives : JvmState → Type 0 = λ z. AtWord program words order classes choose z t in
          subst (λ (z : JvmState). Leads program words numbers 60 1 1 Arrives z) (sym s.is_there)
          (leads-then program words numbers 46 14 0 1 1 0 (Entered program words numbers (run_of c) callee v below) Arrives start
          (call-comes laws program words numbers (run_of c) chooser stands.has.run_lies (class-silent choosers (address c 0) (end_of c) (span_starts c)) 45 12 callee 1 w v below (omega arith) s.no_operands (omega arith) (one-entry (numbers callee)) call)
          (enters-word order guest_is found.number k found.below found.begins found.ends pc v (spans.held w v t refl refl s.held) s.pc_is))

      -- where its address is another class's, it returns, and the method that waits below it is begun anew
      pub run-returns : IsWord t.pc → (IsWithin (address c 0) (end_of c) t.pc → ⊥) → (y : JvmState) → StandsChoosing (run_of c) below y t → Leads program words numbers 25 0 0 (λ z. StandsChoosing choose (at_start ∷ []) z t) y
      run-returns word outside y s =
          let fills = class_laws.fill c stands.has.is_class in
          let w = s.workspace in
          let v = with_address w t.pc in
          let start = frame_placed (run_of c) 0 w below in
          let Arrives : JvmState → Type 0 = λ z. StandsChoosing choose (at_start ∷ []) z t in
          let Between : JvmState → Type 0 = λ z. z ≡ with_frame in_main (at_start ∷ []) v.fields v.heap in
          subst (λ (z : JvmState). Leads program words numbers 25 0 0 Arrives z) (sym s.is_there)
          (leads-then program words numbers 13 12 0 0 0 0 Between Arrives start
          (return-comes laws program words numbers (run_of c) chooser stands.has.run_lies (class-silent choosers (address c 0) (end_of c) (span_starts c)) 12 w v v in_main (at_start ∷ [])
          (choosers.class_returns program words (address c 0) (end_of c) t.pc (span_starts c) w fills.first_low fills.end_low word s.pc_is outside))
          (λ z is. back-chooses program words numbers spans.held choose in_main (at_start ∷ []) t v z waits (spans.held w v t refl refl s.held) s.pc_is is))

  -- ---- the whole program

  module _ {metered : Bool} (program_laws : ProgramLaws) (order : Order) (is_in : IsTranslated metered program order choose missing classes code) (t : guest.State) (guest_is : IsGuest order code t) where
    abbrev main : List Step
    main = main_chooser (starts_of missing classes) missing

    abbrev Words : JvmState → Type 0
    Words z = AtWord program words order classes choose z t

    abbrev class_laws : ClassLaws
    class_laws = program_laws.classes

    -- from the method that chooses among classes
    pub choose-enters : (number : ℕ) (c : CodeClass) (there : slice_get classes number ≡ Some c) (k : ℕ) (at_start : Frame) (y : JvmState) → k < c.count → t.pc ≡ address c k → StandsChoosing choose (at_start ∷ []) y t → Leads program words numbers 103 1 1 Words y
    choose-enters number c there k at_start y less pc s =
        let starts = starts_of missing classes in
        let callee = run_of c in
        let w = s.workspace in
        let v = with_address w t.pc in
        let choice = program_laws.chosen metered program order choose missing classes code is_in number c k there less in
        let reached : IsReached starts t.pc = subst (IsReached starts) (sym pc) choice.reached in
        let is_chosen : chosen starts t.pc ≡ callee = ap (chosen starts) pc ∙ choice.own in
        let call : Calls program words 42 main w v callee 12 begins_anew = subst (λ m. Calls program words 42 main w v m 12 begins_anew) is_chosen (choosers.main_calls program words missing t.pc starts w (main-starts program_laws program order choose missing classes code is_in) s.pc_is reached) in
        let start = frame_placed choose 0 w (at_start ∷ []) in
        subst (λ (z : JvmState). Leads program words numbers 103 1 1 Words z) (sym s.is_there)
        (leads-then program words numbers 43 60 0 0 1 1 (Entered program words numbers choose callee v (at_start ∷ [])) Words start
        (call-comes laws program words numbers choose main is_in.choose_lies (main-silent choosers missing starts) 42 12 callee 0 w v (at_start ∷ []) (omega arith) s.no_operands (omega arith) (no-entry (numbers callee) ((program_laws.numbered metered program order choose missing classes code is_in).runs number c there)) call)
        (λ z e. run-enters class_laws number c there (stands-in program_laws program order choose missing classes code is_in number c there) (class-starts program_laws program order choose missing classes code is_in number c there) t e.waiting at_start e.waits order guest_is k less pc z
        (record { workspace = body_workspace [] v; held = spans.held w (body_workspace [] v) t refl refl s.held; no_operands = refl; pc_is = s.pc_is; is_there = e.is_there })))

    module _ (word : ℕ) (found : code t.pc ≡ Some word) (y : JvmState) where
      pub choose-words : AtChoose choose y t → ComesTo program words numbers 150 0 1 Words y
      choose-words s =
          let a = is_in.code_is.only t.pc word found in
          comes-so program words numbers 103 150 1 Words y (omega arith)
          (choose-enters a.number a.class a.there a.word s.at_start y a.below a.is_there s.stands)

      pub run-words : IsWord t.pc → AtRun program words classes choose y t → ComesTo program words numbers 150 0 1 Words y
      run-words low s = by_case (within-or-not (address s.class 0) (end_of s.class) t.pc)
        where
          by_case : IsWithin (address s.class 0) (end_of s.class) t.pc ⊎ (IsWithin (address s.class 0) (end_of s.class) t.pc → ⊥) → ComesTo program words numbers 150 0 1 Words y
          by_case (inl within) =
              let stands = stands-in program_laws program order choose missing classes code is_in s.number s.class s.there in
              let k = (class_laws.fill s.class stands.has.is_class).only t.pc within in
              comes-so program words numbers 60 150 1 Words y (omega arith)
              (run-enters class_laws s.number s.class s.there stands (class-starts program_laws program order choose missing classes code is_in s.number s.class s.there) t s.in_main s.at_start s.main_waits order guest_is k.0 k.1 k.2 y s.stands)
          by_case (inr outside) =
              let a = is_in.code_is.only t.pc word found in
              let Between : JvmState → Type 0 = λ z. StandsChoosing choose (s.at_start ∷ []) z t in
              comes-so program words numbers 128 150 1 Words y (omega arith)
              (leads-then program words numbers 25 103 0 0 1 1 Between Words y
              (run-returns class_laws s.number s.class s.there (stands-in program_laws program order choose missing classes code is_in s.number s.class s.there) (class-starts program_laws program order choose missing classes code is_in s.number s.class s.there) t s.in_main s.at_start s.main_waits low outside y s.stands)
              (λ z h. choose-enters a.number a.class a.there a.word s.at_start z a.below a.is_there h))
