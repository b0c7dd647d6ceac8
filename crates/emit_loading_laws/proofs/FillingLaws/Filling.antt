-- The code that puts the words of texts into pages.
use Rattle.std.proofs.Common.{◌≡◌, ◌≢◌, ℕ, suc, ◌+◌, ◌*◌, ◌<◌, ◌==◌, Bool, true, false, if◌then◌else◌, List, [], ◌∷◌, ◌++◌, length, slice_index_or, Option, Some, None, refl, ap, subst, ◌∙◌, arith, mul-le-mul_right}
use Rattle.std.specs.List.{All}
use Rattle.std.proofs.lemmas.Bool.{lt-ltb}
use Rattle.std.proofs.lemmas.List.Elements.{All-head, All-tail}
use Rattle.jvm_definition.specs.declared.array_name.ArrayName.TheVariants.{Aaload}
use Rattle.jvm_definition.specs.declared.kind.Kind.{Kind}
use Rattle.jvm_definition.specs.declared.kind.Kind.TheVariants as kinds
use Rattle.jvm_definition.specs.declared.linked_method.LinkedMethod.{LinkedMethod}
use Rattle.jvm_definition.specs.declared.value.Value.{Value}
use Rattle.jvm_definition.specs.declared.value.Value.TheVariants.{Array as array, Null as null, Text as text}
use Rattle.jvm_definition.specs.declared.instruction.Instruction.{Instruction}
use Rattle.jvm_definition.specs.declared.instruction.Instruction.TheVariants as instructions
use Rattle.jvm_definition.specs.declared.instruction.Instruction.TheVariants.{Call}
use Rattle.jvm_definition.specs.Program.{Program}
use Rattle.jvm_definition.specs.Values.{Heap, pages, reference_value, conforms, is_ints}
use Rattle.jvm_definition.specs.Effect.{Workspace, enters, instruction_effect, calls, arguments, last_first, with_operands}
use Rattle.jvm_definition.specs.Step.{Frame, frame_placed}
use Rattle.jvm_definition_laws.specs.Stretch.{body_workspace}
use Rattle.emit_steps.specs.declared.step.Step.{Step}
use Rattle.emit_steps.specs.declared.step.Step.TheVariants.{Does}
use Rattle.emit_steps.specs.Widths.{size}
use Rattle.emit_steps.specs.Outcomes.{ended, outcome}
use Rattle.emit_steps.specs.Placing.{LiesAt}
use Rattle.emit_steps.specs.Laws.{PartsLie}
use Rattle.emit_paths_laws.specs.Laws.{CodeIsPathElsewhere}
use Rattle.emit_layout.specs.FieldNumbers.{page_count, readable_field}
use Rattle.emit_instructions.specs.Access.{push_word}
use Rattle.emit_loading.specs.declared.page_slot.PageSlot.{PageSlot}
use Rattle.emit_steps.specs.Returning.{returns}
use Rattle.emit_loading.specs.Parts.{call, readable_table}
use Rattle.emit_loading.specs.Words.{words_code}
use Rattle.emit_loading.specs.Filling.{push_text, filled_code, fill_code}
use Rattle.emit_paths_laws.proofs.Joining.{path-wider}
use Rattle.emit_paths_laws.specs.Paths.{weigh, Path, PathElsewhere, waiting_behind}
use Rattle.emit_loading_laws.specs.Arrays.{set_ints, with_ints}
use Rattle.emit_loading_laws.specs.Leading.{Reaches, LeadsBack, IsMethod}
use Rattle.emit_loading_laws.specs.Filled.{IsArray, HoldsPages, HasText, with_page_ints, filled}
use Rattle.emit_loading_laws.proofs.FillingLaws.Reading.{over_all}
use Rattle.emit_loading_laws.proofs.FillingLaws.Returning.{back_in, returns-path}
use Rattle.emit_loading_laws.proofs.FillingLaws.Putting.{puts-words, passes-over}
use Rattle.emit_loading_laws.proofs.FillingLaws.Calling.{reaches-join, reaches-wider, call-leads}

-- ---- arrays that stay

-- a table stays one, and an array of ints too
pub stays-table : (heap : Heap) (o : Option ℕ) (given : List ℕ) (table : ℕ) (places : ℕ → Option ℕ) → heap.array_at table ≡ Some (pages page_count places) → (with_page_ints heap o given).array_at table ≡ Some (pages page_count places)
stays-table heap None given table places there = there
stays-table heap (Some p) given table places there =
    simp there (either (table == p))
  where
    either : (b : Bool) → (if b then Some (pages page_count places) else Some (pages page_count places)) ≡ Some (pages page_count places)
    either true = refl
    either false = refl

stays-array : (heap : Heap) (o : Option ℕ) (given : List ℕ) (q : ℕ) → IsArray heap q → IsArray (with_page_ints heap o given) q
stays-array heap None given q is = is
stays-array heap (Some p) given q is = either (q == p) refl
  where
    either : (b : Bool) → (q == p) ≡ b → IsArray (with_ints heap p given) q
    either true e = record {
      words = λ i. slice_index_or given i (is.words i);
      there = ap (λ b. if b then set_ints (heap.array_at q) given else heap.array_at q) e ∙ ap (λ a. set_ints a given) is.there;
    }
    either false e = record {
      words = is.words;
      there = ap (λ b. if b then set_ints (heap.array_at q) given else heap.array_at q) e ∙ is.there;
    }

pub stays-held : (heap : Heap) (o : Option ℕ) (given : List ℕ) (table : ℕ) (places : ℕ → Option ℕ) → HoldsPages heap table places → HoldsPages (with_page_ints heap o given) table places
stays-held heap o given table places h = record {
  there = stays-table heap o given table places h.there;
  whole = λ n p is. stays-array heap o given p (h.whole n p is);
}

-- ---- the code of a page

-- before the call
abbrev front : ℕ → PageSlot → List Step
front class s =
    readable_table ∷ push_word s.page ∷ Does (instructions.Array Aaload) ∷ push_text class s.slot ∷ []

module _ (program : Program) (words class h table : ℕ) (places : ℕ → Option ℕ) (locals : ℕ → Value) (operands : List Value) (fields : ℕ → Value) (fields_are : fields readable_field ≡ array table) where
  abbrev over : List Value → Heap → Workspace
  over below heap = over_all locals below fields heap

  pushes : (heap : Heap) (s : PageSlot) → heap.array_at table ≡ Some (pages page_count places) → s.page < page_count → outcome program words (front class s) (over operands heap) ≡ ended 4 (over (text class s.slot ∷ reference_value (places s.page) ∷ operands) heap)
  pushes heap s there below = simp (fields_are, there, lt-ltb s.page page_count below) refl

  -- the page, or null, is an argument
  fits : (heap : Heap) (o : Option ℕ) → ((p : ℕ) → o ≡ Some p → IsArray heap p) → conforms heap kinds.Ints (reference_value o) ≡ true
  fits heap None whole = refl
  fits heap (Some p) whole = ap is_ints (whole p refl).there

  called : (heap : Heap) (o : Option ℕ) (slot : ℕ) → IsMethod program h (kinds.Ints ∷ kinds.Text ∷ []) → ((p : ℕ) → o ≡ Some p → IsArray heap p) → instruction_effect program words (Call h) (over (text class slot ∷ reference_value o ∷ operands) heap) ≡ enters h (reference_value o ∷ text class slot ∷ []) (over operands heap)
  called heap o slot is whole =
      let w = over (text class slot ∷ reference_value o ∷ operands) heap in
      ap (λ (method : Option LinkedMethod). calls h method w) is.there
      ∙ ap (λ (parameters : List Kind). arguments heap (last_first parameters []) w.operands [] (λ given rest. enters h given (with_operands w rest))) is.parameters_are
      ∙ simp (fits heap o whole) refl

pub one-more : (k a : ℕ) → a + k * a ≡ suc k * a
one-more k a = grind arith

module _ (paths : CodeIsPathElsewhere) (parts : PartsLie) (program : Program) (words own m class h table : ℕ) (places : ℕ → Option ℕ) (given : ℕ → List ℕ) (locals : ℕ → Value) (operands : List Value) (fields : ℕ → Value) (caller : Frame) (others : List Frame) (differ : own ≢ m) (apart : h ≢ m) (is : IsMethod program h (kinds.Ints ∷ kinds.Text ∷ [])) (puts : LiesAt program h 0 words_code) (fields_are : fields readable_field ≡ array table) (few : length others < 62) where
  abbrev stands : List Value → Heap → Workspace
  stands below heap = over_all locals below fields heap

  abbrev frames : List Frame
  frames = caller ∷ others

  -- the call for a page
  page-put : (heap : Heap) (at : ℕ) (s : PageSlot) (o : Option ℕ) → ((p : ℕ) → o ≡ Some p → IsArray heap p) → HasText program class given s → LeadsBack program words h m 41995 (λ weight. 1025 * weigh weight words_code) (body_workspace (reference_value o ∷ text class s.slot ∷ []) (stands operands heap)) (waiting_behind own at h (stands operands heap)) frames (with_page_ints heap o (given s.slot))
  page-put heap at s None whole has =
      reaches-wider program words m 3 41995 (λ weight. weigh weight words_code) (λ weight. 1025 * weigh weight words_code) (frame_placed h 0 (body_workspace (null ∷ text class s.slot ∷ []) (stands operands heap)) (waiting_behind own at h (stands operands heap) ∷ frames)) (back_in (stands operands heap) heap (waiting_behind own at h (stands operands heap)) frames) (omega arith) (λ weight still. omega arith)
      (passes-over paths program words h m (body_workspace (null ∷ text class s.slot ∷ []) (stands operands heap)) (waiting_behind own at h (stands operands heap)) frames apart puts refl)
  page-put heap at s (Some p) whole has =
      let w = body_workspace (array p ∷ text class s.slot ∷ []) (stands operands heap) in
      let waiting = waiting_behind own at h (stands operands heap) in
      let n = length (given s.slot) in
      let few_words = has.few in
      let array_there = whole p refl in
      reaches-wider program words m (41 * n + 11) 41995 (λ weight. (n + 1) * weigh weight words_code) (λ weight. 1025 * weigh weight words_code) (frame_placed h 0 w (waiting ∷ frames)) (back_in w (with_ints heap p (given s.slot)) waiting frames) (omega (arith, few_words)) (λ weight still. mul-le-mul_right (weigh weight words_code) (omega (arith, few_words)))
      (puts-words paths program words h m class s.slot p array_there.words [] fields heap waiting frames apart puts array_there.there w.locals refl refl (given s.slot) has.spells has.are_words has.few)

  -- the code of a page, from any offset on
  page-filled : (heap : Heap) (at : ℕ) (s : PageSlot) (rest : List Step) → LiesAt program own at (front class s ++ call h ∷ rest) → HoldsPages heap table places → HasText program class given s → (to : ℕ) × (LiesAt program own to rest) × Reaches program words m 42000 (λ weight. weigh weight (front class s ++ call h ∷ []) + 1025 * weigh weight words_code) (frame_placed own at (stands operands heap) frames) (frame_placed own to (stands operands (with_page_ints heap (places s.page) (given s.slot))) frames)
  page-filled heap at s rest lies held has =
      let o = places s.page in
      let lie = parts program own at (front class s) (call h ∷ rest) refl lies in
      let there = at + size (front class s) in
      let full = stands (text class s.slot ∷ reference_value o ∷ operands) heap in
      let last = frame_placed own (there + 3) (stands operands (with_page_ints heap o (given s.slot))) frames in
      let whole : (p : ℕ) → o ≡ Some p → IsArray heap p = λ p e. held.whole s.page p e in
      let start : at + 0 ≡ at = omega arith in
      let pushed : Reaches program words m 4 (λ weight. weigh weight (front class s)) (frame_placed own at (stands operands heap) frames) (frame_placed own there full frames) =
      record {
        turns = 4;
        in_time = omega arith;
        path = λ low. subst (λ a. Path program words m low low 4 (λ weight. weigh weight (front class s)) (frame_placed own a (stands operands heap) frames) (frame_placed own there full frames)) start (subst (λ x. PathElsewhere program words own m low at 0 (front class s) frames (frame_placed own (at + 0) (stands operands heap) frames) x) (pushes program words class h table places locals operands fields fields_are heap s held.there has.below) (paths program words own m low at 0 (front class s) (stands operands heap) frames differ lie.0));
      } in
      let put = call-leads program words own m there h h 41995 (λ weight. 1025 * weigh weight words_code) full (stands operands heap) (reference_value o ∷ text class s.slot ∷ []) frames (with_page_ints heap o (given s.slot)) differ (lie.1.0, tt) (called program words class h table places locals operands fields fields_are heap o s.slot is whole) (omega arith) (page-put heap there s o whole has) in (
        there + 3,
        lie.1.1,
        reaches-wider program words m (4 + 41996) 42000 (λ weight. weigh weight (front class s) + (weight (Call h) + 1025 * weigh weight words_code)) (λ weight. weigh weight (front class s ++ call h ∷ []) + 1025 * weigh weight words_code) (frame_placed own at (stands operands heap) frames) last (omega arith) (λ weight still. omega arith)
            (reaches-join program words m 4 41996 (λ weight. weigh weight (front class s)) (λ weight. weight (Call h) + 1025 * weigh weight words_code) (frame_placed own at (stands operands heap) frames) (frame_placed own there full frames) last pushed put),
      )

  -- the pages of slots, and the return
  fills : (slots : List PageSlot) (heap : Heap) (at : ℕ) → LiesAt program own at (filled_code slots class h ++ returns ∷ []) → HoldsPages heap table places → All (HasText program class given) slots → Reaches program words m (42000 * length slots + 1) (λ weight. weigh weight (filled_code slots class h ++ returns ∷ []) + length slots * (1025 * weigh weight words_code)) (frame_placed own at (stands operands heap) frames) (back_in (stands operands heap) (filled places given heap slots) caller others)
  fills [] heap at lies held has =
      let w = stands operands heap in
      let start : at + 0 ≡ at = omega arith in
      record {
        turns = 1;
        in_time = omega arith;
        path = λ low. path-wider program words m low low low low 1 (λ weight. weigh weight (returns ∷ [])) (λ weight. weigh weight (returns ∷ []) + 0 * (1025 * weigh weight words_code)) (frame_placed own at w frames) (back_in w heap caller others) (omega arith) (omega arith) (λ weight still. omega arith) (subst (λ a. Path program words m low low 1 (λ weight. weigh weight (returns ∷ [])) (frame_placed own a w frames) (back_in w heap caller others)) start (returns-path paths program words own m at differ (returns ∷ []) lies 0 w caller others 0 0 w w refl low));
      }
  fills (s ∷ slots) heap at lies held has =
      let rest = filled_code slots class h ++ returns ∷ [] in
      let heap_then = with_page_ints heap (places s.page) (given s.slot) in
      let first = page-filled heap at s rest lies held (All-head (HasText program class given) s slots has) in
      let next = fills slots heap_then first.0 first.1 (stays-held heap (places s.page) (given s.slot) table places held) (All-tail (HasText program class given) s slots has) in
      let weighs : (Instruction → ℕ) → ℕ = λ weight. weigh weight (front class s ++ call h ∷ []) + 1025 * weigh weight words_code in
      let weighs_rest : (Instruction → ℕ) → ℕ = λ weight. weigh weight rest + length slots * (1025 * weigh weight words_code) in
      reaches-wider program words m (42000 + (42000 * length slots + 1)) (42000 * length (s ∷ slots) + 1) (λ weight. weighs weight + weighs_rest weight) (λ weight. weigh weight (filled_code (s ∷ slots) class h ++ returns ∷ []) + length (s ∷ slots) * (1025 * weigh weight words_code)) (frame_placed own at (stands operands heap) frames) (back_in (stands operands heap) (filled places given heap (s ∷ slots)) caller others) (omega arith) (λ weight still. let a = one-more (length slots) (1025 * weigh weight words_code) in omega (arith, a))
      (reaches-join program words m 42000 (42000 * length slots + 1) weighs weighs_rest (frame_placed own at (stands operands heap) frames) (frame_placed own first.0 (stands operands heap_then) frames) (back_in (stands operands heap) (filled places given heap (s ∷ slots)) caller others) first.2 next)

-- the whole method
pub fills-pages : (paths : CodeIsPathElsewhere) (parts : PartsLie) (program : Program) (words own m class h table : ℕ) (places : ℕ → Option ℕ) (given : ℕ → List ℕ) (slots : List PageSlot) (w : Workspace) (caller : Frame) (others : List Frame) → own ≢ m → h ≢ m → LiesAt program own 0 (fill_code slots class h) → IsMethod program h (kinds.Ints ∷ kinds.Text ∷ []) → LiesAt program h 0 words_code → w.fields readable_field ≡ array table → HoldsPages w.heap table places → All (HasText program class given) slots → length others < 62 → LeadsBack program words own m (42000 * length slots + 1) (λ weight. weigh weight (fill_code slots class h) + length slots * (1025 * weigh weight words_code)) w caller others (filled places given w.heap slots)
fills-pages paths parts program words own m class h table places given slots w caller others differ apart lies is puts fields_are held has few =
    fills paths parts program words own m class h table places given w.locals w.operands w.fields caller others differ apart is puts fields_are few slots w.heap 0 lies held has
