-- Code is that of a method where it can be made into one, and the texts that it pushes are there.
use Rattle.std.proofs.Common.{◌≡◌, ℕ, Bool, true, List, [], ◌∷◌, ◌++◌, map, All, Option, Some, None, refl, ap, sym, ◌∙◌, subst, arith}
use Rattle.std.specs.Prelude.{◌&&◌, ◌==◌}
use Rattle.std.proofs.lemmas.Bool.{and_parts, and_from}
use Rattle.std.proofs.lemmas.List.Elements.{All-head, All-tail}
use Rattle.std.proofs.lemmas.List.Folds.{list_all-append}
use Rattle.jvm_definition.specs.declared.constant.Constant.TheVariants as constants
use Rattle.jvm_definition.specs.declared.instruction.Instruction.TheVariants as instructions
use Rattle.class_definition.specs.declared.entry.Entry.{Entry}
use Rattle.emit_steps.specs.declared.step.Step.{Step}
use Rattle.emit_steps.specs.declared.step.Step.TheVariants.{Does}
use Rattle.emit_layout.specs.FieldNumbers.{readable_field, writable_field}
use Rattle.emit_loading.specs.declared.page_slot.PageSlot.{PageSlot}
use Rattle.emit_loading.specs.declared.beginning.Beginning.{Beginning}
use Rattle.emit_steps.specs.Returning.{returns}
use Rattle.emit_loading.specs.Parts.{call}
use Rattle.emit_loading.specs.Filling.{page_code, filled_code, fill_code}
use Rattle.emit_loading.specs.Starting.{page_text_code, page_texts_code, table_code, memory_code, meter_code, begun_code, run_code}
use Rattle.emit_assembly.specs.declared.references.References.{References}
use Rattle.emit_assembly.specs.Assembling.{can_be_assembled, is_method}
use Rattle.emit_classes.specs.Lawful.{has_text}
use Rattle.emit_classes.specs.Code.{has_its_text, has_texts, is_code}
use Rattle.emit_methods_laws.specs.Naming.{step_names_well_of, all_well_of}
use Rattle.emit_methods_laws.specs.Whole.{CanBeMethod}

pub whole-code : (r : References) (pool : List Entry) (code : List Step) → CanBeMethod r code → has_texts pool code ≡ true
    → is_code r pool code ≡ true
whole-code r pool code whole texts = and_from (can_be_assembled r code && is_method code) (has_texts pool code) whole texts

-- ---- code that pushes no text

two-classes : (class : ℕ) → (class == 0) ≡ true → (class == 1) ≡ true → ⊥
two-classes class first second = grind arith

no-text : (fields : ℕ) (pool : List Entry) (calls : ℕ → Bool) (gives : Bool) (s : Step) → step_names_well_of fields calls 0 gives s ≡ true
    → step_names_well_of fields calls 1 gives s ≡ true → has_its_text pool s ≡ true
no-text fields pool calls gives (Does (instructions.Push (constants.Text class slot))) first second = absurd (two-classes class first second)
no-text fields pool calls gives s first second = refl

-- it is well for two classes
pub no-texts : (fields : ℕ) (pool : List Entry) (calls : ℕ → Bool) (gives : Bool) (code : List Step)
    → all_well_of fields calls 0 gives code ≡ true → all_well_of fields calls 1 gives code ≡ true → has_texts pool code ≡ true
no-texts fields pool calls gives [] first second = refl
no-texts fields pool calls gives (s ∷ code) first second =
    let a = and_parts (step_names_well_of fields calls 0 gives s) (all_well_of fields calls 0 gives code) first in
    let b = and_parts (step_names_well_of fields calls 1 gives s) (all_well_of fields calls 1 gives code) second in
    and_from (has_its_text pool s) (has_texts pool code) (no-text fields pool calls gives s a.0 b.0)
    (no-texts fields pool calls gives code a.1 b.1)

-- ---- code that makes memory

both-texts : (pool : List Entry) (first second : List Step) → has_texts pool first ≡ true → has_texts pool second ≡ true
    → has_texts pool (first ++ second) ≡ true
both-texts pool first second a b =
    list_all-append (has_its_text pool) first second ∙ and_from (has_texts pool first) (has_texts pool second) a b

filled-texts : (pool : List Entry) (slots : List PageSlot) (class words : ℕ) → All (λ s. has_text pool s.slot ≡ true) slots
    → has_texts pool (filled_code slots class words) ≡ true
filled-texts pool [] class words there = refl
filled-texts pool (s ∷ slots) class words there =
    both-texts pool (page_code class words s) (filled_code slots class words)
    (and_from (has_text pool s.slot) true (All-head (λ x. has_text pool x.slot ≡ true) s slots there) refl)
    (filled-texts pool slots class words (All-tail (λ x. has_text pool x.slot ≡ true) s slots there))

pub fill-texts : (pool : List Entry) (slots : List PageSlot) (class words : ℕ) → All (λ s. has_text pool s.slot ≡ true) slots
    → has_texts pool (fill_code slots class words) ≡ true
fill-texts pool slots class words there =
    both-texts pool (filled_code slots class words) (returns ∷ []) (filled-texts pool slots class words there) refl

pages-texts : (pool : List Entry) (class pages : ℕ) (slots : List ℕ) → All (λ slot. has_text pool slot ≡ true) slots
    → has_texts pool (page_texts_code class pages slots) ≡ true
pages-texts pool class pages [] there = refl
pages-texts pool class pages (slot ∷ slots) there =
    both-texts pool (page_text_code class pages slot) (page_texts_code class pages slots)
    (and_from (has_text pool slot) true (All-head (λ s. has_text pool s ≡ true) slot slots there) refl)
    (pages-texts pool class pages slots (All-tail (λ s. has_text pool s ≡ true) slot slots there))

calls-texts : (pool : List Entry) (fills : List ℕ) → has_texts pool (map call fills) ≡ true
calls-texts pool [] = refl
calls-texts pool (n ∷ fills) = calls-texts pool fills

memory-texts : (pool : List Entry) (slots : List ℕ) (class pages : ℕ) (fills : List ℕ) → All (λ slot. has_text pool slot ≡ true) slots
    → has_texts pool (memory_code slots class pages fills) ≡ true
memory-texts pool slots class pages fills there =
    let tables = table_code readable_field ++ table_code writable_field in
    let texts = page_texts_code class pages slots in
    both-texts pool (tables ++ texts) (map call fills)
    (both-texts pool tables texts refl (pages-texts pool class pages slots there)) (calls-texts pool fills)

meter-texts : (pool : List Entry) (meter : Option ℕ) (entry : ℕ) → has_texts pool (meter_code meter entry) ≡ true
meter-texts pool None entry = refl
meter-texts pool (Some turns) entry = refl

pub run-texts : (pool : List Entry) (meter : Option ℕ) (b : Beginning) (slots : List ℕ) (class pages : ℕ) (fills : List ℕ) (choose : ℕ)
    → All (λ slot. has_text pool slot ≡ true) slots → has_texts pool (run_code meter b slots class pages fills choose) ≡ true
run-texts pool meter b slots class pages fills choose there =
    let counted = meter_code meter b.entry in
    both-texts pool (memory_code slots class pages fills) (counted ++ begun_code b choose) (memory-texts pool slots class pages fills there)
    (both-texts pool counted (begun_code b choose) (meter-texts pool meter b.entry) refl)

-- ---- the same of a list of steps that is known to be the code

-- code that is put behind nothing
pub code-is : (steps first second : List Step) → steps ≡ first ++ second → first ≡ [] → steps ≡ second
code-is steps first second joined none = joined ∙ ap (λ l. l ++ second) none

pub same-code : (r : References) (pool : List Entry) (steps code : List Step) → steps ≡ code → is_code r pool code ≡ true → is_code r pool steps ≡ true
same-code r pool steps code same is = subst (λ l. is_code r pool l ≡ true) (sym same) is

-- code that pushes no text
pub plain-code : (fields : ℕ) (r : References) (pool : List Entry) (calls : ℕ → Bool) (gives : Bool) (steps code : List Step) → steps ≡ code
    → CanBeMethod r code → ((class : ℕ) → all_well_of fields calls class gives code ≡ true) → is_code r pool steps ≡ true
plain-code fields r pool calls gives steps code same whole well =
    same-code r pool steps code same (whole-code r pool code whole (no-texts fields pool calls gives code (well 0) (well 1)))
