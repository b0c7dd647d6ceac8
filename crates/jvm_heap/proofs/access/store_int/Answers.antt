use Rattle.std.proofs.Common.{◌≡◌, ℕ, ◌<◌, ◌∷◌, [], List, slice_index_or, length, subst, ap, sym, ◌∙◌, true, refl}
use Rattle.jvm_definition.specs.declared.array_name.ArrayName.TheVariants.{Iastore}
use Rattle.jvm_definition.specs.declared.instruction.Instruction.TheVariants as instructions
use Rattle.jvm_definition.specs.declared.value.Value.{Value}
use Rattle.jvm_definition.specs.declared.value.Value.TheVariants.{Unset as unset, Int as int, Array as array}
use Rattle.jvm_definition.specs.Values.{is_int, is_ints_reference}
use Rattle.int_region.specs.Arrays.{Block, Contents, with_value, values_at}
use Rattle.jvm_activations.specs.Stack.{on_top}
use Rattle.jvm_heap.specs.Regions.{heap_of}
use Rattle.jvm_heap.specs.HeapForms.{Does}
use Rattle.jvm_heap.proofs.AccessLaws.{does_by, int_put, ints_at, IntsAt}
use Rattle.jvm_heap.proofs.SafetyLaws.{safe_int}
use Rattle.jvm_heap.proofs.access.store_int.Goals as goal

-- an int was stored in an array of ints
stored : (arrays more : List Block) (words n i place : ℕ) (v top : Value) (old first second rest : List Value) → old ≡ int n ∷ first → first ≡ int i ∷ second → second ≡ v ∷ rest → top ≡ slice_index_or second 0 unset → top ≡ array place → on_top (is_int ∷ is_int ∷ is_ints_reference (heap_of arrays) ∷ []) old ≡ true → i < length (values_at arrays place) → more ≡ with_value arrays place i n → Does words (instructions.Array Iastore) old (heap_of arrays) rest (heap_of more)
stored arrays more words n i place v top old first second rest e f g peeked is fits within made =
    let uppermost : v ≡ array place = ap (λ items. slice_index_or items 0 unset) (sym g) ∙ sym peeked ∙ is in
    let all : old ≡ int n ∷ int i ∷ array place ∷ rest = e ∙ ap (λ items. int n ∷ items) (f ∙ ap (λ items. int i ∷ items) (g ∙ ap (λ u. u ∷ rest) uppermost)) in
    does_by words (instructions.Array Iastore) old (int n ∷ int i ∷ array place ∷ rest) rest rest (heap_of arrays) (heap_of more) (heap_of more) all refl refl
    (int_put arrays more words n i place (array place) refl (ap (on_top (is_int ∷ is_int ∷ is_ints_reference (heap_of arrays) ∷ [])) (sym all) ∙ fits) within made rest)

pub returns-clause-ok : goal.returns-clause-ok
returns-clause-ok c =
    stored c.args.region.now.arrays c.put.new.self.arrays c.args.region.now.size c.pop_int-n.result c.pop_int-i.result c.in-Array.place c.pop.result c.peek.result c.args.operands.now.items c.pop_int-n.new.self.items c.pop_int-i.new.self.items c.pop.new.self.items
    c.pop_int-n.ensures.popped
    c.pop_int-i.ensures.popped
    c.pop.ensures.popped
    c.peek.ensures
    c.in-Array.is
    c.requires
    (subst (λ m. c.pop_int-i.result < m) c.len.ensures c.if-len-i.false)
    (ap (λ (r : Contents). r.arrays) c.put.ensures.changed)

-- what the array and the index are
top_is : (arrays : List Block) (n i place : ℕ) (v top : Value) (old first second rest : List Value) → old ≡ int n ∷ first → first ≡ int i ∷ second → second ≡ v ∷ rest → top ≡ slice_index_or second 0 unset → top ≡ array place → on_top (is_int ∷ is_int ∷ is_ints_reference (heap_of arrays) ∷ []) old ≡ true → IntsAt arrays place
top_is arrays n i place v top old first second rest e f g peeked is fits =
    let uppermost : v ≡ array place = ap (λ items. slice_index_or items 0 unset) (sym g) ∙ sym peeked ∙ is in
    let all : old ≡ int n ∷ int i ∷ array place ∷ rest = e ∙ ap (λ items. int n ∷ items) (f ∙ ap (λ items. int i ∷ items) (g ∙ ap (λ u. u ∷ rest) uppermost)) in
    ints_at arrays place (ap (on_top (is_int ∷ is_int ∷ is_ints_reference (heap_of arrays) ∷ [])) (sym all) ∙ fits)

pub returns-clause-safe : goal.returns-clause-safe
returns-clause-safe c readable writable safe =
    let found : IntsAt c.args.region.now.arrays c.in-Array.place = top_is c.args.region.now.arrays c.pop_int-n.result c.pop_int-i.result c.in-Array.place c.pop.result c.peek.result c.args.operands.now.items c.pop_int-n.new.self.items c.pop_int-i.new.self.items c.pop.new.self.items c.pop_int-n.ensures.popped c.pop_int-i.ensures.popped c.pop.ensures.popped c.peek.ensures c.in-Array.is c.requires in
    safe_int c.args.region.now c.put.new.self readable writable c.in-Array.place c.pop_int-i.result c.pop_int-n.result found safe c.put.ensures.sound (subst (λ m. c.pop_int-i.result < m) c.len.ensures c.if-len-i.false) (ap (λ (r : Contents). r.arrays) c.put.ensures.changed)
