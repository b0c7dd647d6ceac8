use Rattle.std.proofs.Common.{◌≡◌, ℕ, ◌+◌, ◌<◌, ◌≤◌, ◌^◌, ◌∷◌, ◌++◌, [], List, true, false, arith, ap, sym, ◌∙◌, inl, inr}
use Rattle.std.proofs.lemmas.Bool.{cases_lt}
use Rattle.jvm_definition.specs.declared.array_kind.ArrayKind.{ArrayKind}
use Rattle.jvm_definition.specs.declared.instruction.Instruction.TheVariants as instructions
use Rattle.jvm_definition.specs.declared.value.Value.{Value}
use Rattle.jvm_definition.specs.declared.value.Value.TheVariants.{Int as int, Array as array}
use Rattle.int_region.specs.Arrays.{Block, Contents, used_by, zeros}
use Rattle.jvm_heap.specs.Regions.{heap_of, kind_of}
use Rattle.jvm_heap.specs.HeapForms.{Does}
use Rattle.jvm_heap.proofs.AccessLaws.{allocated, does_by}
use Rattle.jvm_heap.proofs.SafetyLaws.{safe_new}
use Rattle.jvm_heap.proofs.access.new_array.Goals as goal

room : (words used size : ℕ) → (words < used + (size + 2) → false ≡ true) → used + size + 2 ≤ words
room words used size full =
    elim (cases_lt words (used + (size + 2))) [
      | inl less ↦ let h : false ≡ true = full less in absurd (cc)
      | inr enough ↦ omega (arith, enough)
    ]

-- an array was made at the place behind all others
made : (arrays more : List Block) (words size place : ℕ) (kind : ArrayKind) (old rest new : List Value) → size < 2 ^ 31 → (words < used_by arrays + (size + 2) → false ≡ true) → old ≡ int size ∷ rest → new ≡ array place ∷ rest → place ≡ used_by arrays → more ≡ arrays ++ zeros (kind_of kind) size ∷ [] → Does words (instructions.NewArray kind) old (heap_of arrays) new (heap_of more)
made arrays more words size place kind old rest new small full e f at g =
    does_by words (instructions.NewArray kind) old (int size ∷ rest) new (array (used_by arrays) ∷ rest) (heap_of arrays) (heap_of more) (heap_of (arrays ++ zeros (kind_of kind) size ∷ [])) e
    (ap (λ p. array p ∷ rest) (sym at) ∙ sym f)
    (ap heap_of (sym g))
    (allocated arrays words size kind rest small (room words (used_by arrays) size full))

pub returns-in-Ok-clause-ok : goal.returns-in-Ok-clause-ok
returns-in-Ok-clause-ok c =
    let known = c.in-Ok.ensures in
    made c.args.region.now.arrays c.array.new.self.arrays c.args.region.now.size c.pop_int-size.result c.in-Ok.place.0 c.args.kind c.args.operands.now.items c.pop_int-size.new.self.items c.push-in-Ok.new.self.items
    c.if-size-ge2147483648.false
    (known.full).1
    c.pop_int-size.ensures.popped
    (ap (λ s. s.items) c.push-in-Ok.ensures)
    known.place
    (ap (λ (r : Contents). r.arrays) known.added ∙ ap (λ k. c.args.region.now.arrays ++ zeros k c.pop_int-size.result ∷ []) c.kind_of.ensures)

pub returns-in-Ok-clause-safe : goal.returns-in-Ok-clause-safe
returns-in-Ok-clause-safe c readable writable safe =
    safe_new c.args.region.now c.array.new.self readable writable c.kind_of.result c.pop_int-size.result safe c.array.ensures.sound (ap (λ (r : Contents). r.arrays) (c.in-Ok.ensures).added)
