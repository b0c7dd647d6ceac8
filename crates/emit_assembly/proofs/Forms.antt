-- The operation of an instruction that needs no constant.
use Rattle.std.proofs.Common.{◌≡◌, ℕ, zero, suc, ◌-◌, ◌^◌, ◌≤◌, ◌<◌, ◌⊎◌, inl, inr, Bool, true, false, ◌&&◌, nat_le, nat_lt, eqb, if◌then◌else◌, List, [], refl, sym, ap, ◌∙◌, ne_eqb, le-ltb, arith}
use Rattle.std.proofs.lemmas.Bool.{and_parts, or_cases, ltb-true}
use Rattle.nv_words.proofs.LaneLemmas.{unsigned_of-signed_of}
use Rattle.class_definition.specs.declared.entry.Entry.{Entry}
use Rattle.class_definition.specs.declared.class.Class.{Class}
use Rattle.class_definition.specs.declared.op.Op.{Op}
use Rattle.class_definition.specs.declared.op.Op.TheVariants as ops
use Rattle.class_definition.specs.declared.local_name.LocalName.{LocalName}
use Rattle.class_definition.specs.Code.{targets_of as op_targets}
use Rattle.class_definition.specs.Instructions.{operands_fit}
use Rattle.class_definition.specs.Sizes.{size_at}
use Rattle.jvm_definition.specs.declared.array_kind.ArrayKind.TheVariants.{Ints, Pages}
use Rattle.jvm_definition.specs.declared.constant.Constant.{Constant}
use Rattle.jvm_definition.specs.declared.local_kind.LocalKind.{LocalKind}
use Rattle.jvm_definition.specs.declared.local_kind.LocalKind.TheVariants.{Int, Reference}
use Rattle.jvm_definition.specs.declared.instruction.Instruction.{Instruction}
use Rattle.jvm_definition.specs.declared.instruction.Instruction.TheVariants as instructions
use Rattle.jvm_definition.specs.Program.{instruction_targets}
use Rattle.class_definition.specs.Linking.{linked_instruction, local_instruction}
use Rattle.emit_steps.specs.Widths.{instruction_width, local_width}
use Rattle.emit_assembly.specs.declared.references.References.{References}
use Rattle.emit_assembly.specs.Assembling.{IsKnown, has_operation, is_signed_byte}
use Rattle.emit_assembly.specs.Operations.{IsOperation, operation_of, local_operation, load_name, store_name, is_push}

-- ---- local variables

-- what holds of 0 to 3 and of all from 4 on holds of every number
each_local : (P : ℕ → Type 0) → P 0 → P 1 → P 2 → P 3 → ((i : ℕ) → 4 ≤ i → P i) → (i : ℕ) → P i
each_local P a b c d more zero = a
each_local P a b c d more (suc zero) = b
each_local P a b c d more (suc (suc zero)) = c
each_local P a b c d more (suc (suc (suc zero))) = d
each_local P a b c d more (suc (suc (suc (suc i)))) = more (suc (suc (suc (suc i)))) (omega arith)

local-far : (name : LocalName) (i : ℕ) → 4 ≤ i → local_operation name i ≡ ops.Local name i
local-far name i far =
    let a : eqb i 0 ≡ false = ne_eqb i 0 (λ e. omega arith) in
    let b : eqb i 1 ≡ false = ne_eqb i 1 (λ e. omega arith) in
    let c : eqb i 2 ≡ false = ne_eqb i 2 (λ e. omega arith) in
    let d : eqb i 3 ≡ false = ne_eqb i 3 (λ e. omega arith) in
    rw (a, b, c, d) refl

local-wide : (name : LocalName) (at i : ℕ) → size_at at (local_operation name i) ≡ local_width i
local-wide name at i =
    each_local (λ i. size_at at (local_operation name i) ≡ local_width i) refl refl refl refl
    (λ i far. ap (size_at at) (local-far name i far) ∙ sym (ap (λ b. if b then 1 else 2) (le-ltb i 4 far))) i

local-linked : (name : LocalName) (classes : List Class) (number : ℕ) (c : Class) (gives : Bool) (i : ℕ) → linked_instruction classes number c gives (local_operation name i) ≡ local_instruction name i
local-linked name classes number c gives i =
    each_local (λ i. linked_instruction classes number c gives (local_operation name i) ≡ local_instruction name i) refl refl refl refl
    (λ i far. ap (linked_instruction classes number c gives) (local-far name i far)) i

local-targets : (name : LocalName) (i : ℕ) → op_targets (local_operation name i) ≡ []
local-targets name i =
    each_local (λ i. op_targets (local_operation name i) ≡ []) refl refl refl refl (λ i far. ap op_targets (local-far name i far)) i

loads : (kind : LocalKind) (i : ℕ) → local_instruction (load_name kind) i ≡ instructions.Load kind i
loads Int i = refl
loads Reference i = refl

stores : (kind : LocalKind) (i : ℕ) → local_instruction (store_name kind) i ≡ instructions.Store kind i
stores Int i = refl
stores Reference i = refl

-- ---- increments

byte-word : (w : ℕ) → is_signed_byte w ≡ true → w < 2 ^ 32
byte-word w h = by (or_cases (nat_lt w 128) (nat_le (2 ^ 32 - 128) w && nat_lt w (2 ^ 32)) h)
  where
    by : (nat_lt w 128 ≡ true) ⊎ ((nat_le (2 ^ 32 - 128) w && nat_lt w (2 ^ 32)) ≡ true) → w < 2 ^ 32
    by (inl low) = let less : w < 128 = ltb-true w 128 low in omega arith
    by (inr high) = ltb-true w (2 ^ 32) (and_parts (nat_le (2 ^ 32 - 128) w) (nat_lt w (2 ^ 32)) high).1

-- ---- all of them

operation-wide : (r : References) (i : Instruction) → is_push i ≡ false → (at : ℕ) → size_at at (operation_of r i) ≡ instruction_width i
operation-wide r (instructions.Push constant) other at = absurd cc
operation-wide r (instructions.Load kind i) other at = local-wide (load_name kind) at i
operation-wide r (instructions.Store kind i) other at = local-wide (store_name kind) at i
operation-wide r (instructions.NewArray Ints) other at = refl
operation-wide r (instructions.NewArray Pages) other at = refl
operation-wide r _ other at = refl

operation-targets : (r : References) (i : Instruction) → has_operation r i ≡ true → op_targets (operation_of r i) ≡ instruction_targets i
operation-targets r (instructions.Branch name target) form = absurd cc
operation-targets r (instructions.TableSwitch s) form = absurd cc
operation-targets r (instructions.LookupSwitch s) form = absurd cc
operation-targets r (instructions.Load kind i) form = local-targets (load_name kind) i
operation-targets r (instructions.Store kind i) form = local-targets (store_name kind) i
operation-targets r (instructions.NewArray Ints) form = refl
operation-targets r (instructions.NewArray Pages) form = refl
operation-targets r _ form = refl

operation-linked : (r : References) (i : Instruction) → has_operation r i ≡ true → is_push i ≡ false → (classes : List Class) (number : ℕ) (c : Class) (gives : Bool) → IsKnown r classes number c gives i → linked_instruction classes number c gives (operation_of r i) ≡ i
operation-linked r (instructions.Push constant) form other classes number c gives known = absurd cc
operation-linked r (instructions.Branch name target) form other classes number c gives known = absurd cc
operation-linked r (instructions.TableSwitch s) form other classes number c gives known = absurd cc
operation-linked r (instructions.LookupSwitch s) form other classes number c gives known = absurd cc
operation-linked r instructions.Wrong form other classes number c gives known = absurd cc
operation-linked r (instructions.Load kind i) form other classes number c gives known = local-linked (load_name kind) classes number c gives i ∙ loads kind i
operation-linked r (instructions.Store kind i) form other classes number c gives known = local-linked (store_name kind) classes number c gives i ∙ stores kind i
operation-linked r (instructions.Increment i by) form other classes number c gives known = ap (instructions.Increment i) (unsigned_of-signed_of by (byte-word by form))
operation-linked r (instructions.Get f kind) form other classes number c gives known = known
operation-linked r (instructions.Put f kind) form other classes number c gives known = known
operation-linked r instructions.Length form other classes number c gives known = known
operation-linked r instructions.CharAt form other classes number c gives known = known
operation-linked r (instructions.Call m) form other classes number c gives known = known
operation-linked r instructions.CallHost form other classes number c gives known = known
operation-linked r instructions.FaultHost form other classes number c gives known = known
operation-linked r (instructions.Return name) form other classes number c gives known = known
operation-linked r (instructions.NewArray Ints) form other classes number c gives known = refl
operation-linked r (instructions.NewArray Pages) form other classes number c gives known = known
operation-linked r _ form other classes number c gives known = refl

pub is-operation : (r : References) (pool : List Entry) (i : Instruction) (op : Op) → has_operation r i ≡ true → is_push i ≡ false → op ≡ operation_of r i → ((at : ℕ) → operands_fit at op ≡ true) → IsOperation r pool i op
is-operation r pool i op form other is fits = record {
  wide = λ at. ap (size_at at) is ∙ operation-wide r i other at;
  fits = fits;
  targets = ap op_targets is ∙ operation-targets r i form;
  linked = λ classes number c gives x known. ap (linked_instruction classes number c gives) is ∙ operation-linked r i form other classes number c gives known;
}

pub no-push : (i : Instruction) → ((constant : Constant) → i ≡ instructions.Push constant → ⊥) → is_push i ≡ false
no-push (instructions.Push constant) other = absurd (other constant refl)
no-push _ other = refl
