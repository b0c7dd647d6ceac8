-- The tables of opcodes: what stands in a row has that opcode and no operands.
use Rattle.std.proofs.Common.{◌≡◌, ℕ, true, false, cond, eqb, List, [], ◌∷◌, Option, Some, None, refl, subst, inl, inr, ◌⊎◌}
use Rattle.std.specs.Option.{option_or}
use Rattle.std.proofs.lemmas.Bool.{eqb-true}
use Rattle.std.proofs.lemmas.Option.{same_Some}
use Rattle.jvm_definition.specs.declared.branch_name.BranchName.{BranchName}
use Rattle.class_definition.specs.declared.op.Op.{Op}
use Rattle.class_definition.specs.declared.local_name.LocalName.{LocalName}
use Rattle.class_definition.specs.declared.pool_name.PoolName.{PoolName}
use Rattle.class_definition.specs.Opcodes.{row_of, constants, short_locals, move_opcodes, arithmetic_opcodes, others, plain_of, local_names, branch_names, pool_names, local_name_opcode, branch_name_opcode, pool_name_opcode}
use Rattle.class_definition.specs.Instructions.{opcode, operand_bytes, operands_fit}

-- an instruction of an opcode, without operands
abbrev pub IsPlain : ℕ → Op → Type 0
IsPlain n op = (opcode op ≡ n) × (((at : ℕ) → operand_bytes at op ≡ []) × ((at : ℕ) → operands_fit at op ≡ true))

abbrev Rows : {A : Type 0} → (ℕ → A → Type 0) → List (ℕ × A) → Type 0
Rows P [] = Unit {0}
Rows P (row ∷ rows) = P row.0 row.1 × Rows P rows

found_here : {A : Type 0} (P : ℕ → A → Type 0) (row : ℕ × A) (n : ℕ) (x : A) → P row.0 row.1 → row.0 ≡ n → Some row.1 ≡ Some x → P n x
found_here {A} P row n x p e here =
    let Q : ℕ → Type 0 = λ m. P m x in
    let R : A → Type 0 = λ y. P row.0 y in
    subst Q e (subst R (same_Some row.1 x here) p)

found_row : {A : Type 0} (P : ℕ → A → Type 0) (rows : List (ℕ × A)) → Rows P rows → (n : ℕ) (x : A) → row_of n rows ≡ Some x → P n x
found_row P [] are n x e = absurd cc
found_row {A} P (row ∷ rows) are n x e =
    (elim (eqb row.0 n) as (λ b. eqb row.0 n ≡ b → cond b (Some row.1) (row_of n rows) ≡ Some x → P n x) [
      | true ↦ λ same here. found_here P row n x are.0 (eqb-true _ _ same) here
      | false ↦ λ other there. found_row P rows are.1 n x there
    ]) refl e

constants_plain : Rows IsPlain constants
constants_plain = ((refl, ((λ at. refl), (λ at. refl))), ((refl, ((λ at. refl), (λ at. refl))), ((refl, ((λ at. refl), (λ at. refl))), ((refl, ((λ at. refl), (λ at. refl))), ((refl, ((λ at. refl), (λ at. refl))), ((refl, ((λ at. refl), (λ at. refl))), ((refl, ((λ at. refl), (λ at. refl))), ((refl, ((λ at. refl), (λ at. refl))), ((refl, ((λ at. refl), (λ at. refl))), tt)))))))))

short_locals_plain : Rows IsPlain short_locals
short_locals_plain = ((refl, ((λ at. refl), (λ at. refl))), ((refl, ((λ at. refl), (λ at. refl))), ((refl, ((λ at. refl), (λ at. refl))), ((refl, ((λ at. refl), (λ at. refl))), ((refl, ((λ at. refl), (λ at. refl))), ((refl, ((λ at. refl), (λ at. refl))), ((refl, ((λ at. refl), (λ at. refl))), ((refl, ((λ at. refl), (λ at. refl))), ((refl, ((λ at. refl), (λ at. refl))), ((refl, ((λ at. refl), (λ at. refl))), ((refl, ((λ at. refl), (λ at. refl))), ((refl, ((λ at. refl), (λ at. refl))), ((refl, ((λ at. refl), (λ at. refl))), ((refl, ((λ at. refl), (λ at. refl))), ((refl, ((λ at. refl), (λ at. refl))), ((refl, ((λ at. refl), (λ at. refl))), tt))))))))))))))))

moves_plain : Rows IsPlain move_opcodes
moves_plain = ((refl, ((λ at. refl), (λ at. refl))), ((refl, ((λ at. refl), (λ at. refl))), ((refl, ((λ at. refl), (λ at. refl))), ((refl, ((λ at. refl), (λ at. refl))), ((refl, ((λ at. refl), (λ at. refl))), ((refl, ((λ at. refl), (λ at. refl))), ((refl, ((λ at. refl), (λ at. refl))), ((refl, ((λ at. refl), (λ at. refl))), ((refl, ((λ at. refl), (λ at. refl))), ((refl, ((λ at. refl), (λ at. refl))), ((refl, ((λ at. refl), (λ at. refl))), tt)))))))))))

arithmetic_plain : Rows IsPlain arithmetic_opcodes
arithmetic_plain = ((refl, ((λ at. refl), (λ at. refl))), ((refl, ((λ at. refl), (λ at. refl))), ((refl, ((λ at. refl), (λ at. refl))), ((refl, ((λ at. refl), (λ at. refl))), ((refl, ((λ at. refl), (λ at. refl))), ((refl, ((λ at. refl), (λ at. refl))), ((refl, ((λ at. refl), (λ at. refl))), ((refl, ((λ at. refl), (λ at. refl))), ((refl, ((λ at. refl), (λ at. refl))), ((refl, ((λ at. refl), (λ at. refl))), ((refl, ((λ at. refl), (λ at. refl))), ((refl, ((λ at. refl), (λ at. refl))), ((refl, ((λ at. refl), (λ at. refl))), ((refl, ((λ at. refl), (λ at. refl))), ((refl, ((λ at. refl), (λ at. refl))), ((refl, ((λ at. refl), (λ at. refl))), ((refl, ((λ at. refl), (λ at. refl))), ((refl, ((λ at. refl), (λ at. refl))), ((refl, ((λ at. refl), (λ at. refl))), tt)))))))))))))))))))

others_plain : Rows IsPlain others
others_plain = ((refl, ((λ at. refl), (λ at. refl))), ((refl, ((λ at. refl), (λ at. refl))), ((refl, ((λ at. refl), (λ at. refl))), ((refl, ((λ at. refl), (λ at. refl))), ((refl, ((λ at. refl), (λ at. refl))), ((refl, ((λ at. refl), (λ at. refl))), ((refl, ((λ at. refl), (λ at. refl))), ((refl, ((λ at. refl), (λ at. refl))), ((refl, ((λ at. refl), (λ at. refl))), tt)))))))))

either : {A : Type 0} (a b : Option A) (x : A) → option_or a b ≡ Some x → (a ≡ Some x) ⊎ (b ≡ Some x)
either None b x e = inr e
either (Some y) b x e = inl e

pub plain_is : (n : ℕ) (op : Op) → plain_of n ≡ Some op → IsPlain n op
plain_is n op e =
    elim (either (row_of n constants) _ op e) [
      | inl a ↦ found_row IsPlain constants constants_plain n op a
      | inr b ↦ elim (either (row_of n short_locals) _ op b) [
        | inl a ↦ found_row IsPlain short_locals short_locals_plain n op a
        | inr c ↦ elim (either (row_of n move_opcodes) _ op c) [
          | inl a ↦ found_row IsPlain move_opcodes moves_plain n op a
          | inr d ↦ elim (either (row_of n arithmetic_opcodes) (row_of n others) op d) [
            | inl a ↦ found_row IsPlain arithmetic_opcodes arithmetic_plain n op a
            | inr f ↦ found_row IsPlain others others_plain n op f
          ]
        ]
      ]
    ]

pub local_name_is : (n : ℕ) (name : LocalName) → row_of n local_names ≡ Some name → local_name_opcode name ≡ n
local_name_is n name e = found_row (λ m x. local_name_opcode x ≡ m) local_names (refl, (refl, (refl, (refl, tt)))) n name e

pub branch_name_is : (n : ℕ) (name : BranchName) → row_of n branch_names ≡ Some name → branch_name_opcode name ≡ n
branch_name_is n name e = found_row (λ m x. branch_name_opcode x ≡ m) branch_names (refl, (refl, (refl, (refl, (refl, (refl, (refl, (refl, (refl, (refl, (refl, (refl, (refl, (refl, (refl, tt))))))))))))))) n name e

pub pool_name_is : (n : ℕ) (name : PoolName) → row_of n pool_names ≡ Some name → pool_name_opcode name ≡ n
pool_name_is n name e = found_row (λ m x. pool_name_opcode x ≡ m) pool_names (refl, (refl, (refl, (refl, (refl, (refl, (refl, tt))))))) n name e
