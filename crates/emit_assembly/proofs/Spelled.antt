-- Operations that are spelled one after the other.
use Rattle.std.proofs.Common.{◌≡◌, ℕ, ◌+◌, ◌≤◌, List, [], ◌∷◌, ◌++◌, length, refl, sym, ap, ◌∙◌, subst, length-append, arith}
use Rattle.class_definition.specs.declared.line.Line.{Line}
use Rattle.class_definition.specs.declared.op.Op.{Op}
use Rattle.class_definition.specs.declared.op.Op.TheVariants as ops
use Rattle.class_definition.specs.Instructions.{instruction}
use Rattle.class_definition.specs.Sizes.{size_at}
use Rattle.jvm_code.specs.Writing.{AreLaid, HasFewTargets}
use Rattle.jvm_code.proofs.SizeLemmas.{size_is}
use Rattle.class_definition.specs.Code.{Lines}
use Rattle.jvm_code.proofs.ReadBack.{spelling, laid_low, laid_within, bytes_of, read_of_code}
use Rattle.class_definition.specs.Linking.{lines_read, lines_of_code}
use Rattle.emit_assembly.specs.Assembling.{lines_at, lines_size}

few-targets : (at : ℕ) (op : Op) → at + size_at at op ≤ 65535 → HasFewTargets op
few-targets at (ops.TableSwitch s) h = omega arith
few-targets at (ops.LookupSwitch s) h = omega arith
few-targets at _ h = tt

-- the first of operations that are laid out ends within the greatest code
first-ends : (at : ℕ) (op : Op) (rest : List Op) → AreLaid at (lines_at at (op ∷ rest)) → at + size_at at op ≤ 65535
first-ends at op rest laid = laid_low (at + size_at at op) (lines_at (at + size_at at op) rest) laid.2

module _ (at : ℕ) (left rest : List Op) (op : Op) (is : left ≡ op ∷ rest) (laid : AreLaid at (lines_at at left)) where
  first-laid : AreLaid at (lines_at at (op ∷ rest))
  first-laid = subst (λ os. AreLaid at (lines_at at os)) is laid

  pub next-few : HasFewTargets op
  next-few = few-targets at op (first-ends at op rest first-laid)

  pub next-ends : at + size_at at op ≤ 65535
  next-ends = first-ends at op rest first-laid

spelling-size : (at : ℕ) (lines : List Line) → AreLaid at lines → length (spelling lines) ≡ lines_size lines
spelling-size at [] laid = refl
spelling-size at (l ∷ lines) laid =
    let here : length ((instruction l.at).spell l.op) ≡ size_at l.at l.op = subst (λ n. length ((instruction n).spell l.op) ≡ size_at n l.op) (sym laid.0) (size_is at l.op laid.1) in
    let behind : length (spelling lines) ≡ lines_size lines = spelling-size (at + size_at at l.op) lines laid.2 in
    let all : length ((instruction l.at).spell l.op ++ spelling lines) ≡ length ((instruction l.at).spell l.op) + length (spelling lines) = length-append ((instruction l.at).spell l.op) (spelling lines) in
    all ∙ (λ i. here i + behind i)

-- bytes that spell lines which are laid out: how many they are, and what is read of them
module _ (code : List ℕ) (lines : List Line) (laid : AreLaid 0 lines) (are : Lines code lines) where
  pub bytes-size : length code ≡ lines_size lines
  bytes-size = ap length (bytes_of 0 code lines are) ∙ spelling-size 0 lines laid

  pub bytes-read : lines_of_code code ≡ lines
  bytes-read =
      let few : length code ≤ 65535 = subst (λ (bs : List ℕ). length bs ≤ 65535) (sym (bytes_of 0 code lines are)) (omega (arith, laid_within 0 lines laid)) in
      ap lines_read (read_of_code code lines few are)
