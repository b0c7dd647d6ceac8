-- The lines that are read are those that the code is made of.
use Rattle.std.proofs.Common.{◌≡◌, ℕ, zero, suc, ◌+◌, ◌-◌, ◌<◌, ◌≤◌, true, false, cond, eqb, List, [], ◌∷◌, length, Result, Ok, Err, refl, ap, subst, ◌∙◌, arith}
use Rattle.std.proofs.lemmas.Bool.{eqb-true}
use Rattle.std.proofs.lemmas.List.{nil_from_length, length-append}
use Rattle.class_definition.specs.declared.miss.Miss.{Miss}
use Rattle.class_definition.specs.Format.{Reading}
use Rattle.class_definition.specs.Spelling.{IsBytes, Begins}
use Rattle.class_format.proofs.Readings.{same_value, IsBytes-rest}
use Rattle.class_definition.specs.declared.line.Line.{Line}
use Rattle.class_definition.specs.declared.op.Op.{Op}
use Rattle.class_definition.specs.Instructions.{opcode, operand_bytes, instruction}
use Rattle.class_definition.specs.Code.{LinesFrom, behind_line, then_lines, lines_from}
use Rattle.jvm_code.proofs.InstructionLaws.{instruction_law}

went_on : (f : Op × List ℕ → Result (List Line) Miss) (r : Reading Op) (lines : List Line) → then_lines f r ≡ Ok lines → (x : Op × List ℕ) × (r ≡ Ok x) × (f x ≡ Ok lines)
went_on f (Ok x) lines e = (x, refl, e)
went_on f (Err m) lines e = absurd cc

line_before : (l : Line) (r : Result (List Line) Miss) (lines : List Line) → behind_line l r ≡ Ok lines → (others : List Line) × (r ≡ Ok others) × (l ∷ others ≡ lines)
line_before l (Ok others) lines e = (others, refl, same_value {E = Miss} (l ∷ others) lines e)
line_before l (Err m) lines e = absurd cc

no_line : (size : ℕ) (bytes : List ℕ) (lines : List Line) → length bytes ≡ 0 → ◌≡◌ {A = Result (List Line) Miss} (Ok []) (Ok lines) → LinesFrom (size - length bytes) bytes lines
no_line size bytes lines none e =
    let P : List Line → Type 0 = λ ls. LinesFrom (size - length bytes) bytes ls in
    subst P (same_value {E = Miss} [] lines e) (nil_from_length bytes none)

one_line : (size : ℕ) (bytes : List ℕ) (op : Op) (rest : List ℕ) (others : List Line) → length bytes ≤ size → Begins (instruction (size - length bytes)) bytes op rest
    → LinesFrom (size - length rest) rest others → LinesFrom (size - length bytes) bytes (record { at = size - length bytes; op = op } ∷ others)
one_line size bytes op rest others le t are =
    let at : ℕ = size - length bytes in
    let taken : length bytes ≡ length ((instruction (size - length bytes)).spell op) + length rest =
    ap length t.spelled ∙ length-append ((instruction (size - length bytes)).spell op) rest in
    let place : size - length rest ≡ (size - length bytes) + length ((instruction (size - length bytes)).spell op) = omega arith in
    let P : ℕ → Type 0 = λ n. LinesFrom n rest others in
    (refl, t.fits, (rest, t.spelled, subst P place are))

shorter : (size : ℕ) (bytes : List ℕ) (op : Op) (rest : List ℕ) → Begins (instruction (size - length bytes)) bytes op rest → length rest < length bytes
shorter size bytes op rest t =
    let taken : length bytes ≡ length (opcode op ∷ operand_bytes (size - length bytes) op) + length rest =
    ap length t.spelled ∙ length-append (opcode op ∷ operand_bytes (size - length bytes) op) rest in
    omega arith

pub lines_are : (size : ℕ) → size ≤ 65535 → (n : ℕ) (bytes : List ℕ) (lines : List Line) → IsBytes bytes → length bytes ≤ n → length bytes ≤ size
    → lines_from size n bytes ≡ Ok lines → LinesFrom (size - length bytes) bytes lines
unfolding lines_from
lines_are size few zero bytes lines h le within e = no_line size bytes lines (omega arith) e
lines_are size few (suc n) bytes lines h le within e =
    (elim (eqb (length bytes) 0) as (λ b. eqb (length bytes) 0 ≡ b
    → cond b (Ok []) (then_lines (λ x. behind_line (record { at = size - length bytes; op = x.0 }) (lines_from size n x.1)) ((instruction (size - length bytes)).read bytes)) ≡ Ok lines
    → LinesFrom (size - length bytes) bytes lines) [
      | true ↦ λ none is. no_line size bytes lines (eqb-true _ _ none) is
      | false ↦ λ some is.
          let p = went_on (λ x. behind_line (record { at = size - length bytes; op = x.0 }) (lines_from size n x.1)) ((instruction (size - length bytes)).read bytes) lines is in
          let q = line_before (record { at = size - length bytes; op = p.0.0 }) (lines_from size n p.0.1) lines p.2 in
          let t = (instruction_law (size - length bytes) (omega arith)).taken bytes p.0.0 p.0.1 h p.1 in
          let s = shorter size bytes p.0.0 p.0.1 t in
          let others = lines_are size few n p.0.1 q.0 (IsBytes-rest (instruction (size - length bytes)) bytes p.0.0 p.0.1 h t) (omega arith) (omega arith) q.1 in
          let P : List Line → Type 0 = λ ls. LinesFrom (size - length bytes) bytes ls in
          subst P q.2 (one_line size bytes p.0.0 p.0.1 q.0 within t others)
    ]) refl e
