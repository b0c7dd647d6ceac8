-- What decoding answers.
use Rattle.std.proofs.Common.{◌≡◌, ℕ, ◌-◌, ◌≤◌, false, eqb, ltb, List, length, Ok, refl, subst, sym, arith}
use Rattle.std.proofs.lemmas.Bool.{or_parts, ltb-false}
use Rattle.class_format.specs.declared.failure.Failure.{Failure}
use Rattle.class_format.specs.declared.failure.Failure.TheVariants.{Missed, NoMemory}
use Rattle.class_format.specs.Gives.{Fails}
use Rattle.class_definition.specs.Spelling.{IsBytes}
use Rattle.class_definition.specs.declared.line.Line.{Line}
use Rattle.class_definition.specs.Code.{Lines, LinesFrom, lines_from, code_fault, is_bad_length}
use Rattle.jvm_code.specs.Answer.{IsAnswer, refusal_of}
use Rattle.jvm_code.specs.Writing.{AreCode}
use Rattle.jvm_code.proofs.LineLaws.{lines_are}

pub failed : (code : List ℕ) (e : Failure) → is_bad_length (length code) ≡ false → Fails e (lines_from (length code) (length code) code) → IsAnswer (code_fault code) (refusal_of (length code) e)
failed code NoMemory good is = tt
failed code (Missed m) good is = rw (good, is) refl

pub lines_of_code : (code : List ℕ) (lines : List Line) → length code ≤ 65535 → IsBytes code → lines_from (length code) (length code) code ≡ Ok lines → Lines code lines
lines_of_code code lines few h e =
    let none : length code - length code ≡ 0 = omega arith in
    let P : ℕ → Type 0 = λ n. LinesFrom n code lines in
    subst P none (lines_are (length code) few (length code) code lines h (omega arith) (omega arith) e)

pub good_length : (n : ℕ) → is_bad_length n ≡ false → n ≤ 65535
good_length n e = let p = or_parts (eqb n 0) (ltb 65535 n) e in ltb-false _ _ p.1

-- the lines that were kept
pub kept_lines : (code : List ℕ) (lines kept : List Line) → Lines code lines → kept ≡ lines → Lines code kept
kept_lines code lines kept are same = subst (λ (ls : List Line). Lines code ls) (sym same) are

pub kept_code : (lines kept : List Line) → kept ≡ lines → AreCode lines → AreCode kept
kept_code lines kept same are = subst (λ (ls : List Line). AreCode ls) (sym same) are
