-- Lines one after the other.
use Rattle.std.proofs.Common.{◌≡◌, ℕ, suc, ◌-◌, eqb, false, List, [], ◌∷◌, ◌++◌, length, Result, Ok, Err, refl, sym, ap, ◌∙◌, append_assoc}
use Rattle.std.proofs.lemmas.List.{append-nil}
use Rattle.std.proofs.lemmas.Bool.{eq-eqb}
use Rattle.class_definition.specs.declared.miss.Miss.{Miss}
use Rattle.class_format.specs.declared.failure.Failure.{Failure}
use Rattle.class_format.specs.declared.failure.Failure.TheVariants.{Missed, NoMemory}
use Rattle.class_format.specs.Gives.{Fails}
use Rattle.class_definition.specs.declared.line.Line.{Line}
use Rattle.class_definition.specs.declared.op.Op.{Op}
use Rattle.class_definition.specs.Instructions.{instruction}
use Rattle.class_definition.specs.Code.{behind_line, lines_from}

-- the lines before, and those that are still read
abbrev pub with_lines : List Line → Result (List Line) Miss → Result (List Line) Miss
with_lines front (Ok lines) = Ok (front ++ lines)
with_lines front (Err miss) = Err miss

regroup : (front : List Line) (l : Line) (r : Result (List Line) Miss) → with_lines front (behind_line l r) ≡ with_lines (front ++ l ∷ []) r
regroup front l (Ok lines) = ap (λ (xs : List Line). Ok xs) (sym (append_assoc front (l ∷ []) lines))
regroup front l (Err miss) = refl

pub lines_more : (size k n : ℕ) (bytes after : List ℕ) (front : List Line) (l : Line) (op : Op) (total : Result (List Line) Miss)
    → k ≡ suc n → eqb (length bytes) 0 ≡ false → l ≡ record { at = size - length bytes; op = op } → (instruction (size - length bytes)).read bytes ≡ Ok (op, after)
    → with_lines front (lines_from size k bytes) ≡ total → with_lines (front ++ l ∷ []) (lines_from size n after) ≡ total
unfolding lines_from
lines_more size k n bytes after front l op total more some line is so_far =
    let one : with_lines front (lines_from size k bytes) ≡ with_lines (front ++ l ∷ []) (lines_from size n after) =
    rw (more, some, is, line) (regroup front (record { at = size - length bytes; op = op }) (lines_from size n after)) in
    sym one ∙ so_far

pub lines_fail : (e : Failure) (size k n : ℕ) (bytes : List ℕ) (front : List Line) (total : Result (List Line) Miss)
    → k ≡ suc n → eqb (length bytes) 0 ≡ false → Fails e ((instruction (size - length bytes)).read bytes)
    → with_lines front (lines_from size k bytes) ≡ total → Fails e total
unfolding lines_from
lines_fail NoMemory size k n bytes front total more some is so_far = tt
lines_fail (Missed m) size k n bytes front total more some is so_far =
    let one : with_lines front (lines_from size k bytes) ≡ Err m = rw (more, some, is) refl in
    sym so_far ∙ one

-- no byte is left
pub lines_end : (size k n : ℕ) (bytes : List ℕ) (front : List Line) (total : Result (List Line) Miss)
    → k ≡ suc n → length bytes ≡ 0 → with_lines front (lines_from size k bytes) ≡ total → total ≡ Ok front
unfolding lines_from
lines_end size k n bytes front total more none so_far =
    let one : with_lines front (lines_from size k bytes) ≡ Ok front = rw (more, eq-eqb (length bytes) 0 none) (ap (λ (xs : List Line). Ok xs) (append-nil front)) in
    sym so_far ∙ one

pub lines_done : (size k : ℕ) (bytes : List ℕ) (front : List Line) (total : Result (List Line) Miss)
    → k ≡ 0 → with_lines front (lines_from size k bytes) ≡ total → total ≡ Ok front
unfolding lines_from
lines_done size k bytes front total none so_far =
    let one : with_lines front (lines_from size k bytes) ≡ Ok front = rw none (ap (λ (xs : List Line). Ok xs) (append-nil front)) in
    sym so_far ∙ one
