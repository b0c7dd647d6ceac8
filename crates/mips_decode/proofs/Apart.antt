-- No word fits two rows of the table: two rows differ in a bit that both masks take.
use Rattle.std.proofs.Common.{◌≡◌, ℕ, ◌<◌, ◌==◌, ◌&&◌, Bool, true, not, List, [], ◌∷◌, bit_and, zero, suc, length, get_or, refl, sym, ap, ◌∙◌, arith}
use Rattle.std.specs.Prelude.{AllPairs, IsTrue}
use Rattle.std.specs.List.{list_all}
use Rattle.std.proofs.lemmas.Bool.{eqb-true, eq-eqb}
use Rattle.std.proofs.lemmas.Nat.Bits.{bit_at_and, same_from_bits}
use Rattle.std.proofs.lemmas.List.Kept.{AllPairs-cons}
use Rattle.mips_definition.specs.Table.{Row, instruction_table, fits_row}
use Rattle.mips_decode.proofs.Rows.{both}

-- the rows differ under both masks
abbrev pub are_apart : Row → Row → Bool
are_apart r s = not (bit_and (bit_and r.mask s.mask) r.value == bit_and (bit_and r.mask s.mask) s.value)

abbrev pub each_apart : List Row → Bool
each_apart [] = true
each_apart (row ∷ rows) = list_all (are_apart row) rows && each_apart rows

table_apart : each_apart instruction_table ≡ true
table_apart = refl

-- what a word has under both masks is what it has under each
under_both : (w m n : ℕ) → bit_and (bit_and m n) (bit_and w m) ≡ bit_and (bit_and m n) (bit_and w n)
under_both w m n = same_from_bits _ _ (λ i.
    let a = bit_at_and (bit_and m n) (bit_and w m) i in
    let b = bit_at_and (bit_and m n) (bit_and w n) i in
    let c = bit_at_and m n i in
    let d = bit_at_and w m i in
    let e = bit_at_and w n i in
    omega arith)

-- the two rows take no word in common
abbrev pub Apart : Row → Row → Type 0
Apart r s = (w : ℕ) → IsTrue (fits_row w r) → ¬ (IsTrue (fits_row w s))

apart : (r s : Row) → are_apart r s ≡ true → Apart r s
apart r s differ w first second =
    let e = eqb-true (bit_and w r.mask) r.value first in
    let f = eqb-true (bit_and w s.mask) s.value second in
    let same : bit_and (bit_and r.mask s.mask) r.value ≡ bit_and (bit_and r.mask s.mask) s.value =
    ap (bit_and (bit_and r.mask s.mask)) (sym e) ∙ under_both w r.mask s.mask ∙ ap (bit_and (bit_and r.mask s.mask)) f in
    let equal = eq-eqb (bit_and (bit_and r.mask s.mask) r.value) (bit_and (bit_and r.mask s.mask) s.value) same in
    cc

all_apart : (row : Row) (rows : List Row) → list_all (are_apart row) rows ≡ true
    → (k : ℕ) (d : Row) → k < length rows → Apart row (get_or rows k d)
all_apart row [] h k d lt = absurd (omega arith)
all_apart row (other ∷ rows) h zero d lt = apart row other (both (are_apart row other) (list_all (are_apart row) rows) h).0
all_apart row (other ∷ rows) h (suc k) d lt =
    all_apart row rows (both (are_apart row other) (list_all (are_apart row) rows) h).1 k d (omega arith)

pairs_apart : (rows : List Row) → each_apart rows ≡ true → AllPairs Apart rows
pairs_apart [] h = λ i j d lt within. absurd (omega arith)
pairs_apart (row ∷ rows) h =
    let split = both (list_all (are_apart row) rows) (each_apart rows) h in
    AllPairs-cons Apart row rows (all_apart row rows split.0) (pairs_apart rows split.1)

-- no word fits two rows
pub rows_apart : AllPairs Apart instruction_table
rows_apart = pairs_apart instruction_table table_apart
