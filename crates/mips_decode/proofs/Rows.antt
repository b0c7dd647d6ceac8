-- Which row of the table a word fits, by its fields: each mask takes whole fields, so a row is found by comparing fields.
use Rattle.std.proofs.Common.{◌≡◌, ℕ, ◌-◌, ◌/◌, ◌%◌, ◌^◌, ◌<◌, ◌==◌, ◌&&◌, nat_lt, if◌then◌else◌, Bool, true, false, cond, not, ◌||◌, nat_le, ◌≢◌, zero, suc, Option, Some, List, [], ◌∷◌, refl, sym, ap, ◌∙◌, arith}
use Rattle.std.specs.Prelude.{find, bit_and}
use Rattle.std.specs.List.{list_all}
use Rattle.std.specs.Bool.{Decides}
use Rattle.std.specs.Int.Bits.{and_zero_r}
use Rattle.std.proofs.lemmas.Bool.{eqb-true, eqb-false, eq-eqb, ltb-true}
use Rattle.std.proofs.lemmas.Bool.Decides.{same_from_decides, Decides-and, Decides-eqb, Decides-like}
use Rattle.std.proofs.lemmas.Nat.{and_mod, and_shr, and_mask, and_le_l}
use Rattle.std.proofs.Math.Nat.{mod-eq_of_lt}
use Rattle.run_definition.specs.Words.{IsWord}
use Rattle.mips_definition.specs.declared.inst.Inst.{Inst}
use Rattle.mips_definition.specs.declared.inst.Inst.TheVariants.{Float, Reserved}
use Rattle.mips_definition.specs.Table.{Row, instruction_table, fits_row, read_row, no_row, inst, op_of, rs_of, rt_of, rd_of, sa_of, funct_of}

-- a mask takes all n bits of a field, or none and its value has none
abbrev pub whole_field : ℕ → ℕ → ℕ → Bool
whole_field n m v = if m == 0 then v == 0 else m == 2 ^ n - 1

-- the test by a field: x is the word's, m the mask's, v the value's
abbrev pub passes : ℕ → ℕ → ℕ → Bool
passes x m v = if m == 0 then true else x == v

passes_by : (x m v n : ℕ) → x < 2 ^ n → (none : Bool) → (m == 0) ≡ none → (if none then v == 0 else m == 2 ^ n - 1) ≡ true
    → Decides (if none then true else x == v) (bit_and x m ≡ v)
passes_by x m v n h true e w = (λ _. rw (eqb-true m 0 e, and_zero_r x) (sym (eqb-true v 0 w)), λ _. refl)
passes_by x m v n h false e w =
    let same : bit_and x m ≡ x = rw (eqb-true m (2 ^ n - 1) w, and_mask x n) (mod-eq_of_lt h) in
    (λ t. same ∙ eqb-true x v t, λ q. eq-eqb x v (sym same ∙ q))

Decides-passes : (x m v n : ℕ) → x < 2 ^ n → whole_field n m v ≡ true → Decides (passes x m v) (bit_and x m ≡ v)
Decides-passes x m v n h w = passes_by x m v n h (m == 0) refl w

-- a field of a masked word
pub and_field : (w m at n : ℕ) → bit_and w m / 2 ^ at % 2 ^ n ≡ bit_and (w / 2 ^ at % 2 ^ n) (m / 2 ^ at % 2 ^ n)
and_field w m at n = ap (λ (x : ℕ). x % 2 ^ n) (and_shr w m at) ∙ and_mod (w / 2 ^ at) (m / 2 ^ at) n

-- words with the same fields are the same
pub same_fields : (v w : ℕ) → IsWord v → IsWord w → op_of v ≡ op_of w → funct_of v ≡ funct_of w → rs_of v ≡ rs_of w → rt_of v ≡ rt_of w
    → rd_of v ≡ rd_of w → sa_of v ≡ sa_of w → v ≡ w
same_fields v w hv hw a b c d e f = omega arith

-- every mask of the row takes whole fields
abbrev pub is_whole : Row → Bool
is_whole row = whole_field 6 (op_of row.mask) (op_of row.value) && (whole_field 6 (funct_of row.mask) (funct_of row.value)
    && (whole_field 5 (rs_of row.mask) (rs_of row.value) && (whole_field 5 (rt_of row.mask) (rt_of row.value)
    && (whole_field 5 (rd_of row.mask) (rd_of row.value) && (whole_field 5 (sa_of row.mask) (sa_of row.value)
    && nat_lt row.value (2 ^ 32))))))

table_is_whole : list_all is_whole instruction_table ≡ true
table_is_whole = refl

-- the word with these fields fits the row
abbrev pub fields_fit : ℕ → ℕ → ℕ → ℕ → ℕ → ℕ → Row → Bool
fields_fit op funct rs rt rd sa row = passes op (op_of row.mask) (op_of row.value) && (passes funct (funct_of row.mask) (funct_of row.value)
    && (passes rs (rs_of row.mask) (rs_of row.value) && (passes rt (rt_of row.mask) (rt_of row.value)
    && (passes rd (rd_of row.mask) (rd_of row.value) && passes sa (sa_of row.mask) (sa_of row.value)))))

-- each field under the mask is the value's
abbrev FieldsAgree : ℕ → Row → Type 0
FieldsAgree w row = (bit_and (op_of w) (op_of row.mask) ≡ op_of row.value) × ((bit_and (funct_of w) (funct_of row.mask) ≡ funct_of row.value)
    × ((bit_and (rs_of w) (rs_of row.mask) ≡ rs_of row.value) × ((bit_and (rt_of w) (rt_of row.mask) ≡ rt_of row.value)
    × ((bit_and (rd_of w) (rd_of row.mask) ≡ rd_of row.value) × (bit_and (sa_of w) (sa_of row.mask) ≡ sa_of row.value)))))

pub both : (a b : Bool) → (a && b) ≡ true → (a ≡ true) × (b ≡ true)
both true b h = (refl, h)
both false b h = absurd (cc)

agree_from_fit : (w : ℕ) (row : Row) → bit_and w row.mask ≡ row.value → FieldsAgree w row
agree_from_fit w row e = (
  sym (and_field w row.mask 26 6) ∙ ap op_of e,
  (
    sym (and_mod w row.mask 6) ∙ ap funct_of e,
    (
      sym (and_field w row.mask 21 5) ∙ ap rs_of e,
      (sym (and_field w row.mask 16 5) ∙ ap rt_of e, (sym (and_field w row.mask 11 5) ∙ ap rd_of e, sym (and_field w row.mask 6 5) ∙ ap sa_of e)),
    ),
  ),
)

fit_from_agree : (w : ℕ) (row : Row) → IsWord w → row.value < 2 ^ 32 → FieldsAgree w row → bit_and w row.mask ≡ row.value
fit_from_agree w row word small (a, rest) =
    let small_and : bit_and w row.mask < 2 ^ 32 = omega (arith, and_le_l w row.mask) in
    same_fields (bit_and w row.mask) row.value small_and small
    (and_field w row.mask 26 6 ∙ a) (and_mod w row.mask 6 ∙ rest.0) (and_field w row.mask 21 5 ∙ rest.1.0)
    (and_field w row.mask 16 5 ∙ rest.1.1.0) (and_field w row.mask 11 5 ∙ rest.1.1.1.0) (and_field w row.mask 6 5 ∙ rest.1.1.1.1)

-- the test by the mask is the test by fields
fits-fields : (w : ℕ) (row : Row) → IsWord w → is_whole row ≡ true
    → fits_row w row ≡ fields_fit (op_of w) (funct_of w) (rs_of w) (rt_of w) (rd_of w) (sa_of w) row
fits-fields w row word whole =
    let a = both _ _ whole in
    let b = both _ _ a.1 in
    let c = both _ _ b.1 in
    let d = both _ _ c.1 in
    let e = both _ _ d.1 in
    let f = both _ _ e.1 in
    same_from_decides _ _
    (Decides-like _ (agree_from_fit w row) (fit_from_agree w row word (ltb-true row.value (2 ^ 32) f.1)) (Decides-eqb (bit_and w row.mask) row.value))
    (Decides-and _ _ (Decides-passes (op_of w) (op_of row.mask) (op_of row.value) 6 (omega arith) a.0)
    (Decides-and _ _ (Decides-passes (funct_of w) (funct_of row.mask) (funct_of row.value) 6 (omega arith) b.0)
    (Decides-and _ _ (Decides-passes (rs_of w) (rs_of row.mask) (rs_of row.value) 5 (omega arith) c.0)
    (Decides-and _ _ (Decides-passes (rt_of w) (rt_of row.mask) (rt_of row.value) 5 (omega arith) d.0)
    (Decides-and _ _ (Decides-passes (rd_of w) (rd_of row.mask) (rd_of row.value) 5 (omega arith) e.0)
    (Decides-passes (sa_of w) (sa_of row.mask) (sa_of row.value) 5 (omega arith) f.0))))))

-- the first of the rows that fits these fields, read from the word
abbrev pub first_by_fields : ℕ → ℕ → ℕ → ℕ → ℕ → ℕ → ℕ → List Row → Inst
first_by_fields op funct rs rt rd sa w [] = if op == 0x11 || op == 0x31 || op == 0x39 then Float w else Reserved w
first_by_fields op funct rs rt rd sa w (row ∷ rows) =
    if fields_fit op funct rs rt rd sa row then row.read w else first_by_fields op funct rs rt rd sa w rows

read_by_test : (w : ℕ) (row : Row) (found : Option Row) (here : Bool)
    → read_row w (cond here (Some row) found) ≡ cond here (row.read w) (read_row w found)
read_by_test w row found true = refl
read_by_test w row found false = refl

find-fields : (w : ℕ) (rows : List Row) → IsWord w → list_all is_whole rows ≡ true
    → read_row w (find (fits_row w) rows) ≡ first_by_fields (op_of w) (funct_of w) (rs_of w) (rt_of w) (rd_of w) (sa_of w) w rows
find-fields w [] word whole = refl
find-fields w (row ∷ rows) word whole =
    let here = both _ _ whole in
    read_by_test w row (find (fits_row w) rows) (fits_row w row) ∙ rw (fits-fields w row word here.0, find-fields w rows word here.1) refl

-- the instruction of a word whose fields are given
unfoldable pub by_fields : ℕ → ℕ → ℕ → ℕ → ℕ → ℕ → ℕ → Inst
by_fields op funct rs rt rd sa w = first_by_fields op funct rs rt rd sa w instruction_table

-- the choice of a row with one field that must be 0
pub one_test : (t : Bool) (i j : Inst) → (if t then i else j) ≡ (if t && true then i else j)
one_test true i j = refl
one_test false i j = refl

pub inst_is : (w : ℕ) → IsWord w → inst w ≡ by_fields (op_of w) (funct_of w) (rs_of w) (rt_of w) (rd_of w) (sa_of w) w
unfolding inst by_fields
inst_is w word = find-fields w instruction_table word table_is_whole

-- ---- opcodes that no row has
-- p holds of each number below n
abbrev pub all_below : ℕ → (ℕ → Bool) → Bool
all_below zero p = true
all_below (suc n) p = p n && all_below n p

below_step : (n : ℕ) (p : ℕ → Bool) → p n ≡ true → ((k : ℕ) → k < n → p k ≡ true) → (k : ℕ) → k < suc n → (same : Bool) → (k == n) ≡ same → p k ≡ true
below_step n p here rest k lt true e = rw (eqb-true k n e) here
below_step n p here rest k lt false e = let other : k ≢ n = eqb-false k n e in rest k (omega arith)

from_all_below : (n : ℕ) (p : ℕ → Bool) → all_below n p ≡ true → (k : ℕ) → k < n → p k ≡ true
from_all_below zero p h k lt = absurd (omega arith)
from_all_below (suc n) p h k lt = below_step n p (both _ _ h).0 (from_all_below n p (both _ _ h).1) k lt (k == n) refl

-- the opcodes of the table
abbrev pub has_op : ℕ → Bool
has_op op = nat_lt op 0x10 || (nat_le 0x14 op && nat_lt op 0x18) || (nat_le 0x20 op && nat_lt op 0x27) || (nat_le 0x28 op && nat_lt op 0x2C) || op == 0x2E || op == 0x30 || op == 0x38

-- the opcode is not the row's
abbrev pub misses : ℕ → Row → Bool
misses op row = not (passes op (op_of row.mask) (op_of row.value))

other_row : (hit rest : Bool) (this that : Inst) → not hit ≡ true → cond (hit && rest) this that ≡ that
other_row true rest this that h = absurd (cc)
other_row false rest this that h = refl

misses_first : (op funct rs rt rd sa w : ℕ) (rows : List Row) → list_all (misses op) rows ≡ true
    → first_by_fields op funct rs rt rd sa w rows ≡ first_by_fields op funct rs rt rd sa w []
misses_first op funct rs rt rd sa w [] h = refl
misses_first op funct rs rt rd sa w (row ∷ rows) h =
    let hit = passes op (op_of row.mask) (op_of row.value) in
    let others = passes funct (funct_of row.mask) (funct_of row.value) && (passes rs (rs_of row.mask) (rs_of row.value)
    && (passes rt (rt_of row.mask) (rt_of row.value) && (passes rd (rd_of row.mask) (rd_of row.value)
    && passes sa (sa_of row.mask) (sa_of row.value)))) in
    let split = both (misses op row) (list_all (misses op) rows) h in
    other_row hit others (row.read w) (first_by_fields op funct rs rt rd sa w rows) split.0
    ∙ misses_first op funct rs rt rd sa w rows split.1

op_table : all_below 64 (λ op. has_op op || list_all (misses op) instruction_table) ≡ true
op_table = refl

either : (a b : Bool) → a ≡ false → (a || b) ≡ true → b ≡ true
either true b e h = absurd (cc)
either false b e h = h

-- a word with none of these opcodes is no instruction
pub inst_unlisted : (w : ℕ) → IsWord w → has_op (op_of w) ≡ false → inst w ≡ no_row w
unfolding by_fields
inst_unlisted w word none = let op = op_of w in
    inst_is w word ∙ misses_first op (funct_of w) (rs_of w) (rt_of w) (rd_of w) (sa_of w) w instruction_table
    (either _ _ none (from_all_below 64 (λ op. has_op op || list_all (misses op) instruction_table) op_table op (omega arith)))
