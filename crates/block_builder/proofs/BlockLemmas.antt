-- Where blocks end, and what holds of each of them.
use Rattle.std.proofs.Common.{◌≡◌, ℕ, zero, suc, ◌+◌, ◌-◌, ◌<◌, ◌≤◌, ◌==◌, Bool, true, false, cond, not, ◌||◌, List, [], ◌∷◌, ◌++◌, length, map, Option, Some, None, refl, sym, ap, subst, ◌∙◌, inl, inr, arith, append-nil, append_assoc}
use Rattle.std.specs.Prelude.{filter, find, unwrap_or, All, if◌then◌else◌}
use Rattle.std.specs.List.{range_with_len}
use Rattle.std.proofs.lemmas.Bool.{cases_eq, cases_lt, eqb-false, or_parts, not-false}
use Rattle.std.proofs.lemmas.List.Elements.{All-map, All-filter}
use Rattle.std.proofs.lemmas.List.FromFn.{length-range_with_len, get_or-range_with_len}
use Rattle.mips_definition.specs.Table.{inst}
use Rattle.mips_definition.specs.declared.inst.Inst.{Inst}
use Rattle.mips_definition.specs.declared.inst.Inst.TheVariants.{JumpRegister, JumpAndLinkRegister, Syscall, Break, BranchSign, Jump, BranchEqual, BranchZero, Reserved}
use Rattle.delay_slots.specs.declared.unit.Unit.{Unit}
use Rattle.delay_slots.specs.declared.unit.Unit.TheVariants as unit
use Rattle.delay_slots.specs.Units.{is_branch, branch_unit, unit_of, units_of}
use Rattle.block_builder.specs.declared.block.Block.{Block}
use Rattle.block_builder.specs.Leaders.{is_plain, words_of, is_leader}
use Rattle.block_builder.specs.Blocks.{AreUnits, unit_at, part_of, ends, end_of, block_from, blocks_of, IsPiece}

-- ---- the least number that passes a test

-- The first of m numbers from a on that passes the test, or a if none does.
pub record IsLeast (test : ℕ → Bool) (a m x : ℕ) : Type 0 where
  pub from : a ≤ x
  pub within : x < a + m
  pub before : (k : ℕ) → a ≤ k → k < x → test k ≡ false

later : (test : ℕ → Bool) (a m x : ℕ) → test a ≡ false → IsLeast test (a + 1) m x → IsLeast test a (suc m) x
later test a m x fails least = record {
  from = omega (arith, least.from);
  within = omega (arith, least.within);
  before = λ k ge lt. elim (cases_eq k a) [
    | inl same ↦ ap test same ∙ fails
    | inr other ↦ least.before k (omega arith) lt
  ];
}

found_by : (test : ℕ → Bool) (a m x : ℕ) → (find test (range_with_len (a + 1) m) ≡ Some x → IsLeast test (a + 1) m x)
    → (passes : Bool) → test a ≡ passes → cond passes (Some a) (find test (range_with_len (a + 1) m)) ≡ Some x → IsLeast test a (suc m) x
found_by test a m x rest true is here =
    let same : a ≡ x = cc in
    record { from = omega arith; within = omega arith; before = λ k ge lt. absurd (omega arith) }
found_by test a m x rest false is there = later test a m x is (rest there)

found_least : (test : ℕ → Bool) (a m x : ℕ) → find test (range_with_len a m) ≡ Some x → IsLeast test a m x
found_least test a zero x is = cc
found_least test a (suc m) x is = found_by test a m x (found_least test (a + 1) m x) (test a) refl is

least_or_first : (test : ℕ → Bool) (a m : ℕ) → 0 < m → (o : Option ℕ) → find test (range_with_len a m) ≡ o → IsLeast test a m (unwrap_or o a)
least_or_first test a m some None is = record { from = omega arith; within = omega arith; before = λ k ge lt. absurd (omega arith) }
least_or_first test a m some (Some x) is = found_least test a m x is

pub end_is_least : (units : List Unit) (leads : ℕ → Bool) (first : ℕ) → first < length units → IsLeast (ends units leads) first (length units - first) (end_of units leads first)
end_is_least units leads first lt =
    let some : 0 < length units - first = omega arith in
    least_or_first (ends units leads) first (length units - first) some (find (ends units leads) (range_with_len first (length units - first))) refl

-- one number on, where the first fails
pub find_next : (test : ℕ → Bool) (a n : ℕ) → a < n → test a ≡ false → find test (range_with_len (a + 1) (n - (a + 1))) ≡ find test (range_with_len a (n - a))
find_next test a n lt fails =
    let more : n - a ≡ suc (n - (a + 1)) = omega arith in
    rw more (rw fails refl)

pub find_here : (test : ℕ → Bool) (a n : ℕ) → a < n → test a ≡ true → find test (range_with_len a (n - a)) ≡ Some a
find_here test a n lt passes =
    let more : n - a ≡ suc (n - (a + 1)) = omega arith in
    rw more (rw passes refl)

-- ---- what holds of each block

pub has_words : (u : Unit) → 0 < words_of u
has_words (unit.Plain i) = omega arith
has_words (unit.Branch i slot) = omega arith
has_words (unit.SlotMissing i) = omega arith
has_words (unit.SlotIsBranch i word) = omega arith
has_words unit.Call = omega arith
has_words (unit.Trap kind value) = omega arith

pub few_words : (u : Unit) → words_of u ≤ 2
few_words (unit.Plain i) = omega arith
few_words (unit.Branch i slot) = omega arith
few_words (unit.SlotMissing i) = omega arith
few_words (unit.SlotIsBranch i word) = omega arith
few_words unit.Call = omega arith
few_words (unit.Trap kind value) = omega arith

-- behind a branch stands the word of its delay slot
slot_fits : (i : Inst) (slot : ℕ) (words : List ℕ) (b : Bool) → words_of (if b then unit.SlotIsBranch i slot else unit.Branch i (inst slot)) ≤ suc (suc (length words))
slot_fits i slot words b = omega (arith, few_words (if b then unit.SlotIsBranch i slot else unit.Branch i (inst slot)))

branch_fits : (i : Inst) (words : List ℕ) → words_of (branch_unit i words) ≤ suc (length words)
branch_fits i [] = omega arith
branch_fits i (slot ∷ words) = slot_fits i slot words (is_branch (inst slot))

unit_fits : (i : Inst) (words : List ℕ) → words_of (unit_of i words) ≤ suc (length words)
unit_fits (JumpRegister rs) words = branch_fits (JumpRegister rs) words
unit_fits (JumpAndLinkRegister rs rd) words = branch_fits (JumpAndLinkRegister rs rd) words
unit_fits (BranchSign name rs imm) words = branch_fits (BranchSign name rs imm) words
unit_fits (Jump name index) words = branch_fits (Jump name index) words
unit_fits (BranchEqual name rs rt imm) words = branch_fits (BranchEqual name rs rt imm) words
unit_fits (BranchZero name rs imm) words = branch_fits (BranchZero name rs imm) words
unit_fits (Syscall code) words = omega arith
unit_fits (Break code) words = omega arith
unit_fits (Reserved word) words = omega arith
unit_fits _ words = omega arith

same_length : (words : List ℕ) → length (units_of words) ≡ length words
same_length [] = refl
same_length (word ∷ words) = ap suc (same_length words)

units_fit : (words : List ℕ) (k : ℕ) → k < length (units_of words) → k + words_of (unit_at (units_of words) k) ≤ length (units_of words)
units_fit [] k lt = absurd (omega arith)
units_fit (word ∷ words) zero lt = omega (arith, unit_fits (inst word) words, same_length words)
units_fit (word ∷ words) (suc k) lt = omega (arith, units_fit words k (omega arith))

fits : (units : List Unit) (k : ℕ) → AreUnits units → k < length units → k + words_of (unit_at units k) ≤ length units
fits units k known = subst (λ (us : List Unit). k < length us → k + words_of (unit_at us k) ≤ length us) (sym known.are) (units_fit known.words k)

-- a unit with which no block ends is Plain
goes_on : (units : List Unit) (leads : ℕ → Bool) (k : ℕ) → ends units leads k ≡ false → is_plain (unit_at units k) ≡ true
goes_on units leads k on =
    not-false (is_plain (unit_at units k)) (or_parts (not (is_plain (unit_at units k))) (k + 1 == length units || leads (k + 1)) on).0

-- behind a word with which no block ends stands a word
pub goes_within : (units : List Unit) (leads : ℕ → Bool) (k : ℕ) → k < length units → ends units leads k ≡ false → k + 1 < length units
goes_within units leads k lt on =
    let rest = (or_parts (not (is_plain (unit_at units k))) (k + 1 == length units || leads (k + 1)) on).1 in
    let not_last : k + 1 ≡ length units → ⊥ = eqb-false (k + 1) (length units) (or_parts (k + 1 == length units) (leads (k + 1)) rest).0 in
    elim (cases_eq (k + 1) (length units)) [
      | inl same ↦ absurd (not_last same)
      | inr other ↦ omega arith
    ]

pub block_fits : (units : List Unit) (leads : ℕ → Bool) (first : ℕ) → AreUnits units → first < length units
    → first + (end_of units leads first - first + words_of (unit_at units (end_of units leads first))) ≤ length units
block_fits units leads first known lt =
    let last = end_of units leads first in
    let least = end_is_least units leads first lt in
    let within : last < length units = omega (arith, least.within) in
    omega (arith, least.from, fits units last known within)

block_is_straight : (units : List Unit) (leads : ℕ → Bool) (first : ℕ) → first < length units → (k : ℕ) → first ≤ k
    → k + words_of (unit_at units k) < first + (end_of units leads first - first + words_of (unit_at units (end_of units leads first))) → is_plain (unit_at units k) ≡ true
block_is_straight units leads first lt k ge behind =
    let last = end_of units leads first in
    let least = end_is_least units leads first lt in
    elim (cases_lt k last) [
      | inl before ↦ goes_on units leads k (least.before k ge before)
      | inr past ↦ elim (cases_eq k last) [
        | inl same ↦
            let words : words_of (unit_at units k) ≡ words_of (unit_at units last) = ap (λ j. words_of (unit_at units j)) same in
            absurd (omega (arith, least.from, words, same, behind))
        | inr other ↦ absurd (omega (arith, least.from, has_words (unit_at units k), few_words (unit_at units last), past, other, behind))
      ]
    ]

pub block_is_piece : (units : List Unit) (leads : ℕ → Bool) (first : ℕ) → AreUnits units → first < length units → IsPiece units (block_from units leads first)
block_is_piece units leads first known lt = record {
  within = block_fits units leads first known lt;
  straight = block_is_straight units leads first lt;
  sets = refl;
}

-- what holds of the block from each word holds of each block
each_block : (P : Block → Type 0) (units : List Unit) (leads : ℕ → Bool) → ((first : ℕ) → first < length units → P (block_from units leads first))
    → All P (map (block_from units leads) (filter leads (range_with_len 0 (length units))))
each_block P units leads holds =
    let n = length units in
    let Q : ℕ → Type 0 = λ first. P (block_from units leads first) in
    let each : All Q (range_with_len 0 n) = λ k d lt.
    let below : k < n = omega (arith, length-range_with_len 0 n) in
    subst Q (sym (get_or-range_with_len 0 n k d below ∙ zero_plus k)) (holds k below) in
    All-map P (block_from units leads) (filter leads (range_with_len 0 n)) (All-filter leads Q (range_with_len 0 n) each)
  where
    zero_plus : (k : ℕ) → 0 + k ≡ k
    zero_plus k = omega arith

pub blocks_are_pieces : (units : List Unit) (start : ℕ) → AreUnits units → All (IsPiece units) (blocks_of units start)
blocks_are_pieces units start known = each_block (IsPiece units) units (is_leader units start) (λ first lt. block_is_piece units (is_leader units start) first known lt)

pub blocks_have_words : (units : List Unit) (start : ℕ) → All (λ b. 0 < b.words) (blocks_of units start)
blocks_have_words units start =
    each_block (λ b. 0 < b.words) units (is_leader units start) (λ first lt.
    omega (arith, has_words (unit_at units (end_of units (is_leader units start) first))))

-- words of a piece are a piece
pub part_is_piece : (units : List Unit) (b : Block) (first words : ℕ) → IsPiece units b → b.first ≤ first → first + words ≤ b.first + b.words → IsPiece units (part_of units first words)
part_is_piece units b first words piece begins ends_within = record {
  within = omega (arith, piece.within);
  straight = λ k ge behind. piece.straight k (omega arith) (omega arith);
  sets = refl;
}

-- ---- flags that say the same of each word of the range

find_same : (f g : ℕ → Bool) (a m : ℕ) → ((k : ℕ) → a ≤ k → k < a + m → f k ≡ g k) → find f (range_with_len a m) ≡ find g (range_with_len a m)
find_same f g a zero same = refl
find_same f g a (suc m) same =
    ap (λ t. cond t (Some a) (find f (range_with_len (a + 1) m))) (same a (omega arith) (omega arith))
    ∙ ap (cond (g a) (Some a)) (find_same f g (a + 1) m (λ k ge lt. same k (omega arith) (omega arith)))

ends_by : (a b x y : Bool) → (b ≡ false → x ≡ y) → (a || (b || x)) ≡ (a || (b || y))
ends_by true b x y same = refl
ends_by false true x y same = refl
ends_by false false x y same = same refl

module _ (units : List Unit) (f g : ℕ → Bool) (same : (k : ℕ) → k < length units → f k ≡ g k) where
  ends_same : (k : ℕ) → k < length units → ends units f k ≡ ends units g k
  ends_same k lt =
      ends_by (not (is_plain (unit_at units k))) (k + 1 == length units) (f (k + 1)) (g (k + 1))
      (λ more. same (k + 1) (let not_last = eqb-false (k + 1) (length units) more in
      elim (cases_eq (k + 1) (length units)) as (λ c. k + 1 < length units) [ inl last ↦ absurd (not_last last) | inr other ↦ omega arith ]))

  block_same : (first : ℕ) → first < length units → block_from units f first ≡ block_from units g first
  block_same first lt =
      ap (λ (o : Option ℕ). let last = unwrap_or o first in part_of units first (last - first + words_of (unit_at units last)))
      (find_same (ends units f) (ends units g) first (length units - first) (λ k ge within. ends_same k (omega arith)))

  blocks_same : (a m : ℕ) → a + m ≤ length units → map (block_from units f) (filter f (range_with_len a m)) ≡ map (block_from units g) (filter g (range_with_len a m))
  blocks_same a zero le = refl
  blocks_same a (suc m) le =
      ap (λ t. map (block_from units f) (cond t (a ∷ filter f (range_with_len (a + 1) m)) (filter f (range_with_len (a + 1) m)))) (same a (omega arith))
      ∙ by_test (g a) (filter f (range_with_len (a + 1) m)) (filter g (range_with_len (a + 1) m)) (block_same a (omega arith)) (blocks_same (a + 1) m (omega arith))
    where
      by_test : (t : Bool) (ks ls : List ℕ) → block_from units f a ≡ block_from units g a → map (block_from units f) ks ≡ map (block_from units g) ls
          → map (block_from units f) (cond t (a ∷ ks) ks) ≡ map (block_from units g) (cond t (a ∷ ls) ls)
      by_test true ks ls first rest = cc
      by_test false ks ls first rest = rest

-- ---- block by block

pub block_more : (F : ℕ → Block) (leads : ℕ → Bool) (first n : ℕ) (sofar all : List Block) → first < n → leads first ≡ true
    → sofar ++ map F (filter leads (range_with_len first (n - first))) ≡ all
    → (sofar ++ F first ∷ []) ++ map F (filter leads (range_with_len (first + 1) (n - (first + 1)))) ≡ all
block_more F leads first n sofar all lt is so =
    let more : n - first ≡ suc (n - (first + 1)) = omega arith in
    let rest = map F (filter leads (range_with_len (first + 1) (n - (first + 1)))) in
    append_assoc sofar (F first ∷ []) rest ∙ ap (λ bs. sofar ++ bs) (sym (split more is)) ∙ so
  where
    split : n - first ≡ suc (n - (first + 1)) → leads first ≡ true → map F (filter leads (range_with_len first (n - first))) ≡ F first ∷ map F (filter leads (range_with_len (first + 1) (n - (first + 1))))
    split more is = rw more (rw is refl)

pub block_skipped : (F : ℕ → Block) (leads : ℕ → Bool) (first n : ℕ) → first < n → leads first ≡ false
    → map F (filter leads (range_with_len (first + 1) (n - (first + 1)))) ≡ map F (filter leads (range_with_len first (n - first)))
block_skipped F leads first n lt is =
    let more : n - first ≡ suc (n - (first + 1)) = omega arith in
    rw more (rw is refl)

pub blocks_done : (F : ℕ → Block) (leads : ℕ → Bool) (first n : ℕ) (sofar all : List Block) → n ≤ first
    → sofar ++ map F (filter leads (range_with_len first (n - first))) ≡ all → sofar ≡ all
blocks_done F leads first n sofar all le so =
    let none : n - first ≡ 0 = omega arith in
    sym (append-nil sofar) ∙ ap (λ m. sofar ++ map F (filter leads (range_with_len first m))) (sym none) ∙ so

pub blocks_by_flags : (units : List Unit) (flags : ℕ → Bool) (start : ℕ) → ((k : ℕ) → k < length units → flags k ≡ is_leader units start k)
    → map (block_from units flags) (filter flags (range_with_len 0 (length units))) ≡ blocks_of units start
blocks_by_flags units flags start same = blocks_same units flags (is_leader units start) same 0 (length units) (omega arith)
