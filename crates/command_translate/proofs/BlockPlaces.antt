-- Where the words of the program stand, block by block, and how many blocks are left from one on.
use Rattle.std.proofs.Common.{◌≡◌, ℕ, zero, suc, ◌+◌, ◌-◌, ◌*◌, ◌/◌, ◌%◌, ◌^◌, ◌<◌, ◌≤◌, ◌==◌, Bool, true, false, List, ◌++◌, length, slice_index, refl, sym, ap, ◌∙◌, ◌⊎◌, inl, inr, arith}
use Rattle.std.proofs.lemmas.Bool.{cases_eq, cases_lt, eq-eqb, le-ltb, lt-ltb, ne_eqb}
use Rattle.std.proofs.lemmas.List.{get_or-append-add, get_or_append_left}
use Rattle.command_translate.specs.MadeWords.{block_words, blocks_from, end_words, made_words, next_number, place, successor}

-- the number of the k-th block from one on
abbrev pub number_of : ℕ → ℕ → ℕ
number_of x zero = x
number_of x (suc k) = number_of (next_number x) k

pub number_is_word : (x k : ℕ) → x < 2 ^ 32 → number_of x k < 2 ^ 32
number_is_word x zero small = small
number_is_word x (suc k) small = number_is_word (next_number x) k (omega arith)

in_block : (words rest : List ℕ) (i : ℕ) → i < length words → slice_index (words ++ rest) i ≡ slice_index words i
in_block words rest i lt = get_or_append_left words rest 0 i lt

block_at : (count number x left k i : ℕ) → k < left → i < 6
    → slice_index (blocks_from count number x left) (6 * k + i) ≡ slice_index (block_words (place (successor count (number + k))) (number_of x k)) i
block_at count number x zero k i lt within = absurd (omega (arith, lt))
block_at count number x (suc left) zero i lt within =
    let here : number + 0 ≡ number = omega arith in
    let start : 6 * 0 + i ≡ i = omega arith in
    ap (slice_index (blocks_from count number x (suc left))) start
    ∙ in_block (block_words (place (successor count number)) x) (blocks_from count (number + 1) (next_number x) left) i within
    ∙ ap (λ m. slice_index (block_words (place (successor count m)) x) i) (sym here)
block_at count number x (suc left) (suc k) i lt within =
    let behind : 6 * suc k + i ≡ suc (suc (suc (suc (suc (suc (6 * k + i)))))) = omega arith in
    let later : number + 1 + k ≡ number + suc k = omega arith in
    ap (slice_index (blocks_from count number x (suc left))) behind
    ∙ block_at count (number + 1) (next_number x) left k i (omega (arith, lt)) within
    ∙ ap (λ m. slice_index (block_words (place (successor count m)) (number_of (next_number x) k)) i) later

length_blocks : (count number x left : ℕ) → length (blocks_from count number x left) ≡ 6 * left
length_blocks count number x zero = refl
length_blocks count number x (suc left) = omega (arith, length_blocks count (number + 1) (next_number x) left)

pub made_block : (count number i : ℕ) → number < count → i < 6
    → slice_index (made_words count) (6 * number + i) ≡ slice_index (block_words (place (successor count number)) (number_of count number)) i
unfolding made_words
made_block count number i lt within =
    let here : 0 + number ≡ number = omega arith in
    get_or_append_left (blocks_from count 0 count count) end_words 0 (6 * number + i) (omega (arith, length_blocks count 0 count count, lt, within))
    ∙ block_at count 0 count count number i lt within
    ∙ ap (λ m. slice_index (block_words (place (successor count m)) (number_of count number)) i) here

pub made_end : (count i : ℕ) → slice_index (made_words count) (6 * count + i) ≡ slice_index end_words i
unfolding made_words
made_end count i =
    ap (λ n. slice_index (made_words count) (n + i)) (sym (length_blocks count 0 count count))
    ∙ get_or-append-add (blocks_from count 0 count count) end_words i 0

-- How many blocks the program goes through from one on: those behind it of its own kind, and behind the even ones the odd ones. There are
-- none behind the end.
abbrev pub by_kind : (at_end even : Bool) → ℕ → ℕ → ℕ
by_kind true even own odd = 0
by_kind false true own odd = own + odd
by_kind false false own odd = own

abbrev pub left_from : ℕ → ℕ → ℕ
left_from count number = by_kind (number == count) (number % 2 == 0) ((count - number + 1) / 2) (count / 2)

left_end : (count number : ℕ) → number ≡ count → left_from count number ≡ 0
left_end count number is = ap (λ t. by_kind t (number % 2 == 0) ((count - number + 1) / 2) (count / 2)) (eq-eqb number count is)

left_even : (count number : ℕ) → number < count → number % 2 ≡ 0 → left_from count number ≡ (count - number + 1) / 2 + count / 2
left_even count number lt even =
    let before = ne_eqb number count (λ is. omega (arith, is, lt)) in
    let kind = eq-eqb (number % 2) 0 even in
    λ i. by_kind (before i) (kind i) ((count - number + 1) / 2) (count / 2)

left_odd : (count number : ℕ) → number < count → number % 2 ≡ 1 → left_from count number ≡ (count - number + 1) / 2
left_odd count number lt odd =
    let before = ne_eqb number count (λ is. omega (arith, is, lt)) in
    let kind = ne_eqb (number % 2) 0 (λ is. omega (arith, is, odd)) in
    λ i. by_kind (before i) (kind i) ((count - number + 1) / 2) (count / 2)

pub left_all : (count : ℕ) → left_from count 0 ≡ count
left_all count =
    elim (cases_lt 0 count) [
      | inl lt ↦ left_even count 0 lt refl ∙ omega arith
      | inr none ↦ left_end count 0 (omega (arith, none)) ∙ omega (arith, none)
    ]

-- a block before the end is even or odd, and has some left
halves : (number : ℕ) → (number % 2 ≡ 0) ⊎ (number % 2 ≡ 1)
halves number = elim (cases_eq (number % 2) 0) [
  | inl even ↦ inl even
  | inr odd ↦ inr (omega (arith, odd))
]

pub none_left : (count number : ℕ) → number ≤ count → left_from count number ≡ 0 → number ≡ count
none_left count number le none =
    elim (cases_lt number count) [
      | inr ge ↦ omega (arith, le, ge)
      | inl lt ↦ elim (halves number) [
        | inl even ↦ absurd (omega (arith, none, left_even count number lt even, lt))
        | inr odd ↦ absurd (omega (arith, none, left_odd count number lt odd, lt))
      ]
    ]

pub some_left : (count number left : ℕ) → left_from count number ≡ suc left → number ≤ count → number < count
some_left count number left some le =
    elim (cases_lt number count) [
      | inl lt ↦ lt
      | inr ge ↦ absurd (omega (arith, some, left_end count number (omega (arith, le, ge))))
    ]

-- the block behind one
further : (count number : ℕ) → number + 2 < count → successor count number ≡ number + 2
further count number lt = rw (lt-ltb (number + 2) count lt) refl

back : (count number : ℕ) → count ≤ number + 2 → number % 2 ≡ 0 → 1 < count → successor count number ≡ 1
back count number ge even some = rw (le-ltb (number + 2) count ge, eq-eqb (number % 2) 0 even, lt-ltb 1 count some) refl

odd_end : (count number : ℕ) → count ≤ number + 2 → number % 2 ≡ 1 → successor count number ≡ count
odd_end count number ge odd = rw (le-ltb (number + 2) count ge, ne_eqb (number % 2) 0 (λ is. omega (arith, is, odd))) refl

only_end : (count number : ℕ) → count ≤ number + 2 → number % 2 ≡ 0 → count ≤ 1 → successor count number ≡ count
only_end count number ge even few = rw (le-ltb (number + 2) count ge, eq-eqb (number % 2) 0 even, le-ltb 1 count few) refl

pub one_less : (count number left : ℕ) → number < count → left_from count number ≡ suc left → left_from count (successor count number) ≡ left
one_less count number left lt some =
    elim (halves number) [
      | inl even ↦
          let before = left_even count number lt even in
          elim (cases_lt (number + 2) count) [
            | inl more ↦ ap (left_from count) (further count number more) ∙ left_even count (number + 2) more (omega (arith, even))
                ∙ omega (arith, some, before, more)
            | inr ge ↦ elim (cases_lt 1 count) [
              | inl two ↦ ap (left_from count) (back count number ge even two) ∙ left_odd count 1 two refl ∙ omega (arith, some, before, ge, lt, two)
              | inr few ↦ ap (left_from count) (only_end count number ge even few) ∙ left_end count count refl ∙ omega (arith, some, before, few, lt)
            ]
          ]
      | inr odd ↦
          let before = left_odd count number lt odd in
          elim (cases_lt (number + 2) count) [
            | inl more ↦ ap (left_from count) (further count number more) ∙ left_odd count (number + 2) more (omega (arith, odd))
                ∙ omega (arith, some, before, more)
            | inr ge ↦ ap (left_from count) (odd_end count number ge odd) ∙ left_end count count refl ∙ omega (arith, some, before, ge, lt)
          ]
    ]
