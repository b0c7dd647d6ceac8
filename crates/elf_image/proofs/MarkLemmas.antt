-- Marks of pages, made one page and one segment more at a time.
use Rattle.std.proofs.Common.{◌≡◌, ℕ, zero, suc, ◌+◌, ◌*◌, ◌/◌, ◌<◌, ◌≤◌, Bool, true, false, ◌&&◌, ◌||◌, ◌==◌, nat_lt, cond, max, min, List, [], ◌∷◌, ◌++◌, length, get_or, take, drop, set, replicate, refl, sym, ap, ◌∙◌, ◌⊎◌, inl, inr, arith, length-append}
use Rattle.std.specs.List.{list_any}
use Rattle.std.proofs.Math.ListN.{get_or-append}
use Rattle.std.proofs.Math.Seq.{get_or-append_seam, take-append_seam}
use Rattle.std.proofs.lemmas.List.{get_or-set_same, get_or-set_other, get_or-replicate, take_all}
use Rattle.std.proofs.lemmas.List.Folds.{list_any_more}
use Rattle.std.proofs.lemmas.Bool.{cases_Bool, cases_lt, cases_eq, and_right, or_right}
use Rattle.std.proofs.lemmas.Bool.Decides.{nat_tests}
use Rattle.elf_definition.specs.declared.segment.Segment.{Segment}
use Rattle.elf_definition.specs.Segments.{segment_end}
use Rattle.elf_definition.specs.Pages.{is_on_page, count_below}
use Rattle.elf_image.specs.PageTable.{marked, number_of}

-- pages before the first one are not marked
pub or_first : (a t : Bool) (p first : ℕ) → (p < first → t ≡ false) → a ≡ (a || (t && nat_lt p first))
or_first true t p first out = refl
or_first false t p first out =
    elim (cases_lt p first) [
      | inl lt ↦ rw (out lt) refl
      | inr ge ↦ let off : nat_lt p first ≡ false = grind (arith, nat_tests) in rw off (sym (and_right t false refl))
    ]

before : (old tp tq : Bool) → ((old || (tp && true)) || (tq && false)) ≡ (old || (tp && true))
before true true tq = refl
before true false tq = refl
before false true tq = refl
before false false true = refl
before false false false = refl

here : (old tq : Bool) → ((old || (tq && false)) || (tq && true)) ≡ (old || (tq && true))
here true tq = refl
here false true = refl
here false false = refl

after : (old tp tq : Bool) → ((old || (tp && false)) || (tq && false)) ≡ (old || (tp && false))
after true tp tq = refl
after false true true = refl
after false true false = refl
after false false true = refl
after false false false = refl

-- one page more
pub or_step : (new now old tp tq : Bool) (p page : ℕ) → new ≡ (now || (tq && p == page)) → now ≡ (old || (tp && nat_lt p page)) → (p ≡ page → tp ≡ tq)
    → new ≡ (old || (tp && nat_lt p (page + 1)))
or_step new now old tp tq p page made was same =
    made ∙ ap (λ b. b || (tq && p == page)) was ∙
    elim (cases_lt p page) [
      | inl lt ↦
          let a : nat_lt p page ≡ true = grind (arith, nat_tests) in
          let b : nat_lt p (page + 1) ≡ true = grind (arith, nat_tests) in
          let c : (p == page) ≡ false = grind (arith, nat_tests) in
          rw a (rw b (rw c (before old tp tq)))
      | inr ge ↦ elim (cases_eq p page) [
        | inl eq ↦
            let a : nat_lt p page ≡ false = grind (arith, nat_tests) in
            let b : nat_lt p (page + 1) ≡ true = grind (arith, nat_tests) in
            let c : (p == page) ≡ true = grind (arith, nat_tests) in
            rw a (rw b (rw c (rw (same eq) (here old tq))))
        | inr ne ↦
            let a : nat_lt p page ≡ false = grind (arith, nat_tests) in
            let b : nat_lt p (page + 1) ≡ false = grind (arith, nat_tests) in
            let c : (p == page) ≡ false = grind (arith, nat_tests) in
            rw a (rw b (rw c (after old tp tq)))
      ]
    ]

all_true : (old t : Bool) → (old || (t && true)) ≡ (old || t)
all_true true t = refl
all_true false true = refl
all_true false false = refl

-- pages behind the last one are not marked
pub or_done : (now old t : Bool) (p page : ℕ) → now ≡ (old || (t && nat_lt p page)) → (page ≤ p → t ≡ false) → now ≡ (old || t)
or_done now old t p page was out =
    was ∙
    elim (cases_lt p page) [
      | inl lt ↦ let on : nat_lt p page ≡ true = grind (arith, nat_tests) in rw on (all_true old t)
      | inr ge ↦ rw (out ge) refl
    ]

or_no : (b : Bool) → (b || false) ≡ b
or_no true = refl
or_no false = refl

-- one mark is set
pub mark_set : (marks : List Bool) (on : Bool) (page p : ℕ) → page < length marks → on ≡ true → marked (set marks page true) p ≡ (marked marks p || (on && p == page))
mark_set marks on page p within is =
    rw is (elim (cases_eq p page) [
      | inl eq ↦
          let c : (p == page) ≡ true = grind (arith, nat_tests) in
          rw c (ap (λ i. marked (set marks page true) i) eq ∙ get_or-set_same marks page true false within ∙ sym (or_right (marked marks p) true refl))
      | inr ne ↦
          let c : (p == page) ≡ false = grind (arith, nat_tests) in
          rw c (get_or-set_other marks page p true false ne ∙ sym (or_no (marked marks p)))
    ])

pub mark_kept : (marks : List Bool) (on : Bool) (page p : ℕ) → on ≡ false → marked marks p ≡ (marked marks p || (on && p == page))
mark_kept marks on page p off = rw off (sym (or_no (marked marks p)))

-- no mark of none
pub none_marked : (n p : ℕ) → marked (replicate n false) p ≡ false
none_marked n p =
    elim (cases_lt p n) [
      | inl lt ↦ get_or-replicate n p false false lt
      | inr ge ↦ past n p ge
    ]
  where
    past : (n p : ℕ) → n ≤ p → get_or (replicate n false) p false ≡ false
    past zero p ge = refl
    past (suc n) zero ge = absurd (omega (arith, ge))
    past (suc n) (suc p) ge = past n p (omega (arith, ge))

-- one segment more
pub any_step : {X : Type 0} (test : X → Bool) (xs : List X) (i : ℕ) (d : X) (new now : Bool) → i < length xs → new ≡ (now || test (get_or xs i d))
    → now ≡ list_any test (take i xs) → new ≡ list_any test (take (i + 1) xs)
any_step test xs i d new now within made was =
    made ∙ ap (λ b. b || test (get_or xs i d)) was ∙ sym (list_any_more test xs i d within)

pub any_done : {X : Type 0} (test : X → Bool) (xs : List X) (i : ℕ) (now : Bool) → length xs ≤ i → now ≡ list_any test (take i xs) → now ≡ list_any test xs
any_done test xs i now past was = was ∙ ap (list_any test) (take_all i xs past)

low : (p v m : ℕ) → p < v / 4096 → nat_lt (max v (4096 * p)) (min (v + m) (4096 * p + 4096)) ≡ false
low p v m lt = grind (arith, nat_tests)

high : (p v m : ℕ) → (v + m + 4095) / 4096 ≤ p → nat_lt (max v (4096 * p)) (min (v + m) (4096 * p + 4096)) ≡ false
high p v m ge = grind (arith, nat_tests)

pub before_segment : (p : ℕ) (s : Segment) → p < s.vaddr / 4096 → is_on_page p s ≡ false
before_segment p s lt = low p s.vaddr s.memsz lt

pub behind_segment : (p : ℕ) (s : Segment) → (segment_end s + 4095) / 4096 ≤ p → is_on_page p s ≡ false
behind_segment p s ge = high p s.vaddr s.memsz ge

-- numbers of marked pages
pub past_list : {X : Type 0} (xs : List X) (p : ℕ) (d : X) → length xs ≤ p → get_or xs p d ≡ d
past_list [] p d past = refl
past_list (x ∷ xs) zero d past = absurd (omega (arith, past))
past_list (x ∷ xs) (suc p) d past = past_list xs p d (omega (arith, past))

pub number_on : (test : ℕ → Bool) (page count : ℕ) → test page ≡ true → count ≡ count_below test page → count + 1 ≡ number_of test page
number_on test page count on is = rw on (ap (λ n. n + 1) is)

pub number_off : (test : ℕ → Bool) (page : ℕ) → test page ≡ false → 0 ≡ number_of test page
number_off test page off = rw off refl

split : (a p : ℕ) → a < p + 1 → (a < p) ⊎ (a ≡ p)
split a p h = grind arith

pub number_more : (numbers numbers' : List ℕ) (test : ℕ → Bool) (x page : ℕ) → length numbers ≡ page → numbers' ≡ numbers ++ x ∷ []
    → x ≡ number_of test page
    → ((p : ℕ) → p < page → get_or numbers p 0 ≡ number_of test p)
    → (p : ℕ) → p < page + 1 → get_or numbers' p 0 ≡ number_of test p
number_more numbers numbers' test x page size pushed is was p below =
    ap (λ ns. get_or ns p 0) pushed ∙
    elim (split p page below) [
      | inl lt ↦ get_or-append numbers (x ∷ []) 0 p (omega (arith, lt, size)) ∙ was p lt
      | inr same ↦ ap (λ i. get_or (numbers ++ x ∷ []) i 0) (same ∙ sym size) ∙ get_or-append_seam numbers x [] 0 ∙ is ∙ ap (number_of test) (sym same)
    ]

pub number_done : (numbers : List ℕ) (marks : List Bool) (page : ℕ) → length numbers ≡ page → length marks ≤ page
    → ((p : ℕ) → p < page → get_or numbers p 0 ≡ number_of (marked marks) p)
    → (p : ℕ) → get_or numbers p 0 ≡ number_of (marked marks) p
number_done numbers marks page size past was p =
    elim (cases_lt p page) [
      | inl lt ↦ was p lt
      | inr ge ↦ past_list numbers p 0 (omega (arith, ge, size)) ∙ number_off (marked marks) p (past_list marks p false (omega (arith, ge, past)))
    ]

-- a page that passes is counted
pub counted : (test : ℕ → Bool) (p n : ℕ) → test p ≡ true → p < n → count_below test p + 1 ≤ count_below test n
unfolding count_below
counted test p zero on lt = absurd (omega (arith, lt))
counted test p (suc n) on lt =
    elim (split p n (omega (arith, lt))) [
      | inl less ↦ let more = counted test p n on less in omega (arith, more)
      | inr same ↦ let more : ◌≡◌ {A = ℕ} (cond (test n) 1 0) 1 = rw (← same) (rw on refl) in let first : count_below test p ≡ count_below test n = ap (count_below test) same in omega (arith, more, first)
    ]

number_cases : (test : ℕ → Bool) (p : ℕ) → (number_of test p ≡ 0 → ⊥) → test p ≡ true
number_cases test p some =
    elim (cases_Bool (test p)) [
      | inl on ↦ on
      | inr off ↦ absurd (some (sym (number_off test p off)))
    ]

number_is : (test : ℕ → Bool) (p : ℕ) → test p ≡ true → number_of test p ≡ count_below test p + 1
number_is test p on = rw on refl

-- no two pages have one number
pub number_distinct : (test : ℕ → Bool) (p q : ℕ) → number_of test p ≡ number_of test q → (number_of test p ≡ 0 → ⊥) → p ≡ q
number_distinct test p q same some =
    let on = number_cases test p some in
    let on' = number_cases test q (λ none. some (same ∙ none)) in
    let a = number_is test p on in
    let b = number_is test q on' in
    elim (cases_lt p q) [
      | inl lt ↦ absurd (let more = counted test p q on lt in omega (arith, a, b, same, more))
      | inr ge ↦ elim (cases_lt q p) [
        | inl lt ↦ absurd (let more = counted test q p on' lt in omega (arith, a, b, same, more))
        | inr le ↦ omega (arith, ge, le)
      ]
    ]

-- a number is at most the count of all
pub number_within : (marks : List Bool) (p n : ℕ) → length marks ≤ n → number_of (marked marks) p ≤ count_below (marked marks) n
number_within marks p n past =
    elim (cases_Bool (marked marks p)) [
      | inl on ↦ elim (cases_lt p n) [
        | inl lt ↦ let more = counted (marked marks) p n on lt in let is = number_is (marked marks) p on in omega (arith, more, is)
        | inr ge ↦ absurd (let off = past_list marks p false (omega (arith, ge, past)) in cc)
      ]
      | inr off ↦ let is = number_off (marked marks) p off in omega (arith, is)
    ]

-- equal tests count the same
pub count_same_tests : (f g : ℕ → Bool) (n : ℕ) → ((p : ℕ) → f p ≡ g p) → count_below f n ≡ count_below g n
unfolding count_below
count_same_tests f g zero same = refl
count_same_tests f g (suc n) same = rw (same n) (ap (λ c. c + cond (g n) 1 0) (count_same_tests f g n same))

-- a list that was lent is written back whole
pub written_back : {X : Type 0} (n : ℕ) (new old lent items : List X) → n ≡ length items → lent ≡ items → length new ≡ length lent → take n (new ++ drop (length new) old) ≡ new
written_back n new old lent items is same len =
    let size : n ≡ length new = is ∙ sym (ap length same) ∙ sym len in
    ap (λ m. take m (new ++ drop (length new) old)) size ∙ take-append_seam new (drop (length new) old)

pub pushed_length : (xs ys : List ℕ) (x n : ℕ) → length xs ≡ n → ys ≡ xs ++ x ∷ [] → length ys ≡ n + 1
pushed_length xs ys x n was pushed = omega (arith, length-append {A = ℕ}, ap length pushed, was)
