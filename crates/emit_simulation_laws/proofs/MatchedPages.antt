-- A word of a page is changed: the memory that is read through the tables has that word.
use Rattle.std.proofs.Common.{◌≡◌, ℕ, ◌/◌, ◌%◌, ◌^◌, ◌==◌, ◌<◌, nat_lt, Bool, true, false, if◌then◌else◌, ◌⊎◌, inl, inr, Option, Some, None, is_some, option_map, option_and_then, refl, ap, sym, ◌∙◌, arith}
use Rattle.std.proofs.lemmas.Bool.{lt-ltb, eq-eqb, ne_eqb, cases_eq}
use Rattle.run_definition.specs.Words.{lane_of_word}
use Rattle.jvm_definition.specs.Values.{Array, ints, pages, Heap, with_int, set_int}
use Rattle.jvm_definition.specs.HostMemory.{Cell, word_in_array, page_in, byte_of}
use Rattle.emit_layout.specs.FieldNumbers.{page_count}

-- ---- what a table reads at an address

abbrev pub page_at : (ℕ → Option ℕ) → ℕ → Option ℕ
page_at f a = if nat_lt (a / 4096) page_count then f (a / 4096) else None

abbrev pub byte_word : ℕ → Option Array → ℕ → Option ℕ
byte_word q o a = if nat_lt a (2 ^ 32) then option_map (λ (c : Cell). lane_of_word c.word (a % 4)) (option_map (λ w. record { place = q; index = a / 4 % 1024; word = w }) (word_in_array o (a / 4 % 1024))) else None

abbrev pub byte_in : Heap → Option ℕ → ℕ → Option ℕ
byte_in heap None a = if nat_lt a (2 ^ 32) then None else None
byte_in heap (Some q) a = byte_word q (heap.array_at q) a

byte-in-page : (heap : Heap) (a : ℕ) (page : Option ℕ) → (if nat_lt a (2 ^ 32) then option_map (λ (c : Cell). lane_of_word c.word (a % 4)) (option_and_then (λ p. option_map (λ w. record { place = p; index = a / 4 % 1024; word = w }) (word_in_array (heap.array_at p) (a / 4 % 1024))) page) else None) ≡ byte_in heap page a
byte-in-page heap a None = refl
byte-in-page heap a (Some q) = refl

pub byte-by-table : (heap : Heap) (t a : ℕ) (f : ℕ → Option ℕ) → heap.array_at t ≡ Some (pages page_count f) → byte_of heap (Some t) a ≡ byte_in heap (page_at f a) a
byte-by-table heap t a f there =
    byte-in-page heap a (page_in (heap.array_at t) (a / 4096))
    ∙ ap (λ o. byte_in heap (page_in o (a / 4096)) a) there

pub word-read : (q a : ℕ) (words : ℕ → ℕ) → a < 2 ^ 32 → byte_word q (Some (ints 1024 words)) a ≡ Some (lane_of_word (words (a / 4 % 1024)) (a % 4))
word-read q a words below =
    let within : a / 4 % 1024 < 1024 = omega arith in
    simp (lt-ltb a (2 ^ 32) below, lt-ltb (a / 4 % 1024) 1024 within) refl

-- ---- one word changed

pub record Changed (old new : Option ℕ) (here : Bool) (x : ℕ) : Type 0 where
  pub byte : new ≡ (if here then Some x else old)
  pub still : is_some new ≡ is_some old

unchanged : (old new : Option ℕ) (here : Bool) (x : ℕ) → here ≡ false → new ≡ old → Changed old new here x
unchanged old new here x e same = record {
  byte = same ∙ sym (ap (λ b. if b then Some x else old) e);
  still = ap is_some same;
}

-- a word of the page at hand, by whether it is the changed one
in-page : (w v lane : ℕ) (same here : Bool) → same ≡ here → Some (lane_of_word (if same then v else w) lane) ≡ (if here then Some (lane_of_word v lane) else Some (lane_of_word w lane))
in-page w v lane same true e = ap (λ b. Some (lane_of_word (if b then v else w) lane)) e
in-page w v lane same false e = ap (λ b. Some (lane_of_word (if b then v else w) lane)) e

same-index : (a k : ℕ) → a / 4096 ≡ k / 1024 → (a / 4 % 1024 == k % 1024) ≡ (a / 4 == k)
same-index a k page = by_cases (cases_eq (a / 4) k)
  where
    by_cases : (a / 4 ≡ k) ⊎ (a / 4 ≡ k → ⊥) → (a / 4 % 1024 == k % 1024) ≡ (a / 4 == k)
    by_cases (inl e) = eq-eqb (a / 4 % 1024) (k % 1024) (ap (λ n. n % 1024) e) ∙ sym (eq-eqb (a / 4) k e)
    by_cases (inr ne) =
        ne_eqb (a / 4 % 1024) (k % 1024) (λ e. ne (omega arith))
        ∙ sym (ne_eqb (a / 4) k ne)

pub changed-page : (heap : Heap) (p k v a : ℕ) (words : ℕ → ℕ) → heap.array_at p ≡ Some (ints 1024 words) → k / 1024 < page_count → (page : Option ℕ) → (page ≡ Some p → a / 4096 ≡ k / 1024) → (a / 4 ≡ k → page ≡ Some p) → Changed (byte_in heap page a) (byte_in (with_int heap p (k % 1024) v) page a) (a / 4 == k) (lane_of_word v (a % 4))
changed-page heap p k v a words there within None apart here =
    unchanged (byte_in heap None a) (byte_in heap None a) (a / 4 == k) (lane_of_word v (a % 4)) (ne_eqb (a / 4) k (λ e. none_there (here e))) refl
  where
    none_there : None ≡ Some p → ⊥
    none_there e = cc
changed-page heap p k v a words there within (Some q) apart here = by_cases (cases_eq q p)
  where
    old : Option ℕ
    old = byte_in heap (Some q) a

    new : Option ℕ
    new = byte_in (with_int heap p (k % 1024) v) (Some q) a

    at_page : q ≡ p → (new ≡ Some (lane_of_word (if a / 4 % 1024 == k % 1024 then v else words (a / 4 % 1024)) (a % 4))) × (old ≡ Some (lane_of_word (words (a / 4 % 1024)) (a % 4)))
    at_page e =
        let same_page : a / 4096 ≡ k / 1024 = apart (ap Some e) in
        let below : a < 2 ^ 32 = omega arith in
        let array : heap.array_at q ≡ Some (ints 1024 words) = ap heap.array_at e ∙ there in (
          ap (λ b. byte_word q (if b then set_int (heap.array_at q) (k % 1024) v else heap.array_at q) a) (eq-eqb q p e)
              ∙ ap (λ o. byte_word q (set_int o (k % 1024) v) a) array
              ∙ word-read q a (λ j. if j == k % 1024 then v else words j) below,
          ap (λ o. byte_word q o a) array ∙ word-read q a words below,
        )

    by_cases : (q ≡ p) ⊎ (q ≡ p → ⊥) → Changed old new (a / 4 == k) (lane_of_word v (a % 4))
    by_cases (inl e) = record {
      byte = (at_page e).0
          ∙ in-page (words (a / 4 % 1024)) v (a % 4) (a / 4 % 1024 == k % 1024) (a / 4 == k) (same-index a k (apart (ap Some e)))
          ∙ ap (λ o. if a / 4 == k then Some (lane_of_word v (a % 4)) else o) (sym (at_page e).1);
      still = ap is_some (at_page e).0 ∙ sym (ap is_some (at_page e).1);
    }
    by_cases (inr ne) =
        unchanged old new (a / 4 == k) (lane_of_word v (a % 4)) (ne_eqb (a / 4) k (λ e. ne (some_same (here e))))
        (ap (λ b. byte_word q (if b then set_int (heap.array_at q) (k % 1024) v else heap.array_at q) a) (ne_eqb q p ne))
      where
        some_same : Some q ≡ Some p → q ≡ p
        some_same e = cc
