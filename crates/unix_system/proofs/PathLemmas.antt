-- A path read byte by byte.
use Rattle.std.proofs.Common.{◌≡◌, ℕ, zero, suc, ◌+◌, ◌-◌, ◌<◌, ◌≤◌, ◌==◌, false, List, [], ◌∷◌, ◌++◌, Some, None, refl, ap, sym, ◌∙◌, arith, if◌then◌else◌}
use Rattle.run_definition.specs.Memory.{Memory}
use Rattle.run_definition.specs.Question.{AskedText, unreadable, too_long, bytes, after_byte, text_to_zero}

-- some bytes before a text
abbrev pub before : List ℕ → AskedText → AskedText
before [] t = t
before (x ∷ xs) t = after_byte x (before xs t)

pub before-more : (xs : List ℕ) (b : ℕ) (t : AskedText) → before (xs ++ b ∷ []) t ≡ before xs (after_byte b t)
before-more [] b t = refl
before-more (x ∷ xs) b t = ap (after_byte x) (before-more xs b t)

pub before-unreadable : (xs : List ℕ) → before xs unreadable ≡ unreadable
before-unreadable [] = refl
before-unreadable (x ∷ xs) = ap (after_byte x) (before-unreadable xs)

pub before-too_long : (xs : List ℕ) → before xs too_long ≡ too_long
before-too_long [] = refl
before-too_long (x ∷ xs) = ap (after_byte x) (before-too_long xs)

pub before-bytes : (xs : List ℕ) → before xs (bytes []) ≡ bytes xs
before-bytes [] = refl
before-bytes (x ∷ xs) = ap (after_byte x) (before-bytes xs)

text-next : (m : Memory) (a n : ℕ) → 0 < n → text_to_zero m a n ≡ (elim (m.byte a) [ None ↦ unreadable | Some b ↦ if b == 0 then bytes [] else after_byte b (text_to_zero m (a + 1) (n - 1)) ])
text-next m a zero some = absurd (omega arith)
text-next m a (suc n) some = let e : suc n - 1 ≡ n = omega arith in ap (λ k. elim (m.byte a) [ None ↦ unreadable | Some b ↦ if b == 0 then bytes [] else after_byte b (text_to_zero m (a + 1) k) ]) (sym e)

pub text-none : (m : Memory) (a n : ℕ) → 0 < n → None ≡ m.byte a → text_to_zero m a n ≡ unreadable
text-none m a n some is = text-next m a n some ∙ ap (λ o. elim o [ None ↦ unreadable | Some b ↦ if b == 0 then bytes [] else after_byte b (text_to_zero m (a + 1) (n - 1)) ]) (sym is)

pub text-end : (m : Memory) (a n : ℕ) → 0 < n → Some 0 ≡ m.byte a → text_to_zero m a n ≡ bytes []
text-end m a n some is = text-next m a n some ∙ ap (λ o. elim o [ None ↦ unreadable | Some b ↦ if b == 0 then bytes [] else after_byte b (text_to_zero m (a + 1) (n - 1)) ]) (sym is)

pub text-more : (m : Memory) (a n b : ℕ) → 0 < n → Some b ≡ m.byte a → (b == 0) ≡ false → text_to_zero m a n ≡ after_byte b (text_to_zero m (a + 1) (n - 1))
text-more m a n b some is other =
    text-next m a n some
    ∙ (ap (λ o. elim o [ None ↦ unreadable | Some x ↦ if x == 0 then bytes [] else after_byte x (text_to_zero m (a + 1) (n - 1)) ]) (sym is)
    ∙ ap (λ t. if t then bytes [] else after_byte b (text_to_zero m (a + 1) (n - 1))) other)

-- A walk along a path: it has read some bytes and stands before a text.
pub record Walks (m : Memory) (at n i : ℕ) (xs : List ℕ) : Type 0 where
  pub so_far : text_to_zero m at n ≡ before xs (text_to_zero m (at + i) (n - i))

pub Walks-start : (m : Memory) (at n : ℕ) → Walks m at n 0 []
Walks-start m at n = let a : at ≡ at + 0 = omega arith in let k : n ≡ n - 0 = omega arith in record { so_far = ap (λ x. text_to_zero m x n) a ∙ ap (text_to_zero m (at + 0)) k }

pub Walks-none : (m : Memory) (at n i : ℕ) (xs : List ℕ) → Walks m at n i xs → i < n → None ≡ m.byte (at + i) → unreadable ≡ text_to_zero m at n
Walks-none m at n i xs w less is = sym (w.so_far ∙ (ap (before xs) (text-none m (at + i) (n - i) (omega arith) is) ∙ before-unreadable xs))

pub Walks-end : (m : Memory) (at n i : ℕ) (xs : List ℕ) → Walks m at n i xs → i < n → Some 0 ≡ m.byte (at + i) → bytes xs ≡ text_to_zero m at n
Walks-end m at n i xs w less is = sym (w.so_far ∙ (ap (before xs) (text-end m (at + i) (n - i) (omega arith) is) ∙ before-bytes xs))

pub Walks-more : (m : Memory) (at n i : ℕ) (xs : List ℕ) (b : ℕ) → Walks m at n i xs → i < n → Some b ≡ m.byte (at + i) → (b == 0) ≡ false → Walks m at n (i + 1) (xs ++ b ∷ [])
Walks-more m at n i xs b w less is other =
    let a : at + i + 1 ≡ at + (i + 1) = omega arith in
    let k : n - i - 1 ≡ n - (i + 1) = omega arith in
    record {
      so_far = w.so_far
          ∙ (ap (before xs) (text-more m (at + i) (n - i) b (omega arith) is other)
          ∙ (sym (before-more xs b (text_to_zero m (at + i + 1) (n - i - 1))) ∙ (ap (λ x. before (xs ++ b ∷ []) (text_to_zero m x (n - i - 1))) a ∙ ap (λ x. before (xs ++ b ∷ []) (text_to_zero m (at + (i + 1)) x)) k)));
    }

pub Walks-long : (m : Memory) (at n i : ℕ) (xs : List ℕ) → Walks m at n i xs → n ≤ i → too_long ≡ text_to_zero m at n
Walks-long m at n i xs w le = let z : n - i ≡ 0 = omega arith in sym (w.so_far ∙ (ap (λ k. before xs (text_to_zero m (at + i) k)) z ∙ before-too_long xs))
