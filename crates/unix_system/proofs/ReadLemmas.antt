-- Bytes of a memory read one after the other, and bytes put one after the other.
use Rattle.std.proofs.Common.{◌≡◌, ℕ, zero, suc, ◌+◌, ◌-◌, ◌<◌, ◌≤◌, List, [], ◌∷◌, ◌++◌, length, take, drop, Option, Some, None, option_map, refl, ap, sym, ◌∙◌, arith, append-nil}
use Rattle.std.specs.Option.{IsSome}
use Rattle.std.proofs.lemmas.Bool.{false≢true}
use Rattle.run_definition.specs.Memory.{Memory, bytes_from, patched}
use Rattle.run_definition.specs.Question.{unreadable, bytes}
use Rattle.unix_definition.specs.Asked.{bytes_of_text}

-- some bytes before others that may be missing
abbrev pub behind : List ℕ → Option (List ℕ) → Option (List ℕ)
behind [] o = o
behind (x ∷ xs) o = option_map (λ bs. x ∷ bs) (behind xs o)

pub behind-more : (xs : List ℕ) (b : ℕ) (o : Option (List ℕ)) → behind (xs ++ b ∷ []) o ≡ behind xs (option_map (λ bs. b ∷ bs) o)
behind-more [] b o = refl
behind-more (x ∷ xs) b o = ap (option_map (λ bs. x ∷ bs)) (behind-more xs b o)

pub behind-none : (xs : List ℕ) → behind xs None ≡ None
behind-none [] = refl
behind-none (x ∷ xs) = ap (option_map (λ bs. x ∷ bs)) (behind-none xs)

pub behind-all : (xs ys : List ℕ) → behind xs (Some ys) ≡ Some (xs ++ ys)
behind-all [] ys = refl
behind-all (x ∷ xs) ys = ap (option_map (λ bs. x ∷ bs)) (behind-all xs ys)

from-next : (m : Memory) (a n : ℕ) → 0 < n → bytes_from m a n ≡ (elim (m.byte a) [ None ↦ None | Some b ↦ option_map (λ bs. b ∷ bs) (bytes_from m (a + 1) (n - 1)) ])
from-next m a zero some = absurd (omega arith)
from-next m a (suc n) some = let e : n ≡ suc n - 1 = omega arith in ap (λ k. elim (m.byte a) [ None ↦ None | Some b ↦ option_map (λ bs. b ∷ bs) (bytes_from m (a + 1) k) ]) e

pub from-none : (m : Memory) (a n : ℕ) → 0 < n → None ≡ m.byte a → bytes_from m a n ≡ None
from-none m a n some is = from-next m a n some ∙ ap (λ o. elim o [ None ↦ None | Some b ↦ option_map (λ bs. b ∷ bs) (bytes_from m (a + 1) (n - 1)) ]) (sym is)

pub from-more : (m : Memory) (a n b : ℕ) → 0 < n → Some b ≡ m.byte a → bytes_from m a n ≡ option_map (λ bs. b ∷ bs) (bytes_from m (a + 1) (n - 1))
from-more m a n b some is = from-next m a n some ∙ ap (λ o. elim o [ None ↦ None | Some x ↦ option_map (λ bs. x ∷ bs) (bytes_from m (a + 1) (n - 1)) ]) (sym is)

-- A walk over addresses that are read: it has read some bytes.
pub record Reads (m : Memory) (at n i : ℕ) (xs : List ℕ) : Type 0 where
  pub so_far : bytes_from m at n ≡ behind xs (bytes_from m (at + i) (n - i))

pub Reads-start : (m : Memory) (at n : ℕ) → Reads m at n 0 []
Reads-start m at n = let a : at ≡ at + 0 = omega arith in let k : n ≡ n - 0 = omega arith in record { so_far = ap (λ x. bytes_from m x n) a ∙ ap (bytes_from m (at + 0)) k }

pub Reads-none : (m : Memory) (at n i : ℕ) (xs : List ℕ) → Reads m at n i xs → i < n → None ≡ m.byte (at + i) → bytes_from m at n ≡ None
Reads-none m at n i xs w less is = w.so_far ∙ (ap (behind xs) (from-none m (at + i) (n - i) (omega arith) is) ∙ behind-none xs)

pub Reads-more : (m : Memory) (at n i : ℕ) (xs : List ℕ) (b : ℕ) → Reads m at n i xs → i < n → Some b ≡ m.byte (at + i) → Reads m at n (i + 1) (xs ++ b ∷ [])
Reads-more m at n i xs b w less is =
    let a : at + i + 1 ≡ at + (i + 1) = omega arith in
    let k : n - i - 1 ≡ n - (i + 1) = omega arith in
    record {
      so_far = w.so_far
          ∙ (ap (behind xs) (from-more m (at + i) (n - i) b (omega arith) is)
          ∙ (sym (behind-more xs b (bytes_from m (at + i + 1) (n - i - 1))) ∙ (ap (λ x. behind (xs ++ b ∷ []) (bytes_from m x (n - i - 1))) a ∙ ap (λ x. behind (xs ++ b ∷ []) (bytes_from m (at + (i + 1)) x)) k)));
    }

pub Reads-all : (m : Memory) (at n i : ℕ) (xs : List ℕ) → Reads m at n i xs → n ≤ i → bytes_from m at n ≡ Some xs
Reads-all m at n i xs w le =
    let z : n - i ≡ 0 = omega arith in
    w.so_far ∙ (ap (λ k. behind xs (bytes_from m (at + i) k)) z ∙ (behind-all xs [] ∙ ap Some (append-nil xs)))

-- bytes put, and one more behind them
pub patched-more : {C : Type 0} (put_at : C → ℕ → ℕ → C) (c : C) (a : ℕ) (xs : List ℕ) (b : ℕ) → patched put_at c a (xs ++ b ∷ []) ≡ put_at (patched put_at c a xs) (a + length xs) b
patched-more put_at c a [] b = let e : a ≡ a + 0 = omega arith in ap (λ x. put_at c x b) e
patched-more put_at c a (x ∷ xs) b =
    let e : a + 1 + length xs ≡ a + suc (length xs) = omega arith in
    patched-more put_at (put_at c a x) (a + 1) xs b ∙ ap (λ k. put_at (patched put_at (put_at c a x) (a + 1) xs) k b) e

-- a part of bytes that are read
record Parts (o : Option ℕ) (p : Option (List ℕ)) (bs : List ℕ) : Type 0 where
  first : ℕ
  rest : List ℕ
  first-is : o ≡ Some first
  rest-is : p ≡ Some rest
  all : bs ≡ first ∷ rest

parts : (o : Option ℕ) (p : Option (List ℕ)) (bs : List ℕ) → (elim o [ None ↦ None | Some b ↦ option_map (λ xs. b ∷ xs) p ]) ≡ Some bs → Parts o p bs
parts None p bs h = cc
parts (Some b) None bs h = cc
parts (Some b) (Some rest) bs h = let e : bs ≡ b ∷ rest = cc in record { first = b; rest = rest; first-is = refl; rest-is = refl; all = e }

pub from-front : (m : Memory) (a k r : ℕ) (bs : List ℕ) → bytes_from m a (k + r) ≡ Some bs → bytes_from m a k ≡ Some (take k bs)
from-front m a zero r bs h = refl
from-front m a (suc k) r bs h =
    let e : suc k + r ≡ suc (k + r) = omega arith in
    let p : Parts (m.byte a) (bytes_from m (a + 1) (k + r)) bs = parts (m.byte a) (bytes_from m (a + 1) (k + r)) bs (ap (bytes_from m a) (sym e) ∙ h) in
    let front : bytes_from m (a + 1) k ≡ Some (take k p.rest) = from-front m (a + 1) k r p.rest p.rest-is in
    ap (λ o. elim o [ None ↦ None | Some b ↦ option_map (λ xs. b ∷ xs) (bytes_from m (a + 1) k) ]) p.first-is
    ∙ (ap (λ o. option_map (λ xs. p.first ∷ xs) o) front ∙ ap (λ l. Some (take (suc k) l)) (sym p.all))

pub from-back : (m : Memory) (a k r : ℕ) (bs : List ℕ) → bytes_from m a (k + r) ≡ Some bs → bytes_from m (a + k) r ≡ Some (drop k bs)
from-back m a zero r bs h =
    let e : zero + r ≡ r = omega arith in
    let f : a + 0 ≡ a = omega arith in
    ap (λ x. bytes_from m x r) f ∙ (ap (bytes_from m a) (sym e) ∙ h)
from-back m a (suc k) r bs h =
    let e : suc k + r ≡ suc (k + r) = omega arith in
    let f : a + suc k ≡ a + 1 + k = omega arith in
    let p : Parts (m.byte a) (bytes_from m (a + 1) (k + r)) bs = parts (m.byte a) (bytes_from m (a + 1) (k + r)) bs (ap (bytes_from m a) (sym e) ∙ h) in
    ap (λ x. bytes_from m x r) f ∙ (from-back m (a + 1) k r p.rest p.rest-is ∙ ap (λ l. Some (drop (suc k) l)) (sym p.all))

-- n bytes from place i of bytes that are read
pub from-part : (m : Memory) (a n i k : ℕ) (bs : List ℕ) → i + k ≤ n → bytes_from m a n ≡ Some bs → bytes_from m (a + i) k ≡ Some (take k (drop i bs))
from-part m a n i k bs le h =
    let e : i + (n - i) ≡ n = omega arith in
    let f : k + (n - i - k) ≡ n - i = omega arith in
    let back : bytes_from m (a + i) (n - i) ≡ Some (drop i bs) = from-back m a i (n - i) bs (ap (bytes_from m a) e ∙ h) in
    from-front m (a + i) k (n - i - k) (drop i bs) (ap (bytes_from m (a + i)) f ∙ back)

pub length-bytes_from : (m : Memory) (a n : ℕ) (bs : List ℕ) → bytes_from m a n ≡ Some bs → length bs ≡ n
length-bytes_from m a zero bs h = let e : bs ≡ [] = cc in ap length e
length-bytes_from m a (suc n) bs h =
    let p : Parts (m.byte a) (bytes_from m (a + 1) n) bs = parts (m.byte a) (bytes_from m (a + 1) n) bs h in
    ap length p.all ∙ ap suc (length-bytes_from m (a + 1) n p.rest p.rest-is)

-- bytes that can be read, as the text that they are
pub some-bytes : (o : Option (List ℕ)) → IsSome o → o ≡ Some (bytes_of_text (elim o [ None ↦ unreadable | Some bs ↦ bytes bs ]))
some-bytes None h = absurd (false≢true h)
some-bytes (Some bs) h = refl

pub some-is : (o : Option (List ℕ)) (xs ys : List ℕ) → o ≡ Some xs → o ≡ Some ys → xs ≡ ys
some-is o xs ys p q = cc
