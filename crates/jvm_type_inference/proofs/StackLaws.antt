-- Operands below others, of the same size, and what is taken from them.
use Rattle.std.proofs.Common.{◌≡◌, ℕ, zero, suc, ◌+◌, Bool, true, false, ◌&&◌, not, List, [], ◌∷◌, ◌++◌, length, drop, refl, ap, subst, ◌∙◌, Option, Some, None}
use Rattle.std.specs.Prelude.{option_map, slice_get, if◌then◌else◌}
use Rattle.std.proofs.lemmas.Bool.{and_parts, and_from, false≢true, true≢false}
use Rattle.std.proofs.lemmas.Option.{same_Some}
use Rattle.jvm_definition.specs.declared.kind.Kind.{Kind}
use Rattle.jvm_definition.specs.declared.kind.Kind.TheVariants.{Top, Int, Long, Null, Ints, Pages, Text}
use Rattle.jvm_definition.specs.Shuffles.{Shuffle, fits_longs, picked, item_before, shuffled}
use Rattle.jvm_definition.specs.Typing.{below, stack_below, no_top, slots_of, is_long_kind, taken, taken_one}
use Rattle.jvm_type_inference.specs.Joins.{is_top}
use Rattle.jvm_type_inference.proofs.KindLaws.{below-refl, below-trans, long-below, GoesDown}

-- ---- operands with types

pub no_top-head : (k : Kind) (ks : List Kind) → no_top (k ∷ ks) ≡ true → is_top k ≡ false
no_top-head Top ks h = absurd (false≢true h)
no_top-head Int ks h = refl
no_top-head Long ks h = refl
no_top-head Null ks h = refl
no_top-head Ints ks h = refl
no_top-head Pages ks h = refl
no_top-head Text ks h = refl

pub no_top-tail : (k : Kind) (ks : List Kind) → no_top (k ∷ ks) ≡ true → no_top ks ≡ true
no_top-tail Top ks h = absurd (false≢true h)
no_top-tail Int ks h = h
no_top-tail Long ks h = h
no_top-tail Null ks h = h
no_top-tail Ints ks h = h
no_top-tail Pages ks h = h
no_top-tail Text ks h = h

pub no_top-cons : (k : Kind) (ks : List Kind) → is_top k ≡ false → no_top ks ≡ true → no_top (k ∷ ks) ≡ true
no_top-cons Top ks h e = absurd (true≢false h)
no_top-cons Int ks h e = e
no_top-cons Long ks h e = e
no_top-cons Null ks h e = e
no_top-cons Ints ks h e = e
no_top-cons Pages ks h e = e
no_top-cons Text ks h e = e

-- ---- operands of the same sizes, each below the other

pub data Fits : List Kind → List Kind → Type 0 where
  none : Fits [] []
  one : {k o : Kind} {ks os : List Kind} → below k o ≡ true → is_long_kind k ≡ is_long_kind o → Fits ks os → Fits (k ∷ ks) (o ∷ os)

pub Fits-from : (ks os : List Kind) → stack_below ks os ≡ true → no_top os ≡ true → Fits ks os
Fits-from [] [] h n = none
Fits-from [] (o ∷ os) h n = absurd (false≢true h)
Fits-from (k ∷ ks) [] h n = absurd (false≢true h)
Fits-from (k ∷ ks) (o ∷ os) h n =
    let p = and_parts (below k o) (stack_below ks os) h in
    one p.0 (long-below k o p.0 (no_top-head o os n)) (Fits-from ks os p.1 (no_top-tail o os n))

pub below-from : {ks os : List Kind} → Fits ks os → stack_below ks os ≡ true
below-from none = refl
below-from (one {k = k} {o = o} {ks = ks} {os = os} b l f) = and_from (below k o) (stack_below ks os) b (below-from f)

pub Fits-append : (given : List Kind) {ks os : List Kind} → Fits ks os → Fits (given ++ ks) (given ++ os)
Fits-append [] f = f
Fits-append (g ∷ given) f = one (below-refl g) refl (Fits-append given f)

pub Fits-join : {xs bs ks os : List Kind} → Fits xs bs → Fits ks os → Fits (xs ++ ks) (bs ++ os)
Fits-join none f = f
Fits-join (one b l e) f = one b l (Fits-join e f)

pub Fits-slots : {ks os : List Kind} → Fits ks os → slots_of ks ≡ slots_of os
Fits-slots none = refl
Fits-slots (one {k = k} {o = o} {ks = ks} {os = os} b l f) =
    ap (λ t. (if t then 2 else 1) + slots_of ks) l ∙ ap (λ n. (if is_long_kind o then 2 else 1) + n) (Fits-slots f)

subst-right : {ks os rest : List Kind} → Fits ks os → os ≡ rest → Fits ks rest
subst-right {ks = ks} f e = subst (λ x. Fits ks x) e f

same-some : {A : Type 0} {x y : A} → Some x ≡ Some y → x ≡ y
same-some {x = x} {y = y} h = same_Some x y h

-- ---- what is taken

pub if_some : {A : Type 0} (b : Bool) (x : Option A) (y : A) → (if b then x else None) ≡ Some y → (b ≡ true) × (x ≡ Some y)
if_some true x y h = (refl, h)
if_some false x y h = cc

pub if-true : {A : Type 0} (b : Bool) (x y : A) → b ≡ true → (if b then x else y) ≡ x
if-true true x y h = refl
if-true false x y h = absurd (false≢true h)

pub option_map_some : {A B : Type 0} (f : A → B) (o : Option A) (y : B) → option_map f o ≡ Some y → (x : A) × (o ≡ Some x) × (f x ≡ y)
option_map_some f None y h = cc
option_map_some f (Some x) y h = (x, refl, cc)

abbrev Below : Option (List Kind) → List Kind → Type 0
Below o os = (ks : List Kind) × (o ≡ Some ks) × Fits ks os

pub taken-below : (wanted : List Kind) {ks os : List Kind} (rest : List Kind) → Fits ks os → taken wanted os ≡ Some rest → Below (taken wanted ks) rest
taken-below [] {ks} {os} rest f h = (ks, refl, subst-right f (same-some h))
taken-below (w ∷ wanted) rest none h = cc
taken-below (w ∷ wanted) rest (one {k = k} {o = o} {ks = ks} {os = os} b l f) h =
    let p = if_some (below o w) (taken wanted os) rest h in
    let r = taken-below wanted rest f p.1 in
    (r.0, if-true (below k w) (taken wanted ks) None (below-trans k o w b p.0) ∙ r.1, r.2)

pub taken_one-below : (test : Kind → Bool) {ks os : List Kind} (rest : List Kind) → GoesDown test → Fits ks os → taken_one test os ≡ Some rest → Below (taken_one test ks) rest
taken_one-below test rest down none h = cc
taken_one-below test rest down (one {k = k} {o = o} {ks = ks} {os = os} b l f) h =
    let p = if_some (test o) (Some os) rest h in
    (ks, if-true (test k) (Some ks) None (down k o b p.0), subst-right f (same-some p.1))

-- ---- shuffles

fits_longs-same : (longs : List Bool) {ks os : List Kind} → Fits ks os → fits_longs is_long_kind longs ks ≡ fits_longs is_long_kind longs os
fits_longs-same [] f = refl
fits_longs-same (x ∷ longs) none = refl
fits_longs-same (x ∷ longs) (one {k = k} {o = o} {ks = ks} {os = os} b l f) =
    ap (λ t. (if x then t else not t) && fits_longs is_long_kind longs ks) l
    ∙ ap (λ t. (if x then is_long_kind o else not (is_long_kind o)) && t) (fits_longs-same longs f)

Fits-drop : (n : ℕ) {ks os : List Kind} → Fits ks os → Fits (drop n ks) (drop n os)
Fits-drop zero f = f
Fits-drop (suc n) none = none
Fits-drop (suc n) (one b l f) = Fits-drop n f

Fits-item : (n : ℕ) {ks os xs bs : List Kind} → Fits ks os → Fits xs bs → Fits (item_before (slice_get ks n) xs) (item_before (slice_get os n) bs)
Fits-item n none e = e
Fits-item zero (one b l f) e = one b l e
Fits-item (suc n) (one b l f) e = Fits-item n f e

Fits-picked : (ns : List ℕ) {ks os : List Kind} → Fits ks os → Fits (picked ns ks) (picked ns os)
Fits-picked [] f = none
Fits-picked (n ∷ ns) f = Fits-item n f (Fits-picked ns f)

shuffled-step : (b c : Bool) (rest xs bs : List Kind) (o p : Option (List Kind)) → b ≡ c → Fits xs bs → (p ≡ Some rest → Below o rest) → (if c then Some bs else p) ≡ Some rest → Below (if b then Some xs else o) rest
shuffled-step true true rest xs bs o p e f next h = (xs, refl, subst-right f (same-some h))
shuffled-step true false rest xs bs o p e f next h = absurd (true≢false e)
shuffled-step false true rest xs bs o p e f next h = absurd (false≢true e)
shuffled-step false false rest xs bs o p e f next h = next h

pub shuffled-below : (forms : List Shuffle) {ks os : List Kind} (rest : List Kind) → Fits ks os → shuffled is_long_kind forms os ≡ Some rest → Below (shuffled is_long_kind forms ks) rest
shuffled-below [] rest f h = cc
shuffled-below (form ∷ forms) {ks} {os} rest f h =
    shuffled-step (fits_longs is_long_kind form.longs ks) (fits_longs is_long_kind form.longs os) rest
    (picked form.given ks ++ drop (length form.longs) ks)
    (picked form.given os ++ drop (length form.longs) os)
    (shuffled is_long_kind forms ks)
    (shuffled is_long_kind forms os)
    (fits_longs-same form.longs f)
    (Fits-join (Fits-picked form.given f) (Fits-drop (length form.longs) f))
    (λ q. shuffled-below forms rest f q)
    h
