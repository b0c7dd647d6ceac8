-- The map from keys to numbers.
use Rattle.std.proofs.Common.{◌≡◌, ℕ, ◌+◌, ◌<◌, Bool, true, false, cond, ◌&&◌, ◌||◌, List, [], ◌∷◌, ◌++◌, length, take, get_or, Option, Some, None, is_some, refl, sym, ap, subst, ◌∙◌, arith, position, append_assoc}
use Rattle.std.proofs.lemmas.Cmp.{nat_eq_equiv}
use Rattle.std.specs.Prelude.{option_map, nat_eq}
use Rattle.std.specs.Map.{lookup}
use Rattle.std.specs.Option.{option_or}
use Rattle.std.proofs.lemmas.Bool.{eqb-true, eq-eqb, and_parts, and_from}
use Rattle.std.proofs.lemmas.List.{take_more, length-take-le}
use Rattle.class_names.specs.declared.key.Key.{Key}
use Rattle.std.specs.List.{list_any}
use Rattle.std.proofs.lemmas.Bool.{or_left, or_right}
use Rattle.class_names.specs.Keys.{same_key, has_equal_keys}
use Rattle.class_names.specs.MemberMap.{IsMemberMap}
use Rattle.class_names.proofs.PlaceLemmas.{position-append, position-cons}

key_of : (k l : Key) → k.class ≡ l.class → k.name ≡ l.name → k.descriptor ≡ l.descriptor → k ≡ l
key_of k l a b c = λ i. record { class = a i; name = b i; descriptor = c i }

pub same_key-true : (k l : Key) → same_key k l ≡ true → k ≡ l
same_key-true k l e =
    let p = and_parts (nat_eq k.class l.class) (nat_eq k.name l.name && nat_eq k.descriptor l.descriptor) e in
    let q = and_parts (nat_eq k.name l.name) (nat_eq k.descriptor l.descriptor) p.1 in
    key_of k l (eqb-true _ _ p.0) (eqb-true _ _ q.0) (eqb-true _ _ q.1)

pub same_key-refl : (k : Key) → same_key k k ≡ true
same_key-refl k = and_from _ _ (eq-eqb k.class k.class refl) (and_from _ _ (eq-eqb k.name k.name refl) (eq-eqb k.descriptor k.descriptor refl))

-- one more key, behind the others
position-push : (k x : Key) (keys : List Key) → position (same_key k) (keys ++ x ∷ []) ≡ option_or (position (same_key k) keys) (cond (same_key k x) (Some (length keys)) None)
position-push k x keys = position-append (same_key k) keys (x ∷ []) ∙ ap (λ o. option_or (position (same_key k) keys) o) (ap (option_map (λ n. length keys + n)) (position-cons (same_key k) x []) ∙ by (same_key k x))
  where
    by : (b : Bool) → option_map (λ n. length keys + n) (cond b (Some 0) (option_map (λ n. 1 + n) None)) ≡ cond b (Some (length keys)) None
    by true = ap (λ n. Some n) (omega arith)
    by false = refl

-- a key that is there already
again : (k x : Key) (keys : List Key) → is_some (position (same_key x) keys) ≡ true → position (same_key k) keys ≡ position (same_key k) (keys ++ x ∷ [])
again k x keys there = by (same_key k x) refl (position (same_key k) keys) refl ∙ sym (position-push k x keys)
  where
    by : (b : Bool) → same_key k x ≡ b → (o : Option ℕ) → position (same_key k) keys ≡ o → position (same_key k) keys ≡ option_or (position (same_key k) keys) (cond (same_key k x) (Some (length keys)) None)
    by b e (Some n) is = rw is refl
    by false e None is = rw (is, e) refl
    by true e None is =
        let one : k ≡ x = same_key-true k x e in
        absurd (let no : is_some (position (same_key k) keys) ≡ true = subst (λ (l : Key). is_some (position (same_key l) keys) ≡ true) (sym one) there in
        let none : is_some (position (same_key k) keys) ≡ false = ap is_some is in cc)

pub known_key : (keys : List Key) (entries : List (Key × ℕ)) (x : Key) → IsMemberMap keys entries → is_some (lookup (same_key x) entries) ≡ true → IsMemberMap (keys ++ x ∷ []) entries
known_key keys entries x are there = λ k. are k ∙ again k x keys (sym (ap is_some (are x)) ∙ there)

pub new_key : (keys : List Key) (entries after : List (Key × ℕ)) (x : Key) → IsMemberMap keys entries → is_some (lookup (same_key x) entries) ≡ false
    → ((k : Key) → lookup (same_key k) after ≡ cond (same_key x k) (Some (length keys)) (lookup (same_key k) entries)) → IsMemberMap (keys ++ x ∷ []) after
new_key keys entries after x are none made = λ k. made k ∙ by k (same_key x k) refl (same_key k x) refl ∙ sym (position-push k x keys)
  where
    by : (k : Key) (b : Bool) → same_key x k ≡ b → (d : Bool) → same_key k x ≡ d
        → cond (same_key x k) (Some (length keys)) (lookup (same_key k) entries) ≡ option_or (position (same_key k) keys) (cond (same_key k x) (Some (length keys)) None)
    by k true e d f =
        let one : x ≡ k = same_key-true x k e in
        let missing : (o : Option ℕ) → is_some o ≡ false → o ≡ None = absent in
        let gone : position (same_key k) keys ≡ None = missing _ (subst (λ (l : Key). is_some (position (same_key l) keys) ≡ false) one (sym (ap is_some (are x)) ∙ none)) in
        let here : same_key k x ≡ true = subst (λ (l : Key). same_key k l ≡ true) (sym one) (same_key-refl k) in
        rw (e, gone, here) refl
      where
        absent : (o : Option ℕ) → is_some o ≡ false → o ≡ None
        absent None h = refl
        absent (Some n) h = absurd cc
    by k false e true f =
        let one : k ≡ x = same_key-true k x f in
        let there : same_key x k ≡ true = subst (λ (l : Key). same_key x l ≡ true) (sym one) (same_key-refl x) in
        absurd cc
    by k false e false f = rw (e, f) (are k ∙ unchanged (position (same_key k) keys))
      where
        unchanged : (o : Option ℕ) → o ≡ option_or o None
        unchanged None = refl
        unchanged (Some n) = refl

-- the keys up to a place, and the one there
pub so_far : (keys : List Key) (i : ℕ) (d : Key) (entries : List (Key × ℕ)) → i < length keys → IsMemberMap (take i keys ++ get_or keys i d ∷ []) entries → IsMemberMap (take (i + 1) keys) entries
so_far keys i d entries h are =
    let P : List Key → Type 0 = λ ks. IsMemberMap ks entries in
    subst P (sym (take_more keys i d h)) are

pub known_here : (keys : List Key) (i : ℕ) (d : Key) (entries : List (Key × ℕ)) → i < length keys → IsMemberMap (take i keys) entries
    → is_some (lookup (same_key (get_or keys i d)) entries) ≡ true → IsMemberMap (take (i + 1) keys) entries
known_here keys i d entries h are there = so_far keys i d entries h (known_key (take i keys) entries (get_or keys i d) are there)

pub new_here : (keys : List Key) (i : ℕ) (d : Key) (entries after : List (Key × ℕ)) → i < length keys → IsMemberMap (take i keys) entries
    → is_some (lookup (same_key (get_or keys i d)) entries) ≡ false
    → ((k : Key) → lookup (same_key k) after ≡ cond (same_key (get_or keys i d) k) (Some i) (lookup (same_key k) entries)) → IsMemberMap (take (i + 1) keys) after
new_here keys i d entries after h are none made =
    let n : length (take i keys) ≡ i = length-take-le i keys (omega arith) in
    so_far keys i d after h
    (new_key (take i keys) entries after (get_or keys i d) are none (λ k. made k ∙ ap (λ m. cond (same_key (get_or keys i d) k) (Some m) (lookup (same_key k) entries)) (sym n)))

-- ---- keys that are looked at from the last one on

same_key-symm : (k l : Key) → same_key k l ≡ same_key l k
same_key-symm k l = λ i. nat_eq_equiv.symm k.class l.class i && (nat_eq_equiv.symm k.name l.name i && nat_eq_equiv.symm k.descriptor l.descriptor i)

pub seen_more : (seen after done : List Key) (x : Key) → ((k : Key) → list_any (same_key k) seen ≡ list_any (same_key k) done)
    → ((k : Key) → list_any (same_key k) after ≡ cond (same_key x k) true (list_any (same_key k) seen)) → (k : Key) → list_any (same_key k) after ≡ list_any (same_key k) (x ∷ done)
seen_more seen after done x is made k = made k ∙ (λ i. cond (same_key-symm x k i) true (is k i)) ∙ by (same_key k x) (list_any (same_key k) done)
  where
    by : (a b : Bool) → cond a true b ≡ (a || b)
    by true b = refl
    by false b = refl

pub equal_behind : (front done : List Key) → has_equal_keys done ≡ true → has_equal_keys (front ++ done) ≡ true
equal_behind [] done e = e
equal_behind (k ∷ front) done e = or_right (list_any (same_key k) (front ++ done)) (has_equal_keys (front ++ done)) (equal_behind front done e)

-- the last of the keys that are left stands again behind them, or not
pub equal_found : (keys rest front done : List Key) (x : Key) → rest ++ done ≡ keys → rest ≡ front ++ x ∷ [] → list_any (same_key x) done ≡ true → has_equal_keys keys ≡ true
equal_found keys rest front done x all split again =
    let whole : front ++ (x ∷ done) ≡ keys = sym (append_assoc front (x ∷ []) done) ∙ ap (λ (ks : List Key). ks ++ done) (sym split) ∙ all in
    sym (ap has_equal_keys whole) ∙ equal_behind front (x ∷ done) (or_left (list_any (same_key x) done) (has_equal_keys done) again)

pub all_split : (keys rest front done : List Key) (x : Key) → rest ++ done ≡ keys → rest ≡ front ++ x ∷ [] → front ++ (x ∷ done) ≡ keys
all_split keys rest front done x all split = sym (append_assoc front (x ∷ []) done) ∙ ap (λ (ks : List Key). ks ++ done) (sym split) ∙ all
