-- The slots that a map from entries to slots stands for.
use Rattle.std.proofs.Common.{◌≡◌, ℕ, zero, suc, ◌+◌, ◌-◌, ◌≤◌, ◌&&◌, Bool, true, false, cond, eqb, List, [], ◌∷◌, ◌++◌, length, Option, Some, None, refl, sym, ap, subst, ◌∙◌, append_assoc, arith}
use Rattle.std.specs.Prelude.{slice_get, nat_eq, IfSome, IfNone}
use Rattle.std.specs.List.{flat_map}
use Rattle.std.specs.Map.{lookup, keys_of}
use Rattle.indexmap.specs.IndexMap.{insert_entry}
use Rattle.std.specs.Cmp.Lexicographic.{pointwise}
use Rattle.std.specs.Ordering.{int_eq}
use Rattle.std.proofs.lemmas.Bool.{and_parts, and_from, eqb-true, eq-eqb, ne_eqb}
use Rattle.std.proofs.lemmas.Bool.Decides.{Decides-eqb, Decides-int_eq}
use Rattle.std.proofs.lemmas.Slice.Eq.{slice_eq-Decides}
use Rattle.std.proofs.lemmas.List.{length-append, append-nil}
use Rattle.class_definition.specs.declared.entry.Entry.{Entry}
use Rattle.class_definition.specs.declared.entry.Entry.TheVariants.{Utf8, Integer, Long, LongRest, ClassName, Text, FieldRef, MethodRef, NameAnd}
use Rattle.class_definition.specs.EntryParts.{tag_of, text_part, number_part, first_part, second_part}
use Rattle.class_definition.specs.PoolEntries.{is_long_entry}
use Rattle.constant_pool.specs.Slots.{slots_of_entry, is_rest, IsAt, IsMissing, slots_of_map, AreSlots, IsKeptPool}
use Rattle.std.proofs.lemmas.Option.{same_Some}

-- ---- entries are the same where their parts are

abbrev pub same_entry : Entry → Entry → Bool
same_entry a b =
    eqb (tag_of a) (tag_of b)
    && (pointwise nat_eq (text_part a) (text_part b)
    && (int_eq (number_part a) (number_part b) && (eqb (first_part a) (first_part b) && eqb (second_part a) (second_part b))))

record AreAlike (a b : Entry) : Type 0 where
  pub tag : tag_of a ≡ tag_of b
  pub text : text_part a ≡ text_part b
  pub number : number_part a ≡ number_part b
  pub first : first_part a ≡ first_part b
  pub second : second_part a ≡ second_part b

same_text : (xs ys : List ℕ) → pointwise nat_eq xs ys ≡ true → xs ≡ ys
same_text xs ys e = (slice_eq-Decides {E = nat_eq} Decides-eqb xs ys (pointwise nat_eq xs ys) refl).0 e

alike : (a b : Entry) → same_entry a b ≡ true → AreAlike a b
alike a b e =
    let p = and_parts (eqb (tag_of a) (tag_of b)) _ e in
    let q = and_parts (pointwise nat_eq (text_part a) (text_part b)) _ p.1 in
    let r = and_parts (int_eq (number_part a) (number_part b)) _ q.1 in
    let s = and_parts (eqb (first_part a) (first_part b)) (eqb (second_part a) (second_part b)) r.1 in
    record { tag = eqb-true _ _ p.0; text = same_text _ _ q.0; number = (Decides-int_eq _ _).0 r.0; first = eqb-true _ _ s.0; second = eqb-true _ _ s.1 }

same_parts : (a b : Entry) → AreAlike a b → a ≡ b
same_parts (Utf8 a) (Utf8 x) h = ap Utf8 h.text
same_parts (Utf8 a) (Integer x) h = absurd (omega (arith, h.tag))
same_parts (Utf8 a) (Long x) h = absurd (omega (arith, h.tag))
same_parts (Utf8 a) LongRest h = absurd (omega (arith, h.tag))
same_parts (Utf8 a) (ClassName x) h = absurd (omega (arith, h.tag))
same_parts (Utf8 a) (Text x) h = absurd (omega (arith, h.tag))
same_parts (Utf8 a) (FieldRef x y) h = absurd (omega (arith, h.tag))
same_parts (Utf8 a) (MethodRef x y) h = absurd (omega (arith, h.tag))
same_parts (Utf8 a) (NameAnd x y) h = absurd (omega (arith, h.tag))
same_parts (Integer a) (Utf8 x) h = absurd (omega (arith, h.tag))
same_parts (Integer a) (Integer x) h = ap Integer h.number
same_parts (Integer a) (Long x) h = absurd (omega (arith, h.tag))
same_parts (Integer a) LongRest h = absurd (omega (arith, h.tag))
same_parts (Integer a) (ClassName x) h = absurd (omega (arith, h.tag))
same_parts (Integer a) (Text x) h = absurd (omega (arith, h.tag))
same_parts (Integer a) (FieldRef x y) h = absurd (omega (arith, h.tag))
same_parts (Integer a) (MethodRef x y) h = absurd (omega (arith, h.tag))
same_parts (Integer a) (NameAnd x y) h = absurd (omega (arith, h.tag))
same_parts (Long a) (Utf8 x) h = absurd (omega (arith, h.tag))
same_parts (Long a) (Integer x) h = absurd (omega (arith, h.tag))
same_parts (Long a) (Long x) h = ap Long h.number
same_parts (Long a) LongRest h = absurd (omega (arith, h.tag))
same_parts (Long a) (ClassName x) h = absurd (omega (arith, h.tag))
same_parts (Long a) (Text x) h = absurd (omega (arith, h.tag))
same_parts (Long a) (FieldRef x y) h = absurd (omega (arith, h.tag))
same_parts (Long a) (MethodRef x y) h = absurd (omega (arith, h.tag))
same_parts (Long a) (NameAnd x y) h = absurd (omega (arith, h.tag))
same_parts LongRest (Utf8 x) h = absurd (omega (arith, h.tag))
same_parts LongRest (Integer x) h = absurd (omega (arith, h.tag))
same_parts LongRest (Long x) h = absurd (omega (arith, h.tag))
same_parts LongRest LongRest h = refl
same_parts LongRest (ClassName x) h = absurd (omega (arith, h.tag))
same_parts LongRest (Text x) h = absurd (omega (arith, h.tag))
same_parts LongRest (FieldRef x y) h = absurd (omega (arith, h.tag))
same_parts LongRest (MethodRef x y) h = absurd (omega (arith, h.tag))
same_parts LongRest (NameAnd x y) h = absurd (omega (arith, h.tag))
same_parts (ClassName a) (Utf8 x) h = absurd (omega (arith, h.tag))
same_parts (ClassName a) (Integer x) h = absurd (omega (arith, h.tag))
same_parts (ClassName a) (Long x) h = absurd (omega (arith, h.tag))
same_parts (ClassName a) LongRest h = absurd (omega (arith, h.tag))
same_parts (ClassName a) (ClassName x) h = ap ClassName h.first
same_parts (ClassName a) (Text x) h = absurd (omega (arith, h.tag))
same_parts (ClassName a) (FieldRef x y) h = absurd (omega (arith, h.tag))
same_parts (ClassName a) (MethodRef x y) h = absurd (omega (arith, h.tag))
same_parts (ClassName a) (NameAnd x y) h = absurd (omega (arith, h.tag))
same_parts (Text a) (Utf8 x) h = absurd (omega (arith, h.tag))
same_parts (Text a) (Integer x) h = absurd (omega (arith, h.tag))
same_parts (Text a) (Long x) h = absurd (omega (arith, h.tag))
same_parts (Text a) LongRest h = absurd (omega (arith, h.tag))
same_parts (Text a) (ClassName x) h = absurd (omega (arith, h.tag))
same_parts (Text a) (Text x) h = ap Text h.first
same_parts (Text a) (FieldRef x y) h = absurd (omega (arith, h.tag))
same_parts (Text a) (MethodRef x y) h = absurd (omega (arith, h.tag))
same_parts (Text a) (NameAnd x y) h = absurd (omega (arith, h.tag))
same_parts (FieldRef a b) (Utf8 x) h = absurd (omega (arith, h.tag))
same_parts (FieldRef a b) (Integer x) h = absurd (omega (arith, h.tag))
same_parts (FieldRef a b) (Long x) h = absurd (omega (arith, h.tag))
same_parts (FieldRef a b) LongRest h = absurd (omega (arith, h.tag))
same_parts (FieldRef a b) (ClassName x) h = absurd (omega (arith, h.tag))
same_parts (FieldRef a b) (Text x) h = absurd (omega (arith, h.tag))
same_parts (FieldRef a b) (FieldRef x y) h = let p : a ≡ x = h.first in let q : b ≡ y = h.second in rw (p, q) refl
same_parts (FieldRef a b) (MethodRef x y) h = absurd (omega (arith, h.tag))
same_parts (FieldRef a b) (NameAnd x y) h = absurd (omega (arith, h.tag))
same_parts (MethodRef a b) (Utf8 x) h = absurd (omega (arith, h.tag))
same_parts (MethodRef a b) (Integer x) h = absurd (omega (arith, h.tag))
same_parts (MethodRef a b) (Long x) h = absurd (omega (arith, h.tag))
same_parts (MethodRef a b) LongRest h = absurd (omega (arith, h.tag))
same_parts (MethodRef a b) (ClassName x) h = absurd (omega (arith, h.tag))
same_parts (MethodRef a b) (Text x) h = absurd (omega (arith, h.tag))
same_parts (MethodRef a b) (FieldRef x y) h = absurd (omega (arith, h.tag))
same_parts (MethodRef a b) (MethodRef x y) h = let p : a ≡ x = h.first in let q : b ≡ y = h.second in rw (p, q) refl
same_parts (MethodRef a b) (NameAnd x y) h = absurd (omega (arith, h.tag))
same_parts (NameAnd a b) (Utf8 x) h = absurd (omega (arith, h.tag))
same_parts (NameAnd a b) (Integer x) h = absurd (omega (arith, h.tag))
same_parts (NameAnd a b) (Long x) h = absurd (omega (arith, h.tag))
same_parts (NameAnd a b) LongRest h = absurd (omega (arith, h.tag))
same_parts (NameAnd a b) (ClassName x) h = absurd (omega (arith, h.tag))
same_parts (NameAnd a b) (Text x) h = absurd (omega (arith, h.tag))
same_parts (NameAnd a b) (FieldRef x y) h = absurd (omega (arith, h.tag))
same_parts (NameAnd a b) (MethodRef x y) h = absurd (omega (arith, h.tag))
same_parts (NameAnd a b) (NameAnd x y) h = let p : a ≡ x = h.first in let q : b ≡ y = h.second in rw (p, q) refl

pub same : (a b : Entry) → same_entry a b ≡ true → a ≡ b
same a b e = same_parts a b (alike a b e)

same_itself : (xs : List ℕ) → pointwise nat_eq xs xs ≡ true
same_itself xs = (slice_eq-Decides {E = nat_eq} Decides-eqb xs xs (pointwise nat_eq xs xs) refl).1 refl

pub itself : (a : Entry) → same_entry a a ≡ true
itself a =
    and_from _ _ (eq-eqb _ _ refl)
    (and_from _ _ (same_itself (text_part a))
    (and_from _ _ ((Decides-int_eq (number_part a) (number_part a)).1 refl)
    (and_from _ _ (eq-eqb (first_part a) (first_part a) refl) (eq-eqb (second_part a) (second_part a) refl))))

-- ---- look-ups

get_behind : (xs ys : List Entry) (i : ℕ) → slice_get (xs ++ ys) (length xs + i) ≡ slice_get ys i
get_behind [] ys i = ap (slice_get ys) (omega arith)
get_behind (x ∷ xs) ys i =
    let k : length (x ∷ xs) + i ≡ suc (length xs + i) = omega arith in
    rw k (get_behind xs ys i)

record Found (es : List (Entry × ℕ)) (first slot : ℕ) (e : Entry) : Type 0 where
  pub le : first ≤ slot
  pub there : slice_get (slots_of_map es) (slot - first) ≡ Some e

found_behind : (p : Entry × ℕ) (es : List (Entry × ℕ)) (first slot : ℕ) (e : Entry) → Found es (first + length (slots_of_entry p.0)) slot e → Found (p ∷ es) first slot e
found_behind p es first slot e f =
    let le = f.le in
    let k : slot - first ≡ length (slots_of_entry p.0) + (slot - (first + length (slots_of_entry p.0))) = omega arith in
    record { le = omega arith; there = rw k (get_behind (slots_of_entry p.0) (slots_of_map es) (slot - (first + length (slots_of_entry p.0))) ∙ f.there) }

found_here : (p : Entry × ℕ) (es : List (Entry × ℕ)) (first slot : ℕ) (e : Entry) → p.1 ≡ first → e ≡ p.0 → Some p.1 ≡ Some slot → Found (p ∷ es) first slot e
found_here p es first slot e place is here =
    let at : p.1 ≡ slot = same_Some _ _ here in
    let k : slot - first ≡ 0 = omega arith in
    record { le = omega arith; there = rw (k, is) refl }

found_at : (es : List (Entry × ℕ)) (first slot : ℕ) (e : Entry) → AreSlots first es → lookup (same_entry e) es ≡ Some slot → Found es first slot e
found_at [] first slot e are is = absurd cc
found_at (p ∷ es) first slot e are is =
    (elim (same_entry e p.0) as (λ b. same_entry e p.0 ≡ b → cond b (Some p.1) (lookup (same_entry e) es) ≡ Some slot → Found (p ∷ es) first slot e) [
      | true ↦ λ s here. found_here p es first slot e are.0 (same e p.0 s) here
      | false ↦ λ s there. found_behind p es first slot e (found_at es (first + length (slots_of_entry p.0)) slot e are.2 there)
    ]) refl is

pub found_slot : (r : Option ℕ) (es : List (Entry × ℕ)) (pool : List Entry) (e : Entry) → r ≡ lookup (same_entry e) es → AreSlots 1 es → slots_of_map es ≡ pool
    → IfSome r (λ slot. IsAt pool slot e)
found_slot None es pool e is are view = tt
found_slot (Some slot) es pool e is are view =
    let f = found_at es 1 slot e are (sym is) in
    let le = f.le in
    let no : eqb slot 0 ≡ false = ne_eqb slot 0 (λ z. omega arith) in
    rw (no, ← view) f.there

-- a slot at the front of those of an entry that is not this one
not_first : (long : Bool) (p : Entry) (others : List Entry) (i : ℕ) (e : Entry) → same_entry e p ≡ false → is_rest e ≡ false
    → ((j : ℕ) → slice_get others j ≡ Some e → ⊥) → slice_get ((p ∷ cond long (LongRest ∷ []) []) ++ others) i ≡ Some e → ⊥
not_first long p others zero e other rest none there =
    let q : p ≡ e = same_Some p e there in
    let P : Entry → Type 0 = λ x. same_entry e x ≡ true in
    let r : same_entry e p ≡ true = subst P (sym q) (itself e) in
    cc
not_first true p others (suc zero) e other rest none there =
    let q : LongRest ≡ e = same_Some LongRest e there in
    let r : is_rest e ≡ true = rw (← q) refl in
    cc
not_first true p others (suc (suc i)) e other rest none there = none i there
not_first false p others (suc i) e other rest none there = none i there

not_there : (es : List (Entry × ℕ)) (i : ℕ) (e : Entry) → lookup (same_entry e) es ≡ None → is_rest e ≡ false → slice_get (slots_of_map es) i ≡ Some e → ⊥
not_there [] i e none rest there = cc
not_there (p ∷ es) i e none rest there =
    (elim (same_entry e p.0) as (λ b. same_entry e p.0 ≡ b → cond b (Some p.1) (lookup (same_entry e) es) ≡ None → ⊥) [
      | true ↦ λ s here. cc
      | false ↦ λ s others. not_first (is_long_entry p.0) p.0 (slots_of_map es) i e s rest (λ j at. not_there es j e others rest at) there
    ]) refl none

at_no_slot : (es : List (Entry × ℕ)) (pool : List Entry) (slot : ℕ) (e : Entry) → lookup (same_entry e) es ≡ None → is_rest e ≡ false → slots_of_map es ≡ pool → IsAt pool slot e → ⊥
at_no_slot es pool zero e none rest view at = cc
at_no_slot es pool (suc i) e none rest view at =
    let no : eqb (suc i) 0 ≡ false = ne_eqb (suc i) 0 (λ z. omega arith) in
    let k : suc i - 1 ≡ i = omega arith in
    let there : slice_get pool i ≡ Some e = rw (no, k) at at in
    not_there es i e none rest (rw view there)

pub missing_slot : (r : Option ℕ) (es : List (Entry × ℕ)) (pool : List Entry) (e : Entry) → r ≡ lookup (same_entry e) es → is_rest e ≡ false → slots_of_map es ≡ pool
    → IfNone r (IsMissing pool e)
missing_slot (Some slot) es pool e is rest view = tt
missing_slot None es pool e is rest view = λ slot at. at_no_slot es pool slot e (sym is) rest view at

-- ---- one more entry

looked_none : (es : List (Entry × ℕ)) (e : Entry) (o : Option ℕ) → AreSlots 1 es → IsMissing (slots_of_map es) e → lookup (same_entry e) es ≡ o → lookup (same_entry e) es ≡ None
looked_none es e None are missing is = is
looked_none es e (Some slot) are missing is = absurd (missing slot (found_slot (Some slot) es (slots_of_map es) e (sym is) are refl))

insert_new : (es : List (Entry × ℕ)) (e : Entry) (slot : ℕ) → lookup (same_entry e) es ≡ None → insert_entry same_entry es e slot ≡ es ++ (e, slot) ∷ []
insert_new [] e slot none = refl
insert_new (p ∷ es) e slot none =
    (elim (same_entry e p.0) as (λ b. cond b (Some p.1) (lookup (same_entry e) es) ≡ None → cond b ((p.0, slot) ∷ es) (p ∷ insert_entry same_entry es e slot) ≡ p ∷ (es ++ (e, slot) ∷ [])) [
      | true ↦ λ here. absurd cc
      | false ↦ λ others. ap (λ (xs : List (Entry × ℕ)). p ∷ xs) (insert_new es e slot others)
    ]) none

-- what inserting an entry that is missing gives
pub inserted : (es new : List (Entry × ℕ)) (pool : List Entry) (e : Entry) (slot : ℕ) → AreSlots 1 es → slots_of_map es ≡ pool → IsMissing pool e
    → new ≡ insert_entry same_entry es e slot → new ≡ es ++ (e, slot) ∷ []
inserted es new pool e slot are view missing is =
    let P : List Entry → Type 0 = λ xs. IsMissing xs e in
    is ∙ insert_new es e slot (looked_none es e (lookup (same_entry e) es) are (subst P (sym view) missing) refl)

slots_more : (es : List (Entry × ℕ)) (p : Entry × ℕ) → slots_of_map (es ++ p ∷ []) ≡ slots_of_map es ++ slots_of_entry p.0
slots_more [] p = ap (λ (xs : List Entry). p.0 ∷ xs) (append-nil (cond (is_long_entry p.0) (LongRest ∷ []) []))
slots_more (q ∷ es) p = ap (λ (xs : List Entry). slots_of_entry q.0 ++ xs) (slots_more es p) ∙ sym (append_assoc (slots_of_entry q.0) (slots_of_map es) (slots_of_entry p.0))

pub pool_more : (es new : List (Entry × ℕ)) (pool : List Entry) (e : Entry) (slot : ℕ) → slots_of_map es ≡ pool → new ≡ es ++ (e, slot) ∷ []
    → slots_of_map new ≡ pool ++ slots_of_entry e
pool_more es new pool e slot view is = ap slots_of_map is ∙ slots_more es (e, slot) ∙ ap (λ xs. xs ++ slots_of_entry e) view

are_more : (es : List (Entry × ℕ)) (first : ℕ) (p : Entry × ℕ) → AreSlots first es → p.1 ≡ first + length (slots_of_map es) → is_rest p.0 ≡ false → AreSlots first (es ++ p ∷ [])
are_more [] first p are place rest = (omega arith, rest, tt)
are_more (q ∷ es) first p are place rest =
    let k : length (slots_of_map (q ∷ es)) ≡ length (slots_of_entry q.0) + length (slots_of_map es) = length-append (slots_of_entry q.0) (slots_of_map es) in
    (are.0, are.1, are_more es (first + length (slots_of_entry q.0)) p are.2 (omega arith) rest)

pub kept_more : (es new : List (Entry × ℕ)) (next size : ℕ) (e : Entry) → IsKeptPool es next → new ≡ es ++ (e, next) ∷ [] → is_rest e ≡ false
    → size ≡ length (slots_of_entry e) → next + size ≤ 65535 → IsKeptPool new (next + size)
kept_more es new next size e kept is rest taken few =
    let before = kept.next_is in
    let k : length (slots_of_map (es ++ (e, next) ∷ [])) ≡ length (slots_of_map es) + length (slots_of_entry e) = ap length (slots_more es (e, next)) ∙ length-append (slots_of_map es) (slots_of_entry e) in
    rw is (record { slots = are_more es 1 (e, next) kept.slots before rest; next_is = omega arith; few = few })

-- the new entry stands in the next slot
pub there_now : (es new : List (Entry × ℕ)) (next : ℕ) (e : Entry) → next ≡ 1 + length (slots_of_map es) → new ≡ es ++ (e, next) ∷ [] → IsAt (slots_of_map new) next e
there_now es new next e place is =
    let no : eqb next 0 ≡ false = ne_eqb next 0 (λ z. omega arith) in
    let k : next - 1 ≡ length (slots_of_map es) + 0 = omega arith in
    rw (is, slots_more es (e, next), no, k) (get_behind (slots_of_map es) (slots_of_entry e) 0)

-- ---- the slots of the keys, one after the other

pub slots_of_keys : (es : List (Entry × ℕ)) → flat_map slots_of_entry (keys_of es) ≡ slots_of_map es
slots_of_keys [] = refl
slots_of_keys (p ∷ es) = ap (λ (xs : List Entry). slots_of_entry p.0 ++ xs) (slots_of_keys es)
