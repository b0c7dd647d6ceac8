-- Pools with more entries.
use Rattle.std.proofs.Common.{◌≡◌, ℕ, zero, suc, ◌+◌, ◌-◌, ◌<◌, ◌≤◌, ◌⊎◌, inl, inr, ⊎_elim, Bool, true, false, ◌||◌, List, [], ◌∷◌, ◌++◌, length, Option, Some, None, refl, sym, ap, subst, ◌∙◌, arith, append_assoc, append-nil}
use Rattle.std.specs.Prelude.{if◌then◌else◌, codes, unwrap_or, IsSome, is_some, slice_get}
use Rattle.std.specs.List.{position_from}
use Rattle.std.specs.Option.{option_and_then}
use Rattle.std.proofs.lemmas.Slice.Eq.{bytes_eq-Decides}
use Rattle.std.proofs.lemmas.Bool.{and_from, false≢true, ne_eqb}
use Rattle.std.proofs.lemmas.List.{length-append}
use Rattle.std.proofs.lemmas.Option.{same_Some, none-some, slice_get_within}
use Rattle.class_definition.specs.declared.entry.Entry.{Entry}
use Rattle.class_definition.specs.declared.entry.Entry.TheVariants.{Utf8, Integer, Long, LongRest, ClassName, Text, FieldRef, MethodRef, NameAnd}
use Rattle.class_definition.specs.NameGrammar.{same_text, is_array_name}
use Rattle.class_definition.specs.MemberNames.{is_known}
use Rattle.class_definition.specs.Utf8 as texts
use Rattle.class_definition.specs.PoolEntries.{utf8_of, class_entry_name}
use Rattle.class_definition.specs.PoolChecks.{entry_at, text_at, class_text_at, pool_entry_fault}
use Rattle.constant_pool.specs.Slots.{IsAt}
use Rattle.class_definition.specs.Tables.{is_table_name, table_slot}
use Rattle.class_names.proofs.NumberLemmas.{same_text-refl}
use Rattle.stackmap_table.specs.declared.reference_slots.ReferenceSlots.{ReferenceSlots}
use Rattle.stackmap_table.specs.Tables.{reference_kind, kind_at}
use Rattle.stackmap_table.specs.Shortest.{AreReferences, NamesKind}
use Rattle.jvm_definition.specs.declared.kind.Kind.{Kind}
use Rattle.jvm_definition.specs.declared.kind.Kind.TheVariants as kinds
use Rattle.emit_classes.specs.Sound.{MayJoin, IsPool}
use Rattle.emit_classes.specs.Built.{is_long_text}
use Rattle.emit_classes.specs.Lawful.{names_class}
use Rattle.emit_classes.proofs.Stays.{Stays, text-stays}
use Rattle.emit_classes.proofs.Sound.{get-front, pool-parts, pool-more, entry_fault-stays, index-at, get-behind}
use Rattle.emit_classes.proofs.Joining.{text-joins, class-joins}
use Rattle.stackmap_pool.specs.Longer.{is_text_entry, is_same, is_class_of_name, first_text_slot, class_slot, with_text, with_class_of, with_class_entry, framed_pool}

-- ---- one entry behind the others

pub record IsLonger (old new : List Entry) : Type 0 where
  pub behind : List Entry
  pub is : new ≡ old ++ behind

pub same-longer : (old : List Entry) → IsLonger old old
same-longer old = record { behind = []; is = sym (append-nil old) }

pub one-longer : (old : List Entry) (e : Entry) → IsLonger old (old ++ e ∷ [])
one-longer old e = record { behind = e ∷ []; is = refl }

pub more-longer : (old mid new : List Entry) → IsLonger old mid → IsLonger mid new → IsLonger old new
more-longer old mid new a b = record {
  behind = a.behind ++ b.behind;
  is = b.is ∙ (ap (λ x. x ++ b.behind) a.is ∙ append_assoc old a.behind b.behind);
}

pub longer-stays : (old new : List Entry) → IsLonger old new → Stays old new
longer-stays old new l = subst (Stays old) (sym l.is) (get-front old l.behind)

pub longer-length : (old new : List Entry) → IsLonger old new → length old ≤ length new
longer-length old new l = omega (arith, ap length l.is, length-append old l.behind)

chosen-longer : (b : Bool) (old : List Entry) (e : Entry) → IsLonger old (if b then old else old ++ e ∷ [])
chosen-longer true old e = same-longer old
chosen-longer false old e = one-longer old e

pub text-longer : (text : List ℕ) (old : List Entry) → IsLonger old (with_text text old)
unfolding with_text
text-longer text old = chosen-longer (is_some (first_text_slot text old)) old (Utf8 text)

pub class_of-longer : (name : List ℕ) (old : List Entry) → IsLonger old (with_class_of name old)
class_of-longer name old = chosen-longer (is_some (class_slot name old)) old (ClassName (unwrap_or (first_text_slot name old) 0))

pub class-longer : (name : List ℕ) (old : List Entry) → IsLonger old (with_class_entry name old)
unfolding with_class_entry
class-longer name old = more-longer old (with_text name old) (with_class_of name (with_text name old)) (text-longer name old) (class_of-longer name (with_text name old))

pub framed-longer : (old : List Entry) → IsLonger old (framed_pool old)
unfolding framed_pool
framed-longer old =
    let a = with_text (codes "StackMapTable") old in
    let b = with_class_entry (codes "[I") a in
    let c = with_class_entry (codes "[[I") b in
    more-longer old c (with_class_entry (codes "java/lang/String") c) (more-longer old b c (more-longer old a b (text-longer (codes "StackMapTable") old) (class-longer (codes "[I") a)) (class-longer (codes "[[I") b)) (class-longer (codes "java/lang/String") c)

-- ---- what is found

found-from : (test : Entry → Bool) (from : ℕ) (entries : List Entry) (n : ℕ) → position_from test from entries ≡ Some n → (i : ℕ) × (e : Entry) × (n ≡ from + i) × (slice_get entries i ≡ Some e) × (test e ≡ true)
found-from test from [] n e = absurd (none-some n e)
found-from test from (x ∷ entries) n e = by-test (test x) refl (λ k. found-from test (from + 1) entries n k) e
  where
    by-test : (b : Bool) → test x ≡ b → (position_from test (from + 1) entries ≡ Some n → (i : ℕ) × (y : Entry) × (n ≡ from + 1 + i) × (slice_get entries i ≡ Some y) × (test y ≡ true)) → (if b then Some from else position_from test (from + 1) entries) ≡ Some n → (i : ℕ) × (y : Entry) × (n ≡ from + i) × (slice_get (x ∷ entries) i ≡ Some y) × (test y ≡ true)
    by-test true h others k = let s = same_Some from n k in (0, x, omega (arith, s), refl, h)
    by-test false h others k = let r = others k in (suc r.0, r.1, omega (arith, r.2), r.3, r.4)

pub found-at : (test : Entry → Bool) (entries : List Entry) (n : ℕ) → position_from test 1 entries ≡ Some n → (e : Entry) × IsAt entries n e × (test e ≡ true)
found-at test entries n e =
    let r = found-from test 1 entries n e in
    let place : suc r.0 ≡ n = omega (arith, r.2) in
    (r.1, subst (λ m. IsAt entries m r.1) place (index-at entries r.0 r.1 r.3), r.4)

there-from : (test : Entry → Bool) (from : ℕ) (entries behind : List Entry) → IsSome (position_from test from entries) → IsSome (position_from test from (entries ++ behind))
there-from test from [] behind h = absurd (false≢true h)
there-from test from (x ∷ entries) behind h = by-test (test x) (λ k. there-from test (from + 1) entries behind k) h
  where
    by-test : (b : Bool) → (IsSome (position_from test (from + 1) entries) → IsSome (position_from test (from + 1) (entries ++ behind))) → IsSome (if b then Some from else position_from test (from + 1) entries) → IsSome (if b then Some from else position_from test (from + 1) (entries ++ behind))
    by-test true others k = refl
    by-test false others k = others k

last-from : (test : Entry → Bool) (from : ℕ) (entries : List Entry) (e : Entry) → test e ≡ true → IsSome (position_from test from (entries ++ e ∷ []))
last-from test from [] e h = ap (λ b. is_some (if b then Some from else None)) h
last-from test from (x ∷ entries) e h = by-test (test x) (last-from test (from + 1) entries e h)
  where
    by-test : (b : Bool) → IsSome (position_from test (from + 1) (entries ++ e ∷ [])) → IsSome (if b then Some from else position_from test (from + 1) (entries ++ e ∷ []))
    by-test true others = refl
    by-test false others = others

-- the text of a slot that was found
text-of-entry : (text : List ℕ) (e : Entry) → is_text_entry text e ≡ true → (cs : List ℕ) × (e ≡ Utf8 cs) × (same_text cs text ≡ true)
text-of-entry text (Utf8 cs) h = (cs, refl, h)
text-of-entry text _ h = absurd (false≢true h)

class-of-entry : (entries : List Entry) (name : List ℕ) (e : Entry) → is_class_of_name entries name e ≡ true → (slot : ℕ) × (e ≡ ClassName slot) × (is_same name (text_at entries slot) ≡ true)
class-of-entry entries name (ClassName slot) h = (slot, refl, h)
class-of-entry entries name _ h = absurd (false≢true h)

same-of : (name : List ℕ) (o : Option (List ℕ)) → is_same name o ≡ true → (cs : List ℕ) × (o ≡ Some cs) × (same_text cs name ≡ true)
same-of name None h = absurd (false≢true h)
same-of name (Some cs) h = (cs, refl, h)

equal-texts : (cs ds : List ℕ) → same_text cs ds ≡ true → cs ≡ ds
equal-texts cs ds h = (bytes_eq-Decides cs ds).0 h

-- the first slot with a text
text-found : (text : List ℕ) (entries : List Entry) (n : ℕ) → first_text_slot text entries ≡ Some n → text_at entries n ≡ Some text
text-found text entries n e =
    let f = found-at (is_text_entry text) entries n e in
    let t = text-of-entry text f.0 f.2 in
    ap (option_and_then utf8_of) f.1 ∙ (ap utf8_of t.1 ∙ ap (λ x. Some x) (equal-texts t.0 text t.2))

pub slot-near : (test : Entry → Bool) (entries : List Entry) (n : ℕ) → position_from test 1 entries ≡ Some n → n ≤ length entries
slot-near test entries n e = let r = found-from test 1 entries n e in omega (arith, r.2, slice_get_within entries r.0 r.1 r.3)

some-at : (test : Entry → Bool) (from : ℕ) (entries : List Entry) (i : ℕ) (e : Entry) → slice_get entries i ≡ Some e → test e ≡ true → IsSome (position_from test from entries)
some-at test from [] i e h k = absurd (none-some e h)
some-at test from (x ∷ entries) zero e h k = ap (λ b. is_some (if b then Some from else position_from test (from + 1) entries)) (ap test (same_Some x e h) ∙ k)
some-at test from (x ∷ entries) (suc i) e h k = by-test (test x) (some-at test (from + 1) entries i e h k)
  where
    by-test : (b : Bool) → IsSome (position_from test (from + 1) entries) → IsSome (if b then Some from else position_from test (from + 1) entries)
    by-test true others = refl
    by-test false others = others

get-longer : (old new : List Entry) → IsLonger old new → (i : ℕ) (e : Entry) → slice_get old i ≡ Some e → slice_get new i ≡ Some e
get-longer old new l i e h = subst (λ x. slice_get x i ≡ Some e) (sym l.is) (front old l.behind i h)
  where
    front : (xs ys : List Entry) (k : ℕ) → slice_get xs k ≡ Some e → slice_get (xs ++ ys) k ≡ Some e
    front [] ys k g = absurd (none-some e g)
    front (x ∷ xs) ys zero g = g
    front (x ∷ xs) ys (suc k) g = front xs ys k g

some-of : {A : Type 0} (o : Option A) → IsSome o → (x : A) × (o ≡ Some x)
some-of None h = absurd (false≢true h)
some-of (Some x) h = (x, refl)

-- ---- what is there

has-text : (text : List ℕ) (old : List Entry) → IsSome (first_text_slot text (with_text text old))
unfolding with_text
has-text text old = by-test (is_some (first_text_slot text old)) refl
  where
    by-test : (b : Bool) → is_some (first_text_slot text old) ≡ b → IsSome (first_text_slot text (if b then old else old ++ Utf8 text ∷ []))
    by-test true h = h
    by-test false h = last-from (is_text_entry text) 1 old (Utf8 text) (same_text-refl text)

text-further : (text : List ℕ) (old new : List Entry) → IsLonger old new → IsSome (first_text_slot text old) → IsSome (first_text_slot text new)
text-further text old new l h = subst (λ x. IsSome (first_text_slot text x)) (sym l.is) (there-from (is_text_entry text) 1 old l.behind h)

same-is : (name : List ℕ) (o : Option (List ℕ)) → o ≡ Some name → is_same name o ≡ true
same-is name o e = ap (is_same name) e ∙ same_text-refl name

has-class-of : (name : List ℕ) (old : List Entry) → IsSome (first_text_slot name old) → IsSome (class_slot name (with_class_of name old))
has-class-of name old h = by-test (is_some (class_slot name old)) refl
  where
    by-test : (b : Bool) → is_some (class_slot name old) ≡ b → IsSome (class_slot name (if b then old else old ++ ClassName (unwrap_or (first_text_slot name old) 0) ∷ []))
    by-test true k = k
    by-test false k =
        let t = some-of (first_text_slot name old) h in
        let new = old ++ ClassName (unwrap_or (first_text_slot name old) 0) ∷ [] in
        let slot : unwrap_or (first_text_slot name old) 0 ≡ t.0 = ap (λ o. unwrap_or o 0) t.1 in
        let there : text_at new (unwrap_or (first_text_slot name old) 0) ≡ Some name = ap (text_at new) slot ∙ text-stays old new (get-front old (ClassName (unwrap_or (first_text_slot name old) 0) ∷ [])) t.0 name (text-found name old t.0 t.1) in
        last-from (is_class_of_name new name) 1 old (ClassName (unwrap_or (first_text_slot name old) 0)) (same-is name (text_at new (unwrap_or (first_text_slot name old) 0)) there)

has-class : (name : List ℕ) (old : List Entry) → IsSome (class_slot name (with_class_entry name old))
unfolding with_class_entry
has-class name old = has-class-of name (with_text name old) (has-text name old)

class-further : (name : List ℕ) (old new : List Entry) → IsLonger old new → IsSome (class_slot name old) → IsSome (class_slot name new)
class-further name old new l h =
    let s = some-of (class_slot name old) h in
    let f = found-from (is_class_of_name old name) 1 old s.0 s.1 in
    let c = class-of-entry old name f.1 f.4 in
    let t = same-of name (text_at old c.0) c.2 in
    let stays : text_at new c.0 ≡ Some t.0 = text-stays old new (longer-stays old new l) c.0 t.0 t.1 in
    some-at (is_class_of_name new name) 1 new f.0 f.1 (get-longer old new l f.0 f.1 f.3) (ap (is_class_of_name new name) c.1 ∙ (ap (is_same name) stays ∙ t.2))

-- ---- the name of the tables' attribute

entry-same : (e : Entry) → is_table_name e ≡ is_text_entry (codes "StackMapTable") e
entry-same (Utf8 cs) = refl
entry-same (Integer n) = refl
entry-same (Long n) = refl
entry-same LongRest = refl
entry-same (ClassName n) = refl
entry-same (Text n) = refl
entry-same (FieldRef n m) = refl
entry-same (MethodRef n m) = refl
entry-same (NameAnd n m) = refl

table-same : (from : ℕ) (entries : List Entry) → position_from is_table_name from entries ≡ position_from (is_text_entry (codes "StackMapTable")) from entries
table-same from [] = refl
table-same from (x ∷ entries) = (λ i. if entry-same x i then Some from else table-same (from + 1) entries i)

module _ (old : List Entry) where
  abbrev one : List Entry
  one = with_text (codes "StackMapTable") old

  abbrev two : List Entry
  two = with_class_entry (codes "[I") (with_text (codes "StackMapTable") old)

  abbrev three : List Entry
  three = with_class_entry (codes "[[I") (with_class_entry (codes "[I") (with_text (codes "StackMapTable") old))

  one-further : IsLonger (with_text (codes "StackMapTable") old) (framed_pool old)
  unfolding framed_pool
  one-further = more-longer one three (with_class_entry (codes "java/lang/String") three) (more-longer one two three (class-longer (codes "[I") one) (class-longer (codes "[[I") two)) (class-longer (codes "java/lang/String") three)

  two-further : IsLonger (with_class_entry (codes "[I") (with_text (codes "StackMapTable") old)) (framed_pool old)
  unfolding framed_pool
  two-further = more-longer two three (with_class_entry (codes "java/lang/String") three) (class-longer (codes "[[I") two) (class-longer (codes "java/lang/String") three)

  three-further : IsLonger (with_class_entry (codes "[[I") (with_class_entry (codes "[I") (with_text (codes "StackMapTable") old))) (framed_pool old)
  unfolding framed_pool
  three-further = class-longer (codes "java/lang/String") three

  pub table-named : IsSome (table_slot (framed_pool old))
  table-named = ap is_some (table-same 1 (framed_pool old)) ∙ text-further (codes "StackMapTable") one (framed_pool old) one-further (has-text (codes "StackMapTable") old)

  pub has-ints : IsSome (class_slot (codes "[I") (framed_pool old))
  has-ints = class-further (codes "[I") two (framed_pool old) two-further (has-class (codes "[I") one)

  pub has-pages : IsSome (class_slot (codes "[[I") (framed_pool old))
  has-pages = class-further (codes "[[I") three (framed_pool old) three-further (has-class (codes "[[I") two)

  pub has-strings : IsSome (class_slot (codes "java/lang/String") (framed_pool old))
  unfolding framed_pool
  has-strings = has-class (codes "java/lang/String") three

-- ---- the entries are those of a class file

sound-alone : (entries : List Entry) (e x : Entry) (i : ℕ) → slice_get (e ∷ []) i ≡ Some x → pool_entry_fault entries e ≡ None → pool_entry_fault entries x ≡ None
sound-alone entries e x zero at sound = subst (λ y. pool_entry_fault entries y ≡ None) (same_Some e x at) sound
sound-alone entries e x (suc i) at sound = absurd (none-some x at)

one-pool : (old : List Entry) (e : Entry) → IsPool old → MayJoin old e → length (old ++ e ∷ []) ≤ 65534 → IsPool (old ++ e ∷ [])
one-pool old e was may few =
    let stays = get-front old (e ∷ []) in
    let sound = entry_fault-stays old (old ++ e ∷ []) stays (pool-parts old was).sound e may.sound in
    pool-more old (e ∷ []) was stays few (and_from _ true may.spelled refl) (λ i x at. sound-alone (old ++ e ∷ []) e x i at sound)

text-pool : (text : List ℕ) (old : List Entry) → is_long_text text ≡ false → texts.has_16_bit_characters text ≡ true → IsPool old → length (with_text text old) ≤ 65534 → IsPool (with_text text old)
unfolding with_text
text-pool text old short is was few = by-test (is_some (first_text_slot text old)) few
  where
    by-test : (b : Bool) → length (if b then old else old ++ Utf8 text ∷ []) ≤ 65534 → IsPool (if b then old else old ++ Utf8 text ∷ [])
    by-test true h = was
    by-test false h = one-pool old (Utf8 text) was (text-joins old text short is) h

class_of-pool : (name : List ℕ) (old : List Entry) → names_class name ≡ true → IsSome (first_text_slot name old) → IsPool old → length (with_class_of name old) ≤ 65534 → IsPool (with_class_of name old)
class_of-pool name old lawful h was few = by-test (is_some (class_slot name old)) few
  where
    may : MayJoin old (ClassName (unwrap_or (first_text_slot name old) 0))
    may =
        let t = some-of (first_text_slot name old) h in
        let slot : unwrap_or (first_text_slot name old) 0 ≡ t.0 = ap (λ o. unwrap_or o 0) t.1 in
        subst (λ n. MayJoin old (ClassName n)) (sym slot) (class-joins old t.0 name (omega (arith, slot-near (is_text_entry name) old t.0 t.1, (pool-parts old was).few)) (text-found name old t.0 t.1) lawful)

    by-test : (b : Bool) → length (if b then old else old ++ ClassName (unwrap_or (first_text_slot name old) 0) ∷ []) ≤ 65534 → IsPool (if b then old else old ++ ClassName (unwrap_or (first_text_slot name old) 0) ∷ [])
    by-test true k = was
    by-test false k = one-pool old (ClassName (unwrap_or (first_text_slot name old) 0)) was may k

class-pool : (name : List ℕ) (old : List Entry) → is_long_text name ≡ false → texts.has_16_bit_characters name ≡ true → names_class name ≡ true → IsPool old → length (with_class_entry name old) ≤ 65534 → IsPool (with_class_entry name old)
unfolding with_class_entry
class-pool name old short is lawful was few =
    let more = longer-length (with_text name old) (with_class_of name (with_text name old)) (class_of-longer name (with_text name old)) in
    class_of-pool name (with_text name old) lawful (has-text name old) (text-pool name old short is was (omega (arith, more, few))) few

pub framed-sound : (old : List Entry) → IsPool old → length (framed_pool old) ≤ 65534 → IsPool (framed_pool old)
unfolding framed_pool
framed-sound old was few =
    let fourth = longer-length (three old) (with_class_entry (codes "java/lang/String") (three old)) (class-longer (codes "java/lang/String") (three old)) in
    let third = longer-length (two old) (three old) (class-longer (codes "[[I") (two old)) in
    let second = longer-length (one old) (two old) (class-longer (codes "[I") (one old)) in
    class-pool (codes "java/lang/String") (three old) refl refl refl
    (class-pool (codes "[[I") (two old) refl refl refl
    (class-pool (codes "[I") (one old) refl refl refl
    (text-pool (codes "StackMapTable") old refl refl was (omega (arith, second, third, fourth, few)))
    (omega (arith, third, fourth, few)))
    (omega (arith, fourth, few)))
    few

-- ---- the types of references

class-text : (entries : List Entry) (name : List ℕ) (n : ℕ) → class_slot name entries ≡ Some n → class_text_at entries n ≡ Some name
class-text entries name n e =
    let f = found-at (is_class_of_name entries name) entries n e in
    let c = class-of-entry entries name f.0 f.2 in
    let t = same-of name (text_at entries c.0) c.2 in
    ap (λ o. option_and_then (text_at entries) (option_and_then class_entry_name o)) f.1
    ∙ (ap (λ x. option_and_then (text_at entries) (class_entry_name x)) c.1 ∙ (t.1 ∙ ap (λ x. Some x) (equal-texts t.0 name t.2)))

-- no slot before the first one passes the test
least-from : (test : Entry → Bool) (from : ℕ) (entries : List Entry) (n i : ℕ) (e : Entry) → position_from test from entries ≡ Some n → slice_get entries i ≡ Some e → test e ≡ true → n ≤ from + i
least-from test from [] n i e found is passes = absurd (none-some e is)
least-from test from (x ∷ entries) n zero e found is passes =
    let here : position_from test from (x ∷ entries) ≡ Some from = ap (λ b. if b then Some from else position_from test (from + 1) entries) (ap test (same_Some x e is) ∙ passes) in
    omega (arith, same_Some from n (sym here ∙ found))
least-from test from (x ∷ entries) n (suc i) e found is passes = by-test (test x) (λ k. least-from test (from + 1) entries n i e k is passes) found
  where
    by-test : (b : Bool) → (position_from test (from + 1) entries ≡ Some n → n ≤ from + 1 + i) → (if b then Some from else position_from test (from + 1) entries) ≡ Some n → n ≤ from + suc i
    by-test true others k = omega (arith, same_Some from n k)
    by-test false others k = omega (arith, others k)

-- the entry in a slot
got-at : (entries : List Entry) (slot : ℕ) (e : Entry) → entry_at entries slot ≡ Some e → (i : ℕ) × (slot ≡ suc i) × (slice_get entries i ≡ Some e)
got-at entries zero e h = absurd (none-some e h)
got-at entries (suc i) e h =
    let back : suc i - 1 ≡ i = omega arith in
    let there : entry_at entries (suc i) ≡ slice_get entries (suc i - 1) = ap (λ b. if b then None else slice_get entries (suc i - 1)) (ne_eqb (suc i) 0 (λ z. omega (arith, z))) in
    (i, refl, ap (slice_get entries) (sym back) ∙ (sym there ∙ h))

-- a class in a slot has a name
class-in : (entries : List Entry) (slot : ℕ) (name : List ℕ) → class_text_at entries slot ≡ Some name → (e : Entry) × (entry_at entries slot ≡ Some e) × (is_class_of_name entries name e ≡ true)
class-in entries slot name h = by-entry (entry_at entries slot) refl h
  where
    by-entry : (o : Option Entry) → entry_at entries slot ≡ o → option_and_then (text_at entries) (option_and_then class_entry_name o) ≡ Some name → (e : Entry) × (entry_at entries slot ≡ Some e) × (is_class_of_name entries name e ≡ true)
    by-entry (Some (ClassName n)) is k = (ClassName n, is, same-is name (text_at entries n) k)
    by-entry _ is k = absurd (none-some name k)

least-class : (entries : List Entry) (name : List ℕ) (n slot : ℕ) → class_slot name entries ≡ Some n → class_text_at entries slot ≡ Some name → n ≤ slot
least-class entries name n slot found h =
    let c = class-in entries slot name h in
    let at = got-at entries slot c.0 c.1 in
    let least = least-from (is_class_of_name entries name) 1 entries n at.0 c.0 found at.2 c.2 in
    omega (arith, at.1, least)

abbrev kind_by : Bool → Bool → Bool → Option Kind
kind_by a b c = if a then Some kinds.Ints else if b then Some kinds.Pages else if c then Some kinds.Text else None

-- a type of references is that of one name
one-name : (kind : Kind) (first second : List ℕ) → reference_kind (Some first) ≡ Some kind → reference_kind (Some second) ≡ Some kind → second ≡ first
one-name kind first second h k =
    by-tests (same_text first (codes "[I")) (same_text first (codes "[[I")) (same_text first (codes "java/lang/String"))
    (same_text second (codes "[I")) (same_text second (codes "[[I")) (same_text second (codes "java/lang/String")) refl refl refl refl refl refl h k
  where
    both : (text : List ℕ) → same_text first text ≡ true → same_text second text ≡ true → second ≡ first
    both text p q = equal-texts second text q ∙ sym (equal-texts first text p)

    by-tests : (a b c x y z : Bool) → same_text first (codes "[I") ≡ a → same_text first (codes "[[I") ≡ b → same_text first (codes "java/lang/String") ≡ c
        → same_text second (codes "[I") ≡ x → same_text second (codes "[[I") ≡ y → same_text second (codes "java/lang/String") ≡ z
        → kind_by a b c ≡ Some kind → kind_by x y z ≡ Some kind → second ≡ first
    by-tests true b c true y z a-is b-is c-is x-is y-is z-is p q = both (codes "[I") a-is x-is
    by-tests false true c false true z a-is b-is c-is x-is y-is z-is p q = both (codes "[[I") b-is y-is
    by-tests false false true false false true a-is b-is c-is x-is y-is z-is p q = both (codes "java/lang/String") c-is z-is
    by-tests false false false x y z a-is b-is c-is x-is y-is z-is p q = absurd (none-some kind p)
    by-tests a b c false false false a-is b-is c-is x-is y-is z-is p q = absurd (none-some kind q)
    by-tests true b c false true z a-is b-is c-is x-is y-is z-is p q = absurd cc
    by-tests true b c false false true a-is b-is c-is x-is y-is z-is p q = absurd cc
    by-tests false true c true y z a-is b-is c-is x-is y-is z-is p q = absurd cc
    by-tests false true c false false true a-is b-is c-is x-is y-is z-is p q = absurd cc
    by-tests false false true true y z a-is b-is c-is x-is y-is z-is p q = absurd cc
    by-tests false false true false true z a-is b-is c-is x-is y-is z-is p q = absurd cc

-- the name of the class in a slot that names a type
named-in : (entries : List Entry) (slot : ℕ) (kind : Kind) (name : List ℕ) → reference_kind (Some name) ≡ Some kind → kind_at entries slot ≡ Some kind → class_text_at entries slot ≡ Some name
named-in entries slot kind name is h = by-text (class_text_at entries slot) h
  where
    by-text : (o : Option (List ℕ)) → reference_kind o ≡ Some kind → o ≡ Some name
    by-text None k = absurd (none-some kind k)
    by-text (Some text) k = ap (λ x. Some x) (one-name kind name text is k)

names-kind : (entries : List Entry) (name : List ℕ) (kind : Kind) (slot : ℕ) → IsSome (class_slot name entries) → length entries ≤ 65534 → reference_kind (Some name) ≡ Some kind → slot ≡ unwrap_or (class_slot name entries) 0 → NamesKind entries slot kind
names-kind entries name kind slot h few is e =
    let s = some-of (class_slot name entries) h in
    let same : slot ≡ s.0 = e ∙ ap (λ o. unwrap_or o 0) s.1 in
    let near = slot-near (is_class_of_name entries name) entries s.0 s.1 in
    record {
      near = omega (arith, same, near, few);
      is = ap (kind_at entries) same ∙ (ap reference_kind (class-text entries name s.0 s.1) ∙ is);
      lowest = λ other there. omega (arith, same, least-class entries name s.0 other s.1 (named-in entries other kind name is there));
    }

pub framed-references : (old : List Entry) (slots : ReferenceSlots) → length (framed_pool old) ≤ 65534 → slots.ints ≡ unwrap_or (class_slot (codes "[I") (framed_pool old)) 0 → slots.pages ≡ unwrap_or (class_slot (codes "[[I") (framed_pool old)) 0 → slots.text ≡ unwrap_or (class_slot (codes "java/lang/String") (framed_pool old)) 0 → AreReferences (framed_pool old) slots
framed-references old slots few ints pages text = record {
  ints = names-kind (framed_pool old) (codes "[I") kinds.Ints slots.ints (has-ints old) few refl ints;
  pages = names-kind (framed_pool old) (codes "[[I") kinds.Pages slots.pages (has-pages old) few refl pages;
  text = names-kind (framed_pool old) (codes "java/lang/String") kinds.Text slots.text (has-strings old) few refl text;
}

-- ---- the entries that were put in

-- an entry that names nothing, or a class that each set of classes knows
abbrev pub IsKnown : List Entry → Entry → Type 0
IsKnown entries (Utf8 cs) = Unit {0}
IsKnown entries (ClassName n) = (name : List ℕ) × (text_at entries n ≡ Some name) × ((is_array_name name || is_known name) ≡ true)
IsKnown entries _ = ⊥

-- each entry stood there before, or is such a one
abbrev pub HasKnown : List Entry → List Entry → Type 0
HasKnown old new = (i : ℕ) (e : Entry) → slice_get new i ≡ Some e → (slice_get old i ≡ Some e) ⊎ IsKnown new e

known-further : (old new : List Entry) → IsLonger old new → (e : Entry) → IsKnown old e → IsKnown new e
known-further old new l (Utf8 cs) k = tt
known-further old new l (ClassName n) k = (k.0, text-stays old new (longer-stays old new l) n k.0 k.1, k.2)
known-further old new l (Integer n) k = k
known-further old new l (Long n) k = k
known-further old new l LongRest k = k
known-further old new l (Text n) k = k
known-further old new l (FieldRef n m) k = k
known-further old new l (MethodRef n m) k = k
known-further old new l (NameAnd n m) k = k

same-known : (old : List Entry) → HasKnown old old
same-known old i e is = inl is

more-known : (old mid new : List Entry) → IsLonger mid new → HasKnown old mid → HasKnown mid new → HasKnown old new
more-known old mid new l a b i e is =
    ⊎_elim
    (λ there. ⊎_elim (λ old-there. inl old-there) (λ k. inr (known-further mid new l e k)) (a i e there))
    (λ k. inr k)
    (b i e is)

one-known : (old : List Entry) (x : Entry) → IsKnown (old ++ x ∷ []) x → HasKnown old (old ++ x ∷ [])
one-known old x k i e is =
    ⊎_elim
    (λ there. inl there)
    (λ j. inr (alone j.0 j.1))
    (get-behind old (x ∷ []) i e is)
  where
    alone : (j : ℕ) → slice_get (x ∷ []) j ≡ Some e → IsKnown (old ++ x ∷ []) e
    alone zero h = subst (IsKnown (old ++ x ∷ [])) (same_Some x e h) k
    alone (suc j) h = absurd (none-some e h)

text-known : (text : List ℕ) (old : List Entry) → HasKnown old (with_text text old)
unfolding with_text
text-known text old = by-test (is_some (first_text_slot text old))
  where
    by-test : (b : Bool) → HasKnown old (if b then old else old ++ Utf8 text ∷ [])
    by-test true = same-known old
    by-test false = one-known old (Utf8 text) tt

class_of-known : (name : List ℕ) (old : List Entry) → IsSome (first_text_slot name old) → (is_array_name name || is_known name) ≡ true → HasKnown old (with_class_of name old)
class_of-known name old h k = by-test (is_some (class_slot name old))
  where
    by-test : (b : Bool) → HasKnown old (if b then old else old ++ ClassName (unwrap_or (first_text_slot name old) 0) ∷ [])
    by-test true = same-known old
    by-test false =
        let t = some-of (first_text_slot name old) h in
        let new = old ++ ClassName (unwrap_or (first_text_slot name old) 0) ∷ [] in
        let slot : unwrap_or (first_text_slot name old) 0 ≡ t.0 = ap (λ o. unwrap_or o 0) t.1 in
        let there : text_at new (unwrap_or (first_text_slot name old) 0) ≡ Some name = ap (text_at new) slot ∙ text-stays old new (get-front old (ClassName (unwrap_or (first_text_slot name old) 0) ∷ [])) t.0 name (text-found name old t.0 t.1) in
        one-known old (ClassName (unwrap_or (first_text_slot name old) 0)) (name, there, k)

class-known : (name : List ℕ) (old : List Entry) → (is_array_name name || is_known name) ≡ true → HasKnown old (with_class_entry name old)
unfolding with_class_entry
class-known name old k = more-known old (with_text name old) (with_class_of name (with_text name old)) (class_of-longer name (with_text name old)) (text-known name old) (class_of-known name (with_text name old) (has-text name old) k)

pub framed-known : (old : List Entry) → HasKnown old (framed_pool old)
unfolding framed_pool
framed-known old =
    more-known old (three old) (with_class_entry (codes "java/lang/String") (three old)) (class-longer (codes "java/lang/String") (three old))
    (more-known old (two old) (three old) (class-longer (codes "[[I") (two old))
    (more-known old (one old) (two old) (class-longer (codes "[I") (one old))
    (text-known (codes "StackMapTable") old)
    (class-known (codes "[I") (one old) refl))
    (class-known (codes "[[I") (two old) refl))
    (class-known (codes "java/lang/String") (three old) refl)

-- ---- one step after the other

pub text-there : (text : List ℕ) (old : List Entry) → is_some (first_text_slot text old) ≡ true → with_text text old ≡ old
unfolding with_text
text-there text old h = ap (λ b. if b then old else old ++ Utf8 text ∷ []) h

pub text-put : (text : List ℕ) (old : List Entry) → is_some (first_text_slot text old) ≡ false → with_text text old ≡ old ++ Utf8 text ∷ []
unfolding with_text
text-put text old h = ap (λ b. if b then old else old ++ Utf8 text ∷ []) h

pub text-length : (text : List ℕ) (old : List Entry) → length (with_text text old) ≤ length old + 1
unfolding with_text
text-length text old = by-test (is_some (first_text_slot text old))
  where
    by-test : (b : Bool) → length (if b then old else old ++ Utf8 text ∷ []) ≤ length old + 1
    by-test true = omega arith
    by-test false = omega (arith, length-append old (Utf8 text ∷ []))

pub class-put : (name : List ℕ) (old : List Entry) → with_class_of name (with_text name old) ≡ with_class_entry name old
unfolding with_class_entry
class-put name old = refl

pub class-length : (name : List ℕ) (old : List Entry) → length old ≤ length (with_class_entry name old)
class-length name old = longer-length old (with_class_entry name old) (class-longer name old)

pub first-many : (old : List Entry) → 65534 < length (with_class_entry (codes "[I") (with_text (codes "StackMapTable") old)) → 65534 < length (framed_pool old)
first-many old h = omega (arith, h, longer-length (two old) (framed_pool old) (two-further old))

pub second-many : (old : List Entry) → 65534 < length (with_class_entry (codes "[[I") (with_class_entry (codes "[I") (with_text (codes "StackMapTable") old))) → 65534 < length (framed_pool old)
second-many old h = omega (arith, h, longer-length (three old) (framed_pool old) (three-further old))

pub third-is : (old : List Entry) → with_class_entry (codes "java/lang/String") (with_class_entry (codes "[[I") (with_class_entry (codes "[I") (with_text (codes "StackMapTable") old))) ≡ framed_pool old
unfolding framed_pool
third-is old = refl
