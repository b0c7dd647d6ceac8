-- A pool stays sound when entries are put behind it.
use Rattle.std.proofs.Common.{◌≡◌, ℕ, zero, suc, ◌+◌, ◌-◌, ◌≤◌, ◌||◌, Bool, true, false, eqb, ltb, if◌then◌else◌, ◌==◌, List, [], ◌∷◌, ◌++◌}
use Rattle.std.proofs.Common.{length, Option, Some, None, ◌⊎◌, inl, inr, refl, subst, arith}
use Rattle.std.specs.Prelude.{slice_get}
use Rattle.std.specs.Option.{option_and_then}
use Rattle.std.proofs.lemmas.Bool.{and_parts, and_from, ne_eqb, eq-eqb, le-leb, ltb-true, lt-ltb}
use Rattle.class_definition.specs.declared.class_fault.ClassFault.{ClassFault}
use Rattle.class_definition.specs.Format.{is_sound}
use Rattle.class_definition.specs.declared.entry.Entry.{Entry}
use Rattle.class_definition.specs.declared.entry.Entry.TheVariants.{Utf8, Integer, Long, LongRest, ClassName, Text, FieldRef, MethodRef}
use Rattle.class_definition.specs.declared.entry.Entry.TheVariants.{NameAnd}
use Rattle.class_definition.specs.PoolEntries.{class_entry_name, name_entry, slot, slots}
use Rattle.class_definition.specs.PoolChecks.{entry_at, text_at, text_fault, text_fault_if_there, pair_fault, ref_fault, pool_entry_fault, slot_size}
use Rattle.class_definition.specs.PoolChecks.{fault_or, pool_entries_fault, sound_slots, pool}
use Rattle.class_definition.specs.NameGrammar.{is_class_file_name, is_array_name, is_field_descriptor, is_method_descriptor}
use Rattle.constant_pool.specs.Slots.{IsAt}
use Rattle.emit_assembly.specs.Assembling.{can_stand}
use Rattle.emit_assembly.proofs.Standing.{stand-more}
use Rattle.emit_classes.specs.Sound.{IsPool}
use Rattle.emit_classes.proofs.Stays.{StaysSome, Stays, text-stays, class_of-stays, name_of-stays}

-- ---- faults of what is named

pub text_fault-stays : (test : List ℕ → Bool) (o p : Option (List ℕ)) → StaysSome o p → text_fault test o ≡ None → text_fault test p ≡ None
text_fault-stays test None p stays none = absurd cc
text_fault-stays test (Some text) p stays none = rw (stays text refl) none

pair_fault-stays : (n m d e : Option (List ℕ)) → StaysSome n m → StaysSome d e → pair_fault n d ≡ None → pair_fault m e ≡ None
pair_fault-stays None m d e name descriptor none = absurd cc
pair_fault-stays (Some x) m None e name descriptor none = absurd cc
pair_fault-stays (Some x) m (Some y) e name descriptor none = rw (name x refl, descriptor y refl) none

-- ---- all entries of a pool

abbrev pub AllSound : List Entry → Type 0
AllSound pool = (slot : ℕ) (e : Entry) → IsAt pool slot e → pool_entry_fault pool e ≡ None

-- the descriptor of a sound pair is a text
described : (n d : Option (List ℕ)) → pair_fault n d ≡ None → (text : List ℕ) × (d ≡ Some text)
described None d none = absurd cc
described (Some x) None none = absurd cc
described (Some x) (Some y) none = (y, refl)

pair_described : (pool : List Entry) (e : Entry) (x : ℕ × ℕ) → pool_entry_fault pool e ≡ None → name_entry e ≡ Some x
    → (text : List ℕ) × (text_at pool x.1 ≡ Some text)
unfolding pool_entry_fault
pair_described pool (Utf8 cs) x none is = absurd cc
pair_described pool (Integer n) x none is = absurd cc
pair_described pool (Long n) x none is = absurd cc
pair_described pool LongRest x none is = absurd cc
pair_described pool (ClassName n) x none is = absurd cc
pair_described pool (Text n) x none is = absurd cc
pair_described pool (FieldRef n m) x none is = absurd cc
pair_described pool (MethodRef n m) x none is = absurd cc
pair_described pool (NameAnd n m) x none is =
    let P : ℕ × ℕ → Type 0 = λ y. (text : List ℕ) × (text_at pool y.1 ≡ Some text) in
    let same : (n, m) ≡ x = cc in
    subst P same (described (text_at pool n) (text_at pool m) none)

named_pair : (pool : List Entry) (o : Option Entry) → ((e : Entry) → o ≡ Some e → pool_entry_fault pool e ≡ None) → (x : ℕ × ℕ)
    → option_and_then name_entry o ≡ Some x
    → (text : List ℕ) × (text_at pool x.1 ≡ Some text)
named_pair pool None sound x is = absurd cc
named_pair pool (Some e) sound x is = pair_described pool e x (sound e refl) is

if_there-stays : (test : List ℕ → Bool) (o p : Option (List ℕ)) → ((text : List ℕ) × (o ≡ Some text)) → StaysSome o p
    → text_fault_if_there test o ≡ None → text_fault_if_there test p ≡ None
if_there-stays test None p is stays none = let t = is.1 in absurd cc
if_there-stays test (Some text) p is stays none = rw (stays text refl) none

ref_fault-stays : (old new : List Entry) (test : List ℕ → Bool) (a b : Option ℕ) (c d : Option (ℕ × ℕ)) → Stays old new
    → ((x : ℕ × ℕ) → c ≡ Some x → (text : List ℕ) × (text_at old x.1 ≡ Some text)) → StaysSome a b → StaysSome c d
    → ref_fault old test a c ≡ None → ref_fault new test b d ≡ None
ref_fault-stays old new test None b c d stays described class name none = absurd cc
ref_fault-stays old new test (Some x) b None d stays described class name none = absurd cc
ref_fault-stays old new test (Some x) b (Some y) d stays described class name none =
    rw (class x refl, name y refl) (if_there-stays test (text_at old y.1) (text_at new y.1) (described y refl)
    (text-stays old new stays y.1) none)

module _ (old new : List Entry) (stays : Stays old new) (sound : AllSound old) where
  reference-stays : (test : List ℕ → Bool) (class name : ℕ)
      → ref_fault old test (option_and_then class_entry_name (entry_at old class)) (option_and_then name_entry (entry_at old name)) ≡ None
      → ref_fault new test (option_and_then class_entry_name (entry_at new class)) (option_and_then name_entry (entry_at new name)) ≡ None
  reference-stays test class name none =
      ref_fault-stays old new test _ _ _ _ stays (named_pair old (entry_at old name) (sound name)) (class_of-stays old new stays class)
      (name_of-stays old new stays name) none

  pub entry_fault-stays : (e : Entry) → pool_entry_fault old e ≡ None → pool_entry_fault new e ≡ None
  unfolding pool_entry_fault
  entry_fault-stays (Utf8 cs) none = refl
  entry_fault-stays (Integer n) none = refl
  entry_fault-stays (Long n) none = refl
  entry_fault-stays LongRest none = refl
  entry_fault-stays (ClassName n) none = text_fault-stays (λ cs. is_class_file_name cs || is_array_name cs) (text_at old n) (text_at new n)
      (text-stays old new stays n) none
  entry_fault-stays (Text n) none = text_fault-stays (λ _. true) (text_at old n) (text_at new n) (text-stays old new stays n) none
  entry_fault-stays (FieldRef n m) none = reference-stays is_field_descriptor n m none
  entry_fault-stays (MethodRef n m) none = reference-stays is_method_descriptor n m none
  entry_fault-stays (NameAnd n m) none =
      pair_fault-stays (text_at old n) (text_at new n) (text_at old m) (text_at new m) (text-stays old new stays n)
      (text-stays old new stays m) none

-- ---- as the entries of a class file

fault_or-none : (at : ℕ) (kind : Option ℕ) (others : Option ClassFault) → fault_or at kind others ≡ None → (kind ≡ None) × (others ≡ None)
fault_or-none at None others none = (refl, none)
fault_or-none at (Some kind) others none = absurd cc

none-at : (pool es : List Entry) (at : ℕ) → pool_entries_fault pool es at ≡ None → (i : ℕ) (e : Entry) → slice_get es i ≡ Some e
    → pool_entry_fault pool e ≡ None
unfolding pool_entries_fault
none-at pool [] at none i e is = absurd cc
none-at pool (x ∷ es) at none zero e is =
    let same : x ≡ e = cc in
    rw (← same) (fault_or-none at (pool_entry_fault pool x) (pool_entries_fault pool es (at + slot_size x)) none).0
none-at pool (x ∷ es) at none (suc i) e is =
    none-at pool es (at + slot_size x) (fault_or-none at (pool_entry_fault pool x) (pool_entries_fault pool es (at + slot_size x)) none).1 i e is

none-all : (pool es : List Entry) (at : ℕ) → ((i : ℕ) (e : Entry) → slice_get es i ≡ Some e → pool_entry_fault pool e ≡ None)
    → pool_entries_fault pool es at ≡ None
unfolding pool_entries_fault
none-all pool [] at sound = refl
none-all pool (x ∷ es) at sound =
    let here : pool_entry_fault pool x ≡ None = sound 0 x refl in
    rw here (none-all pool es (at + slot_size x) (λ i e is. sound (suc i) e is))

pub at-index : (pool : List Entry) (slot : ℕ) (e : Entry) → IsAt pool slot e → slice_get pool (slot - 1) ≡ Some e
at-index pool slot e is =
    (elim (slot == 0) as (λ b. (if b then None else slice_get pool (slot - 1)) ≡ Some e → slice_get pool (slot - 1) ≡ Some e)
    [ true ↦ λ no. absurd cc | false ↦ λ there. there ]) is

pub index-at : (pool : List Entry) (i : ℕ) (e : Entry) → slice_get pool i ≡ Some e → IsAt pool (suc i) e
index-at pool i e is =
    let no : eqb (suc i) 0 ≡ false = ne_eqb (suc i) 0 (λ z. omega arith) in
    let k : suc i - 1 ≡ i = omega arith in
    rw (no, k) is

front-get : (xs ys : List Entry) (i : ℕ) (e : Entry) → slice_get xs i ≡ Some e → slice_get (xs ++ ys) i ≡ Some e
front-get [] ys i e is = absurd cc
front-get (x ∷ xs) ys zero e is = is
front-get (x ∷ xs) ys (suc i) e is = front-get xs ys i e is

front-at : (b : Bool) (xs ys : List Entry) (i : ℕ) (e : Entry) → (if b then None else slice_get xs i) ≡ Some e
    → (if b then None else slice_get (xs ++ ys) i) ≡ Some e
front-at true xs ys i e is = is
front-at false xs ys i e is = front-get xs ys i e is

pub get-front : (xs ys : List Entry) → Stays xs (xs ++ ys)
get-front xs ys slot e is = front-at (slot == 0) xs ys (slot - 1) e is

pub all_sound : (pool : List Entry) → pool_entries_fault pool pool 0 ≡ None → AllSound pool
all_sound pool none slot e is = none-at pool pool 0 none (slot - 1) e (at-index pool slot e is)

pub no_fault : (pool : List Entry) → AllSound pool → pool_entries_fault pool pool 0 ≡ None
no_fault pool sound = none-all pool pool 0 (λ i e is. sound (suc i) e (index-at pool i e is))

-- ---- entries behind

pub get-behind : (xs ys : List Entry) (i : ℕ) (e : Entry) → slice_get (xs ++ ys) i ≡ Some e
    → (slice_get xs i ≡ Some e) ⊎ ((j : ℕ) × (slice_get ys j ≡ Some e))
get-behind [] ys i e is = inr (i, is)
get-behind (x ∷ xs) ys zero e is = inl is
get-behind (x ∷ xs) ys (suc i) e is = get-behind xs ys i e is

abbrev pub AreSound : List Entry → List Entry → Type 0
AreSound pool behind = (i : ℕ) (e : Entry) → slice_get behind i ≡ Some e → pool_entry_fault pool e ≡ None

pub sound-more : (old behind : List Entry) → Stays old (old ++ behind) → AllSound old → AreSound (old ++ behind) behind
    → AllSound (old ++ behind)
sound-more old behind stays sound more slot e is =
    elim (get-behind old behind (slot - 1) e (at-index (old ++ behind) slot e is)) [
      | inl here ↦ entry_fault-stays old (old ++ behind) stays sound e (sound (suc (slot - 1)) e (index-at old (slot - 1) e here))
      | inr there ↦ more there.0 e there.1
    ]

-- ---- a pool of a class file

pub record Parts (es : List Entry) : Type 0 where
  pub few : length es ≤ 65534
  pub spelled : can_stand es ≡ true
  pub sound : AllSound es

of_is_sound : (fault : Option ClassFault) → is_sound fault ≡ true → fault ≡ None
of_is_sound None sound = refl
of_is_sound (Some fault) sound = absurd cc

pub pool-parts : (es : List Entry) → IsPool es → Parts es
unfolding pool
pool-parts es fits =
    let p = and_parts _ ((sound_slots (length es + 1)).fits es) fits in
    let q = and_parts (ltb (length es + 1) 65536) _ p.0 in
    let r = and_parts ((slots (length es + 1 - 1)).fits es) (is_sound (pool_entries_fault es es 0)) p.1 in
    let s = and_parts (eqb (length es) (length es + 1 - 1)) (can_stand es) r.0 in
    record {
      few = omega (arith, ltb-true (length es + 1) 65536 q.0);
      spelled = s.1;
      sound = all_sound es (of_is_sound (pool_entries_fault es es 0) r.1);
    }

pub pool-of-parts : (es : List Entry) → Parts es → IsPool es
unfolding pool
pool-of-parts es p =
    let few = p.few in
    and_from _ ((sound_slots (length es + 1)).fits es)
    (and_from (ltb (length es + 1) 65536) _ (lt-ltb (length es + 1) 65536 (omega arith)) (rw (le-leb 1 (length es + 1) (omega arith)) refl))
    (and_from ((slots (length es + 1 - 1)).fits es) (is_sound (pool_entries_fault es es 0))
    (and_from (eqb (length es) (length es + 1 - 1)) (can_stand es) (eq-eqb (length es) (length es + 1 - 1) (omega arith)) p.spelled)
    (rw (no_fault es p.sound) refl))

pub pool-more : (old behind : List Entry) → IsPool old → Stays old (old ++ behind) → length (old ++ behind) ≤ 65534
    → can_stand behind ≡ true
    → AreSound (old ++ behind) behind → IsPool (old ++ behind)
pool-more old behind was stays few spelled sound =
    let p = pool-parts old was in
    pool-of-parts (old ++ behind) (record {
      few = few;
      spelled = stand-more old behind p.spelled spelled;
      sound = sound-more old behind stays p.sound sound;
    })
