-- The entries of a class that keeps the rules of the format, and the names in them.
use Rattle.std.proofs.Common.{◌≡◌, ℕ, ◌+◌, ◌-◌, ◌<◌, Bool, true, false, cond, ◌&&◌, ◌||◌, eqb, List, [], ◌∷◌, length, Option, Some, None, get_or, refl, sym, subst, arith, inl, inr, lit<}
use Rattle.std.specs.Prelude.{nat_le, not}
use Rattle.std.specs.List.{All, AllByRecursion}
use Rattle.std.specs.Int.{w16}
use Rattle.std.proofs.lemmas.Bool.{and_parts, or_cases, leb-true, eqb-true}
use Rattle.std.proofs.lemmas.List.Elements.{All-from_recursion}
use Rattle.class_definition.specs.Kinds.{cut, index, utf8}
use Rattle.class_definition.specs.Format.{both, number_format, tested, is_sound}
use Rattle.class_definition.specs.declared.entry.Entry.{Entry}
use Rattle.class_definition.specs.declared.entry.Entry.TheVariants.{ClassName}
use Rattle.class_definition.specs.NameGrammar.{is_array_name, is_part_character, is_name_from, is_class_file_name}
use Rattle.class_definition.specs.PoolEntries.{slots}
use Rattle.class_definition.specs.PoolChecks.{pool, sound_slots, text_at, text_fault, pool_entry_fault, fault_or, slot_size, pool_entries_fault}
use Rattle.class_definition.specs.declared.class.Class.{Class}
use Rattle.class_definition.specs.ClassFile.{preamble, class_slots, members, class_parts, class}
use Rattle.class_names.specs.Kept.{IsClass}
use Rattle.class_definition.specs.MemberNames.{is_known}
use Rattle.class_sets.specs.ClassSets.{has_file}

pool_of : (c : Class) → IsClass c → pool.fits c.pool ≡ true
unfolding class
pool_of c kept =
    let p = and_parts (preamble.fits tt) ((both pool (λ entries. both (class_slots entries) (λ _. members entries))).fits (class_parts c)) kept in
    (and_parts (pool.fits c.pool) ((both (class_slots c.pool) (λ _. members c.pool)).fits (class_parts c).1) p.1).0

pool_sound : (entries : List Entry) → pool.fits entries ≡ true → is_sound (pool_entries_fault entries entries 0) ≡ true
unfolding pool
pool_sound entries fits =
    let p = and_parts ((tested index (λ n. nat_le 1 n) (number_format cut w16)).fits (length entries + 1)) ((sound_slots (length entries + 1)).fits entries) fits in
    (and_parts ((slots (length entries + 1 - 1)).fits entries) (is_sound (pool_entries_fault entries entries 0)) p.1).1

each_sound : (entries es : List Entry) (at : ℕ) → is_sound (pool_entries_fault entries es at) ≡ true → AllByRecursion (λ (e : Entry). pool_entry_fault entries e ≡ None) es
unfolding pool_entries_fault
each_sound entries [] at sound = tt
each_sound entries (e ∷ es) at sound = by (λ at h. each_sound entries es at h) (pool_entry_fault entries e) refl sound
  where
    Each : List Entry → Type 0
    Each xs = AllByRecursion (λ (x : Entry). pool_entry_fault entries x ≡ None) xs

    by : ((at : ℕ) → is_sound (pool_entries_fault entries es at) ≡ true → Each es) → (fault : Option ℕ) → pool_entry_fault entries e ≡ fault → is_sound (fault_or at fault (pool_entries_fault entries es (at + slot_size e))) ≡ true → (pool_entry_fault entries e ≡ None) × Each es
    by others None is sound = (is, others (at + slot_size e) sound)
    by others (Some kind) is sound = absurd cc

-- its entries have no fault
pub kept_entries : (c : Class) → IsClass c → All (λ (e : Entry). pool_entry_fault c.pool e ≡ None) c.pool
kept_entries c kept = All-from_recursion (λ (e : Entry). pool_entry_fault c.pool e ≡ None) c.pool (each_sound c.pool c.pool 0 (pool_sound c.pool (pool_of c kept)))

-- ---- names

plain_character : (c : ℕ) → is_part_character c ≡ true → c < 128
plain_character c e = elim (or_cases _ (eqb c 36) e) [
  | inl four ↦ elim (or_cases _ (eqb c 95) four) [
    | inl three ↦ elim (or_cases _ (nat_le 48 c && nat_le c 57) three) [
      | inl two ↦ elim (or_cases (nat_le 97 c && nat_le c 122) (nat_le 65 c && nat_le c 90) two) [
        | inl small ↦ below 97 122 small (lit< tt)
        | inr capital ↦ below 65 90 capital (lit< tt)
      ]
      | inr digit ↦ below 48 57 digit (lit< tt)
    ]
    | inr is ↦ exactly 95 is (lit< tt)
  ]
  | inr is ↦ exactly 36 is (lit< tt)
]
  where
    below : (a b : ℕ) → (nat_le a c && nat_le c b) ≡ true → b < 128 → c < 128
    below a b h small = omega (arith, leb-true c b (and_parts (nat_le a c) (nat_le c b) h).1)

    exactly : (a : ℕ) → eqb c a ≡ true → a < 128 → c < 128
    exactly a h small = omega (arith, eqb-true c a h)

plain_from : (inside : Bool) (cs : List ℕ) → is_name_from inside cs ≡ true → AllByRecursion (λ c. c < 128) cs
plain_from inside [] e = tt
plain_from inside (c ∷ cs) e = by (λ b h. plain_from b cs h) (eqb c 47) refl e
  where
    Plain : Type 0
    Plain = (b : Bool) → is_name_from b cs ≡ true → AllByRecursion (λ d. d < 128) cs

    by : Plain → (b : Bool) → eqb c 47 ≡ b → cond b (inside && is_name_from false cs) (is_part_character c && is_name_from true cs) ≡ true → (c < 128) × AllByRecursion (λ d. d < 128) cs
    by others true is e = let p = and_parts inside (is_name_from false cs) e in let same : c ≡ 47 = eqb-true c 47 is in (omega arith, others false p.1)
    by others false is e = let p = and_parts (is_part_character c) (is_name_from true cs) e in (plain_character c p.0, others true p.1)

-- the names of classes are ASCII
pub plain_name : (cs : List ℕ) → is_class_file_name cs ≡ true → All (λ c. c < 128) cs
plain_name cs e = All-from_recursion (λ c. c < 128) cs (plain_from false cs e)

class_fault : (entries : List Entry) (slot : ℕ) → pool_entry_fault entries (ClassName slot) ≡ None → text_fault (λ cs. is_class_file_name cs || is_array_name cs) (text_at entries slot) ≡ None
unfolding pool_entry_fault
class_fault entries slot sound = sound

-- a class of a pool without faults that has a file has such a name
pub plain_named : (entries : List Entry) (e : Entry) (slot : ℕ) (name : List ℕ) → pool_entry_fault entries e ≡ None → e ≡ ClassName slot → text_at entries slot ≡ Some name → has_file name ≡ true → All (λ c. c < 128) name
plain_named entries e slot name sound is at has = plain_name name (by (is_class_file_name name) (is_array_name name) (is_known name) fault has)
  where
    fault : text_fault (λ cs. is_class_file_name cs || is_array_name cs) (Some name) ≡ None
    fault = subst (λ t. text_fault (λ cs. is_class_file_name cs || is_array_name cs) t ≡ None) at (class_fault entries slot (subst (λ x. pool_entry_fault entries x ≡ None) is sound))

    by : (own array known : Bool) → ◌≡◌ {A = Option ℕ} (cond (own || array) None (Some utf8)) None → not (array || known) ≡ true → own ≡ true
    by true array known h g = refl
    by false true known h g = cc
    by false false known h g = cc

-- an entry of such a class has no fault
pub kept_entry : (c : Class) (entries : List Entry) (i : ℕ) (e : Entry) → IsClass c → entries ≡ c.pool → i < length entries → e ≡ get_or entries i e → pool_entry_fault entries e ≡ None
kept_entry c entries i e kept is lt at =
    let P : List Entry → Type 0 = λ es. All (λ (x : Entry). pool_entry_fault es x ≡ None) es in
    let each : P entries = subst P (sym is) (kept_entries c kept) in
    subst (λ x. pool_entry_fault entries x ≡ None) (sym at) (each i e lt)
