-- What is written of a class that keeps the rules is its spelling.
use Rattle.std.proofs.Common.{◌≡◌, ℕ, ℤ, ◌+◌, ◌-◌, ◌&&◌, ◌||◌, Bool, true, false, cond, eqb, ltb, leb, List, [], ◌∷◌, ◌++◌, length, Some, None, refl, sym, ap, ◌∙◌, append_assoc}
use Rattle.std.specs.Prelude.{flat_map, not}
use Rattle.std.specs.List.{list_all}
use Rattle.std.specs.Int.{Width, w16, w32, w64, to_be_bytes, cast_unsigned}
use Rattle.std.proofs.lemmas.Bool.{and_parts, and_from}
use Rattle.class_definition.specs.Kinds.{cut, index, attribute, bad_code}
use Rattle.class_definition.specs.Format.{Format, number_format, both, counted, repeated, chain_spelling, chain_fits, signed, spelled_by, fits_by, fits_signed, mapped, refused_format, behind, fault_unless, is_sound}
use Rattle.class_format.proofs.Parts.{passes}
use Rattle.class_definition.specs.declared.entry.Entry.{Entry}
use Rattle.class_definition.specs.declared.entry.Entry.TheVariants.{Utf8, Integer, Long, LongRest, ClassName, Text, FieldRef, MethodRef, NameAnd}
use Rattle.class_definition.specs.PoolEntries.{entry, slot, slots, is_long_entry, long_entry}
use Rattle.class_definition.specs.NameGrammar.{is_member_name}
use Rattle.class_definition.specs.PoolChecks.{pool, sound_slots, pool_entries_fault}
use Rattle.class_definition.specs.declared.class.Class.{Class}
use Rattle.class_definition.specs.declared.member.Member.{Member}
use Rattle.class_definition.specs.declared.method.Method.{Method}
use Rattle.class_definition.specs.Code.{is_bad_length}
use Rattle.class_definition.specs.Named.{text_slot, is_own_descriptor, code_name_slot}
use Rattle.class_definition.specs.Members.{public_static, attributes, field, CodeHead, code_length, code_head, code_attribute, method_parts, method}
use Rattle.class_definition.specs.ClassFile.{preamble, class_slots, members, class, Spells}
use Rattle.class_writer.specs.Written.{halves, word, entry_bytes, field_bytes, code_bytes, method_bytes, has_short_code, front_bytes, class_bytes}

-- ---- entries

spelled_of : (w : Width) (b : Bool) (n : ℕ) → fits_by (number_format cut w) (cond b (Some n) None) ≡ true → spelled_by (number_format cut w) (cond b (Some n) None) ≡ to_be_bytes w n
spelled_of w true n e = refl
spelled_of w false n e = absurd cc

signed_spelled : (w : Width) (z : ℤ) → (signed cut w).fits z ≡ true → (signed cut w).spell z ≡ to_be_bytes w (cast_unsigned w z)
signed_spelled w z e = spelled_of w (fits_signed w z) (cast_unsigned w z) e

long_spelled : (b : Bool) (n : ℤ) → (cond b (mapped Long long_entry (signed cut w64)) (refused_format index 1)).fits (Long n) ≡ true
    → (cond b (mapped Long long_entry (signed cut w64)) (refused_format index 1)).spell (Long n) ≡ to_be_bytes w64 (cast_unsigned w64 n)
long_spelled true n e = signed_spelled w64 n e
long_spelled false n e = absurd cc

slot_spelled : (after_long : Bool) (to_come : ℕ) (e : Entry) → (slot after_long to_come).fits e ≡ true → (slot after_long to_come).spell e ≡ entry_bytes e
unfolding entry
slot_spelled true to_come (Utf8 cs) e = absurd cc
slot_spelled true to_come (Integer n) e = absurd cc
slot_spelled true to_come (Long n) e = absurd cc
slot_spelled true to_come LongRest e = refl
slot_spelled true to_come (ClassName n) e = absurd cc
slot_spelled true to_come (Text n) e = absurd cc
slot_spelled true to_come (FieldRef n m) e = absurd cc
slot_spelled true to_come (MethodRef n m) e = absurd cc
slot_spelled true to_come (NameAnd n m) e = absurd cc
slot_spelled false to_come (Utf8 cs) e = refl
slot_spelled false to_come (Integer n) e = ap (λ (xs : List ℕ). 3 ∷ xs) (signed_spelled w32 n e)
slot_spelled false to_come (Long n) e = ap (λ (xs : List ℕ). 5 ∷ xs) (long_spelled (leb 1 to_come) n e)
slot_spelled false to_come LongRest e = absurd cc
slot_spelled false to_come (ClassName n) e = refl
slot_spelled false to_come (Text n) e = refl
slot_spelled false to_come (FieldRef n m) e = refl
slot_spelled false to_come (MethodRef n m) e = refl
slot_spelled false to_come (NameAnd n m) e = refl

pub entries_spelled : (s : Bool) (es : List Entry) → chain_fits slot (λ _ e. is_long_entry e) s es ≡ true → chain_spelling slot (λ _ e. is_long_entry e) s es ≡ flat_map entry_bytes es
entries_spelled s [] e = refl
entries_spelled s (x ∷ xs) e =
    let p = and_parts ((slot s (length xs)).fits x) (chain_fits slot (λ _ y. is_long_entry y) (is_long_entry x) xs) e in
    let one : (slot s (length xs)).spell x ≡ entry_bytes x = slot_spelled s (length xs) x p.0 in
    let others : chain_spelling slot (λ _ y. is_long_entry y) (is_long_entry x) xs ≡ flat_map entry_bytes xs = entries_spelled (is_long_entry x) xs p.1 in
    ap (λ (ys : List ℕ). ys ++ chain_spelling slot (λ _ y. is_long_entry y) (is_long_entry x) xs) one ∙ ap (λ (ys : List ℕ). entry_bytes x ++ ys) others

pub pool_fits : (es : List Entry) → pool.fits es ≡ true → chain_fits slot (λ _ e. is_long_entry e) false es ≡ true
unfolding pool
pool_fits es e =
    let p = and_parts _ ((sound_slots (length es + 1)).fits es) e in
    let q = and_parts ((slots (length es + 1 - 1)).fits es) (is_sound (pool_entries_fault es es 0)) p.1 in
    (and_parts (eqb (length es) (length es + 1 - 1)) (chain_fits slot (λ _ y. is_long_entry y) false es) q.0).1

-- ---- fields and methods

abbrev pub spelling_of : {A : Type 0} → Format A → List A → List ℕ
spelling_of f xs = chain_spelling {S = Unit {0}} (λ _ _. f) (λ s _. s) tt xs

abbrev fit_all : {A : Type 0} → Format A → List A → Bool
fit_all f xs = chain_fits {S = Unit {0}} (λ _ _. f) (λ s _. s) tt xs

pub all_spelled : {A : Type 0} (f : Format A) (bytes : A → List ℕ) → ((a : A) → f.spell a ≡ bytes a) → (xs : List A) → spelling_of f xs ≡ flat_map bytes xs
all_spelled f bytes is [] = refl
all_spelled f bytes is (x ∷ xs) = ap (λ (ys : List ℕ). ys ++ spelling_of f xs) (is x) ∙ ap (λ (ys : List ℕ). bytes x ++ ys) (all_spelled f bytes is xs)

pub field_spelled : (es : List Entry) (f : Member) → (field es).spell f ≡ field_bytes f
unfolding field
field_spelled es f = refl

method_spelled : (es : List Entry) (m : Method) → (method es).spell m ≡ method_bytes m
unfolding method code_attribute code_bytes method_bytes
method_spelled es m = simp append_assoc refl

short_of : (a b : Bool) → not (a || b) ≡ true → not b ≡ true
short_of true b e = absurd cc
short_of false b e = e

abbrev names : List Entry → Format (ℕ × ℕ)
names es = both (text_slot es is_member_name) (λ _. text_slot es is_own_descriptor)

abbrev named_code : List Entry → Format (ℕ × (CodeHead × List ℕ))
named_code es = behind (attributes 1) (both (code_name_slot es) (λ _. code_attribute))

head_short : (h : CodeHead) → code_head.fits h ≡ true → not (ltb 65535 h.1.1.1) ≡ true
head_short h e =
    let p = and_parts _ (is_sound (fault_unless attribute (eqb h.0 (h.1.1.1 + 12)))) e in
    let q = and_parts ((number_format cut w32).fits h.0) _ p.0 in
    let r = and_parts ((number_format cut w16).fits h.1.0) _ q.1 in
    let s = and_parts ((number_format cut w16).fits h.1.1.0) (code_length.fits h.1.1.1) r.1 in
    let t = and_parts ((number_format cut w32).fits h.1.1.1) (is_sound (fault_unless bad_code (not (is_bad_length h.1.1.1)))) s.1 in
    short_of (eqb h.1.1.1 0) (ltb 65535 h.1.1.1) (passes bad_code (not (is_bad_length h.1.1.1)) t.1)

attribute_short : (h : CodeHead) (bytes : List ℕ) → code_attribute.fits (h, bytes) ≡ true → not (ltb 65535 h.1.1.1) ≡ true
unfolding code_attribute
attribute_short h bytes e = head_short h (and_parts (code_head.fits h) _ e).0

method_short : (es : List Entry) (m : Method) → (method es).fits m ≡ true → has_short_code m ≡ true
unfolding method
method_short es m e =
    let b = method_parts m in
    let p = and_parts (public_static.fits tt) ((both (names es) (λ _. named_code es)).fits b) e in
    let q = and_parts ((names es).fits b.0) ((named_code es).fits b.1) p.1 in
    let r = and_parts ((attributes 1).fits tt) ((both (code_name_slot es) (λ _. code_attribute)).fits b.1) q.1 in
    let s = and_parts ((code_name_slot es).fits b.1.0) (code_attribute.fits b.1.1) r.1 in
    attribute_short b.1.1.0 b.1.1.1 s.1

all_short : (es : List Entry) (ms : List Method) → fit_all (method es) ms ≡ true → list_all has_short_code ms ≡ true
all_short es [] e = refl
all_short es (m ∷ ms) e =
    let p = and_parts ((method es).fits m) (fit_all (method es) ms) e in
    and_from (has_short_code m) (list_all has_short_code ms) (method_short es m p.0) (all_short es ms p.1)

members_short : (es : List Entry) (fs : List Member) (ms : List Method) → (members es).fits (fs, ms) ≡ true → list_all has_short_code ms ≡ true
unfolding members
members_short es fs ms e =
    let p = and_parts ((both (counted cut w16 (field es)) (λ _. counted cut w16 (method es))).fits (fs, ms)) ((attributes 0).fits tt) e in
    let q = and_parts ((counted cut w16 (field es)).fits fs) ((counted cut w16 (method es)).fits ms) p.0 in
    let r = and_parts ((number_format cut w16).fits (length ms)) ((repeated (method es) (length ms)).fits ms) q.1 in
    all_short es ms (and_parts (eqb (length ms) (length ms)) (fit_all (method es) ms) r.1).1

-- ---- the class

abbrev pub parts_fit : Class → Bool
parts_fit c = pool.fits c.pool && ((class_slots c.pool).fits (c.this_class, c.super_class) && (members c.pool).fits (c.fields, c.methods))

pub class_fits : (c : Class) → class.fits c ≡ true → parts_fit c ≡ true
unfolding class
class_fits c e = (and_parts (preamble.fits tt) (parts_fit c) e).1

pub codes_short : (c : Class) → class.fits c ≡ true → list_all has_short_code c.methods ≡ true
codes_short c e =
    let p = and_parts (pool.fits c.pool) ((class_slots c.pool).fits (c.this_class, c.super_class) && (members c.pool).fits (c.fields, c.methods)) (class_fits c e) in
    let q = and_parts ((class_slots c.pool).fits (c.this_class, c.super_class)) ((members c.pool).fits (c.fields, c.methods)) p.1 in
    members_short c.pool c.fields c.methods q.1

abbrev pub pieces : ℕ → ℕ → ℕ → ℕ → ℕ → ℕ → List ℕ → List ℕ → List ℕ → List ℕ
pieces version slots this super fields methods es fs ms =
    word 0xCAFEBABE ++ halves (0 ∷ version ∷ [])
    ++ ((halves (slots ∷ []) ++ es)
    ++ (halves (0x31 ∷ this ∷ super ∷ 0 ∷ [])
    ++ (((halves (fields ∷ []) ++ fs) ++ (halves (methods ∷ []) ++ ms)) ++ halves (0 ∷ []))))

in_pieces : (c : Class) → class.spell c ≡ pieces 48 (length c.pool + 1) c.this_class c.super_class (length c.fields) (length c.methods)
    (chain_spelling slot (λ _ e. is_long_entry e) false c.pool) (spelling_of (field c.pool) c.fields) (spelling_of (method c.pool) c.methods)
unfolding class preamble class_slots members pool
in_pieces c = refl

regrouped : (w h s es t u fs v ms z : List ℕ) → (w ++ h) ++ ((s ++ es) ++ (t ++ (((u ++ fs) ++ (v ++ ms)) ++ z))) ≡ w ++ (h ++ s) ++ es ++ (t ++ u) ++ fs ++ v ++ ms ++ z
regrouped w h s es t u fs v ms z = simp append_assoc refl

pub pieces_joined : (version : ℕ) (c : Class) (ms : List ℕ) → pieces version (length c.pool + 1) c.this_class c.super_class (length c.fields) (length c.methods)
    (flat_map entry_bytes c.pool) (flat_map field_bytes c.fields) ms ≡ front_bytes version c ++ ms ++ halves (0 ∷ [])
pieces_joined version c ms =
    regrouped (word 0xCAFEBABE) (halves (0 ∷ version ∷ [])) (halves ((length c.pool + 1) ∷ [])) (flat_map entry_bytes c.pool) (halves (0x31 ∷ c.this_class ∷ c.super_class ∷ 0 ∷ []))
    (halves (length c.fields ∷ [])) (flat_map field_bytes c.fields) (halves (length c.methods ∷ [])) ms (halves (0 ∷ []))

pub pieces_same : (version slots this super fields methods : ℕ) (es fs ms xs ys zs : List ℕ) → es ≡ xs → fs ≡ ys → ms ≡ zs
    → pieces version slots this super fields methods es fs ms ≡ pieces version slots this super fields methods xs ys zs
pieces_same version slots this super fields methods es fs ms xs ys zs e f g = rw (e, f, g) refl

class_spelled : (c : Class) → class.fits c ≡ true → class.spell c ≡ class_bytes c
class_spelled c e =
    let p = and_parts (pool.fits c.pool) ((class_slots c.pool).fits (c.this_class, c.super_class) && (members c.pool).fits (c.fields, c.methods)) (class_fits c e) in
    in_pieces c
    ∙ pieces_same 48 (length c.pool + 1) c.this_class c.super_class (length c.fields) (length c.methods) _ _ _ _ _ _
    (entries_spelled false c.pool (pool_fits c.pool p.0)) (all_spelled (field c.pool) field_bytes (field_spelled c.pool) c.fields) (all_spelled (method c.pool) method_bytes (method_spelled c.pool) c.methods)
    ∙ pieces_joined 48 c (flat_map method_bytes c.methods)

pub written_spells : (c : Class) (bytes : List ℕ) → class.fits c ≡ true → bytes ≡ class_bytes c → Spells bytes c
written_spells c bytes e is = record { fits = e; spelled = is ∙ sym (class_spelled c e) }
