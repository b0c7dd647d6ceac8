-- What a class that keeps the rules of the format is.
use Rattle.std.specs.Prelude.{unwrap_or, option_and_then, slice_get, if◌then◌else◌}
use Rattle.class_definition.specs.declared.entry.Entry.TheVariants.{Utf8, Integer, Long, LongRest, ClassName, Text, FieldRef, MethodRef, NameAnd}
use Rattle.class_definition.specs.PoolEntries.{utf8_of, text, entry, is_long_entry, slot, slots}
use Rattle.class_definition.specs.Utf8.{character_bytes, text_bytes, has_16_bit_characters}
use Rattle.class_definition.specs.MemberNames.{slot_text}
use Rattle.std.proofs.Common.{◌≡◌, ℕ, zero, suc, ◌-◌, ◌/◌, ◌%◌, cond, length-append, ◌+◌, ◌<◌, ◌≤◌, Bool, true, false, ◌&&◌, eqb, List, [], ◌∷◌, length, Option, Some, None, refl, arith}
use Rattle.std.specs.Prelude.{nat_lt, nat_le}
use Rattle.std.specs.Int.{w16}
use Rattle.std.specs.List.{All, AllByRecursion}
use Rattle.std.proofs.lemmas.Bool.{and_parts, ltb-true}
use Rattle.std.proofs.lemmas.List.Elements.{All-from_recursion}
use Rattle.class_definition.specs.Kinds.{cut, index}
use Rattle.class_definition.specs.Format.{Format, both, number_format, raw, counted, repeated, chain_fits, behind, before, tested, fault_unless, is_sound, mapped, headed}
use Rattle.class_definition.specs.declared.entry.Entry.{Entry}
use Rattle.class_definition.specs.PoolChecks.{pool, sound_slots, pool_entries_fault}
use Rattle.class_definition.specs.declared.class.Class.{Class}
use Rattle.class_definition.specs.declared.code_fault.CodeFault.{CodeFault}
use Rattle.class_definition.specs.declared.member.Member.{Member}
use Rattle.class_definition.specs.declared.method.Method.{Method}
use Rattle.class_definition.specs.Code.{code_fault}
use Rattle.class_definition.specs.NameGrammar.{is_member_name}
use Rattle.class_definition.specs.Named.{text_slot, is_own_descriptor, code_name_slot}
use Rattle.class_definition.specs.Members.{public_static, attributes, field, code_head, fault_of_code, code_bytes, code_attribute, method, method_parts}
use Rattle.class_definition.specs.ClassFile.{preamble, class_slots, members, class_parts, class}
use Rattle.class_names.specs.Kept.{IsClass}

parts_of : (c : Class) → IsClass c → (pool.fits c.pool ≡ true) × ((members c.pool).fits (c.fields, c.methods) ≡ true)
unfolding class
parts_of c kept =
    let p = and_parts (preamble.fits tt) ((both pool (λ entries. both (class_slots entries) (λ _. members entries))).fits (class_parts c)) kept in
    let q = and_parts (pool.fits c.pool) ((both (class_slots c.pool) (λ _. members c.pool)).fits (class_parts c).1) p.1 in
    let r = and_parts ((class_slots c.pool).fits (c.this_class, c.super_class)) ((members c.pool).fits (c.fields, c.methods)) q.1 in
    (q.0, r.1)

pool_small : (entries : List Entry) → pool.fits entries ≡ true → length entries < 65535
unfolding pool
pool_small entries fits =
    let p = and_parts ((tested index (λ n. nat_le 1 n) (number_format cut w16)).fits (length entries + 1)) ((sound_slots (length entries + 1)).fits entries) fits in
    let q = and_parts (nat_lt (length entries + 1) 65536) (is_sound (fault_unless index (nat_le 1 (length entries + 1)))) p.0 in
    let lt : length entries + 1 < 65536 = ltb-true (length entries + 1) 65536 q.0 in
    omega arith

members_parts : (entries : List Entry) (fields : List Member) (methods : List Method) → (members entries).fits (fields, methods) ≡ true
    → ((counted cut w16 (field entries)).fits fields ≡ true) × ((counted cut w16 (method entries)).fits methods ≡ true)
unfolding members
members_parts entries fields methods fits =
    let p = and_parts ((both (counted cut w16 (field entries)) (λ _. counted cut w16 (method entries))).fits (fields, methods)) ((attributes 0).fits tt) fits in
    and_parts ((counted cut w16 (field entries)).fits fields) ((counted cut w16 (method entries)).fits methods) p.0

counted_parts : {A : Type 0} (f : Format A) (xs : List A) → (counted cut w16 f).fits xs ≡ true → (length xs < 65536) × (chain_fits {S = Unit {0}} (λ _ _. f) (λ s _. s) tt xs ≡ true)
counted_parts f xs fits =
    let p = and_parts (nat_lt (length xs) 65536) ((repeated f (length xs)).fits xs) fits in
    let q = and_parts (eqb (length xs) (length xs)) (chain_fits {S = Unit {0}} (λ _ _. f) (λ s _. s) tt xs) p.1 in
    (ltb-true (length xs) 65536 p.0, q.1)

pub kept_pool : (c : Class) → IsClass c → length c.pool < 65535
kept_pool c kept = pool_small c.pool (parts_of c kept).0

pub kept_fields : (c : Class) → IsClass c → length c.fields < 65536
kept_fields c kept = (counted_parts (field c.pool) c.fields (members_parts c.pool c.fields c.methods (parts_of c kept).1).0).0

pub kept_methods : (c : Class) → IsClass c → length c.methods < 65536
kept_methods c kept = (counted_parts (method c.pool) c.methods (members_parts c.pool c.fields c.methods (parts_of c kept).1).1).0

-- ---- code

sound : (fault : Option CodeFault) → is_sound (fault_of_code fault) ≡ true → fault ≡ None
sound None e = refl
sound (Some f) e = absurd cc

code_of : (bytes : List ℕ) (h : ℕ × (ℕ × (ℕ × ℕ))) → code_attribute.fits (h, bytes) ≡ true → code_fault bytes ≡ None
unfolding code_attribute
code_of bytes h e =
    let p = and_parts (code_head.fits h) ((before (before (code_bytes h.1.1.1) (attributes 0)) (attributes 0)).fits bytes) e in
    let q = and_parts ((before (code_bytes h.1.1.1) (attributes 0)).fits bytes) ((attributes 0).fits tt) p.1 in
    let r = and_parts ((code_bytes h.1.1.1).fits bytes) ((attributes 0).fits tt) q.0 in
    let s = and_parts (eqb (length bytes) h.1.1.1) (is_sound (fault_of_code (code_fault bytes))) r.0 in
    sound (code_fault bytes) s.1

method_code : (entries : List Entry) (m : Method) → (method entries).fits m ≡ true → code_fault m.code ≡ None
unfolding method
method_code entries m e =
    let names = both (text_slot entries is_member_name) (λ _. text_slot entries is_own_descriptor) in
    let named = behind (attributes 1) (both (code_name_slot entries) (λ _. code_attribute)) in
    let p = and_parts (public_static.fits tt) ((both names (λ _. named)).fits (method_parts m)) e in
    let q = and_parts (names.fits (method_parts m).0) (named.fits (method_parts m).1) p.1 in
    let r = and_parts ((attributes 1).fits tt) ((both (code_name_slot entries) (λ _. code_attribute)).fits (method_parts m).1) q.1 in
    let s = and_parts ((code_name_slot entries).fits m.attr) (code_attribute.fits (method_parts m).1.1) r.1 in
    code_of m.code (method_parts m).1.1.0 s.1

codes_by : (entries : List Entry) (ms : List Method) → chain_fits {S = Unit {0}} (λ _ _. method entries) (λ s _. s) tt ms ≡ true → AllByRecursion (λ (m : Method). code_fault m.code ≡ None) ms
codes_by entries [] e = tt
codes_by entries (m ∷ ms) e =
    let p = and_parts ((method entries).fits m) (chain_fits {S = Unit {0}} (λ _ _. method entries) (λ s _. s) tt ms) e in
    (method_code entries m p.0, codes_by entries ms p.1)

-- its code has no fault
pub kept_code : (c : Class) → IsClass c → All (λ (m : Method). code_fault m.code ≡ None) c.methods
kept_code c kept =
    let p = counted_parts (method c.pool) c.methods (members_parts c.pool c.fields c.methods (parts_of c kept).1).1 in
    All-from_recursion (λ (m : Method). code_fault m.code ≡ None) c.methods (codes_by c.pool c.methods p.1)

-- ---- texts

character_long : (n : ℕ) → 1 ≤ length (character_bytes n)
character_long n = by (nat_le 1 n && nat_lt n 128) (nat_lt n 2048)
  where
    by : (a b : Bool) → 1 ≤ length (cond a (n ∷ []) (cond b ((192 + n / 64) ∷ (128 + n % 64) ∷ []) ((224 + n / 4096) ∷ (128 + n / 64 % 64) ∷ (128 + n % 64) ∷ [])))
    by true b = omega arith
    by false true = omega arith
    by false false = omega arith

text_long : (cs : List ℕ) → length cs ≤ length (text_bytes cs)
text_long [] = omega arith
text_long (c ∷ cs) = omega (arith, length-append (character_bytes c) (text_bytes cs), character_long c, text_long cs)

text_small : (to_come : ℕ) (cs : List ℕ) → (entry to_come).fits (Utf8 cs) ≡ true → length cs < 65536
unfolding entry
text_small to_come cs fits =
    let p = and_parts true ((mapped Utf8 utf8_of text).fits (Utf8 cs)) fits in
    let q = and_parts ((headed (number_format cut w16) length (raw cut)).fits (text_bytes cs)) (has_16_bit_characters cs) p.1 in
    let r = and_parts (nat_lt (length (text_bytes cs)) 65536) ((raw cut (length (text_bytes cs))).fits (text_bytes cs)) q.0 in
    let lt : length (text_bytes cs) < 65536 = ltb-true (length (text_bytes cs)) 65536 r.0 in
    omega (arith, text_long cs)

slot_small : (after : Bool) (to_come : ℕ) (cs : List ℕ) → (slot after to_come).fits (Utf8 cs) ≡ true → length cs < 65536
slot_small true to_come cs fits = absurd cc
slot_small false to_come cs fits = text_small to_come cs fits

abbrev IsShort : Option (List ℕ) → Type 0
IsShort None = Unit {0}
IsShort (Some cs) = length cs < 65536

slots_small : (after : Bool) (es : List Entry) → chain_fits slot (λ _ e. is_long_entry e) after es ≡ true → (i : ℕ) → IsShort (option_and_then utf8_of (slice_get es i))
slots_small after [] fits i = tt
slots_small after (e ∷ es) fits zero = by e (and_parts ((slot after (length es)).fits e) (chain_fits slot (λ _ e. is_long_entry e) (is_long_entry e) es) fits).0
  where
    by : (e : Entry) → (slot after (length es)).fits e ≡ true → IsShort (utf8_of e)
    by (Utf8 cs) f = slot_small after (length es) cs f
    by (Integer n) f = tt
    by (Long n) f = tt
    by LongRest f = tt
    by (ClassName n) f = tt
    by (Text n) f = tt
    by (FieldRef a b) f = tt
    by (MethodRef a b) f = tt
    by (NameAnd a b) f = tt
slots_small after (e ∷ es) fits (suc i) = slots_small (is_long_entry e) es (and_parts ((slot after (length es)).fits e) (chain_fits slot (λ _ e. is_long_entry e) (is_long_entry e) es) fits).1 i

pool_texts : (entries : List Entry) → pool.fits entries ≡ true → (i : ℕ) → IsShort (option_and_then utf8_of (slice_get entries i))
unfolding pool
pool_texts entries fits i =
    let p = and_parts ((tested index (λ n. nat_le 1 n) (number_format cut w16)).fits (length entries + 1)) ((sound_slots (length entries + 1)).fits entries) fits in
    let q = and_parts ((slots (length entries + 1 - 1)).fits entries) (is_sound (pool_entries_fault entries entries 0)) p.1 in
    let r = and_parts (eqb (length entries) (length entries + 1 - 1)) (chain_fits slot (λ _ e. is_long_entry e) false entries) q.0 in
    slots_small false entries r.1 i

short_text : (t : Option (List ℕ)) → IsShort t → length (unwrap_or t []) < 65536
short_text None h = omega arith
short_text (Some cs) h = h

-- its texts are short
pub kept_text : (c : Class) → IsClass c → (n : ℕ) → length (slot_text c n) < 65536
kept_text c kept n = by (eqb n 0)
  where
    by : (b : Bool) → length (unwrap_or (option_and_then utf8_of (if b then None else slice_get c.pool (n - 1))) []) < 65536
    by true = omega arith
    by false = short_text (option_and_then utf8_of (slice_get c.pool (n - 1))) (pool_texts c.pool (parts_of c kept).0 (n - 1))
