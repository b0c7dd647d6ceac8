-- A class file is a format.
use Rattle.std.proofs.Common.{◌≡◌, ℕ, ◌+◌, true, eqb, List, length, Option, Some, None, Ok, refl, sym, ap, ◌∙◌}
use Rattle.std.specs.Prelude.{not}
use Rattle.std.specs.Int.{w16, w32}
use Rattle.std.proofs.lemmas.Bool.{and_parts, eqb-true}
use Rattle.class_definition.specs.Kinds.{cut, index, attribute, bad_code, flags, magic, version, trailing}
use Rattle.class_definition.specs.Format.{Format, number_format, raw, both, exactly, behind, before, counted, fault_unless, is_sound, whole}
use Rattle.class_definition.specs.Spelling.{IsBytes, IsFormat}
use Rattle.class_format.proofs.FieldLaws.{wide16, wide32, number_law, raw_law}
use Rattle.class_format.proofs.Combined.{both_law, mapped_law, checked_law, tested_law}
use Rattle.class_format.proofs.Parts.{passes, exactly_law, behind_law, before_law, counted_law, whole_taken, whole_back}
use Rattle.class_format.proofs.Readings.{same_value}
use Rattle.class_definition.specs.declared.miss.Miss.{Miss}
use Rattle.class_definition.specs.declared.entry.Entry.{Entry}
use Rattle.class_definition.specs.NameGrammar.{is_member_name, is_field_descriptor}
use Rattle.class_definition.specs.PoolChecks.{pool, class_text_at}
use Rattle.constant_pool.proofs.EntryLaws.{pool_law}
use Rattle.class_definition.specs.declared.class.Class.{Class}
use Rattle.class_definition.specs.declared.member.Member.{Member}
use Rattle.class_definition.specs.Code.{code_fault, is_bad_length}
use Rattle.class_definition.specs.Named.{fault_here, slot_of, text_slot, this_slot, super_slot, is_object, is_own_descriptor, code_name_slot}
use Rattle.class_definition.specs.Members.{public_static, attributes, field, CodeHead, code_length, code_head, fault_of_code, code_bytes, code_attribute, MethodParts, method_made, method_parts, method}
use Rattle.class_definition.specs.ClassFile.{preamble, class_flags, no_interfaces, class_slots, members, class_made, class_parts, class, Spells, class_fault}
use Rattle.std.proofs.lemmas.Option.{same_Some}

pub slot_law : (fault : ℕ → Option ℕ) → IsFormat (slot_of fault)
slot_law fault = checked_law (λ n. fault_here (fault n)) (number_format cut w16) (number_law cut w16 wide16)

super_law : (entries : List Entry) → IsFormat (super_slot entries)
super_law entries = tested_law index (λ n. is_object (class_text_at entries n)) (number_format cut w16) (number_law cut w16 wide16)

attributes_law : (n : ℕ) → IsFormat (attributes n)
attributes_law n = exactly_law cut w16 attribute n wide16

static_law : IsFormat public_static
static_law = exactly_law cut w16 flags 9 wide16

abbrev field_made : ℕ × ℕ → Member
field_made x = record { name = x.0; desc = x.1 }

pub field_law : (entries : List Entry) → IsFormat (field entries)
unfolding field
field_law entries =
    mapped_law field_made (λ f. Some (f.name, f.desc))
    (behind public_static (before (both (text_slot entries is_member_name) (λ _. text_slot entries is_field_descriptor)) (attributes 0)))
    (behind_law public_static (before (both (text_slot entries is_member_name) (λ _. text_slot entries is_field_descriptor)) (attributes 0)) static_law
    (before_law (both (text_slot entries is_member_name) (λ _. text_slot entries is_field_descriptor)) (attributes 0)
    (both_law (text_slot entries is_member_name) (λ _. text_slot entries is_field_descriptor) (slot_law _) (λ _. slot_law _)) (attributes_law 0)))
    (record { back_of = λ b e. refl; made_of = λ f b e. sym (ap field_made (same_Some (f.name, f.desc) b e)) })

-- ---- code

length_law : IsFormat code_length
length_law = tested_law bad_code (λ n. not (is_bad_length n)) (number_format cut w32) (number_law cut w32 wide32)

head_law : IsFormat code_head
head_law =
    tested_law attribute (λ h. eqb h.0 (h.1.1.1 + 12)) (both (number_format cut w32) (λ _. both (number_format cut w16) (λ _. both (number_format cut w16) (λ _. code_length))))
    (both_law (number_format cut w32) (λ _. both (number_format cut w16) (λ _. both (number_format cut w16) (λ _. code_length))) (number_law cut w32 wide32)
    (λ _. both_law (number_format cut w16) (λ _. both (number_format cut w16) (λ _. code_length)) (number_law cut w16 wide16)
    (λ _. both_law (number_format cut w16) (λ _. code_length) (number_law cut w16 wide16) (λ _. length_law))))

bytes_law : (n : ℕ) → IsFormat (code_bytes n)
bytes_law n = checked_law (λ bytes. fault_of_code (code_fault bytes)) (raw cut n) (raw_law cut n)

pub code_law : IsFormat code_attribute
unfolding code_attribute
code_law =
    both_law code_head (λ h. before (before (code_bytes h.1.1.1) (attributes 0)) (attributes 0)) head_law
    (λ h. before_law (before (code_bytes h.1.1.1) (attributes 0)) (attributes 0) (before_law (code_bytes h.1.1.1) (attributes 0) (bytes_law h.1.1.1) (attributes_law 0)) (attributes_law 0))

-- the numbers of an attribute are those of its code
pub code_numbers : (h : CodeHead) (bytes : List ℕ) → code_attribute.fits (h, bytes) ≡ true → (h.0 ≡ length bytes + 12) × (h.1.1.1 ≡ length bytes)
unfolding code_attribute
code_numbers h bytes e =
    let p = and_parts (code_head.fits h) ((before (before (code_bytes h.1.1.1) (attributes 0)) (attributes 0)).fits bytes) e in
    let q = and_parts ((before (code_bytes h.1.1.1) (attributes 0)).fits bytes) ((attributes 0).fits tt) p.1 in
    let r = and_parts ((code_bytes h.1.1.1).fits bytes) ((attributes 0).fits tt) q.0 in
    let s = and_parts (eqb (length bytes) h.1.1.1) (is_sound (fault_of_code (code_fault bytes))) r.0 in
    let count : length bytes ≡ h.1.1.1 = eqb-true _ _ s.0 in
    let t = and_parts _ (is_sound (fault_unless attribute (eqb h.0 (h.1.1.1 + 12)))) p.0 in
    let total : h.0 ≡ h.1.1.1 + 12 = eqb-true _ _ (passes attribute (eqb h.0 (h.1.1.1 + 12)) t.1) in
    (total ∙ ap (λ (n : ℕ). n + 12) (sym count), sym count)

-- ---- methods

abbrev parts_of : ℕ → ℕ → ℕ → ℕ → ℕ → ℕ → ℕ → List ℕ → MethodParts
parts_of name desc attr total stack locals count bytes = ((name, desc), (attr, ((total, (stack, (locals, count))), bytes)))

parts_again : (name desc attr total stack locals count t k : ℕ) (bytes : List ℕ) → total ≡ t → count ≡ k
    → parts_of name desc attr t stack locals k bytes ≡ parts_of name desc attr total stack locals count bytes
parts_again name desc attr total stack locals count t k bytes e g = rw (e, g) refl

abbrev names : List Entry → Format (ℕ × ℕ)
names entries = both (text_slot entries is_member_name) (λ _. text_slot entries is_own_descriptor)

abbrev named_code : List Entry → Format (ℕ × (CodeHead × List ℕ))
named_code entries = behind (attributes 1) (both (code_name_slot entries) (λ _. code_attribute))

method_back : (entries : List Entry) (b : MethodParts) → (behind public_static (both (names entries) (λ _. named_code entries))).fits b ≡ true → method_parts (method_made b) ≡ b
method_back entries b e =
    let p = and_parts (public_static.fits tt) ((both (names entries) (λ _. named_code entries)).fits b) e in
    let q = and_parts ((names entries).fits b.0) ((named_code entries).fits b.1) p.1 in
    let r = and_parts ((attributes 1).fits tt) ((both (code_name_slot entries) (λ _. code_attribute)).fits b.1) q.1 in
    let s = and_parts ((code_name_slot entries).fits b.1.0) (code_attribute.fits b.1.1) r.1 in
    let n = code_numbers b.1.1.0 b.1.1.1 s.1 in
    parts_again b.0.0 b.0.1 b.1.0 b.1.1.0.0 b.1.1.0.1.0 b.1.1.0.1.1.0 b.1.1.0.1.1.1 (length b.1.1.1 + 12) (length b.1.1.1) b.1.1.1 n.0 n.1

pub method_law : (entries : List Entry) → IsFormat (method entries)
unfolding method
method_law entries =
    mapped_law method_made (λ m. Some (method_parts m)) (behind public_static (both (names entries) (λ _. named_code entries)))
    (behind_law public_static (both (names entries) (λ _. named_code entries)) static_law
    (both_law (names entries) (λ _. named_code entries)
    (both_law (text_slot entries is_member_name) (λ _. text_slot entries is_own_descriptor) (slot_law _) (λ _. slot_law _))
    (λ _. behind_law (attributes 1) (both (code_name_slot entries) (λ _. code_attribute)) (attributes_law 1)
    (both_law (code_name_slot entries) (λ _. code_attribute) (slot_law _) (λ _. code_law)))))
    (record {
      back_of = λ b e. ap (λ (x : MethodParts). Some x) (method_back entries b e);
      made_of = λ m b e. sym (ap method_made (same_Some (method_parts m) b e));
    })

-- ---- the class

preamble_law : IsFormat preamble
unfolding preamble
preamble_law =
    behind_law (exactly cut w32 magic 0xCAFEBABE) (behind (exactly cut w16 version 0) (exactly cut w16 version 48)) (exactly_law cut w32 magic 0xCAFEBABE wide32)
    (behind_law (exactly cut w16 version 0) (exactly cut w16 version 48) (exactly_law cut w16 version 0 wide16) (exactly_law cut w16 version 48 wide16))

class_slots_law : (entries : List Entry) → IsFormat (class_slots entries)
unfolding class_slots
class_slots_law entries =
    behind_law class_flags (before (both (this_slot entries) (λ _. super_slot entries)) no_interfaces) (exactly_law cut w16 flags 0x31 wide16)
    (before_law (both (this_slot entries) (λ _. super_slot entries)) no_interfaces
    (both_law (this_slot entries) (λ _. super_slot entries) (slot_law _) (λ _. super_law entries)) (exactly_law cut w16 flags 0 wide16))

members_law : (entries : List Entry) → IsFormat (members entries)
unfolding members
members_law entries =
    before_law (both (counted cut w16 (field entries)) (λ _. counted cut w16 (method entries))) (attributes 0)
    (both_law (counted cut w16 (field entries)) (λ _. counted cut w16 (method entries))
    (counted_law cut w16 (field entries) wide16 (field_law entries)) (λ _. counted_law cut w16 (method entries) wide16 (method_law entries)))
    (attributes_law 0)

pub class_law : IsFormat class
unfolding class
class_law =
    mapped_law class_made (λ c. Some (class_parts c)) (behind preamble (both pool (λ entries. both (class_slots entries) (λ _. members entries))))
    (behind_law preamble (both pool (λ entries. both (class_slots entries) (λ _. members entries))) preamble_law
    (both_law pool (λ entries. both (class_slots entries) (λ _. members entries)) pool_law
    (λ entries. both_law (class_slots entries) (λ _. members entries) (class_slots_law entries) (λ _. members_law entries))))
    (record { back_of = λ b e. refl; made_of = λ c b e. sym (ap class_made (same_Some (class_parts c) b e)) })

-- ---- spellings

pub same_spelling : (c : Class) (a b : List ℕ) → Spells a c → Spells b c → b ≡ a
same_spelling c a b first second = second.spelled ∙ sym first.spelled

pub spelled_read : (bytes : List ℕ) (c : Class) → Spells bytes c → whole class trailing bytes ≡ Ok c
spelled_read bytes c spells = whole_back class trailing bytes c class_law spells

pub read_spelled : (bytes : List ℕ) (c : Class) → IsBytes bytes → whole class trailing bytes ≡ Ok c → Spells bytes c
read_spelled bytes c h e = whole_taken class trailing bytes c class_law h e

pub same_class : (bytes : List ℕ) (c d : Class) → Spells bytes c → Spells bytes d → d ≡ c
same_class bytes c d first second = same_value {E = Miss} d c (sym (spelled_read bytes d second) ∙ spelled_read bytes c first)

-- bytes that spell a class are at no fault
pub no_fault : (bytes : List ℕ) (c : Class) → Spells bytes c → class_fault bytes ≡ None
no_fault bytes c spells = rw (spelled_read bytes c spells) refl

-- what was read of them is that class
pub same_read : (bytes : List ℕ) (c d : Class) → Spells bytes c → whole class trailing bytes ≡ Ok d → d ≡ c
same_read bytes c d spells e = same_value {E = Miss} d c (sym e ∙ spelled_read bytes c spells)
