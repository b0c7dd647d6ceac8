-- Members that are put behind those of a class.
use Rattle.std.proofs.Common.{◌≡◌, ℕ, ◌+◌, ◌<◌, ◌≤◌, ◌&&◌, Bool, true, false, ltb, eqb, if◌then◌else◌, List, [], ◌∷◌, ◌++◌, length, Option}
use Rattle.std.proofs.Common.{Some, None, refl, arith, codes}
use Rattle.std.specs.Prelude.{not}
use Rattle.std.proofs.lemmas.Bool.{and_from, lt-ltb, ltb-false, eq-eqb, or_parts}
use Rattle.std.proofs.lemmas.List.{length-append}
use Rattle.class_definition.specs.Kinds.{attribute, bad_code}
use Rattle.class_definition.specs.Format.{is_sound, fault_unless}
use Rattle.class_definition.specs.declared.entry.Entry.{Entry}
use Rattle.class_definition.specs.NameGrammar.{is_member_name, is_field_descriptor}
use Rattle.class_definition.specs.PoolChecks.{text_at, text_fault}
use Rattle.class_definition.specs.declared.code_fault.CodeFault.{CodeFault}
use Rattle.class_definition.specs.declared.class.Class.{Class}
use Rattle.class_definition.specs.declared.member.Member.{Member}
use Rattle.class_definition.specs.declared.method.Method.{Method}
use Rattle.class_definition.specs.Code.{code_fault, is_bad_length}
use Rattle.class_definition.specs.Named.{text_slot, is_own_descriptor, code_name_fault, code_name_slot, fault_here}
use Rattle.class_definition.specs.Members.{field, fault_of_code, code_head, code_attribute, method_parts, method}
use Rattle.class_definition.specs.ClassFile.{class}
use Rattle.emit_classes.specs.Named.{IsTextAt}
use Rattle.emit_classes.proofs.Classes.{class-parts, class-of-parts, all-fit-push, named_code}

-- ---- slots of texts

text-fits : (pool : List Entry) (test : List ℕ → Bool) (slot : ℕ) (text : List ℕ) → slot < 65536 → IsTextAt pool slot text
    → test text ≡ true → (text_slot pool test).fits slot ≡ true
text-fits pool test slot text small at lawful =
    and_from (ltb slot 65536) (is_sound (fault_here (text_fault test (text_at pool slot)))) (lt-ltb slot 65536 small)
    (rw at (rw lawful refl))

code_name-fits : (pool : List Entry) (slot : ℕ) → slot < 65536 → IsTextAt pool slot (codes "Code") → (code_name_slot pool).fits slot ≡ true
code_name-fits pool slot small at =
    and_from (ltb slot 65536) (is_sound (fault_here (code_name_fault (text_at pool slot)))) (lt-ltb slot 65536 small) (rw at refl)

-- ---- a field

pub field-fits : (pool : List Entry) (f : Member) (name descriptor : List ℕ) → f.name < 65536 → f.desc < 65536
    → IsTextAt pool f.name name → IsTextAt pool f.desc descriptor
    → is_member_name name ≡ true → is_field_descriptor descriptor ≡ true → (field pool).fits f ≡ true
unfolding field
field-fits pool f name descriptor small low named described lawful is =
    and_from ((text_slot pool is_member_name).fits f.name && (text_slot pool is_field_descriptor).fits f.desc) true
    (and_from ((text_slot pool is_member_name).fits f.name) ((text_slot pool is_field_descriptor).fits f.desc)
    (text-fits pool is_member_name f.name name small named lawful)
    (text-fits pool is_field_descriptor f.desc descriptor low described is)) refl

pub class-with-field : (c : Class) (f : Member) → class.fits c ≡ true → length c.fields < 65535 → (field c.pool).fits f ≡ true
    → class.fits (record c { fields = c.fields ++ f ∷ [] }) ≡ true
class-with-field c f fits few one =
    let p = class-parts c fits in
    let more : length (c.fields ++ f ∷ []) ≡ length c.fields + 1 = length-append c.fields (f ∷ []) in
    class-of-parts (record c { fields = c.fields ++ f ∷ [] }) (record {
      pool_is = p.pool_is;
      slots = p.slots;
      few_fields = omega arith;
      fields_fit = all-fit-push (field c.pool) c.fields f p.fields_fit one;
      few_methods = p.few_methods;
      methods_fit = p.methods_fit;
    })

-- ---- a method

good-length : (bytes : List ℕ) (b : Bool) (other : Option CodeFault) → (if b then Some (record { at = 0; kind = 5 }) else other) ≡ None
    → b ≡ false
good-length bytes true other none = absurd cc
good-length bytes false other none = refl

-- code without a fault has a length that can be written
code-length : (bytes : List ℕ) → code_fault bytes ≡ None → is_bad_length (length bytes) ≡ false
code-length bytes none = good-length bytes (is_bad_length (length bytes)) _ none

short : (size : ℕ) → is_bad_length size ≡ false → size ≤ 65535
short size good = ltb-false 65535 size (or_parts (eqb size 0) (ltb 65535 size) good).1

passed : (kind : ℕ) (b : Bool) → b ≡ true → is_sound (fault_unless kind b) ≡ true
passed kind b is = rw is refl

head-fits : (stack locals size : ℕ) → stack < 65536 → locals < 65536 → is_bad_length size ≡ false
    → code_head.fits (size + 12, (stack, (locals, size))) ≡ true
head-fits stack locals size small low good =
    let few = short size good in
    and_from _ (is_sound (fault_unless attribute (eqb (size + 12) (size + 12))))
    (and_from (ltb (size + 12) 4294967296) _ (lt-ltb (size + 12) 4294967296 (omega arith))
    (and_from (ltb stack 65536) _ (lt-ltb stack 65536 small)
    (and_from (ltb locals 65536) (ltb size 4294967296 && is_sound (fault_unless bad_code (not (is_bad_length size)))) (lt-ltb locals 65536 low)
    (and_from (ltb size 4294967296) (is_sound (fault_unless bad_code (not (is_bad_length size)))) (lt-ltb size 4294967296 (omega arith))
    (passed bad_code (not (is_bad_length size)) (rw good refl))))))
    (passed attribute (eqb (size + 12) (size + 12)) (eq-eqb (size + 12) (size + 12) refl))

no-fault : (fault : Option CodeFault) → fault ≡ None → is_sound (fault_of_code fault) ≡ true
no-fault fault none = rw none refl

attribute-fits : (stack locals : ℕ) (bytes : List ℕ) → stack < 65536 → locals < 65536 → code_fault bytes ≡ None
    → code_attribute.fits ((length bytes + 12, (stack, (locals, length bytes))), bytes) ≡ true
unfolding code_attribute
attribute-fits stack locals bytes small low sound =
    and_from (code_head.fits (length bytes + 12, (stack, (locals, length bytes)))) _
    (head-fits stack locals (length bytes) small low (code-length bytes sound))
    (and_from (eqb (length bytes) (length bytes) && is_sound (fault_of_code (code_fault bytes)) && true) true
    (and_from (eqb (length bytes) (length bytes) && is_sound (fault_of_code (code_fault bytes))) true
    (and_from (eqb (length bytes) (length bytes)) (is_sound (fault_of_code (code_fault bytes)))
    (eq-eqb (length bytes) (length bytes) refl) (no-fault (code_fault bytes) sound))
    refl) refl)

pub method-fits : (pool : List Entry) (m : Method) (name descriptor : List ℕ) → m.name < 65536 → m.desc < 65536 → m.attr < 65536
    → m.stack < 65536 → m.locals < 65536
    → IsTextAt pool m.name name → IsTextAt pool m.desc descriptor → IsTextAt pool m.attr (codes "Code")
    → is_member_name name ≡ true → is_own_descriptor descriptor ≡ true → code_fault m.code ≡ None → (method pool).fits m ≡ true
unfolding method
method-fits pool m name descriptor n d a s l named described attr lawful own sound =
    let b = method_parts m in
    and_from ((text_slot pool is_member_name).fits m.name && (text_slot pool is_own_descriptor).fits m.desc) ((named_code pool).fits b.1)
    (and_from ((text_slot pool is_member_name).fits m.name) ((text_slot pool is_own_descriptor).fits m.desc)
    (text-fits pool is_member_name m.name name n named lawful) (text-fits pool is_own_descriptor m.desc descriptor d described own))
    (and_from ((code_name_slot pool).fits m.attr) (code_attribute.fits b.1.1) (code_name-fits pool m.attr a attr)
    (attribute-fits m.stack m.locals m.code s l sound))

pub class-with-method : (c : Class) (m : Method) → class.fits c ≡ true → length c.methods < 65535 → (method c.pool).fits m ≡ true
    → class.fits (record c { methods = c.methods ++ m ∷ [] }) ≡ true
class-with-method c m fits few one =
    let p = class-parts c fits in
    let more : length (c.methods ++ m ∷ []) ≡ length c.methods + 1 = length-append c.methods (m ∷ []) in
    class-of-parts (record c { methods = c.methods ++ m ∷ [] }) (record {
      pool_is = p.pool_is;
      slots = p.slots;
      few_fields = p.few_fields;
      fields_fit = p.fields_fit;
      few_methods = omega arith;
      methods_fit = all-fit-push (method c.pool) c.methods m p.methods_fit one;
    })
