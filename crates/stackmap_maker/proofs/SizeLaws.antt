-- The size of a class's file is the number of bytes that spell the class.
use Rattle.std.proofs.Common.{◌≡◌, ℕ, ◌+◌, ◌*◌, List, [], ◌∷◌, ◌++◌, length, length-append, refl, ap, ◌∙◌, arith}
use Rattle.std.specs.Prelude.{flat_map}
use Rattle.std.specs.Int.{w16, to_be_bytes}
use Rattle.class_definition.specs.declared.entry.Entry.{Entry}
use Rattle.class_definition.specs.declared.entry.Entry.TheVariants.{Utf8, Integer, Long, LongRest, ClassName, Text, FieldRef, MethodRef, NameAnd}
use Rattle.class_definition.specs.Utf8.{text_bytes}
use Rattle.class_definition.specs.PoolChecks.{slot_size}
use Rattle.class_definition.specs.declared.class.Class.{Class}
use Rattle.class_definition.specs.declared.member.Member.{Member}
use Rattle.class_definition.specs.declared.method.Method.{Method}
use Rattle.class_definition.specs.declared.framed_class.FramedClass.{FramedClass}
use Rattle.class_definition.specs.FramedClassFile.{SpellsFramed}
use Rattle.class_definition.specs.Tables.{table_size}
use Rattle.class_definition_laws.proofs.FramedClassLaws.{same_spelling}
use Rattle.class_writer.specs.Written.{halves, word, entry_bytes, field_bytes, code_bytes, front_bytes, table_bytes, framed_method_bytes, framed_methods_bytes, name_slot, framed_class_bytes}
use Rattle.class_writer.proofs.FramedSpelled.{framed_spells}
use Rattle.stackmap_maker.specs.Refusals.{IsWritable}
use Rattle.stackmap_maker.specs.Sizes.{pool_size, method_size, methods_size, file_size}

half : (n : ℕ) → length (to_be_bytes w16 n) ≡ 2
half n = refl

whole : (n : ℕ) → length (word n) ≡ 4
whole n = refl

halves-are : (ns : List ℕ) → length (halves ns) ≡ 2 * length ns
halves-are [] = refl
halves-are (n ∷ ns) = omega (arith, length-append (to_be_bytes w16 n) (halves ns), half n, halves-are ns)

entry-is : (e : Entry) → length (entry_bytes e) ≡ slot_size e
entry-is (Utf8 c) = omega (arith, length-append (1 ∷ to_be_bytes w16 (length (text_bytes c))) (text_bytes c), half (length (text_bytes c)))
entry-is (Integer n) = refl
entry-is (Long n) = refl
entry-is LongRest = refl
entry-is (ClassName n) = refl
entry-is (Text n) = refl
entry-is (FieldRef c n) = refl
entry-is (MethodRef c n) = refl
entry-is (NameAnd n d) = refl

pool-is : (es : List Entry) → length (flat_map entry_bytes es) ≡ pool_size es
pool-is [] = refl
pool-is (e ∷ es) = omega (arith, length-append (entry_bytes e) (flat_map entry_bytes es), entry-is e, pool-is es)

fields-are : (fs : List Member) → length (flat_map field_bytes fs) ≡ 8 * length fs
fields-are [] = refl
fields-are (f ∷ fs) = omega (arith, length-append (field_bytes f) (flat_map field_bytes fs), halves-are (9 ∷ f.name ∷ f.desc ∷ 0 ∷ []), fields-are fs)

code-is : (m : Method) (size : ℕ) → length (code_bytes m size) ≡ 22 + length m.code
unfolding code_bytes
code-is m size =
    omega (
      arith,
      length-append (halves (9 ∷ m.name ∷ m.desc ∷ 1 ∷ m.attr ∷ [])) (word size ++ halves (m.stack ∷ m.locals ∷ []) ++ word (length m.code) ++ m.code),
      length-append (word size) (halves (m.stack ∷ m.locals ∷ []) ++ word (length m.code) ++ m.code),
      length-append (halves (m.stack ∷ m.locals ∷ [])) (word (length m.code) ++ m.code),
      length-append (word (length m.code)) m.code,
      halves-are (9 ∷ m.name ∷ m.desc ∷ 1 ∷ m.attr ∷ []),
      whole size,
      halves-are (m.stack ∷ m.locals ∷ []),
      whole (length m.code),
    )

table-is : (name : ℕ) (t : List ℕ) → length (table_bytes name t) ≡ 2 + table_size t
table-is name [] = refl
table-is name (b ∷ t) =
    omega (
      arith,
      length-append (halves (1 ∷ name ∷ [])) (word (length (b ∷ t)) ++ (b ∷ t)),
      length-append (word (length (b ∷ t))) (b ∷ t),
      halves-are (1 ∷ name ∷ []),
      whole (length (b ∷ t)),
    )

method-is : (name : ℕ) (m : Method) (t : List ℕ) → length (framed_method_bytes name m t) ≡ method_size m t
unfolding framed_method_bytes
method-is name m t =
    let size = length m.code + 12 + table_size t in
    omega (
      arith,
      length-append (code_bytes m size ++ halves (0 ∷ [])) (table_bytes name t),
      length-append (code_bytes m size) (halves (0 ∷ [])),
      code-is m size,
      halves-are (0 ∷ []),
      table-is name t,
    )

methods-are : (name : ℕ) (ms : List Method) (ts : List (List ℕ)) → length (framed_methods_bytes name ms ts) ≡ methods_size ms ts
methods-are name [] ts = refl
methods-are name (m ∷ ms) [] = refl
methods-are name (m ∷ ms) (t ∷ ts) = omega (arith, length-append (framed_method_bytes name m t) (framed_methods_bytes name ms ts), method-is name m t, methods-are name ms ts)

front-is : (c : Class) → length (front_bytes 51 c) ≡ 22 + pool_size c.pool + 8 * length c.fields
front-is c =
    let entries = flat_map entry_bytes c.pool in
    let middle = halves (0x31 ∷ c.this_class ∷ c.super_class ∷ 0 ∷ length c.fields ∷ []) in
    let fields = flat_map field_bytes c.fields in
    omega (
      arith,
      length-append (entries ++ middle ++ fields) (halves (length c.methods ∷ [])),
      length-append (entries ++ middle) fields,
      length-append entries middle,
      halves-are (0x31 ∷ c.this_class ∷ c.super_class ∷ 0 ∷ length c.fields ∷ []),
      halves-are (length c.methods ∷ []),
      pool-is c.pool,
      fields-are c.fields,
    )

class-is : (f : FramedClass) → length (framed_class_bytes f) ≡ file_size f
class-is f =
    let name = name_slot f.class.pool in
    omega (
      arith,
      length-append (front_bytes 51 f.class ++ framed_methods_bytes name f.class.methods f.tables) (halves (0 ∷ [])),
      length-append (front_bytes 51 f.class) (framed_methods_bytes name f.class.methods f.tables),
      front-is f.class,
      methods-are name f.class.methods f.tables,
      halves-are (0 ∷ []),
    )

pub size-is : (f : FramedClass) (bytes : List ℕ) → IsWritable f → SpellsFramed bytes f → length bytes ≡ file_size f
size-is f bytes w spells =
    ap length (same_spelling f (framed_class_bytes f) bytes (framed_spells f (framed_class_bytes f) w.class w.tabled refl) spells) ∙ class-is f
