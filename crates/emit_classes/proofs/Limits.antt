-- A class that keeps the rules is within the limits of class files.
use Rattle.std.proofs.Common.{◌≡◌, ℕ, ◌&&◌, Bool, true, false, ltb, eqb, List, [], ◌∷◌, length, Some, None, refl, sym, ◌∙◌, arith}
use Rattle.std.specs.List.{list_any}
use Rattle.std.proofs.lemmas.Bool.{and_parts, or_from, ltb-true, le-ltb}
use Rattle.std.proofs.lemmas.Option.{none-some}
use Rattle.class_definition.specs.declared.entry.Entry.{Entry}
use Rattle.class_definition.specs.declared.entry.Entry.TheVariants.{Utf8, Integer, Long, LongRest, ClassName, Text, FieldRef, MethodRef}
use Rattle.class_definition.specs.declared.entry.Entry.TheVariants.{NameAnd}
use Rattle.class_definition.specs.Utf8.{text_bytes, has_16_bit_characters}
use Rattle.class_definition.specs.PoolEntries.{entry, slot, is_long_entry}
use Rattle.class_definition.specs.declared.class.Class.{Class}
use Rattle.class_definition.specs.declared.member.Member.{Member}
use Rattle.class_definition.specs.declared.method.Method.{Method}
use Rattle.class_definition.specs.ClassFile.{class}
use Rattle.class_writer.specs.Limits.{has_long_text, limit}
use Rattle.emit_classes.specs.declared.builder.ClassBuilder.TheInside.{Inside}
use Rattle.emit_classes.specs.Inside.{class_so_far, CanBeWritten}
use Rattle.emit_assembly.proofs.Standing.{in_slots}
use Rattle.emit_classes.proofs.Sound.{pool-parts}
use Rattle.emit_classes.proofs.Classes.{class-parts}

short_text : (after_long : Bool) (to_come : ℕ) (e : Entry) → (slot after_long to_come).fits e ≡ true → has_long_text e ≡ false
unfolding entry
short_text true to_come (Utf8 cs) fits = absurd cc
short_text false to_come (Utf8 cs) fits =
    let size = length (text_bytes cs) in
    let p = and_parts (ltb size 65536 && eqb size size) (has_16_bit_characters cs) fits in
    let q = and_parts (ltb size 65536) (eqb size size) p.0 in
    le-ltb 65535 size (omega (arith, ltb-true size 65536 q.0))
short_text after_long to_come (Integer n) fits = refl
short_text after_long to_come (Long n) fits = refl
short_text after_long to_come LongRest fits = refl
short_text after_long to_come (ClassName n) fits = refl
short_text after_long to_come (Text n) fits = refl
short_text after_long to_come (FieldRef n m) fits = refl
short_text after_long to_come (MethodRef n m) fits = refl
short_text after_long to_come (NameAnd n m) fits = refl

short_texts : (after_long : Bool) (es : List Entry) → in_slots after_long es ≡ true → list_any has_long_text es ≡ false
short_texts after_long [] fits = refl
short_texts after_long (e ∷ es) fits =
    let p = and_parts ((slot after_long (length es)).fits e) (in_slots (is_long_entry e) es) fits in
    or_from (has_long_text e) (list_any has_long_text es) (short_text after_long (length es) e p.0) (short_texts (is_long_entry e) es p.1)

pub within_limits : (c : Class) → class.fits c ≡ true → limit c ≡ None
within_limits c fits =
    let p = class-parts c fits in
    let es = pool-parts c.pool p.pool_is in
    rw (
      le-ltb 65534 (length c.pool) es.few,
      le-ltb 65535 (length c.fields) p.few_fields,
      le-ltb 65535 (length c.methods) p.few_methods,
      short_texts false c.pool es.spelled,
    ) refl

pub no_limit : (b : Inside) (pool : List Entry) (fields : List Member) (methods : List Method) (k : ℕ) → CanBeWritten b
    → pool ≡ b.pool → fields ≡ b.fields.items → methods ≡ b.methods.items
    → limit (record { pool = pool; this_class = b.this_class; super_class = b.super_class; fields = fields; methods = methods }) ≡ Some k
    → ⊥
no_limit b pool fields methods k w first second third is =
    let same : limit (record {
      pool = pool;
      this_class = b.this_class;
      super_class = b.super_class;
      fields = fields;
      methods = methods;
    }) ≡ None =
    rw (first, second, third) (within_limits (class_so_far b) w.fits) in
    none-some k (sym same ∙ is)
