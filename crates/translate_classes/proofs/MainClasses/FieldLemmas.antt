-- Fields follow fields, and stay fields while the pool grows.
use Rattle.std.proofs.Common.{◌≡◌, ℕ, ◌+◌, List, [], ◌∷◌, ◌++◌, ap, sym, ◌∙◌, subst, append_assoc}
use Rattle.std.specs.List.{AllZip, range_with_len}
use Rattle.std.proofs.lemmas.List.{append-nil}
use Rattle.std.proofs.lemmas.Slice.Zip.{all_zipped_more}
use Rattle.class_definition.specs.declared.entry.Entry.{Entry}
use Rattle.class_definition.specs.declared.class.Class.{Class}
use Rattle.class_definition.specs.declared.member.Member.{Member}
use Rattle.emit_layout.specs.Fields.{field_name, field_descriptor}
use Rattle.emit_assembly.specs.Assembling.{Extends}
use Rattle.emit_assembly.proofs.Pools.{extends-itself, extends-further}
use Rattle.emit_classes.specs.Built.{AddsField}
use Rattle.emit_classes.specs.Named.{IsClassAt}
use Rattle.emit_classes.specs.Mentioned.{mentioned}
use Rattle.emit_classes.proofs.Made.{text-later, class-later}
use Rattle.emit_classes.proofs.Mentions.{mentions-itself, mentions-still}
use Rattle.translate_classes.proofs.ClassMaking.ZipLemmas.{zip-through, range-more}
use Rattle.translate_classes.specs.Fields.{IsField, AreFields, AddsFields}

field-later : (old new : List Entry) → Extends old new → (field : Member) (number : ℕ) → IsField old field number → IsField new field number
field-later old new kept field number is = record {
  name_is = text-later old new field.name _ kept is.name_is;
  descriptor_is = text-later old new field.desc _ kept is.descriptor_is;
}

pub fields-later : (old new : List Entry) → Extends old new → (fields : List Member) (count : ℕ) → AreFields old fields count
    → AreFields new fields count
fields-later old new kept fields count are =
    zip-through (IsField old) (IsField new) (field-later old new kept) fields (range_with_len 0 count) are

pub no-fields : (c : Class) → AddsFields c c 0
no-fields c = record {
  added = [];
  are = tt;
  pool = extends-itself c.pool;
  mentions = mentions-itself c.pool;
  others = ap (λ fields. record c { fields = fields }) (sym (append-nil c.fields));
}

-- one field more
pub field-next : (a b c : Class) (k : ℕ) → AddsFields a b k → AddsField b c (field_name k) (field_descriptor k) → AddsFields a c (k + 1)
field-next a b c k before one = record {
  added = before.added ++ one.field ∷ [];
  are =
      subst (AllZip (IsField c.pool) (before.added ++ one.field ∷ [])) (sym (range-more k))
      (all_zipped_more (IsField c.pool) before.added (range_with_len 0 k) one.field k
      (fields-later b.pool c.pool one.pool.kept before.added k before.are) one.named);
  pool = extends-further a.pool b.pool c.pool before.pool one.pool.kept;
  mentions = mentions-still b.pool c.pool (mentioned a.pool) before.mentions one.mentions;
  others =
      one.others
      ∙ ap (λ (x : Class). record x { pool = c.pool; fields = x.fields ++ one.field ∷ [] }) before.others
      ∙ ap (λ fields. record a { pool = c.pool; fields = fields }) (append_assoc a.fields before.added (one.field ∷ []));
}

-- ---- a class to which all its fields were added

pub fields-made : (old new : Class) (count : ℕ) → AddsFields old new count → old.fields ≡ [] → AreFields new.pool new.fields count
fields-made old new count adds none =
    subst (λ fields. AreFields new.pool fields count)
    (sym (ap (λ (x : Class). x.fields) adds.others ∙ ap (λ fields. fields ++ adds.added) none)) adds.are

pub fields-keep-methods : (old new : Class) (count : ℕ) → AddsFields old new count → new.methods ≡ old.methods
fields-keep-methods old new count adds = ap (λ (x : Class). x.methods) adds.others

pub fields-keep-name : (old new : Class) (count : ℕ) (name : List ℕ) → AddsFields old new count → IsClassAt old.pool old.this_class name
    → IsClassAt new.pool new.this_class name
fields-keep-name old new count name adds is =
    subst (λ slot. IsClassAt new.pool slot name) (sym (ap (λ (x : Class). x.this_class) adds.others))
    (class-later old.pool new.pool old.this_class name adds.pool is)
