-- What the entries of a pool name is there, if all that the pool names is.
use Rattle.std.proofs.Common.{◌≡◌, ℕ, suc, ◌&&◌, Bool, true, cond, List, Option, Some, None, refl, ap, ◌∙◌}
use Rattle.std.specs.Prelude.{slice_get}
use Rattle.std.specs.List.{list_all}
use Rattle.std.specs.Option.{is_none, option_and_then}
use Rattle.std.proofs.lemmas.Bool.{and_parts}
use Rattle.class_definition.specs.declared.entry.Entry.{Entry}
use Rattle.class_definition.specs.declared.entry.Entry.TheVariants.{Utf8, Integer, Long, LongRest, ClassName, Text, FieldRef, MethodRef}
use Rattle.class_definition.specs.declared.entry.Entry.TheVariants.{NameAnd}
use Rattle.class_definition.specs.PoolEntries.{name_entry}
use Rattle.class_definition.specs.PoolChecks.{entry_at}
use Rattle.class_definition.specs.declared.class.Class.{Class}
use Rattle.class_definition.specs.MemberNames as names
use Rattle.class_definition.specs.LinkFault.{no_class, no_field, no_method, is_known_class, member_fault, named_entry_fault}
use Rattle.emit_classes.specs.declared.member_kind.MemberKind.TheVariants.{Field, Method}
use Rattle.emit_classes.specs.Mentioned.{Mention, OfClass, OfMember, signature_of, class_in, signature_in, text_in, mentions_in, Mentions}
use Rattle.emit_classes.proofs.Sound.{index-at}
use Rattle.emit_classes.proofs.MentionedEntries.{entries-pass}

-- classes have a class of a name, and a member of a class
abbrev pub is_meant : List Class → Mention → Bool
is_meant classes (OfClass name) = is_known_class classes name
is_meant classes (OfMember Field r) = is_none (member_fault no_field (names.fields_named classes r.class_name) r.signature)
is_meant classes (OfMember Method r) = is_none (member_fault no_method (names.methods_named classes r.class_name) r.signature)

none-is : (o : Option ℕ) → (is_none o && true) ≡ true → o ≡ None
none-is None e = refl
none-is (Some n) e = absurd cc

same-of : (d : Class) (o : Option (ℕ × ℕ)) → names.signature_of d o ≡ signature_of d.pool o
same-of d None = refl
same-of d (Some slots) = refl

same-at : (d : Class) (slot : ℕ) → names.signature_at d slot ≡ signature_in d.pool slot
same-at d slot = same-of d (option_and_then name_entry (entry_at d.pool slot))

entry-meant : (classes : List Class) (d : Class) (e : Entry) → list_all (is_meant classes) (mentions_in d.pool e) ≡ true
    → named_entry_fault classes d e ≡ None
entry-meant classes d (Utf8 cs) all = refl
entry-meant classes d (Integer n) all = refl
entry-meant classes d (Long n) all = refl
entry-meant classes d LongRest all = refl
entry-meant classes d (ClassName n) all =
    ap (λ b. cond b None (Some no_class)) (and_parts (is_known_class classes (text_in d.pool n)) true all).0
entry-meant classes d (Text n) all = refl
entry-meant classes d (FieldRef c n) all =
    let fields = names.fields_named classes (class_in d.pool c) in
    ap (member_fault no_field fields) (same-at d n) ∙ none-is (member_fault no_field fields (signature_in d.pool n)) all
entry-meant classes d (MethodRef c n) all =
    let methods = names.methods_named classes (class_in d.pool c) in
    ap (member_fault no_method methods) (same-at d n) ∙ none-is (member_fault no_method methods (signature_in d.pool n)) all
entry-meant classes d (NameAnd n m) all = refl

pub entries-meant : (classes : List Class) (d : Class) (ms : List Mention) → Mentions d.pool ms → list_all (is_meant classes) ms ≡ true
    → (k : ℕ) (e : Entry) → slice_get d.pool k ≡ Some e → named_entry_fault classes d e ≡ None
entries-meant classes d ms are all k e at =
    entry-meant classes d e (entries-pass d.pool ms are (is_meant classes) all (suc k) e (index-at d.pool k e at))
