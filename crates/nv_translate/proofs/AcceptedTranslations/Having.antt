-- What classes have under the names of a class and of its members, and under those of known classes.
use Rattle.std.proofs.Common.{◌≡◌, ℕ, true, List, [], Some, None, refl, ap, subst, ◌∙◌, slice_get}
use Rattle.std.specs.Prelude.{codes, option_map, unwrap_or}
use Rattle.std.specs.List.{AllZip}
use Rattle.std.specs.Option.{is_none}
use Rattle.std.proofs.lemmas.Option.{slice_get-map}
use Rattle.class_definition.specs.declared.class.Class.{Class}
use Rattle.class_definition.specs.MemberNames.{Signature, reference_to, own_name, object_name, string_name, host_name, length_signature, char_at_signature, host_call_signature, host_fault_signature, known_methods, fields_of, methods_of, fields_named, methods_named}
use Rattle.class_definition.specs.LinkFault.{no_field, no_method, is_known_class, member_fault, twice_fault}
use Rattle.emit_classes.specs.declared.member_kind.MemberKind.TheVariants.{Field, Method}
use Rattle.emit_classes.specs.Mentioned.{OfClass, OfMember, method_mention}
use Rattle.emit_classes.specs.Named.{IsClassAt}
use Rattle.translate_classes.specs.Making.{Plan, IsMade}
use Rattle.translate_classes_laws.specs.Planned.{planned}
use Rattle.translate_classes_laws.proofs.LinkedNumbers.Found.{class-found, members-known, member-found}
use Rattle.translate_classes_laws.proofs.LinkedNumbers.Made.{methods-made}
use Rattle.nv_translate.proofs.AcceptedTranslations.Meant.{is_meant}

module _ (classes : List Class) (once : twice_fault [] 0 classes ≡ None) where
  -- ---- known classes

  pub object-meant : is_meant classes (OfClass object_name) ≡ true
  object-meant = refl

  pub host-meant : is_meant classes (OfClass host_name) ≡ true
  host-meant = refl

  pub string-meant : is_meant classes (OfClass string_name) ≡ true
  string-meant = refl

  pub ints-meant : is_meant classes (OfClass (codes "[I")) ≡ true
  ints-meant = refl

  known : (name : List ℕ) (s : Signature) → methods_named classes name ≡ known_methods name → member_fault no_method (known_methods name) s ≡ None
      → is_meant classes (OfMember Method (reference_to name s)) ≡ true
  known name s same none = ap (λ ss. is_none (member_fault no_method ss s)) same ∙ ap is_none none

  host-methods : methods_named classes host_name ≡ known_methods host_name
  host-methods = members-known methods_of (known_methods host_name) [] 0 classes host_name once refl

  string-methods : methods_named classes string_name ≡ known_methods string_name
  string-methods = members-known methods_of (known_methods string_name) [] 0 classes string_name once refl

  pub call-meant : is_meant classes (OfMember Method (reference_to host_name host_call_signature)) ≡ true
  call-meant = known host_name host_call_signature host-methods refl

  pub fault-meant : is_meant classes (OfMember Method (reference_to host_name host_fault_signature)) ≡ true
  fault-meant = known host_name host_fault_signature host-methods refl

  pub length-meant : is_meant classes (OfMember Method (reference_to string_name length_signature)) ≡ true
  length-meant = known string_name length_signature string-methods refl

  pub char_at-meant : is_meant classes (OfMember Method (reference_to string_name char_at_signature)) ≡ true
  char_at-meant = known string_name char_at_signature string-methods refl

  -- ---- a class that stands among them, by its name

  module _ (n : ℕ) (d : Class) (there : slice_get classes n ≡ Some d) (owner : List ℕ) (named : IsClassAt d.pool d.this_class owner) where
    own : own_name d ≡ owner
    own = ap (λ o. unwrap_or o []) named

    pub class-meant : is_meant classes (OfClass owner) ≡ true
    class-meant = subst (λ x. is_known_class classes x ≡ true) own (class-found classes n d there)

    pub field-meant : (k : ℕ) (s : Signature) → slice_get (fields_of d) k ≡ Some s → is_meant classes (OfMember Field (reference_to owner s)) ≡ true
    field-meant k s at =
        subst (λ x. is_none (member_fault no_field (fields_named classes x) s) ≡ true) own
        (ap is_none (member-found fields_of [] no_field classes n k d s once there at))

    pub method-meant : (k : ℕ) (s : Signature) → slice_get (methods_of d) k ≡ Some s → is_meant classes (OfMember Method (reference_to owner s)) ≡ true
    method-meant k s at =
        subst (λ x. is_none (member_fault no_method (methods_named classes x) s) ≡ true) own
        (ap is_none (member-found methods_of (known_methods (own_name d)) no_method classes n k d s once there at))

    -- a method that was planned
    pub planned-meant : (plans : List Plan) → AllZip (IsMade d.pool) d.methods plans → (k : ℕ) (p : Plan) → slice_get plans k ≡ Some p
        → is_meant classes (method_mention owner p.name p.descriptor) ≡ true
    planned-meant plans made k p at =
        method-meant k (planned p)
        (ap (λ (ms : List Signature). slice_get ms k) (methods-made d d.methods plans made) ∙ slice_get-map planned plans k ∙ ap (option_map planned) at)
