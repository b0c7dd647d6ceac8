-- What the classes of a translation know of each other.
use Rattle.std.proofs.Common.{◌≡◌, ℕ, ◌+◌, ◌<◌, ◌≤◌, ◌||◌, false, List, [], Some, None, ap, subst, ◌∙◌, slice_get, arith}
use Rattle.std.specs.Prelude.{unwrap_or}
use Rattle.std.proofs.lemmas.Bool.{or_parts}
use Rattle.class_definition.specs.NameGrammar.{same_text}
use Rattle.class_definition.specs.declared.class.Class.{Class}
use Rattle.class_definition.specs.MemberNames.{Signature, signature, reference_to, own_name, is_known, object_name, string_name, host_name, methods_of, method_number}
use Rattle.class_definition.specs.LinkFault.{twice_fault}
use Rattle.emit_layout.specs.Helpers.{helper_name, helper_descriptor}
use Rattle.emit_classes.specs.Named.{IsClassAt}
use Rattle.emit_classes.proofs.Meant.{call-meant}
use Rattle.translate_classes_laws.specs.Before.{methods_before}
use Rattle.translate_classes_laws.proofs.LinkedNumbers.Numbers.{method-number, own-unknown}
use Rattle.translate_classes_laws.specs.Meaning.{HaveFieldNumbers, HaveMethodNumbers}
use Rattle.emit_classes.specs.Laws.{MethodsAreMeant}

pub slot-law : MethodsAreMeant
slot-law classes number c pool slot class n owner name descriptor goes_on of is other numbered =
    call-meant c pool goes_on classes slot class n owner name descriptor of is other numbered

-- what the other classes use of the main one, which has so many fields
pub record HasMain (count : ℕ) (classes : List Class) (main : List ℕ) : Type 0 where
  pub no_host : same_text main host_name ≡ false
  pub fields : HaveFieldNumbers count classes main
  pub helpers : HaveMethodNumbers classes main helper_name helper_descriptor 0 20

-- they may use fewer of its fields
pub fewer-fields : (count fewer : ℕ) (classes : List Class) (main : List ℕ) → fewer ≤ count → HasMain count classes main
    → HaveFieldNumbers fewer classes main
fewer-fields count fewer classes main few has f below = has.fields f (omega (arith, below, few))

pub unknown-is-no-host : (name : List ℕ) → is_known name ≡ false → same_text name host_name ≡ false
unknown-is-no-host name unknown =
    (or_parts (same_text name object_name || same_text name string_name) (same_text name host_name) unknown).1

pub own-is : (c : Class) (name : List ℕ) → IsClassAt c.pool c.this_class name → own_name c ≡ name
own-is c name is = ap (λ o. unwrap_or o []) is

-- the methods of a class that has this name
module _ (classes : List Class) (once : twice_fault [] 0 classes ≡ None) (n : ℕ) (c : Class) (there : slice_get classes n ≡ Some c)
    (owner : List ℕ) (named : IsClassAt c.pool c.this_class owner) where
  pub owner-no-host : same_text owner host_name ≡ false
  owner-no-host =
      unknown-is-no-host owner (subst (λ x. is_known x ≡ false) (own-is c owner named) (own-unknown [] 0 classes n c once there))

  pub method-at : (k : ℕ) (s : Signature) → slice_get (methods_of c) k ≡ Some s
      → method_number classes (reference_to owner s) ≡ Some (methods_before classes n + k)
  method-at k s is =
      subst (λ x. method_number classes (reference_to x s) ≡ Some (methods_before classes n + k)) (own-is c owner named)
      (method-number classes n k c s once there is)

  pub methods-numbered : (name descriptor : ℕ → List ℕ) (first count : ℕ) → methods_before classes n ≡ first
      → ((k : ℕ) → k < count → slice_get (methods_of c) k ≡ Some (signature (name k) (descriptor k)))
      → HaveMethodNumbers classes owner name descriptor first count
  methods-numbered name descriptor first count before each k below =
      method-at k (signature (name k) (descriptor k)) (each k below) ∙ ap (λ b. Some (b + k)) before
