-- Where a method of a program stands in the classes.
use Rattle.std.specs.Prelude.{◌≡◌, ℕ, ◌+◌, List, slice_get, Some}
use Rattle.jvm_definition.specs.declared.linked_method.LinkedMethod.{LinkedMethod}
use Rattle.class_definition.specs.declared.class.Class.{Class}
use Rattle.class_definition.specs.declared.method.Method.{Method}
use Rattle.class_definition.specs.Linking.{linked_method}
use Rattle.translate_classes_laws.specs.Before.{methods_before}

-- the method of a number is this one of this class
pub record IsMethodOf (classes : List Class) (number : ℕ) (m : LinkedMethod) : Type 0 where
  pub class_number : ℕ
  pub place : ℕ
  pub class : Class
  pub method : Method
  pub class_is : slice_get classes class_number ≡ Some class
  pub method_is : slice_get class.methods place ≡ Some method
  pub number_is : number ≡ methods_before classes class_number + place
  pub linked_is : m ≡ linked_method classes class_number class method
