-- Classes whose members differ.
use Rattle.std.specs.Prelude.{◌≡◌, false}
use Rattle.class_definition.specs.declared.class.Class.{Class}
use Rattle.class_definition.specs.MemberNames.{fields_of, methods_of}
use Rattle.class_definition.specs.LinkFault.{has_equal}

-- no two fields of a class are equal by name and descriptor, and no two methods
pub record HasDistinctMembers (c : Class) : Type 0 where
  pub fields : has_equal (fields_of c) ≡ false
  pub methods : has_equal (methods_of c) ≡ false
