-- Classes of which no name stands twice, and in which each name means something.
use Rattle.std.specs.Prelude.{◌≡◌, List, [], None}
use Rattle.class_definition.specs.declared.class.Class.{Class}
use Rattle.class_definition.specs.LinkFault.{twice_fault, references_fault}

pub record IsMeant (classes : List Class) : Type 0 where
  pub once : twice_fault [] 0 classes ≡ None
  pub there : references_fault classes 0 classes ≡ None
