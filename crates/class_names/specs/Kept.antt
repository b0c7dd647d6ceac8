-- The classes that keep the rules of the format.
use Rattle.std.specs.Prelude.{◌≡◌, true}
use Rattle.class_definition.specs.declared.class.Class.{Class}
use Rattle.class_definition.specs.ClassFile.{class}

-- a class that bytes spell, as one that was read
abbrev pub IsClass : Class → Type 0
IsClass c = class.fits c ≡ true
