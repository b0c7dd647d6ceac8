-- Classes run as a program that was translated, and are accepted.
use Rattle.std.specs.Prelude.{List}
use Rattle.elf_definition.specs.Start.{Source}
use Rattle.class_definition.specs.declared.class.Class.{Class}
use Rattle.class_definition.specs.Linking.{Accepted, program_of}
use Rattle.nv_translate.specs.Translated.{RunsAlike}

pub record IsAlike (source : Source) (classes : List Class) : Type 0 where
  -- they link, and all their methods are typed
  pub accepted : Accepted classes
  -- whatever the system answers, and to every bound
  pub runs : RunsAlike source (program_of classes)
