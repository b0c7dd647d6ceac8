-- How the methods of a class are made, and what its pool names by then.
use Rattle.std.specs.Prelude.{◌≡◌, ℕ, List, ◌++◌, codes}
use Rattle.std.specs.List.{AllZip}
use Rattle.class_definition.specs.declared.entry.Entry.{Entry}
use Rattle.class_definition.specs.declared.class.Class.{Class}
use Rattle.class_definition.specs.declared.method.Method.{Method}
use Rattle.class_definition.specs.Linking.{lines_of_code}
use Rattle.emit_steps.specs.declared.step.Step.{Step}
use Rattle.emit_assembly.specs.declared.references.References.{References}
use Rattle.emit_assembly.specs.Assembling.{AreLinked, Extends}
use Rattle.emit_classes.specs.Named.{IsTextAt}
use Rattle.emit_classes.specs.Mentioned.{Mention, mentioned, Mentions}

-- a method that is to be made: its name and descriptor, its local variables, its code, and where the class has what the code names
pub record Plan : Type 0 where
  pub name : List ℕ
  pub descriptor : List ℕ
  pub locals : ℕ
  pub references : References
  pub code : List Step

-- A method of a class with this pool is made so. Read back and linked in a class that knows what its code names it has the lines of the code.
pub record IsMade (pool : List Entry) (m : Method) (p : Plan) : Type 0 where
  pub name_is : IsTextAt pool m.name p.name
  pub descriptor_is : IsTextAt pool m.desc p.descriptor
  pub stack : m.stack ≡ 16
  pub locals_are : m.locals ≡ p.locals
  pub lines : AreLinked p.references pool p.code (lines_of_code m.code)

abbrev pub nothing : List ℕ
nothing = codes "()V"

-- The same class with methods behind its methods, which are made as planned. Its pool goes on, and names no more than before.
pub record AddsMethods (old new : Class) (plans : List Plan) : Type 0 where
  pub added : List Method
  pub made : AllZip (IsMade new.pool) added plans
  pub pool : Extends old.pool new.pool
  pub mentions : Mentions new.pool (mentioned old.pool)
  pub others : new ≡ record old { pool = new.pool; methods = old.methods ++ added }

-- The same class, whose pool goes on and names these behind what it named.
pub record NamesMore (old new : Class) (names : List Mention) : Type 0 where
  pub pool : Extends old.pool new.pool
  pub mentions : Mentions new.pool (mentioned old.pool ++ names)
  pub others : new ≡ record old { pool = new.pool }
