-- How many classes of code a program has, and how many methods: they are counted before the classes are made.
use Rattle.std.specs.Prelude.{◌≡◌, ℕ, ◌+◌, ◌*◌, ◌≤◌, Bool, List, length, Option}
use Rattle.elf_definition.specs.Start.{Source}
use Rattle.emit_layout.specs.Numbers.{main_methods}
use Rattle.translate_classes.specs.declared.part.Part.{Part}
use Rattle.translate_program.specs.declared.counting.CodeCounts.{CodeCounts}
use Rattle.translate_program.specs.Places.{Place}
use Rattle.translate_program.specs.Classes.{Placed, run_of, methods_behind, ArePlaced, AreCodeClasses}
use Rattle.translate_program.specs.Adding.{IsClassOf}

-- one class more
pub record CountsClass (method_bytes : ℕ) (part : Part) (old new : CodeCounts) : Type 0 where
  pub class : Placed
  pub class_is : IsClassOf method_bytes old.classes old.methods part class
  pub classes_are : new.classes ≡ old.classes + 1
  pub methods_are : new.methods ≡ run_of class + 1

-- a class has few methods
abbrev pub HasFewMethods : CodeCounts → Type 0
HasFewMethods n = n.methods ≤ main_methods + 880 * n.classes

-- the classes of the words at these places, of a program with a meter or without
pub record CountsPlaces (metered : Bool) (code : ℕ → Option ℕ) (method_bytes : ℕ)
    (places : List Place) (n : CodeCounts) : Type 0 where
  pub classes : List Placed
  pub placed : ArePlaced metered code method_bytes places classes
  pub classes_are : n.classes ≡ length classes
  pub methods_are : n.methods ≡ methods_behind main_methods classes

-- all classes of code of a program: the code is divided into them in one way only
pub record AreCountsOf (metered : Bool) (source : Source) (method_bytes : ℕ) (n : CodeCounts)
    : Type 0 where
  pub classes_are : (classes : List Placed) → AreCodeClasses metered source method_bytes classes
      → n.classes ≡ length classes
  pub methods_are : (classes : List Placed) → AreCodeClasses metered source method_bytes classes
      → n.methods ≡ methods_behind main_methods classes
