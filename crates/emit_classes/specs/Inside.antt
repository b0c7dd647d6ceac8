-- The class that is made, as its parts are kept.
use Rattle.std.specs.Prelude.{◌≡◌, true, codes}
use Rattle.class_definition.specs.declared.class.Class.{Class}
use Rattle.class_definition.specs.ClassFile.{class}
use Rattle.emit_classes.specs.declared.builder.ClassBuilder.TheInside.{Inside}
use Rattle.emit_classes.specs.Named.{IsTextAt}

abbrev pub class_so_far : Inside → Class
class_so_far b =
    record {
      pool = b.pool;
      this_class = b.this_class;
      super_class = b.super_class;
      fields = b.fields.items;
      methods = b.methods.items;
    }

-- the class keeps all rules of class files, and the name of the attribute with a method's code has a slot
pub record CanBeWritten (b : Inside) : Type 0 where
  pub fits : class.fits (class_so_far b) ≡ true
  pub code_is : IsTextAt b.pool b.code (codes "Code")
