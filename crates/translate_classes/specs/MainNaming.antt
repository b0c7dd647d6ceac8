-- What the main class names.
use Rattle.std.specs.Prelude.{◌≡◌, ℕ, List, []}
use Rattle.std.specs.List.{AllZip}
use Rattle.class_definition.specs.declared.entry.Entry.{Entry}
use Rattle.emit_classes.specs.Named.{IsTextAt, IsClassAt}
use Rattle.emit_classes.specs.Mentioned.{Mentions}
use Rattle.translate_classes.specs.declared.names.Names.{Names}
use Rattle.translate_classes.specs.Named.{AreNames}
use Rattle.translate_classes.specs.declared.content.MainClass.{MainClass}
use Rattle.translate_classes.specs.declared.main_naming.NamedClass.{NamedClass}
use Rattle.translate_classes.specs.Content.{main_fields, share_texts}
use Rattle.translate_classes.specs.Fields.{AreFields}
use Rattle.translate_classes.specs.Called.{AreMainMethods}
use Rattle.translate_classes.specs.MainMentioned.{main_mentions}

-- the slots of all that the main class names: what every class names, the methods that it calls, and the texts of pages
pub record AreMainNames (pool : List Entry) (name : List ℕ) (main : MainClass) (names : Names)
    (methods texts : List ℕ) : Type 0 where
  pub names_are : AreNames (main_fields main) pool name names
  pub methods_are : AreMainMethods pool name names.main main methods
  pub texts_are : AllZip (IsTextAt pool) texts (share_texts main.runs.now)

pub record IsNamedClass (name : List ℕ) (main : MainClass) (n : NamedClass) : Type 0 where
  pub no_methods : n.class.methods ≡ []
  pub fields_are : AreFields n.class.pool n.class.fields (main_fields main)
  pub named : IsClassAt n.class.pool n.class.this_class name
  pub names : AreMainNames n.class.pool name main n.names n.methods.items n.texts.items
  pub mentions : Mentions n.class.pool (main_mentions name main)
