-- Classes of data: the method that puts the words of a text into a page, and behind it the one that does so for each page of the class.
use Rattle.std.specs.Prelude.{◌≡◌, ℕ, List, [], ◌∷◌, codes}
use Rattle.std.specs.List.{AllZip}
use Rattle.elf_image_parts.specs.Pages.{Page}
use Rattle.class_definition.specs.declared.class.Class.{Class}
use Rattle.class_definition.specs.ClassFile.{Spells}
use Rattle.emit_layout.specs.ClassNames.{data_class_name}
use Rattle.emit_loading.specs.declared.page_slot.PageSlot.{PageSlot}
use Rattle.emit_loading.specs.Words.{words_code}
use Rattle.emit_loading.specs.Filling.{fill_code}
use Rattle.emit_assembly.specs.declared.references.References.{References}
use Rattle.emit_classes.specs.Named.{IsClassAt}
use Rattle.emit_classes.specs.Mentioned.{Mentions}
use Rattle.translate_classes.specs.Making.{Plan, IsMade, nothing}
use Rattle.translate_classes.specs.declared.names.Names.{Names}
use Rattle.translate_classes.specs.Tables.{references_of}
use Rattle.translate_classes.specs.DataNaming.{AreDataNames, words_descriptor, data_mentions}

abbrev pub words_plan : References → Plan
words_plan references =
    record {
      name = codes "words";
      descriptor = words_descriptor;
      locals = 4;
      references = references;
      code = words_code;
    }

-- the texts are those of the class that has a number in the program, and the method `words` has one too
abbrev pub fill_plan : List PageSlot → ℕ → ℕ → References → Plan
fill_plan texts number words references = record {
  name = codes "fill";
  descriptor = nothing;
  locals = 0;
  references = references;
  code = fill_code texts number words;
}

-- The class of data of a number, with these pages. Its number in the program is given, and that of its first method.
pub record IsDataClass (main : List ℕ) (number class_number first_method : ℕ) (pages : List Page)
    (bytes : List ℕ) : Type 0 where
  pub class : Class
  pub spells : Spells bytes class
  pub named : IsClassAt class.pool class.this_class (data_class_name main number)
  pub no_fields : class.fields ≡ []
  pub names : Names
  pub own : ℕ
  pub words : ℕ
  pub texts : List PageSlot
  pub names_are : AreDataNames class.pool (data_class_name main number)
      main pages names own words texts
  pub mentions : Mentions class.pool (data_mentions (data_class_name main number) main)
  pub methods : AllZip (IsMade class.pool) class.methods
      (words_plan (references_of names first_method (words ∷ []))
      ∷ fill_plan texts class_number first_method (references_of names first_method (words ∷ []))
      ∷ [])
