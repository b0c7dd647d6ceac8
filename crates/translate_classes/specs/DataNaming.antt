-- What a class of data names.
use Rattle.std.specs.Prelude.{◌≡◌, ℕ, List, [], ◌∷◌, ◌++◌, codes}
use Rattle.std.specs.List.{AllZip}
use Rattle.elf_image_parts.specs.Pages.{Page}
use Rattle.class_definition.specs.declared.entry.Entry.{Entry}
use Rattle.class_definition.specs.MemberNames.{object_name}
use Rattle.emit_loading.specs.declared.page_slot.PageSlot.{PageSlot}
use Rattle.emit_classes.specs.Named.{IsClassAt, IsMethodAt}
use Rattle.emit_classes.specs.Mentioned.{Mention, OfClass, method_mention, Mentions}
use Rattle.translate_classes.specs.declared.names.Names.{Names}
use Rattle.translate_classes.specs.Named.{AreNames}
use Rattle.translate_classes.specs.Mentioned.{names_mentions}
use Rattle.translate_classes.specs.declared.data_naming.NamedClass.{NamedClass}
use Rattle.translate_classes.specs.Pages.{IsPageSlot}

abbrev pub words_descriptor : List ℕ
words_descriptor = codes "([ILjava/lang/String;)V"

-- The slots of all that a class of data names: what every class names, the class itself, its method
-- `words`, and the texts of its pages. Its code knows no meter, so it names the 38 fields of all
-- programs.
pub record AreDataNames (pool : List Entry) (name main : List ℕ) (pages : List Page) (names : Names)
    (own words : ℕ)
    (texts : List PageSlot) : Type 0 where
  pub names_are : AreNames 38 pool main names
  pub own_is : IsClassAt pool own name
  pub words_is : IsMethodAt pool words own (codes "words") words_descriptor
  pub texts_are : AllZip (IsPageSlot pool) texts pages

-- what a class of data of a name asks for in its pool, in order
abbrev pub data_mentions : List ℕ → List ℕ → List Mention
data_mentions name main =
    (OfClass name ∷ OfClass object_name ∷ [])
    ++ (OfClass name ∷ [] ++ names_mentions 38 main
    ++ method_mention name (codes "words") words_descriptor ∷ [])

pub record IsNamedClass (name main : List ℕ) (pages : List Page) (n : NamedClass) : Type 0 where
  pub no_methods : n.class.methods ≡ []
  pub no_fields : n.class.fields ≡ []
  pub named : IsClassAt n.class.pool n.class.this_class name
  pub names : AreDataNames n.class.pool name main pages n.names n.own n.words n.texts.items
  pub mentions : Mentions n.class.pool (data_mentions name main)
