-- What the main class asks for in its pool, in order.
use Rattle.std.specs.Prelude.{ℕ, List, [], ◌∷◌, ◌++◌, length, flat_map, codes}
use Rattle.std.specs.List.{range_with_len}
use Rattle.class_definition.specs.MemberNames.{object_name}
use Rattle.emit_classes.specs.Mentioned.{Mention, OfClass, method_mention}
use Rattle.translate_classes.specs.Mentioned.{helper_mentions, names_mentions}
use Rattle.translate_classes.specs.Making.{nothing}
use Rattle.translate_classes.specs.declared.content.MainClass.{MainClass}
use Rattle.translate_classes.specs.Content.{main_fields}
use Rattle.translate_classes.specs.declared.other_class.OtherClass.{OtherClass}
use Rattle.translate_classes.specs.declared.other_class.OtherClass.TheVariants.{Code, Data}
use Rattle.translate_classes.specs.Called.{pages_descriptor, class_name, method_name}

-- its own methods, but for the one that begins the program
abbrev pub own_mentions : List ℕ → List Mention
own_mentions name =
    helper_mentions name 20
    ++ method_mention name (codes "choose") nothing
    ∷ method_mention name (codes "pages") pages_descriptor
    ∷ method_mention name (codes "missing") nothing
    ∷ []

-- a class of a kind, and the method that is called of it
abbrev pub other_mention : List ℕ → OtherClass → ℕ → List Mention
other_mention name kind i =
    OfClass (class_name kind name i) ∷ method_mention (class_name kind name i) (method_name kind)
    nothing ∷ []

-- the same of the first classes of a kind
abbrev pub other_mentions : List ℕ → OtherClass → ℕ → List Mention
other_mentions name kind count = flat_map (other_mention name kind) (range_with_len 0 count)

-- all methods that are called
abbrev pub called_mentions : List ℕ → MainClass → List Mention
called_mentions name main =
    own_mentions name ++ other_mentions name Code (length main.code.now)
    ++ other_mentions name Data (length main.data.now)

-- all that the main class of a name asks for
abbrev pub main_mentions : List ℕ → MainClass → List Mention
main_mentions name main = (OfClass name ∷ OfClass object_name ∷ [])
    ++ (names_mentions (main_fields main) name ++ called_mentions name main)
