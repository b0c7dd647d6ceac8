-- What a class of code names.
use Rattle.std.specs.Prelude.{◌≡◌, ℕ, List, [], ◌∷◌, ◌++◌}
use Rattle.class_definition.specs.declared.entry.Entry.{Entry}
use Rattle.class_definition.specs.declared.entry.Entry.TheVariants.{MethodRef}
use Rattle.class_definition.specs.MemberNames.{object_name}
use Rattle.emit_layout.specs.ClassNames.{span_name}
use Rattle.emit_classes.specs.declared.member_kind.MemberKind.TheVariants.{Method}
use Rattle.emit_classes.specs.Named.{IsClassAt}
use Rattle.emit_classes.specs.Mentioned.{Mention, OfClass, Mentions}
use Rattle.translate_classes.specs.Named.{AreMembers, AreNames, AreHelpers}
use Rattle.translate_classes.specs.Mentioned.{member_mentions, helper_mentions, names_mentions}
use Rattle.translate_classes.specs.declared.code_naming.NamedClass.{NamedClass}
use Rattle.translate_classes.specs.Making.{nothing}

-- slots of the methods of the first spans of a class, which is in a slot
abbrev pub AreSpanMethods : List Entry → ℕ → List ℕ → ℕ → Type 0
AreSpanMethods pool class slots count =
    AreMembers MethodRef span_name (λ k. nothing) pool class slots count

-- the methods of the first spans of a class
abbrev pub span_mentions : List ℕ → ℕ → List Mention
span_mentions name count = member_mentions Method span_name (λ k. nothing) name count

-- what a class of code of a name, with so many spans, asks for in its pool, in order, where the
-- main class has so many fields
abbrev pub code_mentions : ℕ → List ℕ → List ℕ → ℕ → List Mention
code_mentions fields name main spans =
    (OfClass name ∷ OfClass object_name ∷ [])
    ++ (names_mentions fields main ++ helper_mentions main 20 ++ OfClass name ∷ []
    ++ span_mentions name spans)

pub record IsNamedClass (fields : ℕ) (name main : List ℕ) (spans : ℕ) (n : NamedClass)
    : Type 0 where
  pub no_methods : n.class.methods ≡ []
  pub no_fields : n.class.fields ≡ []
  pub named : IsClassAt n.class.pool n.class.this_class name
  pub names_are : AreNames fields n.class.pool main n.names
  pub helpers_are : AreHelpers n.class.pool n.names.main n.helpers.items 20
  pub own_is : IsClassAt n.class.pool n.own name
  pub own_are : AreSpanMethods n.class.pool n.own n.own_methods.items spans
  pub mentions : Mentions n.class.pool (code_mentions fields name main spans)
