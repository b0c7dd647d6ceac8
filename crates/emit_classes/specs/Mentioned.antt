-- What the entries of a pool name: classes, and fields and methods of classes.
use Rattle.std.specs.Prelude.{◌≡◌, ℕ, ◌&&◌, Bool, true, false, if◌then◌else◌, List, [], ◌∷◌, ◌++◌, flat_map, unwrap_or, option_and_then, Option, Some, None}
use Rattle.std.specs.List.{list_any}
use Rattle.class_definition.specs.declared.entry.Entry.{Entry}
use Rattle.class_definition.specs.declared.entry.Entry.TheVariants.{ClassName, FieldRef, MethodRef}
use Rattle.class_definition.specs.NameGrammar.{same_text}
use Rattle.class_definition.specs.PoolEntries.{name_entry}
use Rattle.class_definition.specs.PoolChecks.{entry_at, text_at, class_text_at}
use Rattle.class_definition.specs.MemberNames.{Signature, signature, Reference, reference_to, same_reference}
use Rattle.emit_classes.specs.declared.member_kind.MemberKind.{MemberKind}
use Rattle.emit_classes.specs.declared.member_kind.MemberKind.TheVariants.{Field, Method}
use Rattle.emit_classes.specs.Named.{IsClassAt}

-- a class by its name, or a field or a method
pub data Mention : Type 0 where
  OfClass : List ℕ → Mention
  OfMember : MemberKind → Reference → Mention

-- a member of a class of a name, by its own name and its descriptor
abbrev pub member_mention : MemberKind → List ℕ → List ℕ → List ℕ → Mention
member_mention kind owner name descriptor =
    OfMember kind (reference_to owner (signature name descriptor))

abbrev pub field_mention : List ℕ → List ℕ → List ℕ → Mention
field_mention owner name descriptor = member_mention Field owner name descriptor

abbrev pub method_mention : List ℕ → List ℕ → List ℕ → Mention
method_mention owner name descriptor = member_mention Method owner name descriptor

-- ---- what entries name

-- the text, the name of a class, and a name and descriptor, in a slot
abbrev pub text_in : List Entry → ℕ → List ℕ
text_in pool slot = unwrap_or (text_at pool slot) []

abbrev pub class_in : List Entry → ℕ → List ℕ
class_in pool slot = unwrap_or (class_text_at pool slot) []

abbrev pub signature_of : List Entry → Option (ℕ × ℕ) → Signature
signature_of pool None = signature [] []
signature_of pool (Some slots) = signature (text_in pool slots.0) (text_in pool slots.1)

abbrev pub signature_in : List Entry → ℕ → Signature
signature_in pool slot = signature_of pool (option_and_then name_entry (entry_at pool slot))

-- what an entry names in its pool, if it names a class or a member
abbrev pub mentions_in : List Entry → Entry → List Mention
mentions_in pool (ClassName name) = OfClass (text_in pool name) ∷ []
mentions_in pool (FieldRef class name) =
    OfMember Field (reference_to (class_in pool class) (signature_in pool name)) ∷ []
mentions_in pool (MethodRef class name) =
    OfMember Method (reference_to (class_in pool class) (signature_in pool name)) ∷ []
mentions_in pool _ = []

-- what a pool names, in the order of its slots
abbrev pub mentioned : List Entry → List Mention
mentioned pool = flat_map (mentions_in pool) pool

-- ---- each once

-- the elements that are the same as none before them; some stand before all of them
unfoldable pub fresh : {A : Type 0} → (A → A → Bool) → List A → List A → List A
fresh same before [] = []
fresh same before (x ∷ xs) = if list_any (same x) before then fresh same before xs
    else x ∷ fresh same (before ++ x ∷ []) xs

-- each element where it stands first
abbrev pub once : {A : Type 0} → (A → A → Bool) → List A → List A
once same xs = fresh same [] xs

abbrev pub same_kind : MemberKind → MemberKind → Bool
same_kind Field Field = true
same_kind Method Method = true
same_kind _ _ = false

abbrev pub same_mention : Mention → Mention → Bool
same_mention (OfClass name) (OfClass other) = same_text name other
same_mention (OfMember kind member) (OfMember other_kind other) =
    same_kind kind other_kind && same_reference member other
same_mention _ _ = false

-- A pool names these, in this order, and nothing else: each is counted where it is named first.
pub record Mentions (pool : List Entry) (names : List Mention) : Type 0 where
  pub are : once same_mention (mentioned pool) ≡ once same_mention names

-- A pool names more than another one, which depends on the name of a class in a slot of that one.
abbrev pub MentionsOf : List Entry → List Entry → ℕ → (List ℕ → List Mention) → Type 0
MentionsOf old new class more = (owner : List ℕ) → IsClassAt old class owner
    → Mentions new (mentioned old ++ more owner)

-- ---- the classes among them

abbrev pub class_mention : Mention → List (List ℕ)
class_mention (OfClass name) = name ∷ []
class_mention (OfMember kind member) = []

abbrev pub classes_among : List Mention → List (List ℕ)
classes_among names = flat_map class_mention names
