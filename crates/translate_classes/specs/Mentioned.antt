-- What every class of a program asks for in its pool, in order.
use Rattle.std.specs.Prelude.{ℕ, List, [], ◌∷◌, ◌++◌, map, codes}
use Rattle.std.specs.List.{range_with_len}
use Rattle.class_definition.specs.MemberNames.{Signature, reference_to, string_name, host_name, length_signature, char_at_signature, host_call_signature, host_fault_signature}
use Rattle.emit_layout.specs.Fields.{field_name, field_descriptor}
use Rattle.emit_layout.specs.Helpers.{helper_name, helper_descriptor}
use Rattle.emit_classes.specs.declared.member_kind.MemberKind.{MemberKind}
use Rattle.emit_classes.specs.declared.member_kind.MemberKind.TheVariants.{Field, Method}
use Rattle.emit_classes.specs.Mentioned.{Mention, OfClass, OfMember, member_mention}

-- the first members of a class, by their names and descriptors
abbrev pub member_mentions : MemberKind → (ℕ → List ℕ) → (ℕ → List ℕ) → List ℕ → ℕ → List Mention
member_mentions kind name descriptor owner count =
    map (λ k. member_mention kind owner (name k) (descriptor k)) (range_with_len 0 count)

-- the first fields of the main class
abbrev pub field_mentions : List ℕ → ℕ → List Mention
field_mentions main count = member_mentions Field field_name field_descriptor main count

-- its first helper methods
abbrev pub helper_mentions : List ℕ → ℕ → List Mention
helper_mentions main count = member_mentions Method helper_name helper_descriptor main count

-- a method of a class
abbrev pub called : List ℕ → Signature → Mention
called owner method = OfMember Method (reference_to owner method)

-- a class and two of its methods
abbrev pub two_mentions : List ℕ → Signature → Signature → List Mention
two_mentions owner first second =
    OfClass owner ∷ called owner first ∷ called owner second ∷ []

abbrev pub host_mentions : List Mention
host_mentions = two_mentions host_name host_call_signature host_fault_signature

abbrev pub string_mentions : List Mention
string_mentions = two_mentions string_name length_signature char_at_signature

-- the main class with so many of its fields, the host, strings, and the type of arrays of ints
abbrev pub names_mentions : ℕ → List ℕ → List Mention
names_mentions fields main = OfClass main ∷ [] ++ field_mentions main fields ++ host_mentions
    ++ string_mentions ++ OfClass (codes "[I") ∷ []
