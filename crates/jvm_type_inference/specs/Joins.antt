-- The least type above two (JVM Specification, 4.10.2.2), and the operands and local variables so.
use Rattle.std.specs.Prelude.{ℕ, ◌+◌, ◌&&◌, Bool, true, false, if◌then◌else◌, List, [], ◌∷◌, length, drop, Option, Some, None, option_map}
use Rattle.jvm_definition.specs.declared.kind.Kind.{Kind}
use Rattle.jvm_definition.specs.declared.kind.Kind.TheVariants.{Top, Null}
use Rattle.jvm_definition.specs.Shuffles.{fits_longs}
use Rattle.jvm_definition.specs.Typing.{below, stack_below, is_long_kind}

abbrev pub is_top : Kind → Bool
is_top Top = true
is_top _ = false

abbrev pub joined : Kind → Kind → Kind
joined kind other = if below kind other then other else if below other kind then kind else Top

-- operands have a type of their own
abbrev pub with_operand : Kind → Option (List Kind) → Option (List Kind)
with_operand kind kinds = if is_top kind then None else option_map (λ ks. kind ∷ ks) kinds

abbrev pub joined_stacks : List Kind → List Kind → Option (List Kind)
joined_stacks [] [] = Some []
joined_stacks [] (o ∷ others) = None
joined_stacks (k ∷ kinds) [] = None
joined_stacks (k ∷ kinds) (o ∷ others) = with_operand (joined k o) (joined_stacks kinds others)

-- ---- local variables: nothing is known of those behind the last one

abbrev pub first_local : List Kind → Kind
first_local [] = Top
first_local (k ∷ kinds) = k

abbrev pub other_locals : List Kind → List Kind
other_locals [] = []
other_locals (k ∷ kinds) = kinds

abbrev pub locals_below : List Kind → List Kind → Bool
locals_below kinds [] = true
locals_below kinds (o ∷ others) = below (first_local kinds) o
    && locals_below (other_locals kinds) others

abbrev pub joined_locals : List Kind → List Kind → List Kind
joined_locals [] others = []
joined_locals (k ∷ kinds) [] = []
joined_locals (k ∷ kinds) (o ∷ others) = joined k o ∷ joined_locals kinds others

-- ---- how far types can rise

abbrev pub rank : Kind → ℕ
rank Top = 0
rank Null = 2
rank _ = 1

abbrev pub ranks : List Kind → ℕ
ranks [] = 0
ranks (k ∷ kinds) = rank k + ranks kinds

-- ---- frames

abbrev pub frame_below : List Kind → List Kind → List Kind → List Kind → Bool
frame_below locals stack other_locals other_stack =
    stack_below stack other_stack && locals_below locals other_locals

-- ---- the operands below those that a form takes

abbrev pub behind_form : List Bool → List Kind → Option (List Kind)
behind_form longs kinds = if fits_longs is_long_kind longs kinds
    then Some (drop (length longs) kinds) else None
