-- The names and descriptors of members that are made.
use Rattle.std.specs.Prelude.{ℕ, List}
use Rattle.class_definition.specs.MemberNames.{Signature, signature}
use Rattle.translate_classes.specs.Making.{Plan}

-- those of a method that is to be made
abbrev pub planned : Plan → Signature
planned p = signature p.name p.descriptor

-- those of a number
abbrev pub numbered : (ℕ → List ℕ) → (ℕ → List ℕ) → ℕ → Signature
numbered name descriptor k = signature (name k) (descriptor k)
