-- How many members stand before those of a class, in the order in which classes are linked.
use Rattle.std.specs.Prelude.{ℕ, zero, suc, ◌+◌, List, [], ◌∷◌, length}
use Rattle.class_definition.specs.declared.class.Class.{Class}

-- those of the first n classes, of which each has so many
abbrev pub members_before : (Class → ℕ) → List Class → ℕ → ℕ
members_before count [] n = 0
members_before count (c ∷ classes) zero = 0
members_before count (c ∷ classes) (suc n) = count c + members_before count classes n

abbrev pub fields_before : List Class → ℕ → ℕ
fields_before classes n = members_before (λ c. length c.fields) classes n

abbrev pub methods_before : List Class → ℕ → ℕ
methods_before classes n = members_before (λ c. length c.methods) classes n
