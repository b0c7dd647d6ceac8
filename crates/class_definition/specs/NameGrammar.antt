-- The names and descriptors of the classes here: a profile of the JVM Specification, 4.2 and 4.3.
use Rattle.std.specs.Prelude.{ℕ, zero, suc, ◌&&◌, ◌||◌, ◌==◌, Bool, true, false, not, nat_le, nat_eq, if◌then◌else◌, List, [], ◌∷◌, length, drop, codes, Option, Some, None}
use Rattle.std.specs.List.{list_all, starts_with}
use Rattle.std.specs.Option.{option_or, option_and_then}
use Rattle.std.specs.Cmp.Lexicographic.{pointwise}

-- two texts are the same
abbrev pub same_text : List ℕ → List ℕ → Bool
same_text cs ds = pointwise nat_eq cs ds

-- a letter, a digit, _ or $
abbrev pub is_part_character : ℕ → Bool
is_part_character c =
    (nat_le 97 c && nat_le c 122) || (nat_le 65 c && nat_le c 90) || (nat_le 48 c && nat_le c 57)
    || c == 95 || c == 36

-- the name of a field or method: one or more of these
abbrev pub is_member_name : List ℕ → Bool
is_member_name cs = not (length cs == 0) && list_all is_part_character cs

-- parts joined by /, of which none is empty; inside says whether the part that goes on here has begun
abbrev pub is_name_from : Bool → List ℕ → Bool
is_name_from inside [] = inside
is_name_from inside (c ∷ cs) = if c == 47 then inside && is_name_from false cs
    else is_part_character c && is_name_from true cs

-- the name of a class
abbrev pub is_class_file_name : List ℕ → Bool
is_class_file_name cs = is_name_from false cs

-- the names of the types of arrays of ints, and of arrays of these
abbrev pub is_array_name : List ℕ → Bool
is_array_name cs = same_text cs (codes "[I") || same_text cs (codes "[[I")

-- what follows a text at the front
abbrev pub after_front : List ℕ → List ℕ → Option (List ℕ)
after_front front cs = if starts_with nat_eq cs front then Some (drop (length front) cs) else None

-- what follows a field descriptor at the front
unfoldable pub after_field : List ℕ → Option (List ℕ)
after_field cs =
    option_or (after_front (codes "I") cs)
    (option_or (after_front (codes "[I") cs)
    (option_or (after_front (codes "[[I") cs) (after_front (codes "Ljava/lang/String;") cs)))

abbrev pub is_end_of_text : Option (List ℕ) → Bool
is_end_of_text None = false
is_end_of_text (Some cs) = length cs == 0

abbrev pub is_field_descriptor : List ℕ → Bool
is_field_descriptor cs = is_end_of_text (after_field cs)

-- what follows the ) behind at most so many field descriptors
unfoldable pub after_parameters : ℕ → List ℕ → Option (List ℕ)
after_parameters zero cs = after_front (codes ")") cs
after_parameters (suc n) cs =
    option_or (after_front (codes ")") cs) (option_and_then (after_parameters n) (after_field cs))

abbrev pub is_return : Option (List ℕ) → Bool
is_return None = false
is_return (Some cs) = same_text cs (codes "I") || same_text cs (codes "V")

-- a method descriptor: at most 255 parameters, and an int or nothing is given
abbrev pub gives_int_or_nothing : List ℕ → Bool
gives_int_or_nothing cs = is_return (option_and_then (after_parameters 255) (after_front (codes "(") cs))

-- the same, or that of String.charAt
abbrev pub is_method_descriptor : List ℕ → Bool
is_method_descriptor cs = gives_int_or_nothing cs || same_text cs (codes "(I)C")
