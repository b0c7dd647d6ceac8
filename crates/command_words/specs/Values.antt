-- What the value of an option or a plain word may be.
use Rattle.std.specs.Prelude.{ℕ, Bool, true, not, ◌==◌, ◌&&◌, if◌then◌else◌, List, [], ◌∷◌, Option, Some, None, length, nat_le}
use Rattle.std.specs.List.{list_all, list_any, slice_split}
use Rattle.std.specs.Str.{bytes_eq}
use Rattle.std.specs.Str.Parse.{digits_value}
use Rattle.nv_values.specs.Ranges.{lies_in}
use Rattle.nv_values.specs.Names.{Text, is_digit}

-- 1 to 20 decimal digits
abbrev pub is_number_text : Text → Bool
is_number_text text = lies_in 1 20 (length text) && list_all is_digit text

-- the number that the text writes, where it is in the range
abbrev pub number_in : ℕ → ℕ → Text → Option ℕ
number_in least most text = if is_number_text text && lies_in least most (digits_value 10 text)
    then Some (digits_value 10 text) else None

-- the value of an option, or its default where it is left out
abbrev pub number_or : ℕ → ℕ → ℕ → Option Text → Option ℕ
number_or least most default None = Some default
number_or least most default (Some text) = number_in least most text

abbrev pub has_zero : Text → Bool
has_zero text = list_any (λ b. b == 0) text

-- a guest's file: 1 to 255 bytes, none of them 0
abbrev pub is_file_name : Text → Bool
is_file_name text = lies_in 1 255 (length text) && not (has_zero text)

-- a symbol of an object, within the same bounds
abbrev pub is_symbol_name : Text → Bool
is_symbol_name text = is_file_name text

abbrev pub all_different : List Text → Bool
all_different [] = true
all_different (name ∷ names) = not (list_any (λ n. bytes_eq n name) names) && all_different names

-- the names between the commas (44)
abbrev pub comma_names : Text → List Text
comma_names text = slice_split (λ b. b == 44) text

-- 1 to 64 names, all different
abbrev pub are_file_names : List Text → Bool
are_file_names names = nat_le (length names) 64 && list_all is_file_name names
    && all_different names

-- the names that an option gives, none where it is left out
abbrev pub names_in : Option Text → Option (List Text)
names_in None = Some []
names_in (Some text) = if are_file_names (comma_names text) then Some (comma_names text) else None

-- the ARGS, none of which has a byte 0
abbrev pub are_arguments : List Text → Bool
are_arguments arguments = list_all (λ a. not (has_zero a)) arguments
