-- Descriptors and the descriptions that they stand for.
use Rattle.std.specs.Prelude.{ℕ, Bool, false, ◌==◌, ◌||◌, Option, Some, None, option_and_then, if◌then◌else◌, is_some, is_none, position, slice_index_or, slice_set, option_map}
use Rattle.std.specs.List.{list_any}
use Rattle.unix_definition.specs.declared.opened.Opened.{Opened}
use Rattle.unix_definition.specs.Files.{GuestFiles, node_at, node_name, with_node}
use Rattle.unix_definition.specs.declared.description.Description.{Description}
use Rattle.unix_definition.specs.declared.target.Target.{Target}
use Rattle.unix_definition.specs.declared.target.Target.TheVariants.{File, Input, Output, ErrorOutput}

-- the number of the description that a descriptor stands for
abbrev pub number_at : Opened → ℕ → Option ℕ
number_at o fd = slice_index_or o.descriptors fd None

abbrev pub description_of : Opened → ℕ → Option Description
description_of o d = slice_index_or o.descriptions d None

-- the description that a descriptor stands for, with its number
abbrev pub numbered_at : Opened → ℕ → Option (ℕ × Description)
numbered_at o fd =
    option_and_then (λ d. option_map (λ description. (d, description)) (description_of o d))
    (number_at o fd)

-- the lowest descriptor that is not in use
abbrev pub free_descriptor : Opened → Option ℕ
free_descriptor o = position is_none o.descriptors

-- the lowest number that no description has
abbrev pub free_description : Opened → Option ℕ
free_description o = position is_none o.descriptions

-- the lowest descriptor that is not in use, and the lowest number for a description of its own
abbrev pub free_places : Opened → Option (ℕ × ℕ)
free_places o =
    option_and_then (λ fd. option_map (λ d. (fd, d)) (free_description o)) (free_descriptor o)

-- a descriptor stands for a description, or for none
abbrev pub with_descriptor : Opened → ℕ → Option ℕ → Opened
with_descriptor o fd d = record {
  descriptors = slice_set o.descriptors fd d;
  descriptions = o.descriptions;
}

abbrev pub with_description : Opened → ℕ → Option Description → Opened
with_description o d description = record {
  descriptors = o.descriptors;
  descriptions = slice_set o.descriptions d description;
}

abbrev pub is_this_number : ℕ → Option ℕ → Bool
is_this_number n None = false
is_this_number n (Some m) = n == m

-- whether some descriptor stands for a description
abbrev pub is_referred : Opened → ℕ → Bool
is_referred o d = list_any (is_this_number d) o.descriptors

abbrev pub node_of : Target → Option ℕ
node_of (File n) = Some n
node_of Input = None
node_of Output = None
node_of ErrorOutput = None

abbrev pub is_of_node : ℕ → Option Description → Bool
is_of_node n None = false
is_of_node n (Some description) = is_this_number n (node_of description.target)

-- whether some description is of a file
abbrev pub is_open : Opened → ℕ → Bool
is_open o n = list_any (is_of_node n) o.descriptions

-- A description to which no descriptor refers is dropped.
abbrev pub without_unreferred : Opened → ℕ → Opened
without_unreferred o d = if is_referred o d then o else with_description o d None

-- A file without a name and a description is dropped.
abbrev pub without_unused : GuestFiles → Opened → ℕ → GuestFiles
without_unused f o n = if is_some (node_name (node_at f n)) || is_open o n then f
    else with_node f n None
