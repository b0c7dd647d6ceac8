-- Linked code of which each byte that no reached instruction holds became a return, and the frames that are listed for it.
use Rattle.std.specs.Prelude.{ℕ, zero, suc, ◌+◌, ◌-◌, Bool, false, if◌then◌else◌, List, [], ◌∷◌, slice_index_or, flat_map}
use Rattle.jvm_definition.specs.declared.return_name.ReturnName.{ReturnName}
use Rattle.jvm_definition.specs.declared.instruction.Instruction.TheVariants.{Return}
use Rattle.jvm_definition.specs.declared.linked_line.LinkedLine.{LinkedLine}
use Rattle.jvm_definition.specs.declared.linked_method.LinkedMethod.{LinkedMethod}
use Rattle.jvm_type_inference.specs.declared.frame.Frame.{Frame}
use Rattle.stackmap_prune.specs.Code.{is_listed}
use Rattle.stackmap_prune.specs.Pruned.{return_of}
use Rattle.stackmap_prune.specs.Listing.{must_list, listing}

-- whether an offset is marked
abbrev pub is_marked : List Bool → ℕ → Bool
is_marked marks at = slice_index_or marks at false

-- a return for each of so many bytes from an offset on
abbrev pub linked_returns : ReturnName → ℕ → ℕ → List LinkedLine
linked_returns name at zero = []
linked_returns name at (suc n) =
    record { at = at; next = at + 1; instruction = Return name } ∷ linked_returns name (suc at) n

-- a line stays where its offset is kept
abbrev pub pruned_linked_line : (ℕ → Bool) → ReturnName → LinkedLine → List LinkedLine
pruned_linked_line kept name l = if kept l.at then l ∷ []
    else linked_returns name l.at (l.next - l.at)

abbrev pub pruned_linked : (ℕ → Bool) → ReturnName → List LinkedLine → List LinkedLine
pruned_linked kept name lines = flat_map (pruned_linked_line kept name) lines

-- the lines of a method, of which those with a frame stay
abbrev pub lines_behind : LinkedMethod → List (ℕ × Frame) → List LinkedLine
lines_behind method reached =
    pruned_linked (is_listed reached) (return_of method.gives_int) method.lines

-- the frames that are listed for what became of a method
abbrev pub listing_behind : LinkedMethod → List (ℕ × Frame) → List (ℕ × Frame)
listing_behind method reached =
    listing (must_list (lines_behind method reached)) reached method.gives_int method.parameters
    (lines_behind method reached)
