-- Code as bytes, of which each byte that no reached instruction holds became a return.
use Rattle.std.specs.Prelude.{◌≡◌, ℕ, zero, suc, ◌&&◌, ◌==◌, Bool, true, not, if◌then◌else◌, List, [], ◌∷◌, flat_map, is_some}
use Rattle.std.specs.List.{list_all, list_any}
use Rattle.jvm_definition.specs.declared.return_name.ReturnName.{ReturnName}
use Rattle.class_definition.specs.declared.line.Line.{Line}
use Rattle.class_definition.specs.declared.method.Method.{Method}
use Rattle.class_definition.specs.declared.op.Op.TheVariants.{Give}
use Rattle.class_definition.specs.Code.{Lines, targets_of}
use Rattle.class_definition.specs.Sizes.{size_at}
use Rattle.jvm_type_inference.specs.declared.frame.Frame.{Frame}
use Rattle.type_verifier.specs.Typings.{listed_frames}
use Rattle.stackmap_prune.specs.Pruned.{return_of}

-- a return for each of so many bytes from a place on
abbrev pub returns_at : ReturnName → ℕ → ℕ → List Line
returns_at name at zero = []
returns_at name at (suc n) = record { at = at; op = Give name } ∷ returns_at name (suc at) n

-- a line stays where its place is kept
abbrev pub pruned_line : (ℕ → Bool) → ReturnName → Line → List Line
pruned_line kept name l = if kept l.at then l ∷ [] else returns_at name l.at (size_at l.at l.op)

abbrev pub pruned_lines : (ℕ → Bool) → ReturnName → List Line → List Line
pruned_lines kept name lines = flat_map (pruned_line kept name) lines

-- some line does not stay
abbrev pub has_dead : (ℕ → Bool) → List Line → Bool
has_dead kept lines = list_any (λ l. not (kept l.at)) lines

-- the greatest number of operands, one at least where a return that gives an int was put in
abbrev pub raised : Bool → Bool → ℕ → ℕ
raised gives_int dead stack = if gives_int && dead && stack == 0 then 1 else stack

-- where a line stays, those to which it may go stay
abbrev pub KeepsTargets : (ℕ → Bool) → List Line → Type 0
KeepsTargets kept [] = Unit {0}
KeepsTargets kept (l ∷ lines) =
    (kept l.at ≡ true → list_all kept (targets_of l.op) ≡ true) × KeepsTargets kept lines

-- A method of which the lines at the places that are kept stay, and each byte of any other line is a return.
pub record IsPrunedMethod (kept : ℕ → Bool) (gives_int : Bool) (method pruned : Method) : Type 0 where
  pub lines : List Line
  pub are : Lines method.code lines
  pub pruned_are : Lines pruned.code (pruned_lines kept (return_of gives_int) lines)
  pub stack : pruned.stack ≡ raised gives_int (has_dead kept lines) method.stack
  pub name : pruned.name ≡ method.name
  pub desc : pruned.desc ≡ method.desc
  pub attr : pruned.attr ≡ method.attr
  pub locals : pruned.locals ≡ method.locals

-- the places of frames that are listed
abbrev pub is_listed : List (ℕ × Frame) → ℕ → Bool
is_listed listed at = is_some (listed_frames listed at)
