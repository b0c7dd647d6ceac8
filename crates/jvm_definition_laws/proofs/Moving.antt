-- An instruction whose targets are moved has the effect that it had, and its targets are the moved ones.
use Rattle.std.proofs.Common.{◌≡◌, ℕ, suc, ◌+◌, ℤ, ◌-ℤ◌, List, [], ◌∷◌, map, slice_get, if◌then◌else◌, option_map, refl, ap, ◌∙◌}
use Rattle.std.proofs.lemmas.List.{length-map}
use Rattle.std.proofs.lemmas.Option.{slice_get-map}
use Rattle.run_definition.specs.Words.{signed_of}
use Rattle.jvm_definition.specs.declared.pair.Pair.{Pair}
use Rattle.jvm_definition.specs.declared.instruction.Instruction.{Instruction}
use Rattle.jvm_definition.specs.declared.instruction.Instruction.TheVariants.{TableSwitch, LookupSwitch}
use Rattle.jvm_definition.specs.Program.{Program, instruction_targets}
use Rattle.jvm_definition.specs.Effect.{Workspace, jumps, popping_int, with_operands, table_target, lookup_target, same_integer, instruction_effect}
use Rattle.jvm_definition_laws.specs.Stretch.{moved_instruction}

-- a pair with its target moved
abbrev moved_pair : ℕ → Pair → Pair
moved_pair by p = record { key = p.key; target = by + p.target }

lookup-moved : (by : ℕ) (pairs : List Pair) (key : ℤ) (number : ℕ) → lookup_target (map (moved_pair by) pairs) key number ≡ lookup_target pairs key number
lookup-moved by [] key number = refl
lookup-moved by (p ∷ pairs) key number =
    ap (λ n. if same_integer p.key key then number else n) (lookup-moved by pairs key (suc number))

pub effect-moved : (program : Program) (words by : ℕ) (instruction : Instruction) (w : Workspace) → instruction_effect program words (moved_instruction by instruction) w ≡ instruction_effect program words instruction w
effect-moved program words by (TableSwitch s) w =
    ap (λ count. popping_int w.operands (λ n rest. jumps (table_target (signed_of n -ℤ s.low) count) (with_operands w rest))) (length-map s.targets (λ t. by + t))
effect-moved program words by (LookupSwitch s) w =
    λ i. popping_int w.operands (λ n rest. jumps (lookup-moved by s.pairs (signed_of n) 1 i) (with_operands w rest))
effect-moved program words by _ w = refl

targets-of-pairs : (by : ℕ) (pairs : List Pair) → map (λ (p : Pair). p.target) (map (moved_pair by) pairs) ≡ map (λ t. by + t) (map (λ (p : Pair). p.target) pairs)
targets-of-pairs by [] = refl
targets-of-pairs by (p ∷ pairs) = ap (λ ts. (by + p.target) ∷ ts) (targets-of-pairs by pairs)

pub targets-moved : (by : ℕ) (instruction : Instruction) → instruction_targets (moved_instruction by instruction) ≡ map (λ t. by + t) (instruction_targets instruction)
targets-moved by (LookupSwitch s) = ap (λ ts. (by + s.default) ∷ ts) (targets-of-pairs by s.pairs)
targets-moved by _ = refl

pub target-moved : (by : ℕ) (instruction : Instruction) (k : ℕ) → slice_get (instruction_targets (moved_instruction by instruction)) k ≡ option_map (λ t. by + t) (slice_get (instruction_targets instruction) k)
target-moved by instruction k =
    ap (λ ts. slice_get ts k) (targets-moved by instruction)
    ∙ slice_get-map (λ t. by + t) (instruction_targets instruction) k
