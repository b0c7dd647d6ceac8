-- What code weighs by itself, and with what it calls.
use Rattle.std.proofs.Common.{◌≡◌, ℕ, ◌+◌, ◌≤◌, ◌⊎◌, inl, inr, List, [], ◌∷◌, ◌++◌, subst, sym, arith}
use Rattle.run_definition.specs.declared.order.Order.{Order}
use Rattle.jvm_definition.specs.declared.instruction.Instruction.{Instruction}
use Rattle.emit_steps.specs.declared.step.Step.{Step}
use Rattle.emit_steps.specs.Widths.{size}
use Rattle.emit_paths_laws.specs.Paths.{weigh}
use Rattle.mem_helpers.specs.Methods.{helper_code}
use Rattle.emit_simulation_laws.specs.Sites.{whole_weight, helper_weight}

pub weigh-whole : (order : Order) (weight : Instruction → ℕ) (code : List Step) → weigh weight code ≤ whole_weight order code weight
weigh-whole order weight [] = omega arith
weigh-whole order weight (s ∷ code) = let rest = weigh-whole order weight code in omega (arith, rest)

pub whole-both : (order : Order) (weight : Instruction → ℕ) (first second : List Step) → whole_weight order (first ++ second) weight ≡ whole_weight order first weight + whole_weight order second weight
whole-both order weight [] second = omega arith
whole-both order weight (s ∷ first) second = let rest = whole-both order weight first second in omega (arith, rest)

pub size-both : (first second : List Step) → size (first ++ second) ≡ size first + size second
size-both [] second = omega arith
size-both (s ∷ first) second = let rest = size-both first second in omega (arith, rest)

-- a method that ends the run weighs no more than is counted for a call of a helper
pub fault-within : (order : Order) (weight : Instruction → ℕ) (h g : ℕ) → (g ≡ 18) ⊎ (g ≡ 19) → weigh weight (helper_code order h) + weigh weight (helper_code order g) ≤ helper_weight order weight h
fault-within order weight h g (inl e) = subst (λ n. weigh weight (helper_code order h) + weigh weight (helper_code order n) ≤ helper_weight order weight h) (sym e) (omega arith)
fault-within order weight h g (inr e) = subst (λ n. weigh weight (helper_code order h) + weigh weight (helper_code order n) ≤ helper_weight order weight h) (sym e) (omega arith)
