-- No branch of a branch's code before its slot goes past that code's end.
use Rattle.std.proofs.Common.{ℕ, ◌==◌, Bool, true, false, if◌then◌else◌, List, [], ◌∷◌, ◌++◌, Option, Some, None, IsTrue, refl}
use Rattle.jvm_definition.specs.declared.stack_name.StackName.TheVariants.{Pop}
use Rattle.jvm_definition.specs.declared.local_kind.LocalKind.TheVariants as local_kinds
use Rattle.jvm_definition.specs.declared.instruction.Instruction.TheVariants as instructions
use Rattle.emit_steps.specs.declared.step.Step.{Step}
use Rattle.emit_steps.specs.declared.step.Step.TheVariants.{Does}
use Rattle.emit_steps.specs.Outcomes.{stays_within}
use Rattle.emit_layout.specs.FieldNumbers.{register_field}
use Rattle.emit_instructions.specs.Access.{get_register, put_register, get_field, put_field, push_word, keeps}
use Rattle.emit_instructions.specs.Branching.{settle_code, link_code}

in-bank : (r : ℕ) (code : List Step) (b : Bool) → IsTrue (stays_within code) → IsTrue (stays_within ((if b then Does (instructions.Load local_kinds.Int r) else get_field (register_field r)) ∷ code))
in-bank r code true within = within
in-bank r code false within = within

by-number : (bank r : ℕ) (code : List Step) (b : Bool) → IsTrue (stays_within code) → IsTrue (stays_within ((if b then push_word 0 else if keeps bank r then Does (instructions.Load local_kinds.Int r) else get_field (register_field r)) ∷ code))
by-number bank r code true within = within
by-number bank r code false within = in-bank r code (keeps bank r) within

pub within-get : (bank r : ℕ) (code : List Step) → IsTrue (stays_within code) → IsTrue (stays_within (get_register bank r ∷ code))
within-get bank r code within = by-number bank r code (r == 0) within

put-in-bank : (r : ℕ) (code : List Step) (b : Bool) → IsTrue (stays_within code) → IsTrue (stays_within ((if b then Does (instructions.Store local_kinds.Int r) else put_field (register_field r)) ∷ code))
put-in-bank r code true within = within
put-in-bank r code false within = within

put-by-number : (bank r : ℕ) (code : List Step) (b : Bool) → IsTrue (stays_within code) → IsTrue (stays_within ((if b then Does (instructions.Stack Pop) else if keeps bank r then Does (instructions.Store local_kinds.Int r) else put_field (register_field r)) ∷ code))
put-by-number bank r code true within = within
put-by-number bank r code false within = put-in-bank r code (keeps bank r) within

pub within-put : (bank r : ℕ) (code : List Step) → IsTrue (stays_within code) → IsTrue (stays_within (put_register bank r ∷ code))
within-put bank r code within = put-by-number bank r code (r == 0) within

pub within-goal : (bank at : ℕ) (link : Option ℕ) → IsTrue (stays_within (settle_code ++ link_code bank link at))
within-goal bank at None = refl
within-goal bank at (Some r) = within-put bank r [] refl

pub within-link : (bank at : ℕ) (link : Option ℕ) → IsTrue (stays_within (link_code bank link at))
within-link bank at None = refl
within-link bank at (Some r) = within-put bank r [] refl
