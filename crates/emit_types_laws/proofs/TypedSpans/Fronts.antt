-- The code before the parts, which goes to one of them.
use Rattle.std.proofs.Common.{◌≡◌, ℕ, zero, suc, ◌%◌, ◌+◌, ◌*◌, ◌==◌, true, if◌then◌else◌, List, [], ◌∷◌, ◌++◌, All, get_or, refl, sym, subst}
use Rattle.std.specs.Prelude.{replicate, Some, None}
use Rattle.std.specs.List.{list_any}
use Rattle.std.proofs.lemmas.Bool.{eq-eqb}
use Rattle.std.proofs.lemmas.List.Folds.{list_any_at}
use Rattle.jvm_definition.specs.declared.kind.Kind.TheVariants.{Int}
use Rattle.jvm_definition.specs.declared.instruction.Instruction.TheVariants as instructions
use Rattle.jvm_definition.specs.Program.{Program}
use Rattle.jvm_definition.specs.Typing.{TypeFrame, Below, with_stack}
use Rattle.emit_steps.specs.declared.step.Step.{Step}
use Rattle.emit_steps.specs.declared.step.Step.TheVariants.{Does}
use Rattle.emit_steps.specs.Widths.{size}
use Rattle.emit_spans.specs.Opening.{opening, padding, index_code}
use Rattle.emit_spans.specs.Laying.{switch}
use Rattle.emit_types_laws.specs.Judging.{Rules, Leads, Meets}
use Rattle.emit_types_laws.proofs.TypedSteps.Flow.{flows-from}
use Rattle.emit_types_laws.proofs.TypedSteps.Joining.{codes-lead, nothing-leads}
use Rattle.emit_types_laws.proofs.TypedSteps.KindOrder.{same}
use Rattle.emit_types_laws.specs.Knowing.{unknown}
use Rattle.emit_types_laws.specs.Spans.{owes_unknown}

abbrev pub going_to : Program → List ℕ → Rules
going_to program goals = record { program = program; owes = owes_unknown goals; more = 2 }

-- what meets nothing known meets what is owed at a goal
pub goal-met : (goals : List ℕ) (at : ℕ) (f : TypeFrame) → Below f unknown → list_any (λ goal. goal == at) goals ≡ true
    → Meets f (owes_unknown goals at)
goal-met goals at f below is = subst (λ b. Meets f (if b then Some unknown else None)) (sym is) below

-- it does at each goal
all-met : (goals : List ℕ) → All (λ at. Meets unknown (owes_unknown goals at)) goals
all-met goals k d less =
    goal-met goals (get_or goals k d) unknown (same unknown)
    (list_any_at (λ goal. goal == get_or goals k d) goals k d less (eq-eqb (get_or goals k d) (get_or goals k d) refl))

abbrev nop : Step
nop = Does instructions.Nop

nops-lead : (rules : Rules) (n : ℕ) → Leads rules (replicate n nop) unknown unknown
nops-lead rules zero = nothing-leads rules unknown
nops-lead rules (suc n) =
    codes-lead rules (nop ∷ []) (replicate n nop) unknown unknown (unknown ∷ [])
    (flows-from rules (nop ∷ []) unknown (unknown ∷ []) (same unknown, tt)) (nops-lead rules n)

-- the word's number is on the stack
abbrev numbered : TypeFrame
numbered = with_stack unknown (Int ∷ [])

index-leads : (rules : Rules) (first : ℕ) → Leads rules (index_code first) unknown numbered
index-leads rules first = flows-from rules (index_code first) unknown (numbered ∷ []) (same numbered, tt)

opening-leads : (rules : Rules) (first : ℕ) → Leads rules (opening first) unknown numbered
opening-leads rules first =
    codes-lead rules (padding (size (index_code first))) (index_code first) unknown unknown (numbered ∷ [])
    (nops-lead rules ((3 * size (index_code first) + 3) % 4)) (index-leads rules first)

switch-leads : (program : Program) (targets : List ℕ) (otherwise : ℕ)
    → Leads (going_to program (otherwise ∷ targets)) (switch targets otherwise ∷ []) numbered unknown
switch-leads program targets otherwise =
    flows-from (going_to program (otherwise ∷ targets)) (switch targets otherwise ∷ []) numbered (unknown ∷ [])
    (all-met (otherwise ∷ targets), (tt, tt))

pub front-leads : (program : Program) (targets : List ℕ) (otherwise first : ℕ)
    → Leads (going_to program (otherwise ∷ targets)) (opening first ++ switch targets otherwise ∷ []) unknown unknown
front-leads program targets otherwise first =
    codes-lead (going_to program (otherwise ∷ targets)) (opening first) (switch targets otherwise ∷ []) unknown numbered (unknown ∷ [])
    (opening-leads (going_to program (otherwise ∷ targets)) first) (switch-leads program targets otherwise)
