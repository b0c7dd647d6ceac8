-- The lines of the stages of a pipeline, one behind the other.
use Rattle.std.proofs.Common.{◌≡◌, ◌∙◌, ℕ, List, [], ◌∷◌, ◌++◌, Result, Ok, Err, ap, sym, codes, decimal, inl, inr}
use Rattle.std.specs.Prelude.{◌⊎◌}
use Rattle.run_definition.specs.declared.fault.Fault.{Fault}
use Rattle.run_definition.specs.declared.outcome.Outcome.{Outcome}
use Rattle.run_definition.specs.declared.outcome.Outcome.TheVariants.{Faulted, Waiting, Going}
use Rattle.nv_outside.proofs.SeenLemmas.{fails-behind, takes-both}
use Rattle.command_deeds.specs.Line.{fault_pieces, pieces_joined, stage_line}
use Rattle.command_deeds.specs.World.{Seen, Takes, Writes}
use Rattle.command_deeds.proofs.PieceLemmas.{joined-append}

-- the line of a stage that did not end
pub spent-line : (i : ℕ) (ended : Outcome) → (ended ≡ Waiting) ⊎ (ended ≡ Going)
    → stage_line i ended ≡ pieces_joined (codes "nested: stage " ∷ decimal i ∷ codes " spent\n" ∷ [])
spent-line i ended (inl is) = ap (stage_line i) is
spent-line i ended (inr is) = ap (stage_line i) is

-- the line of a stage that ended in a fault, in two parts
pub faulted-line : (i : ℕ) (f : Fault) (digits : List ℕ) → digits ≡ decimal i
    → pieces_joined (codes "nested: stage " ∷ digits ∷ []) ++ pieces_joined (fault_pieces (codes " fault ") f) ≡ stage_line i (Faulted f)
faulted-line i f digits is =
    sym (joined-append (codes "nested: stage " ∷ digits ∷ []) (fault_pieces (codes " fault ") f))
    ∙ ap (λ (d : List ℕ). pieces_joined (codes "nested: stage " ∷ d ∷ fault_pieces (codes " fault ") f)) is

-- a text was taken, and one behind it written, or not
pub writes-behind : {E : Type 0} (old mid new : Seen (List ℕ)) (xs ys : List ℕ) (result : Result (Unit {0}) E) → Takes old mid xs
    → Writes mid new ys result → Writes old new (xs ++ ys) result
writes-behind old mid new xs ys (Ok done) took writes = takes-both old mid new xs ys took writes
writes-behind old mid new xs ys (Err failed) took fails = fails-behind old mid new xs ys took fails
