use Rattle.std.specs.Fmt.{signed_decimal}
use Rattle.std.proofs.Common.{rules, ◌≡◌, ◌∙◌, ℕ, List, [], ◌∷◌, ap, ap₂, sym, subst, codes, inl, inr, refl}
use Rattle.std.specs.Prelude.{◌⊎◌}
use Rattle.run_definition.specs.declared.outcome.Outcome.{Outcome}
use Rattle.run_definition.specs.declared.outcome.Outcome.TheVariants.{Waiting, Going}
use Rattle.command_deeds.specs.Line.{pieces_joined, stage_line}
use Rattle.command_deeds.specs.World.{Writes, output_seen}
use Rattle.command_deeds.proofs.StageLemmas.{spent-line}
use Rattle.command_deeds.proofs.line.write_stage.Goals as goal

pub returns-in-Exited : goal.returns-in-Exited
returns-in-Exited g c =
    let status : c.decimal_signed-status.result.now ≡ signed_decimal c.in-Exited.status = search rules in
    let line : pieces_joined (codes "nested: stage " ∷ c.decimal-stage.result.now ∷ codes " exited " ∷ c.decimal_signed-status.result.now ∷ codes "\n" ∷ []) ≡ stage_line c.args.number c.args.ended =
    ap₂ (λ (i status : List ℕ). pieces_joined (codes "nested: stage " ∷ i ∷ codes " exited " ∷ status ∷ codes "\n" ∷ [])) c.decimal-stage.ensures status
    ∙ sym (ap (stage_line c.args.number) c.in-Exited.is) in
    record {
      writes = subst (λ (text : List ℕ). Writes (output_seen g.E.Sink c.args.err.now) (output_seen g.E.Sink c.write_pieces.new.sink) text c.write_pieces.result) line
          c.write_pieces.ensures.writes;
    }

pub returns-in-Trapped : goal.returns-in-Trapped
returns-in-Trapped g c = rw (c.in-Trapped.is, ← c.decimal-stage.ensures, ← c.decimal-kind.ensures) c.write_pieces-in-Trapped.ensures

pub returns-in-Waiting : goal.returns-in-Waiting
returns-in-Waiting g c =
    let line : pieces_joined (codes "nested: stage " ∷ c.decimal-stage.result.now ∷ codes " spent\n" ∷ []) ≡ stage_line c.args.number c.args.ended =
    ap (λ (i : List ℕ). pieces_joined (codes "nested: stage " ∷ i ∷ codes " spent\n" ∷ [])) c.decimal-stage.ensures ∙ sym (spent-line c.args.number c.args.ended c.in-Waiting.is) in
    record {
      writes = subst (λ (text : List ℕ). Writes (output_seen g.E.Sink c.args.err.now) (output_seen g.E.Sink c.write_pieces-in-Waiting.new.sink) text c.write_pieces-in-Waiting.result) line
          c.write_pieces-in-Waiting.ensures.writes;
    }
