use Rattle.word_emitter.specs.Pieces.{is_needed}
use Rattle.emit_spans_laws.proofs.SpanCodeLaws.Counting.{fetching-weighs}
use Rattle.emit_spans_laws.proofs.SpanSteps.Entering.{enters}
use Rattle.emit_spans_laws.proofs.span_steps.pieces_are_entered.Goals as goal

pub returns-clause-comes : goal.returns-clause-comes
returns-clause-comes c site order words leads span k w x has s begin =
    enters
    (record {
      units = record {
        paths = c.code_is_paths.ensures;
        follow = c.units_are_followed.ensures;
        lawful = c.units_are_lawful.ensures.all;
        known = c.needed_is_known.ensures.unit;
      };
      change = c.instructions_keep_to_their_registers.ensures.writes;
      follow = c.pieces_are_followed.ensures;
      are_pieces = c.pieces_are_of_blocks.ensures;
    })
    site order words leads span has k w x s begin

pub returns-clause-spared : goal.returns-clause-spared
returns-clause-spared c order weight piece spares = fetching-weighs order weight spares (is_needed piece)
