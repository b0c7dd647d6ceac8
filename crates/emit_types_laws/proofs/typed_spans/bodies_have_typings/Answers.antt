use Rattle.emit_types_laws.proofs.TypedSteps.Standing.{body-typed}
use Rattle.emit_types_laws.proofs.typed_spans.bodies_have_typings.Goals as goal

pub returns : goal.returns
returns c program owes method code lines parameters operands body =
    body-typed (record { program = program; owes = owes; more = 2 }) method code (record {
      lines_are = lines;
      parameters = parameters;
      operands = operands;
      locals = body.names;
      types = body.types;
    })
