use Rattle.std.proofs.Common.{ℕ, ◌≤◌, Bool, true, false, arith}
use Rattle.std.proofs.lemmas.Bool.{ltb-true}
use Rattle.emit_layout.specs.Helpers.{helper_descriptor}
use Rattle.emit_instructions.specs.Units.{unit_code}
use Rattle.class_definition.specs.Linking.{gives_int}
use Rattle.mem_helpers.specs.Methods.{helper_code}
use Rattle.word_emitter.specs.Pieces.{warm_code}
use Rattle.emit_spans.specs.Laying.{span_code}
use Rattle.emit_spans.specs.Parts.{cold_part, unit_part, warm_part}
use Rattle.emit_methods_laws.specs.Naming.{fields_of, is_fault, is_helper}
use Rattle.emit_metered_laws.proofs.FieldLaws.Weights.{code-weighs, faults-are-helpers, whole-weighs}
use Rattle.emit_metered_laws.proofs.field_laws.code_writes_the_layout.Goals as goal

pub returns-clause-named : goal.returns-clause-named
returns-clause-named c fields calls class gives code is f other = code-weighs fields f other calls class gives code is

pub returns-clause-helpers : goal.returns-clause-helpers
returns-clause-helpers c order number below f other =
    whole-weighs 38 f other other order c.helpers_name_well.ensures is_fault 0 (gives_int (helper_descriptor number))
    (λ m is. faults-are-helpers m is) (helper_code order number) (c.helpers_name_well.ensures order 0 number below)

pub returns-clause-units : goal.returns-clause-units
returns-clause-units c order bank at unit lawful f other =
    whole-weighs 38 f other other order c.helpers_name_well.ensures is_helper 0 false (λ m is. ltb-true m 20 is)
    (unit_code bank unit at) (c.units_name_well.ensures.one 0 false bank at unit lawful)

pub returns-clause-pieces : goal.returns-clause-pieces
returns-clause-pieces c order at piece lawful f other =
    whole-weighs 38 f other other order c.helpers_name_well.ensures is_helper 0 false (λ m is. ltb-true m 20 is)
    (warm_code piece at) (c.units_name_well.ensures.piece 0 false at piece lawful)

few : (metered : Bool) (f : ℕ) → fields_of metered ≤ f → 38 ≤ f
few true f other = omega (arith, other)
few false f other = other

pub returns-clause-parts : goal.returns-clause-parts
returns-clause-parts c order k units leads span lawful = record {
  piece = λ f other.
      whole-weighs 38 f other other order c.helpers_name_well.ensures is_helper 0 false (λ m is. ltb-true m 20 is)
      (warm_part units leads span k) (c.spans_name_well.ensures.pieces 0 k units leads span lawful);
  unit = λ f other.
      whole-weighs 38 f other other order c.helpers_name_well.ensures is_helper 0 false (λ m is. ltb-true m 20 is)
      (unit_part units leads span k) (c.spans_name_well.ensures.units 0 k units leads span lawful);
  word = λ f other.
      whole-weighs (fields_of span.metered) f other (few span.metered f other) order c.helpers_name_well.ensures is_helper 0 false
      (λ m is. ltb-true m 20 is) (cold_part units leads span k) (c.spans_name_well.ensures.words 0 k units leads span lawful);
}

pub returns-clause-spans : goal.returns-clause-spans
returns-clause-spans c order units leads span lawful f other =
    whole-weighs (fields_of span.metered) f other (few span.metered f other) order c.helpers_name_well.ensures is_helper 0 false
    (λ m is. ltb-true m 20 is) (span_code units leads span) (c.spans_name_well.ensures.method 0 units leads span lawful)
