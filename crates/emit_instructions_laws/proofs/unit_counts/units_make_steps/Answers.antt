use Rattle.std.proofs.Common.{◌≡◌, ◌≤◌, true, subst, sym}
use Rattle.mips_definition.specs.Table.{inst}
use Rattle.delay_slots.specs.declared.unit.Unit.{Unit}
use Rattle.delay_slots.specs.Turns.{unit_turns}
use Rattle.emit_paths_laws.specs.Guest.{crossings, partial}
use Rattle.emit_instructions_laws.specs.Counting.{unit_reads}
use Rattle.emit_instructions_laws.specs.Steps.{unit_trail, begins_with_register_jump, GoesThroughSlot}
use Rattle.emit_instructions_laws.proofs.UnitCounts.Found.{found, fetches}
use Rattle.emit_instructions_laws.proofs.UnitCounts.Trails.{unit-reads, unit-crosses, unit-slot}
use Rattle.emit_instructions_laws.proofs.unit_counts.units_make_steps.Goals as goal

pub returns-clause-reads : goal.returns-clause-reads
returns-clause-reads c x first words i to s =
    let at = found words i s.in_range in
    subst (λ (unit : Unit). partial (unit_trail x (unit_turns unit x) to) ≡ unit_reads unit x) at.unit_is
    (unit-reads x at.word at.following (fetches x first words i s at) to)

pub returns-clause-crossings : goal.returns-clause-crossings
returns-clause-crossings c x first words i spans to s begins =
    let at = found words i s.in_range in
    subst (λ (unit : Unit). 1 ≤ crossings spans (unit_trail x (unit_turns unit x) to)) at.unit_is
    (unit-crosses x at.word at.following (fetches x first words i s at)
    (subst (λ (unit : Unit). begins_with_register_jump unit ≡ true) (sym at.unit_is) begins) spans to)

pub returns-clause-slots : goal.returns-clause-slots
returns-clause-slots c x first words i s =
    let at = found words i s.in_range in
    subst (λ (unit : Unit). GoesThroughSlot x (unit_turns unit x)) at.unit_is
    (unit-slot x s.begun (inst at.word) at.following)
