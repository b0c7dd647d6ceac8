use Rattle.std.proofs.Common.{◌+◌, sym, ◌∙◌, arith}
use Rattle.emit_spans.specs.Pieces.{flagged}
use Rattle.emit_spans.specs.Bodies.{part_offset}
use Rattle.emit_spans.proofs.TargetLemmas.{told-length, told-at, entry-warm, entry-cold, cold-small}
use Rattle.emit_spans.proofs.targets.target_of.Goals as goal

pub bounds-offsets-k : goal.bounds-offsets-k
bounds-offsets-k c =
    omega (
      arith,
      told-length (part_offset c.args.units.now (flagged c.args.leads.now) c.args.span) c.args.span c.args.offsets.now
          c.requires.offsets,
      c.requires.begins_within,
    )

pub overflow_add-result : goal.overflow_add-result
overflow_add-result c =
    let units = c.args.units.now in
    let leads = flagged c.args.leads.now in
    let span = c.args.span in
    let k = c.args.k in
    let there = told-at (part_offset units leads span) span c.args.offsets.now k c.requires.offsets c.requires.begins_within.0
    c.requires.begins_within.1 in
    omega (
      arith,
      there,
      c.requires.cold_base,
      c.requires.small,
      cold-small units leads span k (sym c.if-begins.ensures)
          c.requires.begins_within.0 c.requires.begins_within.1,
    )

pub returns-then-begins : goal.returns-then-begins
returns-then-begins c =
    let units = c.args.units.now in
    let leads = flagged c.args.leads.now in
    let span = c.args.span in
    let k = c.args.k in
    told-at (part_offset units leads span) span c.args.offsets.now k c.requires.offsets c.requires.begins_within.0
    c.requires.begins_within.1 ∙ entry-warm units leads span k (sym c.if-begins.ensures)

pub returns-else-begins : goal.returns-else-begins
returns-else-begins c =
    let units = c.args.units.now in
    let leads = flagged c.args.leads.now in
    let span = c.args.span in
    let k = c.args.k in
    let there = told-at (part_offset units leads span) span c.args.offsets.now k c.requires.offsets c.requires.begins_within.0
    c.requires.begins_within.1 in
    (λ i. c.requires.cold_base i + there i) ∙ entry-cold units leads span k (sym c.if-begins.ensures)
