use Rattle.std.proofs.Common.{◌+◌, ◌∙◌, arith, drop}
use Rattle.std.specs.Prelude.{bit_or}
use Rattle.std.specs.List.{flat_map}
use Rattle.block_builder.specs.Registers.{register_set, unit_reads}
use Rattle.block_builder.proofs.SetLemmas.{union_more, union_all}
use Rattle.word_emitter.proofs.pieces.bank_of.Goals as goal

pub loop-unit-preserved : goal.loop-unit-preserved
loop-unit-preserved c =
    let units = c.args.units.now in
    let k = c.loop-unit.unit-index in
    (λ i. bit_or (bit_or c.loop-unit.reads (c.unit_reads-reads.ensures i)) (register_set (flat_map unit_reads (drop (k + 1) units))))
    ∙ union_more unit_reads units k _ c.loop-unit.reads (register_set (flat_map unit_reads units)) c.loop-unit-test.true c.loop-unit.invariant

pub returns : goal.returns
returns c =
    let units = c.args.units.now in
    let reads = union_all unit_reads units c.loop-unit.unit-index c.loop-unit.reads (register_set (flat_map unit_reads units))
    (omega (arith, c.loop-unit-test.false)) c.loop-unit.invariant in
    c.keeping.ensures ∙ (λ i. bit_or (reads i) (c.written.ensures i))
