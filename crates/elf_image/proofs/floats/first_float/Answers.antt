use Rattle.std.proofs.Common.{◌∙◌, sym}
use Rattle.elf_image.proofs.FloatLemmas.{float_found, float_next, float_done}
use Rattle.elf_image.proofs.floats.first_float.Goals as goal

pub returns-in-Some-clause-value : goal.returns-in-Some-clause-value
returns-in-Some-clause-value c =
    sym (c.loop-range.invariant
    ∙ float_found c.args.table.now.file.bytes c.args.table.now.segments.value.items c.args.code.now c.loop-range.range-index c.in-Some.at (record { first = 0; words = 0 })
    c.loop-range-test.true c.in-Some.ensures.value)

pub loop-range-preserved : goal.loop-range-preserved
loop-range-preserved c =
    c.loop-range.invariant
    ∙ float_next c.args.table.now.file.bytes c.args.table.now.segments.value.items c.args.code.now c.loop-range.range-index (record { first = 0; words = 0 })
    c.loop-range-test.true c.in_default.ensures.value

pub returns-clause-value : goal.returns-clause-value
returns-clause-value c =
    sym (c.loop-range.invariant
    ∙ float_done c.args.table.now.file.bytes c.args.table.now.segments.value.items c.args.code.now c.loop-range.range-index c.loop-range-test.false)
