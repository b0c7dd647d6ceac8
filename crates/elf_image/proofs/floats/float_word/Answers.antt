use Rattle.std.proofs.Common.{◌≡◌, true, ◌+◌, ◌*◌, ◌∙◌, ap, sym, arith}
use Rattle.elf_definition.specs.Content.{stored_code_word}
use Rattle.mips_definition.specs.Table.{is_float}
use Rattle.elf_image.proofs.Counting.{least_found}
use Rattle.elf_image.proofs.floats.float_word.Goals as goal

pub returns-then-is_float-clause-value : goal.returns-then-is_float-clause-value
returns-then-is_float-clause-value c =
    let file = c.args.table.now.file.bytes in
    let segments = c.args.table.now.segments.value.items in
    let place : c.from.result + 4 * c.from-in-loop-k.result ≡ c.args.range.first + 4 * c.loop-k.k = omega arith in
    let word : c.code_word.result ≡ stored_code_word file segments (c.args.range.first + 4 * c.loop-k.k) = c.code_word.ensures ∙ ap (stored_code_word file segments) place in
    let on : is_float (stored_code_word file segments (c.args.range.first + 4 * c.loop-k.k)) ≡ true = ap is_float (sym word) ∙ sym c.is_float.ensures ∙ c.if-is_float.true in
    sym (least_found (λ k. is_float (stored_code_word file segments (c.args.range.first + 4 * k))) c.loop-k.k c.args.range.words c.loop-k.invariant on c.loop-k-test.true)
