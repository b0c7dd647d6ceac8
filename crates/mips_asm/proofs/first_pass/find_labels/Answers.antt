use Rattle.std.proofs.Common.{ap, ◌∙◌, cond, option_copied, Some, None, length, ◌+◌}
use Rattle.asm_lines.specs.Operands.{first_of}
use Rattle.asm_lines.specs.Statements.{line_of_statement}
use Rattle.mips_asm.proofs.LineCounts.{few_next}
use Rattle.mips_asm.proofs.PassLemmas.{left_lines, addresses_next, again_next, low_next}
use Rattle.mips_asm.proofs.first_pass.find_labels.Goals as goal

pub lines-preserved : goal.lines-preserved
lines-preserved c =
    let left = option_copied c.lines.left in
    let after = option_copied c.first_line.result.1 in
    let l = line_of_statement c.statement_of-statement.result in
    let some = ap (λ o. option_copied o) c.in-Some.is in
    let is = left_lines left c.in-Some.rest.now c.first_line.result.0.now after l some c.first_line.ensures.lines c.statement_of-statement.ensures in
    let old = c.lines.labels in
    let new = c.note_label.new.labels in
    let p = c.lines.place in
    let q = c.behind-place.result in
    let marked = c.first_marked-again.ensures ∙ ap (λ t. first_of c.lines.again (cond t (Some c.lines.line) None)) c.in_ok-is_again.ensures.again in
    record {
      addresses = λ name. addresses_next old new l p q c.address.result left after name _ is c.behind-place.ensures c.address.ensures.value (c.in_ok-is_again.ensures.addresses name) (c.lines.invariant.addresses name);
      again = again_next old new l p q c.address.result c.lines.line left after c.lines.again c.first_marked-again.result _ is c.behind-place.ensures c.address.ensures.value c.in_ok-is_again.ensures.addresses marked c.lines.invariant.again;
      few = few_next left c.in-Some.rest.now c.first_line.result.1 c.lines.line (length c.args.text.now + 2) some c.first_line.ensures.shorter c.lines.invariant.few;
      low = low_next l c.lines.line p q c.behind-place.ensures c.lines.invariant.low;
    }
