use Rattle.std.proofs.Common.{ap, sym, [], true, false, length, ◌+◌, option_copied}
use Rattle.asm_lines.specs.Statements.{line_of_statement}
use Rattle.mips_asm.specs.Fillings.{filling_words}
use Rattle.mips_asm.specs.Passes.{is_line}
use Rattle.mips_asm.specs.Program.{line_words}
use Rattle.mips_asm.proofs.LineCounts.{few_next}
use Rattle.mips_asm.proofs.PassLemmas.{left_lines}
use Rattle.mips_asm.proofs.FillLemmas.{unmarked_ok, fault_next, words_next, text_next, data_next, text_within, data_within}
use Rattle.mips_asm.proofs.second_pass.fill_segments.Goals as goal

pub lines-preserved : goal.lines-preserved
lines-preserved c =
    let left = option_copied c.lines.left in
    let after = option_copied c.first_line.result.1 in
    let l = line_of_statement c.statement_of-statement.result in
    let some = ap (λ o. option_copied o) c.in-Some.is in
    let is = left_lines left c.in-Some.rest.now c.first_line.result.0.now after l some c.first_line.ensures.lines c.statement_of-statement.ensures in
    let all = c.args.found.now.labels in
    let mark = c.args.found.now.again in
    let p = c.lines.place in
    let q = c.behind-place.result in
    let ws = filling_words c.in-Ok.filling in
    let old = c.lines.segments in
    let new = c.append.new.self in
    let fine = unmarked_ok (is_line mark c.lines.line) (line_words all [] p l) ws (sym c.in-Ok.ensures) in
    record {
      faults = fault_next all mark l p q c.lines.line left after ws _ is c.behind-place.ensures (sym c.in-Ok.ensures) c.lines.invariant.faults;
      text = words_next false all l p q left after ws old.text.items new.text.items _ is c.behind-place.ensures fine c.in_ok-append.ensures.text c.lines.invariant.text;
      data_bytes = words_next true all l p q left after ws old.data_bytes.items new.data_bytes.items _ is c.behind-place.ensures fine c.in_ok-append.ensures.data_bytes c.lines.invariant.data_bytes;
      few = few_next left c.in-Some.rest.now c.first_line.result.1 c.lines.line (length c.args.text.now + 2) some c.first_line.ensures.shorter c.lines.invariant.few;
      text_place = text_next all l p q ws old.text.items new.text.items c.behind-place.ensures fine c.in_ok-append.ensures.text c.lines.invariant.text_place;
      data_place = data_next all l p q ws old.data_bytes.items new.data_bytes.items c.behind-place.ensures fine c.in_ok-append.ensures.data_bytes c.lines.invariant.data_place;
      text_within = text_within all l p q ws c.behind-place.ensures fine c.lines.invariant.text_within;
      data_within = data_within all l p q ws c.behind-place.ensures fine c.lines.invariant.data_within;
    }
