use Rattle.std.proofs.Common.{◌≡◌, ◌<◌, length, None, ap, ◌∙◌, arith}
use Rattle.std.proofs.lemmas.List.{length-replicate}
use Rattle.jvm_type_inference.proofs.TableLaws.{within-table, next-table}
use Rattle.jvm_type_inference.proofs.code.starts_of.Goals as goal

pub index_mut-requires : goal.index_mut-requires
index_mut-requires c =
    let l = c.loop-line in
    let size : length c.in_ok-starts.starts.items ≡ c.end_of.result = ap length c.in_ok-starts.ensures ∙ length-replicate c.end_of.result None in
    let within : c.in-Some.line.now.at < length l.starts.items = within-table c.args.lines.now l.rest.now c.in-Some.others.now c.in-Some.line.now l.starts.items (length c.in_ok-starts.starts.items) l.invariant c.in-Some.ensures.cases.0 (λ at h. c.end_of.ensures.behind at (omega (arith, h, size))) in
    omega (arith, within, l.starts.ok.0)

pub loop-line-preserved : goal.loop-line-preserved
loop-line-preserved c =
    let l = c.loop-line in
    let size : length c.in_ok-starts.starts.items ≡ c.end_of.result = ap length c.in_ok-starts.ensures ∙ length-replicate c.end_of.result None in
    let within : c.in-Some.line.now.at < length l.starts.items = within-table c.args.lines.now l.rest.now c.in-Some.others.now c.in-Some.line.now l.starts.items (length c.in_ok-starts.starts.items) l.invariant c.in-Some.ensures.cases.0 (λ at h. c.end_of.ensures.behind at (omega (arith, h, size))) in
    next-table c.args.lines.now l.rest.now c.in-Some.others.now c.in-Some.line.now l.starts.items (length c.in_ok-starts.starts.items) l.invariant c.in-Some.ensures.cases.0 within
