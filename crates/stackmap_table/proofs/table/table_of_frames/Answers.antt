use Rattle.std.proofs.Common.{length, ◌++◌, sym, ap, ◌∙◌, arith}
use Rattle.std.proofs.lemmas.Bool.{eq-eqb, true≢false}
use Rattle.stackmap_table.specs.Written.{half}
use Rattle.stackmap_table.proofs.WrittenLaws.{some-frames-table, tabled-count}
use Rattle.stackmap_table.proofs.table.table_of_frames.Goals as goal

pub overflow_cast-listed : goal.overflow_cast-listed
overflow_cast-listed c = omega (arith, tabled-count 0 c.args.listed.now (omega arith) c.requires.tabled)

pub returns : goal.returns
returns c =
    let a = c.args in
    some-frames-table a.pool.now a.parameters.now a.listed.now c.append_half.new.bytes.items c.append_frames.new.bytes.items
    (λ e. true≢false (sym (eq-eqb (length a.listed.now) 0 e) ∙ sym c.if-is_empty.ensures))
    (c.in_ok-append_half.ensures ∙ ap (λ x. x ++ half (length a.listed.now)) c.new-bytes.ensures.items)
    c.in_ok-append_frames.ensures
