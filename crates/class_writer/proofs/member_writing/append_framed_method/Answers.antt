use Rattle.std.proofs.Common.{◌+◌, ◌++◌, length, ap, ◌∙◌}
use Rattle.std.proofs.lemmas.Result.{on_ok_weaker}
use Rattle.class_writer.specs.Written.{code_bytes}
use Rattle.class_writer.proofs.MethodLemmas.{framed_written}
use Rattle.class_writer.proofs.member_writing.append_framed_method.Goals as goal

pub returns : goal.returns
returns c =
    let m = c.args.method.now in
    let old = c.args.bytes.now.items in
    on_ok_weaker c.append_table.result
    (framed_written c.args.name m c.args.table.now old c.append_code.new.bytes.items c.append_halves.new.bytes.items _
    (c.in_ok-append_code.ensures
    ∙ (ap (λ x. old ++ code_bytes m (length x + 12 + c.size_of_table.result)) c.as_slice.ensures
    ∙ ap (λ n. old ++ code_bytes m (length m.code + 12 + n)) c.size_of_table.ensures.size))
    c.in_ok-append_halves.ensures)
    c.append_table.ensures
