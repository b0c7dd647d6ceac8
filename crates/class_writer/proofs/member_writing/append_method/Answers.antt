use Rattle.std.proofs.Common.{◌+◌, ◌++◌, length, ap, ◌∙◌}
use Rattle.std.proofs.lemmas.Result.{on_ok_weaker}
use Rattle.class_writer.specs.Written.{code_bytes}
use Rattle.class_writer.proofs.MethodLemmas.{method_written}
use Rattle.class_writer.proofs.member_writing.append_method.Goals as goal

pub returns : goal.returns
returns c =
    let m = c.args.method.now in
    let old = c.args.bytes.now.items in
    on_ok_weaker c.append_halves.result
    (method_written m old c.append_code.new.bytes.items _ (c.in_ok-append_code.ensures ∙ ap (λ x. old ++ code_bytes m (length x + 12)) c.as_slice.ensures))
    c.append_halves.ensures
