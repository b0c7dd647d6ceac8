use Rattle.class_writer.proofs.MethodLemmas.{code_written}
use Rattle.class_writer.proofs.member_writing.append_code.Goals as goal

pub returns : goal.returns
returns c =
    code_written c.args.method.now c.args.size c.as_slice-code.result.now c.args.bytes.now.items c.append_halves.new.bytes.items c.append_word.new.bytes.items c.append_halves-2.new.bytes.items c.append_word-2.new.bytes.items _
    c.as_slice-code.ensures c.in_ok-append_halves.ensures c.in_ok-append_word.ensures c.in_ok-append_halves-2.ensures c.in_ok-append_word-2.ensures c.in_ok-extend_from_slice.ensures.items
