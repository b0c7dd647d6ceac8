use Rattle.command_translate.proofs.FileLemmas.{no_refusal, one_more}
use Rattle.command_translate.proofs.classes.read_files.Goals as goal

pub loop-file-preserved : goal.loop-file-preserved
loop-file-preserved c =
    one_more c.args.files.now c.loop-file.file-index c.file-item.result c.as_slice.result.now c.in-Ok.class c.loop-file.classes.items
    c.push.new.classes.items c.loop-file-test.true c.file-item.is c.as_slice.ensures.value
    c.in-Ok.ensures.spelled c.in_ok-push-in-Ok.ensures c.loop-file.invariant

pub unreachable-requires : goal.unreachable-requires
unreachable-requires c =
    no_refusal c.args.files.now c.loop-file.file-index c.file-item.result c.as_slice.result.now c.in-Err-Refused.field-0-0 c.requires
    c.loop-file-test.true c.file-item.is c.as_slice.ensures.value (rw c.in-Err-Refused.field-0-is at c.in-Err-Refused.ensures.refused)
