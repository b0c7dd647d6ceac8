use Rattle.std.proofs.Common.{length}
use Rattle.jvm_type_inference.specs.Actions.{program_over}
use Rattle.jvm_type_inference.specs.Frames.{frame_at}
use Rattle.jvm_type_inference.proofs.SpreadLaws.{spread-of, are-spread}
use Rattle.jvm_type_inference.proofs.method.verdict_by_blocks.Goals as goal

pub returns-in-Typed : goal.returns-in-Typed
returns-in-Typed c =
    let code = c.args.code.now in
    let m = code.method.now in
    let p = program_over code.methods.now in
    let before = c.args.before.now in
    let count = length code.starts.items in
    let a = rw c.in-Typed.is at c.in_ok-analysis.ensures in
    let frames = frame_at c.in-Typed._frames in
    let least = a.least (spread-of p m before frames count) (are-spread p m before frames count c.requires.parts) in
    record { frames = spread-of p m before frames count; typing = least.typing; least = least.least }
