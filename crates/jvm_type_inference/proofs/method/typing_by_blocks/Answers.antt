use Rattle.std.proofs.Common.{length, subst, sym}
use Rattle.jvm_type_inference.specs.Actions.{program_over}
use Rattle.jvm_type_inference.specs.Flow.{SpreadTo}
use Rattle.jvm_type_inference.specs.Inferred.{AreInferred}
use Rattle.jvm_type_inference.proofs.InferLaws.{inferred}
use Rattle.jvm_type_inference.proofs.SettleLaws.{table-ends}
use Rattle.jvm_type_inference.proofs.method.typing_by_blocks.Goals as goal

pub returns-in_ok-frames-in-Typed : goal.returns-in_ok-frames-in-Typed
returns-in_ok-frames-in-Typed c =
    let code = c.args.code.now in
    let p = program_over code.methods.now in
    let m = code.method.now in
    let before = c.args.before.now in
    let count = length code.starts.items in
    let new = c.in_ok-frames-in-Typed.frames.items in
    let a = rw c.in-Typed.is at c.in_ok-analysis.ensures in
    let all = subst (λ xs. SpreadTo p m before count xs new) c.into_vec.ensures c.in_ok-frames-in-Typed.ensures in
    subst (AreInferred p m) (sym c.new.ensures)
    (inferred p m before c.requires.parts count c.in-Typed.frames new
    (λ y h. table-ends m code.starts.items c.requires.table y h) c.requires.fits a all)
