use Rattle.std.proofs.Common.{◌≡◌, ℕ, suc, None, Some, get_or, subst, sym, ◌∙◌}
use Rattle.jvm_type_inference.specs.declared.frame.Frame.{Frame}
use Rattle.jvm_type_inference.specs.Actions.{program_over}
use Rattle.jvm_type_inference.specs.Flow.{IsBehind, SpreadTo}
use Rattle.jvm_type_inference.specs.Frames.{frame_at, IsSized}
use Rattle.jvm_type_inference.proofs.InferLaws.{spread-stays, spread-more}
use Rattle.jvm_type_inference.proofs.spreading.spread_one.Goals as goal

pub returns-in_default : goal.returns-in_default
returns-in_default c frames s =
    let a = c.args in
    spread-stays (program_over a.code.now.methods.now) a.code.now.method.now a.before.now a.at frames a.spread.now.items (sym c.before_of.ensures ∙ c.in_default.is) s

pub frame_behind-requires-clause-sized : goal.frame_behind-requires-clause-sized
frame_behind-requires-clause-sized c =
    let m = c.args.code.now.method.now in
    subst (λ xs. (n : ℕ) (f : Frame) → get_or xs n None ≡ Some f → IsSized m.locals m.stack f) (sym c.as_slice.ensures.value) c.requires.sized

pub returns : goal.returns
returns c frames s =
    let a = c.args in
    let p = program_over a.code.now.methods.now in
    let m = a.code.now.method.now in
    let old = a.spread.now.items in
    let frame = c.in_ok-frame.frame in
    let behind = subst (λ xs. IsBehind p m c.in-Some.x (frame_at xs c.in-Some.x) frame) c.as_slice.ensures.value c.in_ok-frame.ensures.behind in
    subst (λ xs. SpreadTo p m a.before.now (suc a.at) frames xs) (sym c.put.ensures)
    (spread-more p m a.before.now c.requires.parts a.at c.in-Some.x frames old frame c.requires.within (sym c.before_of.ensures ∙ c.in-Some.is) behind c.in_ok-frame.ensures.sized s)
