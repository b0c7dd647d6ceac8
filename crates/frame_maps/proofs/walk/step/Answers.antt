use Rattle.std.proofs.Common.{sym, subst, ◌∙◌}
use Rattle.std.specs.Prelude.{All, option_map}
use Rattle.std.proofs.lemmas.Bool.{true≢false}
use Rattle.jvm_type_inference.specs.Actions.{program_over}
use Rattle.jvm_type_inference.specs.Frames.{type_frame, frame_at}
use Rattle.frame_maps.specs.Walk.{ListedAbove, IsWay}
use Rattle.frame_maps.proofs.WalkLaws.{no-step, way-on}
use Rattle.frame_maps.proofs.walk.step.Goals as goal

pub returns-then-not-are_listed_above : goal.returns-then-not-are_listed_above
returns-then-not-are_listed_above c =
    let a = c.args in
    let f = type_frame c.in-Some.frame.now in
    let b = type_frame c.in-Some-2.behind in
    let comes = rw c.in-Some.is at c.arriving.ensures in
    let enters = rw c.in-Some-2.is at c.in_ok-behind.ensures.enters in
    no-step (program_over a.code.now.methods.now) a.code.now.method.now (frame_at a.listed.now) (option_map type_frame a.flowing.now) a.line.now f b comes enters
    (λ all. true≢false (sym (c.are_listed_above.ensures.1 (subst (All (ListedAbove (frame_at a.listed.now) b)) (sym (c.deref.ensures.value ∙ c.in_ok-targets.ensures)) all)) ∙ c.if-not-are_listed_above.true))

pub returns : goal.returns
returns c =
    let a = c.args in
    let f = type_frame c.in-Some.frame.now in
    let comes = rw c.in-Some.is at c.arriving.ensures in
    let enters = rw c.in-Some-2.is at c.in_ok-behind.ensures.enters in
    let p = program_over a.code.now.methods.now in
    let m = a.code.now.method.now in
    let listed = frame_at a.listed.now in
    let flowing = option_map type_frame a.flowing.now in
    subst (IsWay p m listed flowing a.line.now) (sym c.way_on.ensures)
    (way-on p m listed flowing a.line.now f c.in-Some-2.behind (record {
      comes = comes;
      enters = enters;
      targets = subst (All (ListedAbove listed (type_frame c.in-Some-2.behind))) (c.deref.ensures.value ∙ c.in_ok-targets.ensures) (c.are_listed_above.ensures.0 c.if-not-are_listed_above.false);
    }))
