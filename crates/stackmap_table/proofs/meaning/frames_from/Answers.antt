use Rattle.std.proofs.Common.{◌≡◌, true, Some, List, sym, ap, subst, ◌∙◌}
use Rattle.jvm_definition.specs.declared.kind.Kind.{Kind}
use Rattle.jvm_type_inference.specs.declared.frame.Frame.{Frame}
use Rattle.stackmap_table.specs.Last.{last_locals}
use Rattle.stackmap_table.specs.Meaning.{locals_of, frame_operands, is_frame_within}
use Rattle.stackmap_table.proofs.MeaningLaws.{IsReading, next-reading}
use Rattle.stackmap_table.proofs.meaning.frames_from.Goals as goal

pub loop-frame-preserved : goal.loop-frame-preserved
loop-frame-preserved c =
    let a = c.args in
    let m = a.method.now in
    let l = c.loop-frame in
    let f = c.in-Some.frame.now in
    let ls : List Kind = c.in-Some-2.locals in
    let before : c.in_ok-before.before ≡ last_locals m.parameters l.listed.items = c.in_ok-before.ensures ∙ ap (last_locals m.parameters) c.deref.ensures.value in
    let is : locals_of a.pool.now (last_locals m.parameters l.listed.items) f ≡ Some ls = ap (λ x. locals_of a.pool.now x f) (sym before) ∙ (sym c.in_ok-locals.ensures ∙ c.in-Some-2.is) in
    let fits = rw (c.as_slice.ensures, c.deref-in-Some.ensures.value ∙ c.in_ok-stack.ensures) at c.is_within.ensures in
    let within : is_frame_within m.locals m.stack ls (frame_operands a.pool.now f) ≡ true = sym fits ∙ c.if-not-is_within.false in
    let frame : Frame = record { locals = c.in-Some-2.locals; stack = c.in_ok-stack-2.stack } in
    let given : frame ≡ record { locals = ls; stack = frame_operands a.pool.now f } = λ i. record { locals = ls; stack = (c.in_ok-stack-2.ensures ∙ (c.deref-in-Some-2.ensures.value ∙ c.in_ok-stack.ensures)) i } in
    subst (λ x. IsReading a.pool.now m.locals m.stack m.parameters a.frames.now c.in-Some.others.now x (Some c.offset_of-at.result)) (sym c.in_ok-push.ensures.items)
    (next-reading a.pool.now m.locals m.stack m.parameters a.frames.now l.rest.now c.in-Some.others.now f l.listed.items l.last c.in-Some.ensures.cases.0 l.invariant ls is c.offset_of-at.result frame c.offset_of-at.ensures.offset given c.offset_of-at.ensures.near c.offset_of-at.ensures.nearer within)
