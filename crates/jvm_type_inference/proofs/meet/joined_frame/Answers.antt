use Rattle.std.proofs.Common.{sym, ap, ◌∙◌}
use Rattle.jvm_type_inference.specs.declared.frame.Frame.{Frame}
use Rattle.jvm_type_inference.specs.Joins.{joined_locals}
use Rattle.jvm_type_inference.proofs.JoinLaws.{IsJoin-from, refused-join}
use Rattle.jvm_type_inference.proofs.meet.joined_frame.Goals as goal

pub returns-in_default : goal.returns-in_default
returns-in_default c = refused-join c.args.old.now c.args.frame.now (sym (rw c.in_default.is at c.in_ok-stack.ensures))

pub returns : goal.returns
returns c =
    let g = c.args.old.now in
    let f = c.args.frame.now in
    let h : Frame = record { locals = c.in_ok-locals.locals; stack = c.in-Some.stack } in
    IsJoin-from g f h c.requires
    (sym (rw c.in-Some.is at c.in_ok-stack.ensures))
    (c.in_ok-locals.ensures ∙ (ap (λ x. joined_locals x c.as_slice-2.result.now) c.as_slice.ensures ∙ ap (joined_locals g.locals) c.as_slice-2.ensures))
