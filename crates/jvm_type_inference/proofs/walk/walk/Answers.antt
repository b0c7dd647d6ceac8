use Rattle.std.proofs.Common.{◌≡◌, ◌<◌, ◌≤◌, length, subst, sym, ◌∙◌, arith}
use Rattle.jvm_definition.specs.Typing.{TypeFrame, slots_of}
use Rattle.jvm_type_inference.specs.Actions.{program_over}
use Rattle.jvm_type_inference.specs.Frames.{type_frame}
use Rattle.jvm_type_inference.proofs.CallLaws.{length-slots}
use Rattle.jvm_type_inference.proofs.WalkLaws.{IsWalking, walk-begins, walk-fails, walk-ends, walk-fails-typed, walk-goes, no-next}
use Rattle.jvm_type_inference.proofs.walk.walk.Goals as goal

pub loop-line-init : goal.loop-line-init
loop-line-init c =
    let a = c.args in
    let p = program_over a.code.now.methods.now in
    let m = a.code.now.method.now in
    let f : TypeFrame = type_frame a.frame.now in (
      subst (λ x. IsWalking p m a.before.now a.first f a.first (type_frame x)) (sym c.in_ok-working.ensures) (walk-begins p m a.before.now a.first f c.requires.there c.requires.formed.operands),
      subst (λ x. length x.locals ≤ m.locals) (sym c.in_ok-working.ensures) c.requires.formed.sized.locals_fit,
    )

pub returns-then-not-branch-clause-walk : goal.returns-then-not-branch-clause-walk
returns-then-not-branch-clause-walk c =
    let a = c.args in
    let l = c.loop-line in
    walk-fails (program_over a.code.now.methods.now) a.code.now.method.now a.before.now a.first (type_frame a.frame.now) l.at (type_frame l.working) c.in-Some.line.now l.invariant.0
    (sym c.in-Some.ensures.found) (c.in_ok-step.ensures.misses c.if-not-branch.true)

pub returns-in_default-next_inside-clause-walk : goal.returns-in_default-next_inside-clause-walk
returns-in_default-next_inside-clause-walk c =
    let a = c.args in
    let p = program_over a.code.now.methods.now in
    let m = a.code.now.method.now in
    let l = c.loop-line in
    let w = c.step.new.self in
    let f : TypeFrame = type_frame a.frame.now in
    let found = sym c.in-Some.ensures.found in
    walk-ends p m a.before.now a.first f l.at (type_frame l.working) (type_frame w) c.in-Some.line.now l.invariant.0 found (c.in_ok-step.ensures.enters c.if-not-branch.false)
    (no-next p m a.before.now a.first f l.at c.in-Some.line.now c.requires.parts found c.in_default-next_inside.ensures)

pub returns-in_default-next_inside-clause-sized : goal.returns-in_default-next_inside-clause-sized
returns-in_default-next_inside-clause-sized c =
    let m = c.args.code.now.method.now in
    let w = c.step.new.self in
    let enters = c.in_ok-step.ensures.enters c.if-not-branch.false in
    let room : slots_of w.stack ≤ m.stack = enters.within in
    let fits : length w.stack ≤ m.stack = omega (arith, room, length-slots w.stack) in
    record {
      locals_fit = c.in_ok-step.ensures.sized c.if-not-branch.false c.loop-line.invariant.1;
      stack_fits = fits;
    }

pub returns-then-not-are_typed-clause-walk : goal.returns-then-not-are_typed-clause-walk
returns-then-not-are_typed-clause-walk c =
    let a = c.args in
    let l = c.loop-line in
    let w = c.step.new.self in
    walk-fails-typed (program_over a.code.now.methods.now) a.code.now.method.now a.before.now a.first (type_frame a.frame.now) c.requires.parts l.at c.in-Some-next_inside.next
    (type_frame l.working) (type_frame w) c.in-Some.line.now l.invariant.0 (sym c.in-Some.ensures.found) (c.in_ok-step.ensures.enters c.if-not-branch.false) c.in-Some-next_inside.ensures
    (sym c.are_typed.ensures ∙ c.if-not-are_typed.true)

pub loop-line-smaller : goal.loop-line-smaller
loop-line-smaller c =
    let l = c.loop-line in
    let less : l.at < c.in-Some-next_inside.next = (c.requires.parts.inside c.in-Some-next_inside.next l.at c.in-Some-next_inside.ensures).order in
    let within : l.at < length c.args.code.now.starts.items = c.in-Some.ensures.within in
    omega (arith, less, within)

pub loop-line-preserved : goal.loop-line-preserved
loop-line-preserved c =
    let a = c.args in
    let l = c.loop-line in
    let w = c.step.new.self in (
      walk-goes (program_over a.code.now.methods.now) a.code.now.method.now a.before.now a.first (type_frame a.frame.now) c.requires.parts l.at c.in-Some-next_inside.next
          (type_frame l.working) (type_frame w) c.in-Some.line.now l.invariant.0 (sym c.in-Some.ensures.found) (c.in_ok-step.ensures.enters c.if-not-branch.false) c.in-Some-next_inside.ensures
          (sym c.are_typed.ensures ∙ c.if-not-are_typed.false),
      c.in_ok-step.ensures.sized c.if-not-branch.false l.invariant.1,
    )
