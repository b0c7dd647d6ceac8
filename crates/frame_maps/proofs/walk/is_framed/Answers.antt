use Rattle.std.proofs.Common.{Some, ap, length, ◌≤◌, arith}
use Rattle.std.specs.Prelude.{option_map}
use Rattle.std.proofs.lemmas.Bool.{false≢true}
use Rattle.jvm_definition.specs.Typing.{entry_frame}
use Rattle.jvm_type_inference.specs.Actions.{program_over}
use Rattle.jvm_type_inference.specs.Frames.{type_frame, frame_at}
use Rattle.frame_maps.specs.Walk.{Walks}
use Rattle.frame_maps.proofs.WalkLaws.{walk-fails, walk-ends}
use Rattle.frame_maps.proofs.FramedLaws.{framed-parameters, framed-walks, framed-exactly}
use Rattle.frame_maps.proofs.walk.is_framed.Goals as goal

pub returns-then-as_slice-from : goal.returns-then-as_slice-from
returns-then-as_slice-from c = (
  λ h. absurd (false≢true h),
  λ framed.
      let p = framed-parameters (program_over c.args.code.now.methods.now) c.args.code.now.method.now (frame_at c.args.listed.now) framed.0 framed.1 in
      absurd (omega (arith, p, c.if-as_slice-from.true, ap length c.as_slice.ensures, c.from.ensures)),
)

pub returns-in-Fails : goal.returns-in-Fails
returns-in-Fails c =
    let program = program_over c.args.code.now.methods.now in
    let m = c.args.code.now.method.now in
    let listed = frame_at c.args.listed.now in
    let way = rw c.in-Fails.is at c.in_ok-step.ensures in (
      λ h. absurd (false≢true h),
      λ framed. absurd (walk-fails program m listed (option_map type_frame c.loop-line.flowing) c.in-Some.line.now c.loop-line.rest.now c.in-Some.others.now c.in-Some.ensures.cases.0 (Walks program m listed (Some (entry_frame m)) m.lines) c.loop-line.invariant way (framed-walks program m listed framed.0 framed.1 c.requires.laid)),
    )

pub returns : goal.returns
returns c =
    let program = program_over c.args.code.now.methods.now in
    let m = c.args.code.now.method.now in
    let listed = frame_at c.args.listed.now in
    let parameters : length m.parameters ≤ m.locals = omega (arith, c.if-as_slice-from.false, ap length c.as_slice.ensures, c.from.ensures) in
    let i = walk-ends program m listed c.loop-line.flowing c.loop-line.rest.now (Walks program m listed (Some (entry_frame m)) m.lines) c.is_none.result c.in_default.ensures.cases c.is_none.ensures c.loop-line.invariant in
    let x = framed-exactly program m listed c.requires.laid c.requires.lines parameters in
    (λ h. x.0 (i.0 h), λ f. i.1 (x.1 f))
