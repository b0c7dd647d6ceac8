use Rattle.std.proofs.Common.{◌≡◌, ◌+◌, ◌<◌, [], ◌∷◌, length, take, subst, arith}
use Rattle.jvm_definition.specs.declared.instruction.Instruction.TheVariants.{Call}
use Rattle.jvm_definition_laws.specs.Stretch.{body_workspace}
use Rattle.emit_steps.specs.declared.step.Step.TheVariants.{Does}
use Rattle.emit_steps.specs.Widths.{bytes_before}
use Rattle.emit_steps.specs.Placing.{LiesAt}
use Rattle.emit_paths_laws.specs.Paths.{weigh, waiting_behind}
use Rattle.emit_paths_laws.proofs.laws.calls_in_calls_that_stop.Goals as goal

pub returns : goal.returns
returns c program words m at h callee n j g deeper k i body inner w caller v between u given passed others e it body_is step deeper_differ inner_lies inner_is few =
    let frames = waiting_behind m at h caller ∷ others in
    let from = bytes_before body j in
    let start : 0 + from ≡ from = omega arith in
    let call_lies : LiesAt program callee from (Does (Call g) ∷ []) =
    subst (λ a. LiesAt program callee a (Does (Call g) ∷ [])) start
    (c.steps_lie_in_code.ensures.alone program callee 0 j body (Call g) it.body_lies step) in
    let deeper_calls = c.stops_are_effects.ensures program words 0 n j body (Call g) (body_workspace given caller)
    v _ body_is step in
    let room : length frames < 63 = omega arith in
    let first = c.calls_that_stop.ensures.within program words m at h callee n j body w caller v given others _
    it body_is in
    let next = c.calls_that_stop.ensures.elsewhere program words callee m (at + 1) from g deeper k i inner v
    between u passed frames e it.apart
    (record {
      lies = call_lies;
      calls = deeper_calls;
      apart = deeper_differ;
      body_lies = inner_lies;
      room = room;
    }) inner_is in (
      (c.paths_join.ensures program words m).joined at (at + 1) (at + 1) (n + 1) (k + 1)
          (λ weight. weight (Call h) + weigh weight (take j body))
          (λ weight. weight (Call g) + weigh weight (take i inner)) _ _ _ first.0 next.0,
      next.1,
    )
