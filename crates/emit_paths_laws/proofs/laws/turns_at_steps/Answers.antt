use Rattle.std.proofs.Common.{◌≡◌, suc, ◌+◌, arith}
use Rattle.jvm_definition.specs.Step.{frame_placed}
use Rattle.emit_steps.specs.Widths.{bytes_before, width}
use Rattle.emit_paths_laws.specs.Paths.{step_weight}
use Rattle.emit_paths_laws.proofs.Joining.{turn-path, seen-within, seen-elsewhere}
use Rattle.emit_steps.proofs.WidthLemmas.{width-some}
use Rattle.emit_paths_laws.proofs.Weighing.{bytes-more, step-weighs}
use Rattle.emit_paths_laws.proofs.laws.turns_at_steps.Goals as goal

pub returns-clause-within : goal.returns-clause-within
returns-clause-within c program words m at i code s w others y lies step is =
    let here = at + bytes_before code i in
    let more : bytes_before code (suc i) ≡ bytes_before code i + width s = bytes-more code i s step in
    let some = width-some s in
    turn-path program words m here (at + bytes_before code (suc i)) (λ weight. step_weight weight s) (frame_placed m here w others) y is
    (step-weighs program m i code at s lies step w others y)
    (seen-within program words m here (at + bytes_before code (suc i)) w others (omega (arith, more, some)))

pub returns-clause-elsewhere : goal.returns-clause-elsewhere
returns-clause-elsewhere c program words own m low at i code s w others y differ lies step is =
    let here = at + bytes_before code i in
    turn-path program words m low low (λ weight. step_weight weight s) (frame_placed own here w others) y is
    (step-weighs program own i code at s lies step w others y)
    (seen-elsewhere program words m own low here w others differ)
