use Rattle.std.proofs.Common.{◌≡◌, ◌++◌, map}
use Rattle.std.specs.Vec.Iter.{into_iter_items}
use Rattle.emit_spans.specs.Laying.{laid_step}
use Rattle.emit_spans.proofs.placing.append_laid.Given as goal

-- the steps so far, and those that are left
abbrev pub invariant-loop-step : goal.invariant-loop-step
invariant-loop-step l =
    l.code.items ++ map (laid_step l.span l.targets l.otherwise) (into_iter_items l.step-iterator)
    ≡ l.fn.code.items ++ map (laid_step l.span l.targets l.otherwise) l.fn.steps.items
