use Rattle.std.proofs.Common.{◌≤◌, ◌-◌, take}
use Rattle.nv_outside.specs.Seen.{Takes, output_seen}
use Rattle.run_definition.specs.Question.{asked_text_at}
use Rattle.run_definition.specs.declared.text_place.TextPlace.TheVariants.{Counted}
use Rattle.unix_definition.specs.Asked.{bytes_of_text}
use Rattle.unix_calls.proofs.console.write_out.Given as goal

abbrev pub invariant-loop-done : goal.invariant-loop-done
invariant-loop-done g l = record {
  gained : Takes (output_seen g.K.Sink l.fn.sink) (output_seen g.K.Sink l.sink)
      (take l.done (bytes_of_text (asked_text_at (g.M.View.memory (g.M.View.content l.view)) (Counted l.at l.count))));
  within : l.done ≤ l.count;
}

abbrev pub decreases-loop-done : goal.decreases-loop-done
decreases-loop-done g l = l.count - l.done
