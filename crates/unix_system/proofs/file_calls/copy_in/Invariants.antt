use Rattle.std.proofs.Common.{◌≡◌, ◌≤◌, ◌-◌, take}
use Rattle.run_definition.specs.Question.{asked_text_at}
use Rattle.run_definition.specs.declared.text_place.TextPlace.TheVariants.{Counted}
use Rattle.unix_definition.specs.Files.{bytes_at, with_bytes, written}
use Rattle.unix_definition.specs.Asked.{bytes_of_text}
use Rattle.unix_system.proofs.file_calls.copy_in.Given as goal

abbrev pub invariant-loop-done : goal.invariant-loop-done
invariant-loop-done g l = record {
  so_far : l.disk ≡ with_bytes l.fn.disk l.n (written (bytes_at l.fn.disk l.n) l.place (take l.done (bytes_of_text (asked_text_at (g.M.View.memory (g.M.View.content l.view)) (Counted l.at l.count)))));
  within : l.done ≤ l.count;
}

abbrev pub decreases-loop-done : goal.decreases-loop-done
decreases-loop-done g l = l.count - l.done
