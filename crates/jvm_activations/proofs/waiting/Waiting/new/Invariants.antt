use Rattle.std.proofs.Common.{◌≡◌, length}
use Rattle.std.specs.List.{All}
use Rattle.jvm_activations.specs.Frames.{HasRoom}
use Rattle.jvm_activations.proofs.waiting.Waiting.new.Given as goal

abbrev pub invariant-loop : goal.invariant-loop
invariant-loop l = (length l.frames.items ≡ l.counter) × All (HasRoom l.locals_limit l.operands_limit) l.frames.items
