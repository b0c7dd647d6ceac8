use Rattle.std.proofs.Common.{◌≡◌, ◌++◌, drop}
use Rattle.unix_definition.specs.Asked.{texts_with_zeros}
use Rattle.unix_calls.proofs.args.push_texts.Given as goal

abbrev pub invariant-loop-text : goal.invariant-loop-text
invariant-loop-text l = record { so_far : l.block ++ texts_with_zeros (drop l.text-index l.texts.items) ≡ l.fn.block ++ texts_with_zeros l.texts.items }
