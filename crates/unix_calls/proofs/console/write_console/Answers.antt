use Rattle.std.proofs.Common.{◌≡◌, length, Some, arith}
use Rattle.std.proofs.lemmas.Int.{ints}
use Rattle.run_definition.specs.Memory.{bytes_from}
use Rattle.run_definition.specs.Question.{asked_text_at}
use Rattle.run_definition.specs.declared.text_place.TextPlace.TheVariants.{Counted}
use Rattle.unix_definition.specs.Asked.{bytes_of_text}
use Rattle.unix_system.proofs.ReadLemmas.{some-bytes, length-bytes_from}
use Rattle.unix_calls.proofs.console.write_console.Goals as goal

pub returns-clause-value : goal.returns-clause-value
returns-clause-value g c =
    let m = g.M.View.memory (g.M.View.content c.args.view.now) in
    let call = c.args.call.now in
    let text = bytes_of_text (asked_text_at m (Counted call.a1 call.a2)) in
    let read : bytes_from m call.a1 call.a2 ≡ Some text = some-bytes (bytes_from m call.a1 call.a2) c.requires.readable in
    let long : length text ≡ call.a2 = length-bytes_from m call.a1 call.a2 text read in
    omega (arith, ints, long, c.requires.few)
