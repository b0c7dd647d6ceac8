use Rattle.std.proofs.Common.{◌≡◌, ℕ, ◌+◌, ◌-◌, ◌≤◌, List, ◌++◌, length, take, drop, Some, refl, ap, sym, ◌∙◌, subst, arith}
use Rattle.std.specs.Option.{IsSome}
use Rattle.std.proofs.Math.Seq.{take-add}
use Rattle.std.proofs.lemmas.List.{length-take-le, take_all}
use Rattle.run_definition.specs.Memory.{bytes_from}
use Rattle.run_definition.specs.Question.{asked_text_at}
use Rattle.run_definition.specs.declared.text_place.TextPlace.TheVariants.{Counted}
use Rattle.unix_definition.specs.Files.{blocks_for, bytes_at, with_bytes, written}
use Rattle.unix_definition.specs.Asked.{bytes_of_text}
use Rattle.unix_system.proofs.ReadLemmas.{some-bytes, some-is, from-part, length-bytes_from}
use Rattle.unix_system.proofs.WriteLemmas.{stored-again, written-more, length-written, bytes-with_bytes, free-with_bytes}
use Rattle.unix_system.proofs.file_calls.copy_in.Goals as goal

pub read_piece-piece-requires-clause-readable : goal.read_piece-piece-requires-clause-readable
read_piece-piece-requires-clause-readable g c =
    let m = g.M.View.memory (g.M.View.content c.args.view.now) in
    let text = bytes_of_text (asked_text_at m (Counted c.args.at c.args.count)) in
    let read : bytes_from m c.args.at c.args.count ≡ Some text = some-bytes (bytes_from m c.args.at c.args.count) c.requires.readable in
    let min = c.min-size.ensures in
    subst (λ o. IsSome o) (sym (from-part m c.args.at c.args.count c.loop-done.done c.min-size.result text (let w = c.loop-done-test.true in omega arith) read)) refl

pub write-requires-in-loop-done-clause-small : goal.write-requires-in-loop-done-clause-small
write-requires-in-loop-done-clause-small g c =
    let m = g.M.View.memory (g.M.View.content c.args.view.now) in
    let long : length c.as_slice.result.now ≡ c.min-size.result = ap length c.as_slice.ensures.value ∙ length-bytes_from m (c.args.at + c.loop-done.done) c.min-size.result c.read_piece-piece.result c.read_piece-piece.ensures in
    let min = c.min-size.ensures in
    let small = c.requires.small in
    let w = c.loop-done-test.true in
    omega arith

pub write-requires-in-loop-done-clause-room : goal.write-requires-in-loop-done-clause-room
write-requires-in-loop-done-clause-room g c =
    let m = g.M.View.memory (g.M.View.content c.args.view.now) in
    let text = bytes_of_text (asked_text_at m (Counted c.args.at c.args.count)) in
    let f = c.args.disk.now in
    let file = bytes_at f c.args.n in
    let front : List ℕ = take c.loop-done.done text in
    let now : List ℕ = written file c.args.place front in
    let read : bytes_from m c.args.at c.args.count ≡ Some text = some-bytes (bytes_from m c.args.at c.args.count) c.requires.readable in
    let all : length text ≡ c.args.count = length-bytes_from m c.args.at c.args.count text read in
    let w = c.loop-done-test.true in
    let front_long : length front ≡ c.loop-done.done = length-take-le c.loop-done.done text (omega arith) in
    let long : length c.as_slice.result.now ≡ c.min-size.result = ap length c.as_slice.ensures.value ∙ length-bytes_from m (c.args.at + c.loop-done.done) c.min-size.result c.read_piece-piece.result c.read_piece-piece.ensures in
    let min = c.min-size.ensures in
    let bytes : length (bytes_at c.loop-done.disk c.args.n) ≡ length now = ap (λ d. length (bytes_at d c.args.n)) c.loop-done.invariant.so_far ∙ ap length (bytes-with_bytes f c.args.n now c.requires.file) in
    let free : c.loop-done.disk.free ≡ f.free + blocks_for (length file) - blocks_for (length now) = ap (λ d. d.free) c.loop-done.invariant.so_far ∙ free-with_bytes f c.args.n now c.requires.file in
    let now_long = length-written file c.args.place front in
    let room = c.requires.room in
    rw (bytes, free, long) (omega arith)

pub loop-done-preserved : goal.loop-done-preserved
loop-done-preserved g c =
    let m = g.M.View.memory (g.M.View.content c.args.view.now) in
    let text = bytes_of_text (asked_text_at m (Counted c.args.at c.args.count)) in
    let f = c.args.disk.now in
    let file = bytes_at f c.args.n in
    let done = c.loop-done.done in
    let size = c.min-size.result in
    let piece : List ℕ = c.as_slice.result.now in
    let front : List ℕ = take done text in
    let now : List ℕ = written file c.args.place front in
    let read : bytes_from m c.args.at c.args.count ≡ Some text = some-bytes (bytes_from m c.args.at c.args.count) c.requires.readable in
    let all : length text ≡ c.args.count = length-bytes_from m c.args.at c.args.count text read in
    let w = c.loop-done-test.true in
    let min = c.min-size.ensures in
    let front_long : length front ≡ done = length-take-le done text (omega arith) in
    let now_long = length-written file c.args.place front in
    let room : blocks_for (length now) ≤ blocks_for (length file) + f.free = let r = c.requires.room in omega arith in
    let part : piece ≡ take size (drop done text) = c.as_slice.ensures.value ∙ some-is (bytes_from m (c.args.at + done) size) c.read_piece-piece.result (take size (drop done text)) c.read_piece-piece.ensures (from-part m c.args.at c.args.count done size text (omega arith) read) in
    let next : take (done + size) text ≡ front ++ piece = take-add done size text ∙ ap (λ l. front ++ l) (sym part) in
    let place : c.args.place + length front ≡ c.args.place + done = ap (λ n. c.args.place + n) front_long in
    record {
      so_far = stored-again f c.loop-done.disk c.write-in-loop-done.new.self c.args.n now (λ l. written l (c.args.place + done) piece) c.requires.file room c.loop-done.invariant.so_far c.write-in-loop-done.ensures
          ∙ (ap (λ k. with_bytes f c.args.n (written now k piece)) (sym place)
          ∙ (ap (with_bytes f c.args.n) (written-more file front piece c.args.place) ∙ ap (λ l. with_bytes f c.args.n (written file c.args.place l)) (sym next)));
      within = omega arith;
    }

pub returns : goal.returns
returns g c =
    let m = g.M.View.memory (g.M.View.content c.args.view.now) in
    let text = bytes_of_text (asked_text_at m (Counted c.args.at c.args.count)) in
    let f = c.args.disk.now in
    let file = bytes_at f c.args.n in
    let read : bytes_from m c.args.at c.args.count ≡ Some text = some-bytes (bytes_from m c.args.at c.args.count) c.requires.readable in
    let all : length text ≡ c.args.count = length-bytes_from m c.args.at c.args.count text read in
    let past = c.loop-done-test.false in
    c.loop-done.invariant.so_far ∙ ap (λ l. with_bytes f c.args.n (written file c.args.place l)) (take_all c.loop-done.done text (omega arith))
