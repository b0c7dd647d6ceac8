use Rattle.std.proofs.Common.{◌≡◌, ℕ, ◌+◌, ◌≤◌, List, ◌++◌, length, take, drop, Some, refl, ap, sym, ◌∙◌, subst, arith}
use Rattle.std.specs.Option.{IsSome}
use Rattle.std.proofs.Math.Seq.{take-add}
use Rattle.std.proofs.lemmas.List.{take_all}
use Rattle.std.proofs.lemmas.Result.{err_from_is_err_and}
use Rattle.run_definition.specs.Memory.{Memory, bytes_from}
use Rattle.run_definition.specs.Question.{asked_text_at}
use Rattle.run_definition.specs.declared.text_place.TextPlace.TheVariants.{Counted}
use Rattle.unix_definition.specs.Asked.{bytes_of_text}
use Rattle.unix_system.proofs.ReadLemmas.{some-bytes, some-is, from-part, length-bytes_from}
use Rattle.unix_calls.proofs.GainLemmas.{gains-part}
use Rattle.unix_calls.proofs.console.write_out.Goals as goal
use Rattle.nv_outside.specs.Seen.{output_seen}
use Rattle.nv_outside.proofs.SeenLemmas.{takes-nothing, takes-both}

pub loop-done-init : goal.loop-done-init
loop-done-init g c = record { gained = takes-nothing _; within = omega arith }

pub read_piece-piece-requires-clause-readable : goal.read_piece-piece-requires-clause-readable
read_piece-piece-requires-clause-readable g c =
    let m = g.M.View.memory (g.M.View.content c.args.view.now) in
    let text = bytes_of_text (asked_text_at m (Counted c.args.at c.args.count)) in
    let read : bytes_from m c.args.at c.args.count ≡ Some text = some-bytes (bytes_from m c.args.at c.args.count) c.requires in
    let min = c.min-size.ensures in
    subst (λ o. IsSome o) (sym (from-part m c.args.at c.args.count c.loop-done.done c.min-size.result text (let w = c.loop-done-test.true in omega arith) read)) refl

part-is : (m : Memory) (at count done size : ℕ) (text piece given : List ℕ) → done + size ≤ count → bytes_from m at count ≡ Some text → bytes_from m (at + done) size ≡ Some piece → given ≡ piece → given ≡ take size (drop done text)
part-is m at count done size text piece given le read part is = is ∙ some-is (bytes_from m (at + done) size) piece (take size (drop done text)) part (from-part m at count done size text le read)

pub loop-done-preserved : goal.loop-done-preserved
loop-done-preserved g c =
    let m = g.M.View.memory (g.M.View.content c.args.view.now) in
    let text = bytes_of_text (asked_text_at m (Counted c.args.at c.args.count)) in
    let done = c.loop-done.done in
    let size = c.min-size.result in
    let read : bytes_from m c.args.at c.args.count ≡ Some text = some-bytes (bytes_from m c.args.at c.args.count) c.requires in
    let min = c.min-size.ensures in
    let w = c.loop-done-test.true in
    let part : c.as_slice.result.now ≡ take size (drop done text) = part-is m c.args.at c.args.count done size text c.read_piece-piece.result c.as_slice.result.now (omega arith) read c.read_piece-piece.ensures c.as_slice.ensures.value in
    let next : take (done + size) text ≡ take done text ++ c.as_slice.result.now = take-add done size text ∙ ap (λ l. take done text ++ l) (sym part) in
    record {
      gained = rw next (takes-both _ (output_seen g.K.Sink c.loop-done.sink) _ (take done text) c.as_slice.result.now c.loop-done.invariant.gained
          (c.in_ok-write_all.ensures.ok, c.in_ok-write_all.ensures.count.stays refl));
      within = omega arith;
    }

pub returns-in_err-write_all-clause-err : goal.returns-in_err-write_all-clause-err
returns-in_err-write_all-clause-err g c =
    let m = g.M.View.memory (g.M.View.content c.args.view.now) in
    let text = bytes_of_text (asked_text_at m (Counted c.args.at c.args.count)) in
    let read : bytes_from m c.args.at c.args.count ≡ Some text = some-bytes (bytes_from m c.args.at c.args.count) c.requires in
    let min = c.min-size.ensures in
    let w = c.loop-done-test.true in
    let p = err_from_is_err_and c.from_residual.result c.from_residual.ensures.1 in
    rw (p.1) (gains-part _ (output_seen g.K.Sink c.loop-done.sink) _ text c.loop-done.done c.min-size.result c.as_slice.result.now
    (part-is m c.args.at c.args.count c.loop-done.done c.min-size.result text c.read_piece-piece.result c.as_slice.result.now (omega arith) read c.read_piece-piece.ensures c.as_slice.ensures.value)
    c.loop-done.invariant.gained
    (c.in_err-write_all.ensures.err, record { never_falls = c.in_err-write_all.ensures.count.never_falls; rose = c.in_err-write_all.ensures.count.rises refl }))

pub returns-clause-ok : goal.returns-clause-ok
returns-clause-ok g c =
    let m = g.M.View.memory (g.M.View.content c.args.view.now) in
    let text = bytes_of_text (asked_text_at m (Counted c.args.at c.args.count)) in
    let read : bytes_from m c.args.at c.args.count ≡ Some text = some-bytes (bytes_from m c.args.at c.args.count) c.requires in
    let all : length text ≡ c.args.count = length-bytes_from m c.args.at c.args.count text read in
    let past = c.loop-done-test.false in
    rw (← take_all c.loop-done.done text (omega arith)) c.loop-done.invariant.gained
