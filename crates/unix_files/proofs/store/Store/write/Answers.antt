use Rattle.std.proofs.Common.{◌≡◌, ℕ, List, ◌+◌, ◌-◌, ◌≤◌, ◌++◌, length, take, drop, ap, sym, ◌∙◌, arith}
use Rattle.std.proofs.Math.Seq.{take-add}
use Rattle.std.proofs.lemmas.List.{length-take-le, take_all}
use Rattle.unix_definition.specs.Files.{blocks_for}
use Rattle.unix_files.specs.Stored.{file_at, with_file, overwritten}
use Rattle.unix_files.proofs.FileLemmas.{stored-again, overwritten-more}
use Rattle.unix_files.proofs.WriteLemmas.{length-overwritten}
use Rattle.unix_files.proofs.store.Store.write.Goals as goal

pub loop-done-preserved : goal.loop-done-preserved
loop-done-preserved c =
    let f = c.args.self.now in
    let file = file_at f c.args.n in
    let bytes = c.args.bytes.now in
    let done = c.loop-done.done in
    let count = c.in_block-count.result in
    let few = c.in_block-count.ensures.within in
    let under = c.loop-done-test.true in
    let front : List ℕ = take done bytes in
    let piece : List ℕ = take count (drop done bytes) in
    let now : List ℕ = overwritten file c.args.place front in
    let front_long : length front ≡ done = length-take-le done bytes (omega arith) in
    let long : length now ≡ length file + (c.args.place + length front - length file) = length-overwritten file front c.args.place c.requires.within in
    let room : blocks_for (length now) ≤ blocks_for (length file) + f.free = let r = c.requires.room in omega arith in
    let place : c.args.place + length front ≡ c.args.place + done = ap (λ n. c.args.place + n) front_long in
    let size : done + count - done ≡ count = omega arith in
    let part : take (done + count - done) (drop done bytes) ≡ piece = ap (λ n. take n (drop done bytes)) size in
    let next : take (done + count) bytes ≡ front ++ piece = take-add done count bytes in
    record {
      so_far = stored-again f c.loop-done.self c.put.new.self c.args.n now (λ l. overwritten l (c.args.place + done) piece) c.requires.file room c.loop-done.invariant.so_far (c.put.ensures ∙ ap (λ l. with_file c.loop-done.self c.args.n (overwritten (file_at c.loop-done.self c.args.n) (c.args.place + done) l)) part)
          ∙ (ap (λ k. with_file f c.args.n (overwritten now k piece)) (sym place)
          ∙ (ap (with_file f c.args.n) (overwritten-more file front piece c.args.place c.requires.within) ∙ ap (λ l. with_file f c.args.n (overwritten file c.args.place l)) (sym next)));
      within = omega arith;
    }

pub returns : goal.returns
returns c =
    let f = c.args.self.now in
    let past = c.loop-done-test.false in
    c.loop-done.invariant.so_far ∙ ap (λ l. with_file f c.args.n (overwritten (file_at f c.args.n) c.args.place l)) (take_all c.loop-done.done c.args.bytes.now (omega arith))
