use Rattle.std.proofs.Common.{◌≡◌, ◌+◌, ◌-◌, ◌≤◌, ◌++◌, length, replicate, ap, ◌∙◌, arith}
use Rattle.unix_definition.specs.Files.{blocks_for}
use Rattle.unix_files.specs.Stored.{file_at, with_file}
use Rattle.unix_files.proofs.FileLemmas.{stored-again, zeros-more, length-zeros_behind}
use Rattle.unix_files.proofs.store.Store.extend.Goals as goal

pub loop-end-preserved : goal.loop-end-preserved
loop-end-preserved c =
    let f = c.args.self.now in
    let file = file_at f c.args.n in
    let k = c.loop-end.end - length file in
    let count = c.in_block-count.result in
    let from = c.loop-end.invariant.from in
    let within = c.loop-end.invariant.within in
    let under = c.loop-end-test.true in
    let few = c.in_block-count.ensures.within in
    let long = length-zeros_behind file k in
    let room : blocks_for (length (file ++ replicate k 0)) ≤ blocks_for (length file) + f.free = let r = c.requires.room in omega arith in
    record {
      extended = stored-again f c.loop-end.self c.push_zeros.new.self c.args.n (file ++ replicate k 0) (λ l. l ++ replicate count 0) c.requires.file room c.loop-end.invariant.extended c.push_zeros.ensures
          ∙ ap (with_file f c.args.n) (zeros-more file k count (c.loop-end.end + count - length file) (omega arith));
      from = omega arith;
      within = omega arith;
    }

pub returns : goal.returns
returns c =
    let file = file_at c.args.self.now c.args.n in
    let from = c.loop-end.invariant.from in
    let within = c.loop-end.invariant.within in
    let past = c.loop-end-test.false in
    let same : c.loop-end.end - length file ≡ c.args.size - length file = omega arith in
    c.loop-end.invariant.extended ∙ ap (λ k. with_file c.args.self.now c.args.n (file ++ replicate k 0)) same
