use Rattle.std.proofs.Common.{◌≡◌, ℕ, replicate, ap, ◌∙◌, arith}
use Rattle.std.proofs.lemmas.List.{take-replicate}
use Rattle.unix_files.specs.Stored.{file_at, with_file, overwritten}
use Rattle.unix_files.proofs.FileLemmas.{overwritten-end}
use Rattle.unix_files.proofs.store.Store.push_zeros.Goals as goal

pub returns : goal.returns
returns c =
    let f = c.args.self.now in
    let file = file_at f c.args.n in
    let z : ℕ = 0 in
    let part : c.split_at.result.0.now ≡ replicate c.args.count z = c.split_at.ensures.front ∙ take-replicate c.args.count 4096 z (let o = c.requires.one in omega arith) in
    c.put.ensures
    ∙ (ap (λ l. with_file f c.args.n (overwritten file c.size-end.result l)) part
    ∙ (ap (λ k. with_file f c.args.n (overwritten file k (replicate c.args.count z))) c.size-end.ensures ∙ ap (with_file f c.args.n) (overwritten-end file (replicate c.args.count z))))
