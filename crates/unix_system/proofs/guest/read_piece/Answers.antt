use Rattle.std.proofs.Common.{◌≡◌, ◌+◌, ap, sym, ◌∙◌, subst, length, None, arith}
use Rattle.std.specs.Option.{IsSome}
use Rattle.std.proofs.lemmas.Bool.{false≢true}
use Rattle.std.proofs.lemmas.List.{length_push}
use Rattle.run_definition.specs.Memory.{bytes_from}
use Rattle.unix_system.proofs.ReadLemmas.{Reads-start, Reads-none, Reads-more, Reads-all}
use Rattle.unix_system.proofs.guest.read_piece.Goals as goal

pub loop-i-init : goal.loop-i-init
loop-i-init g c = record {
  reads = rw c.new-piece.ensures (Reads-start (g.M.View.memory (g.M.View.content c.args.view.now)) (c.args.at + c.args.skip) c.args.size);
  long = ap length c.new-piece.ensures;
}

pub loop-i-preserved : goal.loop-i-preserved
loop-i-preserved g c =
    let place : c.args.at + (c.args.skip + c.loop-i.i) ≡ c.args.at + c.args.skip + c.loop-i.i = omega arith in
    record {
      reads = rw c.push.ensures (Reads-more (g.M.View.memory (g.M.View.content c.args.view.now)) (c.args.at + c.args.skip) c.args.size c.loop-i.i c.loop-i.piece c.in-Some.b c.loop-i.invariant.reads c.loop-i-test.true
          (sym c.in-Some.is ∙ (c.byte_at.ensures ∙ ap (λ k. (g.M.View.memory (g.M.View.content c.args.view.now)).byte k) place)));
      long = ap length c.push.ensures ∙ (length_push c.loop-i.piece c.in-Some.b ∙ ap (λ n. n + 1) c.loop-i.invariant.long);
    }

pub returns : goal.returns
returns g c = Reads-all (g.M.View.memory (g.M.View.content c.args.view.now)) (c.args.at + c.args.skip) c.args.size c.loop-i.i c.loop-i.piece c.loop-i.invariant.reads c.loop-i-test.false

pub unreachable-requires : goal.unreachable-requires
unreachable-requires g c =
    let m = g.M.View.memory (g.M.View.content c.args.view.now) in
    let place : c.args.at + (c.args.skip + c.loop-i.i) ≡ c.args.at + c.args.skip + c.loop-i.i = omega arith in
    let none : bytes_from m (c.args.at + c.args.skip) c.args.size ≡ None = Reads-none m (c.args.at + c.args.skip) c.args.size c.loop-i.i c.loop-i.piece c.loop-i.invariant.reads c.loop-i-test.true
    (sym c.in_default.is ∙ (c.byte_at.ensures ∙ ap (λ k. m.byte k) place)) in
    false≢true (subst (λ o. IsSome o) none c.requires.readable)
