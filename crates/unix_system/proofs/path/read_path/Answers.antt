use Rattle.std.proofs.Common.{◌+◌, Some, length, ap, sym, ◌∙◌}
use Rattle.std.proofs.lemmas.Bool.{ne_eqb}
use Rattle.std.proofs.lemmas.List.{length_push}
use Rattle.unix_system.proofs.PathLemmas.{Walks-start, Walks-none, Walks-end, Walks-more, Walks-long}
use Rattle.unix_system.proofs.path.read_path.Goals as goal

pub loop-i-init : goal.loop-i-init
loop-i-init g c = record {
  walks = rw c.new-bytes.ensures (Walks-start (g.M.View.memory (g.M.View.content c.args.view.now)) c.args.at 256);
  long = ap length c.new-bytes.ensures;
}

pub returns-in-None-clause-text : goal.returns-in-None-clause-text
returns-in-None-clause-text g c = Walks-none (g.M.View.memory (g.M.View.content c.args.view.now)) c.args.at 256 c.loop-i.i c.loop-i.bytes c.loop-i.invariant.walks c.loop-i-test.true (sym c.in-None.is ∙ c.byte_at.ensures)

pub returns-in-Some-eq0-clause-text : goal.returns-in-Some-eq0-clause-text
returns-in-Some-eq0-clause-text g c = Walks-end (g.M.View.memory (g.M.View.content c.args.view.now)) c.args.at 256 c.loop-i.i c.loop-i.bytes c.loop-i.invariant.walks c.loop-i-test.true (ap Some (sym c.in-Some-eq0.field-0-test) ∙ (sym c.in-Some-eq0.is ∙ c.byte_at.ensures))

pub loop-i-preserved : goal.loop-i-preserved
loop-i-preserved g c = record {
  walks = rw c.push.ensures (Walks-more (g.M.View.memory (g.M.View.content c.args.view.now)) c.args.at 256 c.loop-i.i c.loop-i.bytes c.in-Some.b c.loop-i.invariant.walks c.loop-i-test.true (sym c.in-Some.is ∙ c.byte_at.ensures) (ne_eqb c.in-Some.b 0 c.in-Some.b-test.1));
  long = ap length c.push.ensures ∙ (length_push c.loop-i.bytes c.in-Some.b ∙ ap (λ n. n + 1) c.loop-i.invariant.long);
}

pub returns-clause-text : goal.returns-clause-text
returns-clause-text g c = Walks-long (g.M.View.memory (g.M.View.content c.args.view.now)) c.args.at 256 c.loop-i.i c.loop-i.bytes c.loop-i.invariant.walks c.loop-i-test.false
