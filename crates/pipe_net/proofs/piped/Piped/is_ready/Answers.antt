use Rattle.std.proofs.Common.{sym, ◌∙◌}
use Rattle.run_definition.specs.Question.{asked}
use Rattle.pipe_net.specs.Views.{ports}
use Rattle.pipe_net.proofs.ServedLemmas.{ready-else, ready-reads, ready-writes}
use Rattle.pipe_net.proofs.piped.Piped.is_ready.Goals as goal

pub returns-then-reads_input : goal.returns-then-reads_input
returns-then-reads_input g c m =
    c.may_read.ensures ∙ sym (ready-reads (ports g.S.Source g.O.Sink c.args.self.now) (asked c.args.call.now m) (sym (c.reads_input.ensures m) ∙ c.if-reads_input.true))

pub returns-then-writes_output : goal.returns-then-writes_output
returns-then-writes_output g c m =
    c.may_write.ensures
    ∙ sym (ready-writes (ports g.S.Source g.O.Sink c.args.self.now) (asked c.args.call.now m) (sym (c.reads_input.ensures m) ∙ c.if-reads_input.false) (sym (c.writes_output.ensures m) ∙ c.if-writes_output.true))

pub returns-else-writes_output : goal.returns-else-writes_output
returns-else-writes_output g c m =
    sym (ready-else (ports g.S.Source g.O.Sink c.args.self.now) (asked c.args.call.now m) (sym (c.reads_input.ensures m) ∙ c.if-reads_input.false) (sym (c.writes_output.ensures m) ∙ c.if-writes_output.false))
