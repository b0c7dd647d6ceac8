use Rattle.std.proofs.Common.{ap, sym, ◌∙◌}
use Rattle.mips_machine.specs.Processor.{processor_state}
use Rattle.mips_machine.proofs.LinkLemmas.{concluded_by}
use Rattle.mips_machine.proofs.processor.Processor.conclude.Goals as goal

pub returns-then-is_linked : goal.returns-then-is_linked
returns-then-is_linked c =
    c.store_linked.ensures ∙ ap (concluded_by (processor_state c.args.self.now) c.args.rt c.args.at) (sym c.if-is_linked.true ∙ c.is_linked.ensures)

pub returns-else-is_linked : goal.returns-else-is_linked
returns-else-is_linked c =
    c.store_nothing.ensures ∙ ap (concluded_by (processor_state c.args.self.now) c.args.rt c.args.at) (sym c.if-is_linked.false ∙ c.is_linked.ensures)
