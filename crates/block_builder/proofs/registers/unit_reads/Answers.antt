use Rattle.std.proofs.Common.{sym, ap, ◌∙◌}
use Rattle.std.specs.Prelude.{bit_or}
use Rattle.delay_slots.specs.declared.unit.Unit.{Unit}
use Rattle.block_builder.specs.Registers.{register_set, read_by, unit_reads}
use Rattle.block_builder.proofs.SetLemmas.{register_set-append}
use Rattle.block_builder.proofs.registers.unit_reads.Goals as goal

pub returns-in-Branch : goal.returns-in-Branch
returns-in-Branch c =
    (λ i. bit_or (c.read_by.ensures i) (c.read_by-in-Branch.ensures i))
    ∙ sym (register_set-append (read_by c.in-Branch.inst) (read_by c.in-Branch.slot))
    ∙ ap (λ (u : Unit). register_set (unit_reads u)) (sym c.in-Branch.is)
