use Rattle.std.proofs.Common.{sym, ap, ◌∙◌}
use Rattle.std.specs.Prelude.{bit_or}
use Rattle.delay_slots.specs.declared.unit.Unit.{Unit}
use Rattle.block_builder.specs.Registers.{register_set, written_by, unit_writes}
use Rattle.block_builder.proofs.SetLemmas.{register_set-append}
use Rattle.block_builder.proofs.registers.unit_writes.Goals as goal

pub returns-in-Branch : goal.returns-in-Branch
returns-in-Branch c =
    (λ i. bit_or (c.written_by.ensures i) (c.written_by-in-Branch.ensures i))
    ∙ sym (register_set-append (written_by c.in-Branch.inst) (written_by c.in-Branch.slot))
    ∙ ap (λ (u : Unit). register_set (unit_writes u)) (sym c.in-Branch.is)
