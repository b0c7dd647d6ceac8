use Rattle.std.proofs.Common.{sym, ◌∙◌, ap, arith}
use Rattle.std.specs.Prelude.{unwrap_or}
use Rattle.class_definition_laws.proofs.TabledLaws.{slot-within}
use Rattle.class_writer.proofs.framed_write.name_slot_of.Goals as goal

pub overflow_cast-result : goal.overflow_cast-result
overflow_cast-result c =
    let within = slot-within c.args.entries.now c.in-Some.slot (sym c.table_slot_of.ensures ∙ c.in-Some.is) in
    omega (arith, within, c.requires)

pub returns-in-Some : goal.returns-in-Some
returns-in-Some c = ap (λ o. unwrap_or o 0) (sym c.in-Some.is ∙ c.table_slot_of.ensures)

pub returns-in-None : goal.returns-in-None
returns-in-None c = ap (λ o. unwrap_or o 0) (sym c.in-None.is ∙ c.table_slot_of.ensures)
