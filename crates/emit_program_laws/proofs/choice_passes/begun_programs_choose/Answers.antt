use Rattle.emit_program_laws.proofs.choice_passes.begun_programs_choose.Goals as goal

pub returns : goal.returns
returns c own choose t y begun = record {
  at_start = begun.below;
  stands = record { workspace = begun.workspace; held = begun.held; no_operands = begun.no_operands; pc_is = begun.pc_is; is_there = begun.stands };
}
