use Rattle.std.proofs.Common.{[], ◌∷◌, sym}
use Rattle.asm_lines.specs.Lexical.{operand_texts}
use Rattle.mips_asm.specs.Instructions.{Register}
use Rattle.mips_asm.proofs.ShapeLemmas.{other_count}
use Rattle.mips_asm.proofs.operands.Operands.three_registers.Goals as goal

pub returns-in-None : goal.returns-in-None
returns-in-None c =
    sym (other_count c.args.self.now.labels.now c.args.self.now.at (Register ∷ Register ∷ Register ∷ []) (operand_texts c.args.self.now.text.now) (sym c.in-None.ensures.count))
