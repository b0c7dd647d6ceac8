use Rattle.std.proofs.Common.{ap, ◌∙◌}
use Rattle.asm_lines.specs.Mnemonics.{mnemonic_among}
use Rattle.asm_lines.proofs.mnemonics.mnemonic_of.Goals as goal

pub returns : goal.returns
returns c = c.mnemonic_among.ensures ∙ ap (λ ms. mnemonic_among ms c.args.word.now) c.as_slice.ensures
