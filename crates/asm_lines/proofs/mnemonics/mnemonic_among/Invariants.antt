use Rattle.std.proofs.Common.{◌≡◌, length}
use Rattle.asm_lines.specs.Mnemonics.{mnemonic_among}
use Rattle.asm_lines.proofs.mnemonics.mnemonic_among.Given as goal

-- no mnemonic so far has the text
abbrev pub invariant-loop-first : goal.invariant-loop-first
invariant-loop-first l = mnemonic_among l.left l.word ≡ mnemonic_among l.mnemonics l.word

abbrev pub decreases-loop-first : goal.decreases-loop-first
decreases-loop-first l = length l.left
