use Rattle.std.proofs.Common.{ap, sym, ◌∙◌}
use Rattle.mips_definition.specs.Table.{inst}
use Rattle.mips_decode.specs.Encoding.{word_of}
use Rattle.mips_decode.proofs.Backwards.{word_of-inst}
use Rattle.mips_decode.proofs.laws.encoding_inverts_decoding.Goals as goal

pub returns-clause-words : goal.returns-clause-words
returns-clause-words c = word_of-inst

pub returns-clause-instructions : goal.returns-clause-instructions
returns-clause-instructions c i w word e = ap inst (ap word_of e ∙ word_of-inst w word) ∙ sym e
