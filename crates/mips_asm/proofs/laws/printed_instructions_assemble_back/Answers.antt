use Rattle.mips_asm.proofs.PrintBack.{word_back}
use Rattle.mips_asm.proofs.laws.printed_instructions_assemble_back.Goals as goal

pub returns-clause-fault : goal.returns-clause-fault
returns-clause-fault c = λ w h. (word_back w h).0

pub returns-clause-word : goal.returns-clause-word
returns-clause-word c = λ w h. (word_back w h).1

pub returns-clause-no_data : goal.returns-clause-no_data
returns-clause-no_data c = λ w h. (word_back w h).2
