use Rattle.std.proofs.Common.{[], arith}
use Rattle.elf_definition.specs.FileFields.{words}
use Rattle.mips_asm_laws.proofs.Programs.{program_passes}
use Rattle.mips_asm_laws.proofs.Sizes.{length_words}
use Rattle.command_translate.specs.MadeWords.{made_words}
use Rattle.command_translate.proofs.WordLemmas.{length_made}
use Rattle.command_translate.proofs.PlainWords.{plain_words}
use Rattle.command_translate.proofs.TextImage.{image_passes}
use Rattle.command_translate.proofs.made_laws.made_files_are_accepted.Goals as goal

pub returns-clause-file : goal.returns-clause-file
returns-clause-file c count file few is =
    let size = length_made count in
    program_passes (words (made_words count)) [] file is (omega (arith, size, few)) (omega arith) (omega (arith, size))

pub returns-clause-image : goal.returns-clause-image
returns-clause-image c count file runs few is given =
    let size = length_made count in
    let four = length_words (made_words count) in
    image_passes (made_words count) file is (omega (arith, size, few)) four (omega (arith, size, four)) (plain_words count few) runs given
