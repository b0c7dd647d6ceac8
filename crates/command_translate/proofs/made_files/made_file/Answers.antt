use Rattle.std.proofs.Common.{[], subst}
use Rattle.mips_asm.specs.File.{IsProgram}
use Rattle.command_translate.proofs.made_files.made_file.Goals as goal

pub returns : goal.returns
returns c =
    (c.in_ok-parts.parts, subst (λ text. IsProgram text [] c.in_ok-parts.parts) c.in_ok-text.ensures.words c.in_ok-parts.ensures.parts, c.in_ok-file.ensures.bytes)
