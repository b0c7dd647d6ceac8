use Rattle.std.proofs.Common.{take}
use Rattle.command_translate.specs.Classes.{SpellClasses}
use Rattle.command_translate.proofs.classes.read_files.Given as goal

abbrev pub invariant-loop-file : goal.invariant-loop-file
invariant-loop-file l = SpellClasses (take l.file-index l.files) l.classes.items
