use Rattle.std.proofs.Common.{◌≡◌, ◌++◌}
use Rattle.std.specs.Prelude.{drop}
use Rattle.elf_image_parts.specs.Runs as emitted
use Rattle.elf_image_parts.proofs.run_texts.run_text.Given as goal

-- the text so far and that of the runs that are left
abbrev pub invariant-loop-run : goal.invariant-loop-run
invariant-loop-run l = l.text.items ++ emitted.text_of (drop l.run-index l.runs) ≡ emitted.text_of l.runs
