use Rattle.elf_image.proofs.MarkLemmas.{mark_set, mark_kept}
use Rattle.elf_image.proofs.page_marks.mark.Goals as goal

pub returns-then-on-clause-marks : goal.returns-then-on-clause-marks
returns-then-on-clause-marks c = λ p. mark_set c.args.marks.now c.args.on c.args.page p c.requires c.if-on.true

pub returns-else-on-clause-marks : goal.returns-else-on-clause-marks
returns-else-on-clause-marks c = λ p. mark_kept c.args.marks.now c.args.on c.args.page p c.if-on.false
