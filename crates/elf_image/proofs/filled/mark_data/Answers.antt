use Rattle.std.proofs.Common.{◌∙◌, ◌+◌, ◌/◌, ◌≤◌, sym, ap, refl, arith}
use Rattle.elf_definition.specs.Segments.{file_end}
use Rattle.elf_definition.specs.Content.{has_data}
use Rattle.elf_image.proofs.MarkLemmas.{or_first, or_step, or_done}
use Rattle.elf_image.proofs.PieceLemmas.{before_data, behind_data}
use Rattle.elf_image.proofs.filled.mark_data.Goals as goal

pub loop-page-init : goal.loop-page-init
loop-page-init c = record { len = refl; marks = λ p. or_first _ _ p _ (λ lt. before_data c.args.file.now p c.args.segment.now lt) }

pub loop-page-preserved : goal.loop-page-preserved
loop-page-preserved c = record {
  len = c.mark.ensures.len ∙ c.loop-page.invariant.len;
  marks = λ p. or_step _ _ _ (has_data c.args.file.now p c.args.segment.now) c.has_data.result p c.loop-page.page (c.mark.ensures.marks p) (c.loop-page.invariant.marks p)
      (λ same. ap (λ q. has_data c.args.file.now q c.args.segment.now) same ∙ sym c.has_data.ensures);
}

pub returns : goal.returns
returns c = record {
  len = c.loop-page.invariant.len;
  marks = λ p. or_done _ _ (has_data c.args.file.now p c.args.segment.now) p c.loop-page.page (c.loop-page.invariant.marks p)
      (λ ge. behind_data c.args.file.now p c.args.segment.now (let past : (file_end c.args.segment.now + 4095) / 4096 ≤ p = omega (arith, ge, c.loop-page-test.false, c.page_behind_data-page-end.ensures.page) in past));
}
