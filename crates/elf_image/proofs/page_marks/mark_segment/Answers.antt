use Rattle.std.proofs.Common.{◌∙◌, ◌≤◌, sym, ap, refl, arith, ◌+◌, ◌/◌}
use Rattle.elf_definition.specs.Segments.{segment_end}
use Rattle.elf_definition.specs.Pages.{is_on_page}
use Rattle.elf_image.proofs.MarkLemmas.{or_first, or_step, or_done, before_segment, behind_segment}
use Rattle.elf_image.proofs.page_marks.mark_segment.Goals as goal

pub loop-page-init : goal.loop-page-init
loop-page-init c = record { len = refl; marks = λ p. or_first _ _ p _ (λ lt. before_segment p c.args.segment.now lt) }

pub loop-page-preserved : goal.loop-page-preserved
loop-page-preserved c = record {
  len = c.mark.ensures.len ∙ c.loop-page.invariant.len;
  marks = λ p. or_step _ _ _ (is_on_page p c.args.segment.now) c.is_on_page.result p c.loop-page.page (c.mark.ensures.marks p) (c.loop-page.invariant.marks p)
      (λ same. ap (λ q. is_on_page q c.args.segment.now) same ∙ sym c.is_on_page.ensures);
}

pub returns : goal.returns
returns c = record {
  len = c.loop-page.invariant.len;
  marks = λ p. or_done _ _ (is_on_page p c.args.segment.now) p c.loop-page.page (c.loop-page.invariant.marks p)
      (λ ge. behind_segment p c.args.segment.now (let past : (segment_end c.args.segment.now + 4095) / 4096 ≤ p = omega (arith, ge, c.loop-page-test.false, c.page_behind-page-end.ensures.page) in past));
}
