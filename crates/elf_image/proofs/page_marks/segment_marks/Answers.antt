use Rattle.std.proofs.Common.{◌∙◌, ap, length}
use Rattle.elf_definition.specs.declared.segment.Segment.{Segment}
use Rattle.elf_definition.specs.Pages.{is_on_page, is_segment_page}
use Rattle.elf_image.specs.PageTable.{marked}
use Rattle.elf_image.proofs.MarkLemmas.{any_step, any_done, written_back}
use Rattle.elf_image.proofs.page_marks.segment_marks.Goals as goal

abbrev none : Segment
none = record { offset = 0; filesz = 0; vaddr = 0; memsz = 0; flags = 0 }

pub loop-segment-preserved : goal.loop-segment-preserved
loop-segment-preserved c =
    let back = written_back c.loop-segment.marks.len c.mark_segment.new.marks c.loop-segment.marks.items c.as_mut_slice.result.now c.loop-segment.marks.items
    c.loop-segment.marks.ok.0 c.as_mut_slice.ensures.value c.mark_segment.ensures.len in
    record {
      len = ap length back ∙ c.mark_segment.ensures.len ∙ ap length c.as_mut_slice.ensures.value ∙ c.loop-segment.invariant.len;
      marks = λ page. ap (λ marks. marked marks page) back
          ∙ any_step (is_on_page page) c.args.segments.now c.loop-segment.segment-index none _ (marked c.as_mut_slice.result.now page) c.loop-segment-test.true
          (c.mark_segment.ensures.marks page) (ap (λ marks. marked marks page) c.as_mut_slice.ensures.value ∙ c.loop-segment.invariant.marks page);
    }

pub returns-clause-marks : goal.returns-clause-marks
unfolding is_segment_page
returns-clause-marks c = λ page. any_done (is_on_page page) c.args.segments.now c.loop-segment.segment-index _ c.loop-segment-test.false (c.loop-segment.invariant.marks page)
