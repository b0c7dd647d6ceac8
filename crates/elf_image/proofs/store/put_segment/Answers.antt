use Rattle.std.proofs.Common.{◌∙◌, refl, arith}
use Rattle.elf_definition.specs.Content.{is_in_file}
use Rattle.elf_image.proofs.StoreLemmas.{segment_first, segment_more, segment_done}
use Rattle.elf_image.proofs.store.put_segment.Goals as goal

pub loop-page-init : goal.loop-page-init
loop-page-init c = record { len = refl; bytes = λ at filled. segment_first c.args.segment.now.vaddr c.args.segment.now.filesz at _ _ _ refl }

pub loop-page-preserved : goal.loop-page-preserved
loop-page-preserved c = record {
  len = c.put_page.ensures.len ∙ c.loop-page.invariant.len;
  bytes = λ at filled. segment_more _ _ _ _ at c.loop-page.page (is_in_file at c.args.segment.now) (c.put_page.ensures.bytes at filled) (c.loop-page.invariant.bytes at filled);
}

pub returns : goal.returns
returns c = record {
  len = c.loop-page.invariant.len;
  bytes = λ at filled. segment_done _ c.args.segment.now.vaddr c.args.segment.now.filesz at c.loop-page.page _ _ (omega (arith, c.loop-page-test.false, c.page_behind_data-page-end.ensures.page)) (c.loop-page.invariant.bytes at filled);
}
