use Rattle.std.proofs.Common.{◌≡◌, ◌∙◌, ◌+◌, ◌-◌, sym, ap, arith, length, drop}
use Rattle.elf_definition.specs.declared.segment.Segment.{Segment}
use Rattle.elf_definition.specs.Content.{stored_byte}
use Rattle.elf_image.specs.PageTable.{table_byte}
use Rattle.elf_image.proofs.MarkLemmas.{written_back}
use Rattle.elf_image.proofs.StoreLemmas.{none_put, one_put}
use Rattle.elf_image.proofs.store.stored_words.Goals as goal

abbrev none : Segment
none = record { offset = 0; filesz = 0; vaddr = 0; memsz = 0; flags = 0 }

pub loop-done-init : goal.loop-done-init
loop-done-init c =
    let zeros = c.in_ok-words.ensures.items_if_clones_equal (λ y e. e) in
    record {
      len = sym c.in_ok-words.words.ok.0 ∙ c.in_ok-words.ensures.len;
      bytes = λ at filled. ap (λ ws. table_byte c.args.index.now ws at) zeros ∙ none_put c.args.file.now c.args.index.now c.args.segments.now _ at _ (omega arith);
    }

pub loop-done-preserved : goal.loop-done-preserved
loop-done-preserved c =
    let back = written_back c.loop-done.words.len c.put_segment.new.words c.loop-done.words.items c.as_mut_slice.result.now c.loop-done.words.items
    c.loop-done.words.ok.0 c.as_mut_slice.ensures.value c.put_segment.ensures.len in
    record {
      len = ap length back ∙ c.put_segment.ensures.len ∙ ap length c.as_mut_slice.ensures.value ∙ c.loop-done.invariant.len;
      bytes = λ at filled. ap (λ ws. table_byte c.args.index.now ws at) back
          ∙ one_put c.args.file.now c.args.segments.now (length c.args.segments.now - 1 - c.loop-done.done) (length c.args.segments.now - c.loop-done.done) at _ (table_byte c.args.index.now c.as_mut_slice.result.now at) none
          (omega arith) (omega arith) (c.put_segment.ensures.bytes at filled) (ap (λ ws. table_byte c.args.index.now ws at) c.as_mut_slice.ensures.value ∙ c.loop-done.invariant.bytes at filled)
          ∙ ap (λ m. stored_byte c.args.file.now (drop m c.args.segments.now) at) (let same : length c.args.segments.now - 1 - c.loop-done.done ≡ length c.args.segments.now - (c.loop-done.done + 1) = omega arith in same);
    }
