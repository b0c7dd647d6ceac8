use Rattle.std.proofs.Common.{ℕ, ◌∙◌, ◌*◌, ◌/◌, ◌^◌, ◌<◌, sym, ap, arith, length, get_or}
use Rattle.elf_definition.specs.Header.{order_of}
use Rattle.elf_definition.specs.Content.{stored_byte, stored_word, is_filled_page}
use Rattle.elf_image.specs.PageTable.{marked, table_byte}
use Rattle.elf_image.proofs.MarkLemmas.{number_distinct, number_within}
use Rattle.elf_image.proofs.TableLemmas.{index_filled, all_bytes, all_words}
use Rattle.elf_image.proofs.page_table.PageTable.new.Goals as goal

pub stored_words-requires-clause-room : goal.stored_words-requires-clause-room
stored_words-requires-clause-room c = λ p.
    let number = ap (λ xs. get_or xs p 0) c.as_slice-2.ensures.value ∙ c.in_ok-index.ensures p in
    let within = number_within c.args.filled.now p 524288 (omega (arith, c.requires.len)) in
    omega (arith, number, within, c.count_marks-count.ensures.count)

pub stored_words-requires-clause-distinct : goal.stored_words-requires-clause-distinct
stored_words-requires-clause-distinct c = λ p q same some.
    let number = λ (r : ℕ). ap (λ xs. get_or xs r 0) c.as_slice-2.ensures.value ∙ c.in_ok-index.ensures r in
    number_distinct (marked c.args.filled.now) p q (sym (number p) ∙ same ∙ number q) (λ none. some (number p ∙ none))

pub invariant_of-result : goal.invariant_of-result
invariant_of-result c =
    let file = c.args.file.now in
    let segments = c.args.segments.now.items in
    let index = c.in_ok-index.index.items in
    let stored = c.in_ok-stored.stored.items in
    let filled = index_filled file segments index c.args.filled.now c.in_ok-index.ensures c.requires.filled in
    let bytes = all_bytes (length file) file segments index stored c.requires.sound filled
    (λ at some.
    ap (λ i. table_byte i stored at) (sym c.as_slice-2.ensures.value)
    ∙ c.in_ok-stored.ensures.bytes at (λ none. some (ap (λ xs. get_or xs (at / 4096) 0) (sym c.as_slice-2.ensures.value) ∙ none))
    ∙ ap (λ s. stored_byte file s at) c.as_slice.ensures.value) in
    let small : (i : ℕ) → get_or stored i 0 < 2 ^ 32 = λ i. omega (arith, c.words_fit.ensures i, ap (λ xs. get_or xs i 0) c.as_slice-3.ensures.value) in
    let words = all_words file segments index stored (λ i. omega (arith, c.type_inv.file i)) small bytes in
    let same_file = c.of.ensures in
    let same_segments = ap (λ v. v.items) c.of-2.ensures in
    record {
      order_is = c.order_of.ensures ∙ ap order_of (sym same_file);
      words = λ k. words k ∙ ap (λ f. stored_word f segments (4 * k)) (sym same_file) ∙ ap (λ s. stored_word c.of.result.bytes s (4 * k)) (sym same_segments);
      bytes = λ at. bytes at ∙ ap (λ f. stored_byte f segments at) (sym same_file) ∙ ap (λ s. stored_byte c.of.result.bytes s at) (sym same_segments);
      filled = λ p. filled p ∙ ap (λ f. is_filled_page f segments p) (sym same_file) ∙ ap (λ s. is_filled_page c.of.result.bytes s p) (sym same_segments);
      room = λ p. let within = number_within c.args.filled.now p 524288 (omega (arith, c.requires.len)) in
          omega (arith, c.in_ok-index.ensures p, within, c.count_marks-count.ensures.count, c.in_ok-stored.ensures.len);
    }
