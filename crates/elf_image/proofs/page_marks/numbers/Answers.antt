use Rattle.std.proofs.Common.{◌∙◌, ◌+◌, sym, ap, arith, length}
use Rattle.elf_image.specs.PageTable.{marked}
use Rattle.elf_image.proofs.Counting.{count_none, count_more, count_same}
use Rattle.elf_image.proofs.MarkLemmas.{number_on, number_off, number_more, number_done, pushed_length}
use Rattle.elf_image.proofs.page_marks.numbers.Goals as goal
use Rattle.elf_image.proofs.page_marks.numbers.Goals.{then-is_marked+in_ok-push, else-is_marked+in_ok-push-2}

pub loop-page-init : goal.loop-page-init
loop-page-init c = record {
  size = ap length c.in_ok-numbers.ensures.items;
  value = sym (count_none (marked c.args.marks.now));
  bound = omega arith;
  numbers = λ p lt. absurd (omega (arith, lt));
}

pub loop-page-preserved : goal.loop-page-preserved
loop-page-preserved c =
    let inv = c.loop-page.invariant in
    let test = marked c.args.marks.now in
    let page = c.loop-page.page in
    elim c.if-is_marked.branch [
      | then-is_marked+in_ok-push w ↦
          let pushed = ap (λ v. v.items) w.numbers-is ∙ w.in_ok-push.ensures.items in
          let on = sym c.is_marked.ensures ∙ w.if-is_marked.true in
          record {
            size = pushed_length c.loop-page.numbers.items _ _ page inv.size pushed;
            value = w.count-is ∙ ap (λ n. n + 1) inv.value ∙ sym (count_more test page on);
            bound = omega (arith, inv.bound, w.count-is);
            numbers = number_more c.loop-page.numbers.items _ test _ page inv.size pushed (number_on test page c.loop-page.count on inv.value) inv.numbers;
          }
      | else-is_marked+in_ok-push-2 w ↦
          let pushed = ap (λ v. v.items) w.numbers-is ∙ w.in_ok-push-2.ensures.items in
          let off = sym c.is_marked.ensures ∙ w.if-is_marked.false in
          record {
            size = pushed_length c.loop-page.numbers.items _ _ page inv.size pushed;
            value = w.count-is ∙ inv.value ∙ sym (count_same test page off);
            bound = omega (arith, inv.bound, w.count-is);
            numbers = number_more c.loop-page.numbers.items _ test _ page inv.size pushed (number_off test page off) inv.numbers;
          }
    ]

pub returns : goal.returns
returns c = λ p. number_done c.loop-page.numbers.items c.args.marks.now c.loop-page.page c.loop-page.invariant.size (omega arith) c.loop-page.invariant.numbers p
