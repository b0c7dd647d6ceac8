use Rattle.std.proofs.Common.{◌^◌, ◌∙◌, ◌++◌, ◌+◌, get_or, drop, ap, arith, rules}
use Rattle.elf_definition.specs.declared.range.Range.{Range}
use Rattle.elf_reader.proofs.RunLemmas.{merge_joined, merge_parted, merge_done, merge_from, joined_low, same_low, first_before, no_runs}
use Rattle.elf_reader.proofs.code_area.merged.Goals as goal
use Rattle.elf_reader.proofs.code_area.merged.Goals.{then-from-end, else-from-end+in_ok-push}

pub returns-then-is_empty : goal.returns-then-is_empty
returns-then-is_empty c = no_runs c.args.ranges.now _ (search rules) c.new-runs.ensures.items

pub loop-r-init : goal.loop-r-init
loop-r-init c =
    let d : Range = record { first = 0; words = 0 } in
    record {
      value = ap (λ xs. xs ++ merge_from (get_or c.args.ranges.now 0 d) c.args.ranges.now) c.new-runs.ensures.items;
      low = c.requires.low 0 d (search rules);
      after = λ k e le within. first_before c.args.ranges.now 0 k d e c.requires.rise le within;
    }

pub loop-r-preserved : goal.loop-r-preserved
loop-r-preserved c =
    let d : Range = record { first = 0; words = 0 } in
    let ranges = c.args.ranges.now in
    let i = c.loop-r.r-index in
    let inv = c.loop-r.invariant in
    record {
      value = elim c.if-from-end.branch [
        | then-from-end w ↦ ap (λ v. v ++ merge_from c.if-from-end.run (drop (i + 1) ranges)) (ap (λ v. v.items) w.runs-is)
            ∙ merge_joined c.loop-r.runs.items _ ranges c.loop-r.run c.if-from-end.run i d c.from.result c.end.result
            c.loop-r-test.true inv.value c.from.ensures c.end.ensures w.if-from-end.true (w.run-is ∙ w.joined-run.ensures)
        | else-from-end+in_ok-push w ↦ merge_parted c.loop-r.runs.items c.if-from-end.runs.items _ ranges c.loop-r.run c.if-from-end.run i d c.from.result c.end.result
            c.loop-r-test.true inv.value c.from.ensures c.end.ensures w.if-from-end.false w.run-is
            (ap (λ v. v.items) w.runs-is ∙ w.in_ok-push.ensures.items)
      ];
      low = elim c.if-from-end.branch [
        | then-from-end w ↦ joined_low c.if-from-end.run c.loop-r.run (get_or ranges i d) (2 ^ 32) (w.run-is ∙ w.joined-run.ensures)
            inv.low (c.requires.low i d c.loop-r-test.true) (inv.after i d (omega arith) c.loop-r-test.true)
        | else-from-end+in_ok-push w ↦ same_low c.if-from-end.run (get_or ranges i d) (2 ^ 32) w.run-is (c.requires.low i d c.loop-r-test.true)
      ];
      after = λ k e le within. elim c.if-from-end.branch [
        | then-from-end w ↦ omega (arith, ap (λ (r : Range). r.first) (w.run-is ∙ w.joined-run.ensures), inv.after k e (omega (arith, le)) within)
        | else-from-end+in_ok-push w ↦ omega (arith, ap (λ (r : Range). r.first) w.run-is, first_before ranges i k d e c.requires.rise (omega (arith, le)) within)
      ];
    }

pub returns : goal.returns
returns c =
    merge_done c.loop-r.runs.items c.push-2.new.self.items c.args.ranges.now c.loop-r.run c.loop-r.r-index (record { first = 0; words = 0 })
    (search rules) c.requires.rise c.requires.filled c.requires.aligned c.loop-r-test.false c.loop-r.invariant.value
    c.in_ok-push-2.ensures.items
