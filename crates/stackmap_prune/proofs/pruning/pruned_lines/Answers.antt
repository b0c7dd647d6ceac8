use Rattle.std.proofs.Common.{◌≡◌, ◌+◌, List, length, subst, sym, arith}
use Rattle.std.proofs.lemmas.List.{nil_from_length}
use Rattle.std.specs.Vec.Iter.{into_iter_items}
use Rattle.class_definition.specs.declared.line.Line.{Line}
use Rattle.jvm_code.specs.Writing.{AreLaid}
use Rattle.class_definition.specs.Sizes.{size_at}
use Rattle.jvm_link.proofs.MethodLemmas.{laid_first}
use Rattle.stackmap_prune.specs.Linked.{is_marked}
use Rattle.stackmap_prune.proofs.CodeLaws.{prune-begins, prune-goes, prune-ends}
use Rattle.stackmap_prune.proofs.pruning.pruned_lines.Goals as goal

pub loop-line-init : goal.loop-line-init
loop-line-init c = record {
  at = 0;
  laid = subst (λ (ls : List Line). AreLaid 0 ls) (sym c.into_iter-line-iterator.ensures.into_iter_gives.0) c.requires.laid;
  all =
      prune-begins (is_marked c.args.marks.now) c.args.name c.new-pruned.result.items (into_iter_items c.into_iter-line-iterator.result) c.args.lines.items
      c.new-pruned.ensures.items c.into_iter-line-iterator.ensures.into_iter_gives.0;
}

pub push_line-requires : goal.push_line-requires
push_line-requires c =
    let v = c.loop-line.invariant in
    laid_first v.at c.in-Some.line (into_iter_items c.next.new.self) (subst (λ (ls : List Line). AreLaid v.at ls) c.in-Some.ensures.steps.0 v.laid)

pub loop-line-preserved : goal.loop-line-preserved
loop-line-preserved c =
    let v = c.loop-line.invariant in
    let laid = subst (λ (ls : List Line). AreLaid v.at ls) c.in-Some.ensures.steps.0 v.laid in
    record {
      at = v.at + size_at v.at c.in-Some.line.op;
      laid = laid.2;
      all =
          prune-goes (is_marked c.args.marks.now) c.args.name c.loop-line.pruned.items c.push_line.new.lines.items (into_iter_items c.loop-line.line-iterator) (into_iter_items c.next.new.self)
          c.in-Some.line c.is_marked-kept.result _ c.in-Some.ensures.steps.0 c.is_marked-kept.ensures c.in_ok-push_line.ensures v.all;
    }

pub returns : goal.returns
returns c =
    let left = into_iter_items c.loop-line.line-iterator in
    let none : length left ≡ 0 = omega (arith, c.loop-line.line-iterator.rest.ok.0, c.in-None.ensures.steps.0) in
    prune-ends (is_marked c.args.marks.now) c.args.name c.loop-line.pruned.items left _ (nil_from_length left none) c.loop-line.invariant.all
