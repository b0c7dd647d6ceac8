use Rattle.std.proofs.Common.{◌≡◌, ◌+◌, List, length, map, subst, sym, arith}
use Rattle.std.proofs.lemmas.List.{nil_from_length}
use Rattle.class_definition.specs.declared.line.Line.{Line}
use Rattle.std.specs.Vec.Iter.{into_iter_items}
use Rattle.jvm_code.specs.Writing.{AreLaid}
use Rattle.class_definition.specs.Sizes.{size_at}
use Rattle.class_names.specs.Keys.{classes_in}
use Rattle.class_definition.specs.Linking.{linked_line}
use Rattle.jvm_link.proofs.MethodLemmas.{laid_first, map_begins, map_goes, map_ends}
use Rattle.jvm_definition.specs.declared.linked_line.LinkedLine.{LinkedLine}
use Rattle.jvm_code.specs.Order.{AreInOrder}
use Rattle.jvm_link.proofs.LaidLemmas.{lines_in_order}
use Rattle.jvm_link.proofs.methods.linked_lines.Goals as goal

pub loop-line-init : goal.loop-line-init
loop-line-init c =
    let P : List Line → Type 0 = λ ls. AreLaid 0 ls in
    record {
      at = 0;
      laid = subst P (sym c.into_iter-line-iterator.ensures.into_iter_gives.0) c.requires.laid;
      all =
          map_begins (linked_line (classes_in c.args.names.now.numbered.classes.items) c.args.number c.args.class.now.class.now c.args.gives) c.in_ok-linked.linked.items
          (into_iter_items c.into_iter-line-iterator.result) c.args.lines.items c.in_ok-linked.ensures.items c.into_iter-line-iterator.ensures.into_iter_gives.0;
    }

pub linked_line-requires-clause-within : goal.linked_line-requires-clause-within
linked_line-requires-clause-within c =
    let v = c.loop-line.invariant in
    let P : List Line → Type 0 = λ ls. AreLaid v.at ls in
    laid_first v.at c.in-Some.line (into_iter_items c.next.new.self) (subst P c.in-Some.ensures.steps.0 v.laid)

pub loop-line-preserved : goal.loop-line-preserved
loop-line-preserved c =
    let v = c.loop-line.invariant in
    let P : List Line → Type 0 = λ ls. AreLaid v.at ls in
    let laid = subst P c.in-Some.ensures.steps.0 v.laid in
    record {
      at = v.at + size_at v.at c.in-Some.line.op;
      laid = laid.2;
      all =
          map_goes (linked_line (classes_in c.args.names.now.numbered.classes.items) c.args.number c.args.class.now.class.now c.args.gives) c.loop-line.linked.items c.push.new.self.items
          (into_iter_items c.loop-line.line-iterator) (into_iter_items c.next.new.self) c.in-Some.line c.linked_line.result _ c.in-Some.ensures.steps.0 c.linked_line.ensures c.in_ok-push.ensures.items v.all;
    }

pub returns-clause-lines : goal.returns-clause-lines
returns-clause-lines c =
    let left = into_iter_items c.loop-line.line-iterator in
    let none : length left ≡ 0 = omega (arith, c.loop-line.line-iterator.rest.ok.0, c.in-None.ensures.steps.0) in
    map_ends (linked_line (classes_in c.args.names.now.numbered.classes.items) c.args.number c.args.class.now.class.now c.args.gives) c.loop-line.linked.items left _
    (nil_from_length left none) c.loop-line.invariant.all

pub returns-clause-laid : goal.returns-clause-laid
returns-clause-laid c =
    let classes = classes_in c.args.names.now.numbered.classes.items in
    let lines = map (linked_line classes c.args.number c.args.class.now.class.now c.args.gives) c.args.lines.items in
    let left = into_iter_items c.loop-line.line-iterator in
    let none : length left ≡ 0 = omega (arith, c.loop-line.line-iterator.rest.ok.0, c.in-None.ensures.steps.0) in
    let same : c.loop-line.linked.items ≡ lines = map_ends (linked_line classes c.args.number c.args.class.now.class.now c.args.gives) c.loop-line.linked.items left lines (nil_from_length left none) c.loop-line.invariant.all in
    subst (λ (ls : List LinkedLine). AreInOrder ls) (sym same) (lines_in_order classes c.args.number c.args.class.now.class.now c.args.gives c.args.lines.items c.requires.laid)
