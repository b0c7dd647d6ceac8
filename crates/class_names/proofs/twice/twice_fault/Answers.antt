use Rattle.std.proofs.Common.{◌≡◌, ◌∙◌, [], ◌∷◌, sym, true, false}
use Rattle.class_definition.specs.MemberNames.{own_name}
use Rattle.class_definition.specs.LinkFault.{twice_fault, is_twice}
use Rattle.class_names.specs.Keys.{classes_in}
use Rattle.class_names.proofs.KeyLemmas.{numbered_at, at_items}
use Rattle.class_names.proofs.FaultLemmas.{twice_is, before_more, goes_on, stops}
use Rattle.class_names.proofs.twice.twice_fault.Goals as goal

pub loop-number-preserved : goal.loop-number-preserved
loop-number-preserved c =
    let v = c.loop-number.invariant in
    let all = c.args.numbered.now in
    let x = c.class-item.result in
    let i = c.loop-number.number in
    let p = at_items c.deref-class-items.result.now all.classes.items c.deref-class-items.ensures.value i x c.loop-number-test.true c.class-item.is in
    let numbered = numbered_at all.texts.keys all.classes.items i x all.numbered p.0 p.1 in
    let apart : is_twice v.before x.class.now ≡ false = sym (twice_is all.texts.keys all.texts_are c.loop-number.names.keys v.before v.are x numbered) ∙ sym c.in_ok-is_twice.ensures ∙ c.if-branch.false in
    record {
      before = own_name x.class.now ∷ v.before;
      are = before_more all.texts.keys all.texts_are c.loop-number.names.keys c.insert.new.self.keys v.before v.are x numbered (λ n. rw (← c.own_number.ensures) (c.in_ok-insert.ensures.updates.0 n));
      same = goes_on v.before i all.classes.items i x (twice_fault [] 0 (classes_in all.classes.items)) p.0 p.1 v.same apart;
    }

pub returns-then-branch : goal.returns-then-branch
returns-then-branch c =
    let v = c.loop-number.invariant in
    let all = c.args.numbered.now in
    let x = c.class-item.result in
    let i = c.loop-number.number in
    let p = at_items c.deref-class-items.result.now all.classes.items c.deref-class-items.ensures.value i x c.loop-number-test.true c.class-item.is in
    let numbered = numbered_at all.texts.keys all.classes.items i x all.numbered p.0 p.1 in
    let again : is_twice v.before x.class.now ≡ true = sym (twice_is all.texts.keys all.texts_are c.loop-number.names.keys v.before v.are x numbered) ∙ sym c.in_ok-is_twice.ensures ∙ c.if-branch.true in
    stops v.before i all.classes.items i x (twice_fault [] 0 (classes_in all.classes.items)) p.0 p.1 v.same again
