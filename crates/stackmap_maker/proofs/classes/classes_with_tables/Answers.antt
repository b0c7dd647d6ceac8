use Rattle.std.proofs.Common.{◌≡◌, ◌+◌, ◌<◌, length, get_or, sym, ap, subst, ◌∙◌, arith}
use Rattle.std.specs.Prelude.{slice_get}
use Rattle.std.proofs.lemmas.Result.{err_from_is_err_and}
use Rattle.class_definition.specs.Linking.{linked_methods}
use Rattle.type_verifier.specs.Refusal.{methods_before}
use Rattle.frame_maps.proofs.CheckLaws.{methods-within, next-before, stands-at}
use Rattle.std.proofs.lemmas.Option.{none-some}
use Rattle.stackmap_maker.specs.Made.{IsClassMadeWithin, AreSmall, AreTabledTo, IsWithClass}
use Rattle.stackmap_maker.specs.Full.{IsUnmadeAt}
use Rattle.stackmap_maker.proofs.Steps.{take-all, before-none, classes-none, room-next, unmade-at}
use Rattle.stackmap_maker.proofs.Within.{next-tabled}
use Rattle.stackmap_maker.proofs.classes.classes_with_tables.Goals as goal

pub loop-number-init : goal.loop-number-init
loop-number-init c =
    let cs = c.args.linked.now.classes in
    record {
      first = sym (before-none cs);
      tabled = (
        classes-none cs c.new.result.items c.new.ensures.items,
        subst AreSmall (sym c.new.ensures.items) (λ k other is. absurd (none-some other is)),
      );
      room = λ k other less there. absurd (omega (arith, less));
    }

pub class_with_tables-requires-clause-there : goal.class_with_tables-requires-clause-there
class_with_tables-requires-clause-there c =
    let cs = c.args.linked.now.classes in
    let n = c.loop-number.number in
    let class = c.index-classes-number.result in
    let all = c.as_slice-classes.ensures in
    let less : n < length cs = omega (arith, c.loop-number-test.true, ap length all) in
    ap (slice_get cs) c.in_ok-name.ensures ∙ stands-at cs n class less (c.index-classes-number.is ∙ ap (λ xs. get_or xs n class) all)

pub class_with_tables-requires-clause-first : goal.class_with_tables-requires-clause-first
class_with_tables-requires-clause-first c = c.loop-number.invariant.first ∙ ap (methods_before c.args.linked.now.classes) (sym c.in_ok-name.ensures)

pub returns-in_err-sized-clause-unmade : goal.returns-in_err-sized-clause-unmade
returns-in_err-sized-clause-unmade c =
    let cs = c.args.linked.now.classes in
    let n = c.loop-number.number in
    let class = c.index-classes-number.result in
    let all = c.as_slice-classes.ensures in
    let less : n < length cs = omega (arith, c.loop-number-test.true, ap length all) in
    let is = stands-at cs n class less (c.index-classes-number.is ∙ ap (λ xs. get_or xs n class) all) in
    let p = err_from_is_err_and c.from_residual-in_err-sized.result c.from_residual-in_err-sized.ensures.1 in
    rw (p.1, p.2) (unmade-at cs n class c.in_err-sized.field-0.0 is c.loop-number.invariant.room (subst (λ k. IsUnmadeAt cs k class c.in_err-sized.field-0.0) c.in_ok-name.ensures c.in_err-sized.ensures.unmade))

pub behind-first-requires : goal.behind-first-requires
behind-first-requires c =
    let cs = c.args.linked.now.classes in
    let n = c.loop-number.number in
    let class = c.index-classes-number.result in
    let methods = c.as_slice-methods.result.now in
    let are : methods ≡ linked_methods cs = c.as_slice-methods.ensures ∙ c.args.linked.now.methods_are in
    let all = c.as_slice-classes.ensures in
    let less : n < length cs = omega (arith, c.loop-number-test.true, ap length all) in
    let is = stands-at cs n class less (c.index-classes-number.is ∙ ap (λ xs. get_or xs n class) all) in
    let within = methods-within cs methods n class are is in
    omega (arith, within, c.loop-number.invariant.first)

pub loop-number-preserved : goal.loop-number-preserved
loop-number-preserved c =
    let cs = c.args.linked.now.classes in
    let n = c.loop-number.number in
    let class = c.index-classes-number.result in
    let all = c.as_slice-classes.ensures in
    let less : n < length cs = omega (arith, c.loop-number-test.true, ap length all) in
    let is = stands-at cs n class less (c.index-classes-number.is ∙ ap (λ xs. get_or xs n class) all) in
    let v = c.loop-number.invariant in
    let d = c.in_ok-sized.sized in
    let own : IsClassMadeWithin cs n class c.room_of-room.result d = subst (λ k. IsClassMadeWithin cs k class c.room_of-room.result d) c.in_ok-name.ensures c.in_ok-sized.ensures.made in
    record {
      first = c.behind-first.ensures ∙ (ap (λ x. x + length class.methods) v.first ∙ next-before cs n class is);
      tabled =
          next-tabled cs n class c.room_of-room.result d c.loop-number.tabled c.in_ok-tabled.tabled is c.room_of-room.ensures
          (subst (λ k. IsWithClass c.loop-number.tabled k d c.in_ok-tabled.tabled) c.in_ok-name.ensures c.in_ok-tabled.ensures) own v.tabled;
      room = room-next cs n class own.all is own.is v.room;
    }

pub returns-clause-made : goal.returns-clause-made
returns-clause-made c =
    let cs = c.args.linked.now.classes in
    let n = c.loop-number.number in
    let end : n ≡ length cs = omega (arith, c.loop-number-test.false, c.loop-number.auto.number-end, ap length c.as_slice-classes.ensures) in
    subst (λ z. AreTabledTo cs z c.loop-number.tabled) (take-all cs n end) c.loop-number.invariant.tabled
