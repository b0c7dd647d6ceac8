use Rattle.std.proofs.Common.{◌++◌, length, ap, sym, ◌∙◌, arith, subst}
use Rattle.translate_classes.proofs.ClassMaking.NamingLemmas.{names-more}
use Rattle.translate_classes.specs.declared.other_class.OtherClass.TheVariants.{Code, Data}
use Rattle.translate_classes.specs.MainMentioned.{own_mentions, other_mentions}
use Rattle.translate_classes.specs.Content.{RiseFrom, behind}
use Rattle.translate_classes.proofs.MainClasses.RiseLemmas.{rise-front, rise-back}
use Rattle.translate_classes.proofs.MainClasses.CalledLemmas.{begins-further, own-behind, own-later, others-behind, others-later}
use Rattle.translate_classes.proofs.Rooms.CountLemmas.{behind-joined}
use Rattle.translate_classes.proofs.references.method_references.Goals as goal

pub add_references-requires-clause-rise : goal.add_references-requires-clause-rise
add_references-requires-clause-rise c =
    let main = c.args.main.now in
    subst (λ low. RiseFrom low main.code.now) (sym c.in_ok-slots.ensures.count) (rise-front 24 main.code.now main.data.now c.requires.main.rise)

pub add_references-requires-2-clause-rise : goal.add_references-requires-2-clause-rise
add_references-requires-2-clause-rise c =
    let main = c.args.main.now in
    let low = c.in_ok-add_references.ensures.count ∙ ap (λ n. behind n main.code.now) c.in_ok-slots.ensures.count in
    subst (λ n. RiseFrom n main.data.now) (sym low) (rise-back 24 main.code.now main.data.now c.requires.main.rise)

pub returns : goal.returns
returns c =
    let main = c.args.main.now in
    let name = c.args.name.now in
    let first = c.own_references.new.class in
    let second = c.add_references.new.class in
    let third = c.add_references-2.new.class in
    let own = c.in_ok-slots.slots.items in
    let some = c.add_references.new.slots.items in
    let all = c.add_references-2.new.slots.items in
    let code = c.in_ok-add_references.ensures in
    let last = c.in_ok-add_references-2.ensures in
    let codes = other_mentions name Code (length main.code.now) in
    let datas = other_mentions name Data (length main.data.now) in
    let grown = names-more first second third codes datas code.grown last.grown in
    record {
      there = record {
        own_are =
            own-behind own all (begins-further own some all code.kept last.kept) third.pool c.args.own (omega (arith, c.in_ok-slots.ensures.count))
            (own-later first.pool third.pool grown.pool c.args.own own c.in_ok-slots.ensures.there);
        code_are =
            others-behind some all last.kept third.pool name Code main.code.now (length main.code.now)
            (others-later second.pool third.pool last.grown.pool name Code main.code.now some (length main.code.now) code.there);
        data_are = last.there;
      };
      grown = λ of.
          names-more c.args.class.now second third (own_mentions name ++ codes) datas
          (names-more c.args.class.now first second (own_mentions name) codes (c.in_ok-slots.ensures.grown name of) code.grown) last.grown;
      count = last.count ∙ ap (λ n. behind n main.data.now) (code.count ∙ ap (λ n. behind n main.code.now) c.in_ok-slots.ensures.count)
          ∙ sym (behind-joined 24 main.code.now main.data.now);
      few = omega (arith, c.in_ok-slots.ensures.few, code.few, last.few);
    }

pub own_references-requires-clause-room : goal.own_references-requires-clause-room
own_references-requires-clause-room c = omega (arith, c.requires.room)

pub add_references-requires-clause-few : goal.add_references-requires-clause-few
add_references-requires-clause-few c = c.requires.main.few_code

pub add_references-requires-clause-room : goal.add_references-requires-clause-room
add_references-requires-clause-room c = omega (arith, c.requires.room, c.in_ok-slots.ensures.few)

pub add_references-requires-2-clause-few : goal.add_references-requires-2-clause-few
add_references-requires-2-clause-few c = c.requires.main.few_data

pub add_references-requires-2-clause-room : goal.add_references-requires-2-clause-room
add_references-requires-2-clause-room c = omega (arith, c.requires.room, c.in_ok-slots.ensures.few, c.in_ok-add_references.ensures.few)
