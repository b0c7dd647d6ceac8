use Rattle.std.proofs.Common.{length, refl, ap, arith}
use Rattle.translate_program.specs.Classes.{Placed}
use Rattle.translate_program.proofs.counting.count_class.Goals as goal

pub returns-clause-counted : goal.returns-clause-counted
returns-clause-counted c =
    let old = c.args.counts.now in
    let class : Placed =
    record { number = old.classes; part = c.args.part.now; spans = c.in_ok-spans.spans.items; first_method = old.methods } in
    record {
      class = class;
      class_is = record { number_is = refl; first_is = refl; part_is = refl; spans_are = c.in_ok-spans.ensures.value };
      classes_are = refl;
      methods_are = omega (arith, ap length c.as_slice.ensures.value);
    }

pub returns-clause-few : goal.returns-clause-few
returns-clause-few c = omega (arith, ap length c.as_slice.ensures.value, c.in_ok-spans.ensures.few, c.requires.few)
