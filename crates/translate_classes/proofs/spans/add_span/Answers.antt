use Rattle.std.proofs.Common.{◌≡◌, true, ap, sym, ◌∙◌, subst, arith}
use Rattle.emit_assembly.specs.Assembling.{slots_of}
use Rattle.translate_classes.specs.Making.{nothing}
use Rattle.translate_classes.specs.Code.{code_of_span, span_at}
use Rattle.translate_classes.specs.Room.{is_own_method}
use Rattle.translate_classes.proofs.LawfulNames.CharacterLemmas.{span-own}
use Rattle.translate_classes.proofs.Rooms.CodeLemmas.{same-code}
use Rattle.translate_classes.proofs.Rooms.SpanLemmas.{span-is-code, span-slots}
use Rattle.translate_classes.proofs.spans.add_span.Goals as goal

pub put_method-requires-clause-room : goal.put_method-requires-clause-room
put_method-requires-clause-room c =
    let part = c.args.part.now in
    let span = span_at c.args.spans.now c.args.k in
    let is = c.as_slice.ensures.value ∙ c.in_ok-method.ensures.code in
    omega (arith, c.requires.room, ap slots_of is, span-slots c.spans_take_few_slots.ensures part span)

pub put_method-requires-clause-name : goal.put_method-requires-clause-name
put_method-requires-clause-name c =
    let named = c.as_str.ensures.value ∙ c.in_ok-name.ensures in
    subst (λ n. is_own_method n nothing ≡ true) (sym named) (span-own c.args.k c.requires.small)

pub put_method-requires-clause-code : goal.put_method-requires-clause-code
put_method-requires-clause-code c =
    let part = c.args.part.now in
    let span = span_at c.args.spans.now c.args.k in
    let r = c.args.references.now in
    let pool = c.args.class.now.pool in
    let is = c.as_slice.ensures.value ∙ c.in_ok-method.ensures.code in
    let own = c.requires.spans c.args.k (record { first = 0; words = 0 }) c.requires.within in
    same-code r pool _ (code_of_span part span) is
    (span-is-code c.units_are_lawful.ensures.all c.spans_name_well.ensures.method c.spans_are_whole.ensures r pool part span
    c.requires.references c.requires.fields c.requires.code own c.requires.size)

pub returns-clause-few : goal.returns-clause-few
returns-clause-few c =
    let part = c.args.part.now in
    let span = span_at c.args.spans.now c.args.k in
    let is = c.as_slice.ensures.value ∙ c.in_ok-method.ensures.code in
    omega (arith, c.in_ok-put_method.ensures.pool.few, ap slots_of is, span-slots c.spans_take_few_slots.ensures part span)
