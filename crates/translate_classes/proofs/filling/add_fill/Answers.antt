use Rattle.std.proofs.Common.{◌≤◌, length, ap, ◌∙◌, arith}
use Rattle.emit_assembly.specs.Assembling.{slots_of}
use Rattle.emit_loading.specs.Filling.{fill_code}
use Rattle.translate_classes.proofs.LawfulNames.MemberLemmas.{fill-own}
use Rattle.translate_classes.proofs.Rooms.CodeLemmas.{code-is, same-code, whole-code, fill-texts}
use Rattle.translate_classes.proofs.filling.add_fill.Goals as goal

pub put_method-requires-clause-room : goal.put_method-requires-clause-room
put_method-requires-clause-room c =
    let is = code-is _ _ (fill_code c.args.texts.now c.args.number c.args.words) (c.as_slice.ensures.value ∙ c.in_ok-append_fill.ensures) c.new-code.ensures.items in
    omega (arith, c.requires.room, ap slots_of is, c.loading_takes_few_slots.ensures.fills c.args.texts.now c.args.number c.args.words)

pub put_method-requires-clause-name : goal.put_method-requires-clause-name
put_method-requires-clause-name c = fill-own

pub put_method-requires-clause-code : goal.put_method-requires-clause-code
put_method-requires-clause-code c =
    let r = c.args.references.now in
    let pool = c.args.class.now.pool in
    let is = code-is _ _ (fill_code c.args.texts.now c.args.number c.args.words) (c.as_slice.ensures.value ∙ c.in_ok-append_fill.ensures) c.new-code.ensures.items in
    let texts = c.args.texts.now in
    let few : length texts ≤ 2048 = omega (arith, c.requires.few) in
    same-code r pool _ (fill_code c.args.texts.now c.args.number c.args.words) is
    (whole-code r pool (fill_code c.args.texts.now c.args.number c.args.words)
    (c.loading_is_whole.ensures.fill r texts c.args.number c.args.words c.requires.fields few c.requires.words)
    (fill-texts pool texts c.args.number c.args.words c.requires.texts))
