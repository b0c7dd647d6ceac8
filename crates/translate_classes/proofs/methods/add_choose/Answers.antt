use Rattle.std.proofs.Common.{false, ap, ◌∙◌, arith}
use Rattle.emit_layout.specs.Numbers.{missing_number}
use Rattle.trampoline.specs.Choosers.{main_chooser}
use Rattle.emit_assembly.specs.Assembling.{slots_of, has_method}
use Rattle.translate_classes.proofs.LawfulNames.MemberLemmas.{choose-own}
use Rattle.translate_classes.proofs.Rooms.CountLemmas.{has-main, has-places}
use Rattle.translate_classes.proofs.Rooms.CodeLemmas.{code-is, plain-code}
use Rattle.translate_classes.proofs.methods.add_choose.Goals as goal

pub put_method-requires-clause-room : goal.put_method-requires-clause-room
put_method-requires-clause-room c =
    let is = code-is _ _ (main_chooser c.args.main.now.starts.now missing_number) (c.as_slice.ensures.value ∙ c.in_ok-append_main_chooser.ensures) c.new-code.ensures.items in
    omega (arith, c.requires.room, ap slots_of is, c.choosers_take_few_slots.ensures.program c.args.main.now.starts.now missing_number)

pub put_method-requires-clause-name : goal.put_method-requires-clause-name
put_method-requires-clause-name c = choose-own

pub put_method-requires-clause-code : goal.put_method-requires-clause-code
put_method-requires-clause-code c =
    let r = c.args.references.now in
    let pool = c.args.class.now.pool in
    let is = code-is _ _ (main_chooser c.args.main.now.starts.now missing_number) (c.as_slice.ensures.value ∙ c.in_ok-append_main_chooser.ensures) c.new-code.ensures.items in
    let main = c.args.main.now in
    let starts = main.starts.now in
    let places = has-places r main c.requires.main c.requires.references.first c.requires.count in
    let missing = has-main r main c.requires.main c.requires.references.first c.requires.count missing_number (omega arith) in
    plain-code 38 r pool (has_method r) false _ (main_chooser c.args.main.now.starts.now missing_number) is
    (c.choosers_are_whole.ensures.main r starts missing_number c.requires.references.fields c.requires.main.few places missing)
    (λ class. c.choosers_name_well.ensures.main (has_method r) class starts missing_number places missing)

pub returns-clause-few : goal.returns-clause-few
returns-clause-few c =
    let is = code-is _ _ (main_chooser c.args.main.now.starts.now missing_number) (c.as_slice.ensures.value ∙ c.in_ok-append_main_chooser.ensures) c.new-code.ensures.items in
    omega (arith, c.in_ok-put_method.ensures.pool.few, ap slots_of is, c.choosers_take_few_slots.ensures.program c.args.main.now.starts.now missing_number)
