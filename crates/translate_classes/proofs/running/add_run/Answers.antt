use Rattle.std.proofs.Common.{◌≡◌, ◌≤◌, All, true, false, length, ap, sym, ◌∙◌, subst, arith}
use Rattle.emit_assembly.specs.Assembling.{slots_of, has_method}
use Rattle.trampoline.specs.Choosers.{class_chooser}
use Rattle.trampoline.specs.declared.start.Start.{Start}
use Rattle.translate_classes.proofs.LawfulNames.MemberLemmas.{run-own}
use Rattle.translate_classes.proofs.Rooms.CountLemmas.{has-starts}
use Rattle.translate_classes.proofs.Rooms.CodeLemmas.{code-is, plain-code}
use Rattle.translate_classes.proofs.running.add_run.Goals as goal

pub put_method-requires-clause-room : goal.put_method-requires-clause-room
put_method-requires-clause-room c =
    let starts = c.as_slice.result.now in
    let first = c.address.result in
    let end = c.address-2.result in
    let is = code-is _ _ (class_chooser starts first end) (c.as_slice-2.ensures.value ∙ c.in_ok-append_class_chooser.ensures) c.new-code.ensures.items in
    omega (
      arith,
      c.requires.room,
      ap slots_of is,
      c.choosers_take_few_slots.ensures.classes starts first end,
      ap length c.as_slice.ensures.value,
      c.in_ok-starts.ensures.count,
    )

pub put_method-requires-clause-name : goal.put_method-requires-clause-name
put_method-requires-clause-name c = run-own

pub put_method-requires-clause-code : goal.put_method-requires-clause-code
put_method-requires-clause-code c =
    let r = c.args.references.now in
    let pool = c.args.class.now.pool in
    let starts = c.as_slice.result.now in
    let first = c.address.result in
    let end = c.address-2.result in
    let code = class_chooser starts first end in
    let is = code-is _ _ code (c.as_slice-2.ensures.value ∙ c.in_ok-append_class_chooser.ensures) c.new-code.ensures.items in
    let own = has-starts r c.args.part.now c.args.spans.now (length c.args.spans.now) c.requires.count in
    let places = subst (All (λ (s : Start). has_method r s.method ≡ true)) (sym (c.as_slice.ensures.value ∙ c.in_ok-starts.ensures.value)) own in
    let few : length starts ≤ 2048 = omega (arith, ap length c.as_slice.ensures.value, c.in_ok-starts.ensures.count, c.requires.few) in
    plain-code 38 r pool (has_method r) false _ code is (c.choosers_are_whole.ensures.class r starts first end c.requires.fields few places)
    (λ class. c.choosers_name_well.ensures.class (has_method r) class starts first end places)
