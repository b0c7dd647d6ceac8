use Rattle.std.proofs.Common.{false, ap, ◌∙◌, arith}
use Rattle.emit_assembly.specs.Assembling.{slots_of}
use Rattle.trampoline.specs.Choosers.{missing_method}
use Rattle.emit_methods_laws.specs.Naming.{fields_of}
use Rattle.translate_classes.proofs.LawfulNames.MemberLemmas.{missing-own}
use Rattle.translate_classes.proofs.Rooms.CodeLemmas.{code-is, plain-code}
use Rattle.translate_classes.proofs.methods.add_missing.Goals as goal

pub put_method-requires-clause-room : goal.put_method-requires-clause-room
put_method-requires-clause-room c =
    let is = code-is _ _ (missing_method c.args.metered) (c.as_slice.ensures.value ∙ c.in_ok-append_missing.ensures) c.new-code.ensures.items in
    omega (arith, c.requires.room, ap slots_of is, c.choosers_take_few_slots.ensures.missing c.args.metered)

pub put_method-requires-clause-name : goal.put_method-requires-clause-name
put_method-requires-clause-name c = missing-own

pub put_method-requires-clause-code : goal.put_method-requires-clause-code
put_method-requires-clause-code c =
    let r = c.args.references.now in
    let pool = c.args.class.now.pool in
    let is = code-is _ _ (missing_method c.args.metered) (c.as_slice.ensures.value ∙ c.in_ok-append_missing.ensures) c.new-code.ensures.items in
    plain-code (fields_of c.args.metered) r pool (λ m. false) false _ (missing_method c.args.metered) is
    (c.choosers_are_whole.ensures.missing r c.args.metered c.requires.fields)
    (λ class. c.choosers_name_well.ensures.missing (λ m. false) class c.args.metered)
