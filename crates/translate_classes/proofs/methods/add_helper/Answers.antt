use Rattle.std.proofs.Common.{◌≡◌, true, ap, sym, ◌∙◌, subst, arith}
use Rattle.class_definition.specs.Linking.{gives_int}
use Rattle.emit_layout.specs.Helpers.{helper_descriptor}
use Rattle.mem_helpers.specs.Methods.{helper_code}
use Rattle.emit_assembly.specs.Assembling.{slots_of}
use Rattle.emit_methods_laws.specs.Naming.{is_fault}
use Rattle.translate_classes.specs.Room.{is_own_method}
use Rattle.translate_classes.proofs.LawfulNames.MemberLemmas.{helper-own}
use Rattle.translate_classes.proofs.Rooms.CodeLemmas.{code-is, plain-code}
use Rattle.translate_classes.proofs.methods.add_helper.Goals as goal

pub put_method-requires-clause-room : goal.put_method-requires-clause-room
put_method-requires-clause-room c =
    let is = code-is _ _ (helper_code c.args.order c.args.number) (c.as_slice.ensures.value ∙ c.in_ok-append_helper.ensures) c.new-code.ensures.items in
    omega (arith, c.requires.room, ap slots_of is, c.helpers_take_few_slots.ensures c.args.order c.args.number c.requires.within)

pub put_method-requires-clause-name : goal.put_method-requires-clause-name
put_method-requires-clause-name c =
    subst (λ d. is_own_method c.helper_name.result.now d ≡ true) (sym c.helper_descriptor.ensures)
    (subst (λ n. is_own_method n (helper_descriptor c.args.number) ≡ true) (sym c.helper_name.ensures) (helper-own c.args.number c.requires.within))

pub put_method-requires-clause-code : goal.put_method-requires-clause-code
put_method-requires-clause-code c =
    let r = c.args.references.now in
    let pool = c.args.class.now.pool in
    let is = code-is _ _ (helper_code c.args.order c.args.number) (c.as_slice.ensures.value ∙ c.in_ok-append_helper.ensures) c.new-code.ensures.items in
    let order = c.args.order in
    let number = c.args.number in
    plain-code 38 r pool is_fault (gives_int (helper_descriptor number)) _ (helper_code c.args.order c.args.number) is
    (c.helpers_are_whole.ensures r order number c.requires.references c.requires.within)
    (λ class. c.helpers_name_well.ensures order class number c.requires.within)

pub returns-clause-few : goal.returns-clause-few
returns-clause-few c =
    let is = code-is _ _ (helper_code c.args.order c.args.number) (c.as_slice.ensures.value ∙ c.in_ok-append_helper.ensures) c.new-code.ensures.items in
    omega (arith, c.in_ok-put_method.ensures.pool.few, ap slots_of is, c.helpers_take_few_slots.ensures c.args.order c.args.number c.requires.within)
