use Rattle.std.proofs.Common.{◌≡◌, true, sym, ◌∙◌, subst}
use Rattle.emit_layout.specs.Fields.{field_descriptor}
use Rattle.translate_classes.specs.Room.{can_name_field}
use Rattle.translate_classes.proofs.LawfulNames.MemberLemmas.{field-named}
use Rattle.translate_classes.proofs.main_fields.add_field.Goals as goal

pub put_field-requires-clause-name : goal.put_field-requires-clause-name
put_field-requires-clause-name c =
    let field = c.args.field in
    let named = c.as_str.ensures.value ∙ c.in_ok-name.ensures in
    subst (λ d. can_name_field c.as_str.result.now d ≡ true) (sym c.field_descriptor.ensures)
    (subst (λ n. can_name_field n (field_descriptor field) ≡ true) (sym named) (field-named field c.requires.within))
