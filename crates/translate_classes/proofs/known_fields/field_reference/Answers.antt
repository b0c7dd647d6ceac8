use Rattle.std.proofs.Common.{◌≡◌, true, sym, ◌∙◌, subst}
use Rattle.emit_layout.specs.Fields.{field_descriptor}
use Rattle.translate_classes.specs.Room.{can_name_field}
use Rattle.translate_classes.proofs.LawfulNames.MemberLemmas.{field-named}
use Rattle.translate_classes.proofs.known_fields.field_reference.Goals as goal

pub field_reference-requires-clause-name : goal.field_reference-requires-clause-name
field_reference-requires-clause-name c =
    let field = c.args.field in
    let named = c.as_str.ensures.value ∙ c.in_ok-name.ensures in
    subst (λ d. can_name_field c.as_str.result.now d ≡ true) (sym c.field_descriptor.ensures)
    (subst (λ n. can_name_field n (field_descriptor field) ≡ true) (sym named) (field-named field c.requires.within))
