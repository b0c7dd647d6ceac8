use Rattle.std.proofs.Common.{◌≡◌, true, sym, subst}
use Rattle.emit_layout.specs.Helpers.{helper_descriptor}
use Rattle.translate_classes.specs.Room.{can_name_method}
use Rattle.translate_classes.proofs.LawfulNames.MemberLemmas.{helper-named}
use Rattle.translate_classes.proofs.known_helpers.helper_reference.Goals as goal

pub method_reference-requires-clause-name : goal.method_reference-requires-clause-name
method_reference-requires-clause-name c =
    let number = c.args.number in
    subst (λ d. can_name_method c.helper_name.result.now d ≡ true) (sym c.helper_descriptor.ensures)
    (subst (λ n. can_name_method n (helper_descriptor number) ≡ true) (sym c.helper_name.ensures) (helper-named number c.requires.within))
