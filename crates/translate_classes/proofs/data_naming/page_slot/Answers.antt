use Rattle.std.proofs.Common.{◌≡◌, false, sym, subst}
use Rattle.emit_classes.specs.Built.{is_long_text}
use Rattle.translate_classes.proofs.LawfulNames.CharacterLemmas.{short-text}
use Rattle.translate_classes.proofs.LawfulNames.TextLemmas.{page-size}
use Rattle.data_strings.specs.Texts.{page_text}
use Rattle.translate_classes.proofs.data_naming.page_slot.Goals as goal

pub text-requires-clause-short : goal.text-requires-clause-short
text-requires-clause-short c =
    let words = c.args.page.now.words.now in
    subst (λ t. is_long_text t ≡ false) (sym c.in_ok-text.ensures) (short-text (page_text words) (page-size words c.requires.words))
