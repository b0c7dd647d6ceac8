use Rattle.std.proofs.Common.{◌≡◌, false, ap, sym, ◌∙◌, subst}
use Rattle.elf_image_parts.specs.Runs.{text_of}
use Rattle.method_splitter.specs.Shares.{shared}
use Rattle.emit_classes.specs.Built.{is_long_text}
use Rattle.translate_classes.specs.Content.{share_text}
use Rattle.translate_classes.proofs.LawfulNames.CharacterLemmas.{short-text}
use Rattle.translate_classes.proofs.LawfulNames.TextLemmas.{shared-size}
use Rattle.translate_classes.proofs.texts.text_slot.Goals as goal

pub text-requires-clause-short : goal.text-requires-clause-short
text-requires-clause-short c =
    let runs = c.args.runs.now in
    let is = c.in_ok-text.ensures ∙ ap text_of (c.shared.ensures ∙ ap (shared runs) c.share_at.ensures.value) in
    subst (λ t. is_long_text t ≡ false) (sym is) (short-text (share_text runs c.args.k) (shared-size runs c.args.k c.requires.runs))
