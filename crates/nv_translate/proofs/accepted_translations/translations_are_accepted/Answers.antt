use Rattle.std.specs.Prelude.{ℕ, Option}
use Rattle.nv_values.specs.Names.{Text}
use Rattle.elf_definition.specs.Start.{Source}
use Rattle.jvm_definition.specs.Typing.{AllTyped}
use Rattle.class_definition.specs.Linking.{Accepted, program_of}
use Rattle.translate_program.specs.declared.built.Built.{Built}
use Rattle.translate_program.specs.Translation.{IsTranslationBy}
use Rattle.nv_translate.specs.Linked.{IsLinkedBy}
use Rattle.nv_translate.specs.AcceptedCode.{HasAcceptedCode}
use Rattle.nv_translate.proofs.AcceptedTranslations.Linking.{classes-link}
use Rattle.nv_translate.proofs.accepted_translations.translations_are_accepted.Goals as goal

accepted : {meter : Option ℕ} (source : Source) (name : Text) (method_bytes : ℕ) (built : Built) → HasAcceptedCode source → IsTranslationBy meter source name method_bytes built
    → (l : IsLinkedBy meter source name method_bytes built) → AllTyped (program_of l.classes) → Accepted l.classes
accepted source name method_bytes built has t l typed =
    record { links = classes-link source name method_bytes built t l.classes l.spelled l.distinct has; typed = typed }

pub returns : goal.returns
returns c meter source name method_bytes built has class_name t =
    let each = λ (l : IsLinkedBy meter source name method_bytes built).
    accepted source name method_bytes built has t l (c.translations_are_typed.ensures meter source name method_bytes built has.whole l) in
    let linked = c.translations_link.ensures meter source name method_bytes built has.whole class_name t in
    record { all = each; some = record { linked = linked; accepted = each linked } }
