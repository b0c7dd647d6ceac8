use Rattle.std.proofs.Common.{◌≡◌, ◌∙◌, None, Some, ap, subst, sym}
use Rattle.std.proofs.lemmas.Result.{IfOk-weaker}
use Rattle.elf_definition.specs.Start.{image_of}
use Rattle.jvm_definition.specs.Step.{loaded_program, loaded_turn}
use Rattle.class_definition.specs.Linking.{program_of}
use Rattle.jvm_machine.specs.Machine.{state_of}
use Rattle.translate_program.specs.Files.{allow, need}
use Rattle.nv_translate.specs.Made.{AreMade}
use Rattle.nv_translate.specs.Translated.{Translated}
use Rattle.command_deeds.specs.declared.done.Done.{Done}
use Rattle.command_deeds.specs.Runs.{answer_of, run_alone}
use Rattle.command_translate.proofs.TranslationLemmas.{spell_classes}
use Rattle.command_translate.specs.Make.{IsEndOfTranslation, made_name}
use Rattle.command_translate.proofs.alone_runs.run_translated.Goals as goal

pub returns : goal.returns
returns c =
    let image = c.args.image in
    let mapped = (image_of image).mapped in
    let files = c.in_ok-files.files.items in
    let t : Translated image made_name files = subst (λ name. Translated image name files) c.in_ok-name.ensures c.in_ok-files.ensures.translated in
    let made : AreMade None image made_name c.args.method_bytes files =
    subst (λ name. AreMade None image name c.args.method_bytes files) c.in_ok-name.ensures c.in_ok-files.ensures.made in
    let classes = t.classes in
    let state =
    c.in_ok-jvm.ensures.state classes (spell_classes image made_name files c.as_slice.result.now t c.as_slice.ensures.value)
    ∙ ap (loaded_program (program_of classes)) c.need-words.ensures in
    IfOk-weaker c.play_alone.result
    (λ (end : Done). answer_of (run_alone c.allow-bound.result loaded_turn (state_of c.in_ok-jvm.jvm) made_name c.args.moment).outcome ≡ Some end)
    (IsEndOfTranslation c.args.steps c.args.moment image c.args.method_bytes)
    (λ end h. record {
      files = files;
      translated = t;
      made = made;
      is =
          sym (ap (λ s. answer_of (run_alone c.allow-bound.result loaded_turn s made_name c.args.moment).outcome) state
          ∙ ap (λ bound. answer_of (run_alone bound loaded_turn (loaded_program (program_of classes) (need mapped)) made_name c.args.moment).outcome)
          (c.allow-bound.ensures ∙ ap (λ m. allow m c.args.steps) c.mapped.ensures.sum))
          ∙ h;
    }) c.play_alone.ensures
