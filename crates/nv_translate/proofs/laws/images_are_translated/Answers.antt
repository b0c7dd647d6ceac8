use Rattle.std.specs.Prelude.{false, None}
use Rattle.elf_definition.specs.Start.{Source}
use Rattle.class_definition.specs.Linking.{Accepted, program_of}
use Rattle.nv_translate.specs.Linked.{IsLinked}
use Rattle.nv_translate.specs.Translated.{RunsAlike}
use Rattle.nv_translate.specs.Images.{IsImage}
use Rattle.nv_translate.proofs.laws.images_are_translated.Goals as goal

pub returns : goal.returns
returns c name method_bytes built lawful large is =
    let source : Source = c.args.image.now in
    let image : IsImage source = c.is_image.ensures in
    let linked : IsLinked source name method_bytes built = c.translations_link.ensures None source name method_bytes built image.code.whole lawful is in
    let alike : RunsAlike source (program_of linked.classes) = c.translations_run_alike.ensures source name method_bytes built image large linked in
    let accepted : Accepted linked.classes = (c.translations_are_accepted.ensures None source name method_bytes built image.code lawful is).all linked in
    record {
      translated = record {
        classes = linked.classes;
        held = record {
          spelled = linked.spelled;
          accepted = accepted;
          stored = λ files stored. c.translations_are_sets.ensures None source name method_bytes built files image.code lawful is linked stored;
        };
        runs = alike;
        ends = c.runs_end_alike.ensures source linked.classes alike;
        again = c.translations_run_again.ensures source linked.classes accepted alike;
        entered = c.translations_go_on.ensures source name method_bytes built image large linked;
      };
      calls = c.translations_hold_at_calls.ensures.answered source name method_bytes built image large linked;
      system_calls = c.translations_hold_at_calls.ensures.served source name method_bytes built image large linked;
      by = record {
        is = is;
        linked = linked;
        sized = c.translated_spans_keep_to_the_limit.ensures None source name method_bytes built linked;
        least = c.translated_spans_are_least.ensures false source method_bytes linked.code linked.code_is;
      };
      counts = c.translations_count_alike.ensures source name method_bytes built image large linked;
      warm = c.translations_are_warm.ensures source name method_bytes built image large linked;
    }
