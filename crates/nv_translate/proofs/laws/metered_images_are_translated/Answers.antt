use Rattle.std.specs.Prelude.{true, Some}
use Rattle.elf_definition.specs.Start.{Source}
use Rattle.nv_translate.specs.Linked.{IsLinkedBy}
use Rattle.nv_translate.specs.Images.{IsImage}
use Rattle.nv_translate.proofs.laws.metered_images_are_translated.Goals as goal

pub returns : goal.returns
returns c name method_bytes turns built lawful large few is =
    let source : Source = c.args.image.now in
    let image : IsImage source = c.is_image.ensures in
    let linked : IsLinkedBy (Some turns) source name method_bytes built =
    c.translations_link.ensures (Some turns) source name method_bytes built image.code.whole lawful is in
    record {
      translated = record {
        runs = record {
          classes = linked.classes;
          held = record {
            spelled = linked.spelled;
            accepted = (c.translations_are_accepted.ensures (Some turns) source name method_bytes built image.code lawful is).all linked;
            stored = λ files stored. c.translations_are_sets.ensures (Some turns) source name method_bytes built files image.code lawful is linked stored;
          };
          stops = c.metered_translations_stop.ensures.stops source name method_bytes turns built image large few linked;
          ends = c.metered_translations_stop.ensures.ends source name method_bytes turns built image large few linked;
        };
        slices = c.metered_translations_run_in_slices.ensures.answered source name method_bytes turns built image large few linked;
        system_slices = c.metered_translations_run_in_slices.ensures.served source name method_bytes turns built image large few linked;
        calls = c.metered_translations_hold_at_calls.ensures.answered source name method_bytes turns built image large few linked;
        system_calls = c.metered_translations_hold_at_calls.ensures.served source name method_bytes turns built image large few linked;
      };
      by = record {
        is = is;
        linked = linked;
        sized = c.translated_spans_keep_to_the_limit.ensures (Some turns) source name method_bytes built linked;
        least = c.translated_spans_are_least.ensures true source method_bytes linked.code linked.code_is;
      };
      no_blocks = c.metered_translations_have_no_blocks.ensures source name method_bytes turns built linked;
    }
