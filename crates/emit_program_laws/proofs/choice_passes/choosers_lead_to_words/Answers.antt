use Rattle.emit_program_laws.proofs.ChoicePasses.Given.{CodeLaws, ChooserLaws, SpanLaws, ProgramLaws}
use Rattle.emit_program_laws.proofs.ChoicePasses.Classes.{choose-words, run-words}
use Rattle.emit_program_laws.proofs.ChoicePasses.Strays.{choose-misses, run-misses}
use Rattle.emit_program_laws.proofs.choice_passes.choosers_lead_to_words.Goals as goal

pub returns : goal.returns
returns c =
    let laws : CodeLaws = record {
      paths = c.code_is_a_path.ensures.within;
      turns = c.turns_at_steps.ensures.within;
      effects = c.stops_are_effects.ensures;
      beside = c.paths_make_no_calls.ensures;
      spared = c.choosers_weigh_their_calls.ensures.spared;
    } in
    let choosers : ChooserLaws = record {
      class_calls = c.class_choosers_choose.ensures.calls;
      class_returns = c.class_choosers_choose.ensures.returns;
      main_calls = c.main_choosers_choose.ensures.calls;
      main_strays = c.main_choosers_choose.ensures.strays;
      weigh = c.choosers_weigh_their_calls.ensures.weigh;
      no_calls = c.choosers_weigh_their_calls.ensures.no_calls;
      spared = c.choosers_weigh_their_calls.ensures.spared;
    } in
    let spans : SpanLaws = record {
      enters = c.spans_are_entered.ensures.goes;
      counts = c.spans_are_entered.ensures.counts;
      held = c.fields_hold_all.ensures;
    } in
    let program_laws : ProgramLaws = record {
      classes = record {
        rise = c.spans_rise.ensures;
        fill = c.words_fill_classes.ensures;
        found = c.words_are_in_spans.ensures;
        lie = c.spans_lie_in_classes.ensures;
      };
      rise = c.classes_rise.ensures;
      methods = c.chosen_are_methods.ensures;
      stand = c.classes_stand.ensures;
      numbered = c.spans_are_numbered.ensures;
      chosen = c.words_are_chosen.ensures;
      strays = c.strays_are_missing.ensures;
    } in
    λ metered program words order choose missing classes code is_in.
    record {
      from_choose = λ t word y guest_is found s.
          choose-words laws choosers spans program words classes choose missing code program_laws order is_in t guest_is word found y s;
      from_run = λ t word y guest_is found low s.
          run-words laws choosers spans program words classes choose missing code program_laws order is_in t guest_is word found y low s;
      stray_choose = λ t y stray low s.
          choose-misses laws choosers spans program_laws program words order classes choose missing code is_in t low stray y s;
      stray_run = λ t y stray low s.
          run-misses laws choosers spans program_laws program words order classes choose missing code is_in t low stray y s;
    }
