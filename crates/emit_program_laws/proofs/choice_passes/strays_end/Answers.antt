use Rattle.emit_program_laws.proofs.ChoicePasses.Given.{CodeLaws, MissingLaws}
use Rattle.emit_program_laws.proofs.ChoicePasses.Strays.{metered-strays-end, spent-strays-end, strays-end}
use Rattle.emit_program_laws.proofs.choice_passes.strays_end.Goals as goal

pub returns-clause-plain : goal.returns-clause-plain
returns-clause-plain c program words order choose missing classes code a y is_in s =
    let laws : CodeLaws = record {
      paths = c.code_is_a_path.ensures.within;
      turns = c.turns_at_steps.ensures.within;
      effects = c.stops_are_effects.ensures;
      beside = c.paths_make_no_calls.ensures;
      spared = c.choosers_weigh_their_calls.ensures.spared;
    } in
    let method : MissingLaws = record {
      plain = c.strays_fault.ensures.plain;
      metered = c.strays_fault.ensures.metered;
      spent = c.strays_fault.ensures.spent;
      weigh = c.choosers_weigh_their_calls.ensures.weigh;
      spared = c.choosers_weigh_their_calls.ensures.spared;
    } in
    strays-end laws method program words order choose missing classes code a y is_in s

pub returns-clause-metered : goal.returns-clause-metered
returns-clause-metered c program words order choose missing classes code left a y is_in s has some =
    let laws : CodeLaws = record {
      paths = c.code_is_a_path.ensures.within;
      turns = c.turns_at_steps.ensures.within;
      effects = c.stops_are_effects.ensures;
      beside = c.paths_make_no_calls.ensures;
      spared = c.choosers_weigh_their_calls.ensures.spared;
    } in
    let method : MissingLaws = record {
      plain = c.strays_fault.ensures.plain;
      metered = c.strays_fault.ensures.metered;
      spent = c.strays_fault.ensures.spent;
      weigh = c.choosers_weigh_their_calls.ensures.weigh;
      spared = c.choosers_weigh_their_calls.ensures.spared;
    } in
    metered-strays-end laws method program words order choose missing classes code left a y is_in s has some

pub returns-clause-spent : goal.returns-clause-spent
returns-clause-spent c program words order choose missing classes code a y is_in s has =
    let laws : CodeLaws = record {
      paths = c.code_is_a_path.ensures.within;
      turns = c.turns_at_steps.ensures.within;
      effects = c.stops_are_effects.ensures;
      beside = c.paths_make_no_calls.ensures;
      spared = c.choosers_weigh_their_calls.ensures.spared;
    } in
    let method : MissingLaws = record {
      plain = c.strays_fault.ensures.plain;
      metered = c.strays_fault.ensures.metered;
      spent = c.strays_fault.ensures.spent;
      weigh = c.choosers_weigh_their_calls.ensures.weigh;
      spared = c.choosers_weigh_their_calls.ensures.spared;
    } in
    spent-strays-end laws method program words order choose missing classes code a y is_in s has
