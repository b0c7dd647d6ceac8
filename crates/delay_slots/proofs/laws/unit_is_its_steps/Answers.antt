use Rattle.run_definition.specs.Answer.{next_answer}
use Rattle.delay_slots.specs.Turns.{unit_turns}
use Rattle.delay_slots.proofs.PlaceLemmas.{unit_turns_made}
use Rattle.delay_slots.proofs.LeadLemmas.{unit_count}
use Rattle.delay_slots.proofs.RunLemmas.{runs_made}
use Rattle.delay_slots.proofs.laws.unit_is_its_steps.Goals as goal

pub returns-clause-turns : goal.returns-clause-turns
returns-clause-turns c = unit_turns_made c.encoding_inverts_decoding.ensures.words

pub returns-clause-runs : goal.returns-clause-runs
returns-clause-runs c x first words i unit stands there =
    runs_made next_answer x (unit_turns unit x) (unit_turns_made c.encoding_inverts_decoding.ensures.words x first words i unit stands there)

pub returns-clause-count : goal.returns-clause-count
returns-clause-count c = unit_count
