use Rattle.std.proofs.Common.{refl}
use Rattle.trampoline_laws.proofs.ChoiceLaws.Weighing.{tree-weight, class-weight, main-weight, missing-weight, no-calls-weight, reads-spare, chars-spare, switches-spare, alters-spare, writes-spare, entries-spare, beside-spares}
use Rattle.trampoline_laws.proofs.choice_laws.choosers_weigh_their_calls.Goals as goal

pub returns-clause-weigh : goal.returns-clause-weigh
returns-clause-weigh c weight spares = record {
  trees = tree-weight weight spares;
  class_choosers = class-weight weight spares;
  main_choosers = main-weight weight spares;
  strays = missing-weight weight spares;
}

pub returns-clause-no_calls : goal.returns-clause-no_calls
returns-clause-no_calls c = no-calls-weight

pub returns-clause-spared : goal.returns-clause-spared
returns-clause-spared c = record {
  of_reads = record { comparing = reads-spare; calls = λ m. refl };
  of_chars = record { comparing = chars-spare; calls = λ m. refl };
  of_switches = record { comparing = switches-spare; calls = λ m. refl };
  of_alters = record { comparing = alters-spare; calls = λ m. refl };
  of_writes = λ f. record { comparing = writes-spare f; calls = λ m. refl };
  of_entries = entries-spare;
  beside = λ weight spares. record { comparing = beside-spares weight spares; calls = λ m. refl };
}
