use Rattle.std.proofs.Common.{refl}
use Rattle.emit_paths_laws.proofs.Weighing.{weigh-both, weigh-more, weigh-front, weigh-back}
use Rattle.emit_paths_laws.proofs.laws.weights.Goals as goal

pub returns-clause-both : goal.returns-clause-both
returns-clause-both c = weigh-both

pub returns-clause-one_more : goal.returns-clause-one_more
returns-clause-one_more c = weigh-more

pub returns-clause-front : goal.returns-clause-front
returns-clause-front c = weigh-front

pub returns-clause-back : goal.returns-clause-back
returns-clause-back c = weigh-back

pub returns-clause-targets : goal.returns-clause-targets
returns-clause-targets c = record {
  of_reads = λ name t u. refl;
  of_chars = λ name t u. refl;
  of_switches = λ name t u. refl;
  of_entries = λ is_span name t u. refl;
  of_gets = λ f name t u. refl;
  of_puts = λ f name t u. refl;
}
