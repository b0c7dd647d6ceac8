use Rattle.run_definition.specs.Answer.{next_answer}
use Rattle.emit_paths_laws.specs.Guest.{crosses, is_partial}
use Rattle.emit_paths_laws.proofs.Guests.{loader_apart, loader_crosses_nothing, loader_reads_nothing}
use Rattle.emit_paths_laws.proofs.count_laws.the_loader_counts_nothing.Goals as goal

pub returns : goal.returns
returns c n s answers not_begun = record {
  crossings = λ spans.
      loader_apart (crosses spans) s not_begun (loader_crosses_nothing spans s not_begun) next_answer n answers;
  partial = loader_apart is_partial s not_begun (loader_reads_nothing s not_begun) next_answer n answers;
}
