use Rattle.emit_paths_laws.proofs.Standing.{stretch_counts, stretch_visits, stretch_elsewhere}
use Rattle.emit_paths_laws.proofs.count_laws.stretches_count_where_they_stand.Goals as goal

pub returns : goal.returns
returns c program words m by n at lines w others p it = record {
  counts = λ weight still. stretch_counts program words weight still m by lines others it.stands n at w p it.leads;
  visits = stretch_visits program words m by lines others it.stands n at w p it.leads;
  elsewhere = λ other differ.
      stretch_elsewhere program words m by lines others it.stands other n at w p differ it.leads;
}
