use Rattle.emit_paths_laws.proofs.Targets.{reads-moved, chars-moved, switches-moved, entries-moved}
use Rattle.emit_paths_laws.proofs.count_laws.counts_look_at_no_target.Goals as goal

pub returns-clause-reads : goal.returns-clause-reads
returns-clause-reads c = reads-moved

pub returns-clause-chars : goal.returns-clause-chars
returns-clause-chars c = chars-moved

pub returns-clause-switches : goal.returns-clause-switches
returns-clause-switches c = switches-moved

pub returns-clause-entries : goal.returns-clause-entries
returns-clause-entries c = entries-moved
