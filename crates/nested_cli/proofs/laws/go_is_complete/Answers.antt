use Rattle.nested_cli.proofs.CompletingLemmas.{completes}
use Rattle.nested_cli.proofs.laws.go_is_complete.Goals as goal

pub returns : goal.returns
returns c = completes
