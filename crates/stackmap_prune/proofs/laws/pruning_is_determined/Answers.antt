use Rattle.stackmap_prune.proofs.DeterminedLaws.{listed-alike, listed-same, pruning-same}
use Rattle.stackmap_prune.proofs.laws.pruning_is_determined.Goals as goal

pub returns : goal.returns
returns c = record {
  pruned = λ program method gives m n o reached others few a b p q. pruning-same program method gives m n o reached others few a b p q;
  listed = λ program method pruned reached others a b. listed-alike pruned reached others (listed-same program method reached others a b);
}
