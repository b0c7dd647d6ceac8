use Rattle.stackmap_table.proofs.DeterminedLaws.{tables-same}
use Rattle.stackmap_table.proofs.laws.tables_are_determined.Goals as goal

pub returns : goal.returns
returns c = λ pool parameters listed others first second e a b. tables-same pool parameters listed others first second e a b
