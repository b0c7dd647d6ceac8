use Rattle.stackmap_table.proofs.WrittenLaws.{tables-listed}
use Rattle.stackmap_table.proofs.laws.tables_list_frames.Goals as goal

pub returns : goal.returns
returns c = λ pool method listed bytes t w i. tables-listed pool method listed bytes t w i
