use Rattle.class_format.proofs.Parts.{whole_taken, whole_back}
use Rattle.stackmap_table.specs.Tables.{frame_table, bad_table}
use Rattle.stackmap_table.proofs.TableLaws.{table_law}
use Rattle.stackmap_table.proofs.laws.tables_are_read_back.Goals as goal

pub returns : goal.returns
returns c = record {
  back = λ pool bytes frames s. whole_back (frame_table pool) bad_table bytes frames (table_law pool) s;
  taken = λ pool bytes frames h e. whole_taken (frame_table pool) bad_table bytes frames (table_law pool) h e;
}
