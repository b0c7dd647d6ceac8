use Rattle.emit_loading_laws.proofs.FillingLaws.Tables.{made-joined, used-all}
use Rattle.emit_loading_laws.proofs.FillingLaws.Told.{tables-after, pages-there}
use Rattle.emit_loading_laws.proofs.filling_laws.made_pages_are_there.Goals as goal

pub returns : goal.returns
returns c readable writable xs heap = record {
  tables = tables-after readable writable xs heap;
  are_pages = pages-there readable writable xs heap;
  used_is = used-all readable writable heap xs;
  joined = made-joined readable writable heap xs;
}
