use Rattle.emit_loading_laws.proofs.FillingLaws.Listed.{pages-rise, read-among, written-among}
use Rattle.emit_loading_laws.proofs.filling_laws.listed_pages_rise.Goals as goal

pub returns : goal.returns
returns c readable writable end = record {
  rise = pages-rise readable writable end;
  read = read-among readable writable end;
  written = written-among readable writable end;
}
