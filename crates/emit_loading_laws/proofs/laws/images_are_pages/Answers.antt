use Rattle.emit_loading_laws.proofs.LoadingCodeLaws.Images.{memory-is, pages-are, slots-few}
use Rattle.emit_loading_laws.proofs.laws.images_are_pages.Goals as goal

pub returns : goal.returns
returns c s is = record {
  memory_is = memory-is s is;
  are_paged = pages-are s is;
  few = slots-few s is;
}
