use Rattle.emit_loading_laws.proofs.FillingLaws.Held.{page-holds, others-stay, used-stays, held-stays}
use Rattle.emit_loading_laws.proofs.filling_laws.filled_pages_hold_their_words.Goals as goal

pub returns : goal.returns
returns c places given slots heap = record {
  page = λ n p apart rise is. page-holds places given apart slots heap 0 n p rise is;
  others = others-stay places given slots heap;
  used_is = used-stays places given slots heap;
  held = held-stays places given slots heap;
}
