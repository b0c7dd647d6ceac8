use Rattle.std.proofs.Common.{◌∙◌, sym}
use Rattle.nv_translate.proofs.OneLayout.{spans_are_one, blocks_are_one}
use Rattle.nv_translate.proofs.layouts.layouts_are_one.Goals as goal

pub returns : goal.returns
returns c meter source name other method_bytes a b is is' = record {
  spans_are = is.spans_are ∙ spans_are_one source method_bytes is.code is'.code is.code_is is'.code_is ∙ sym is'.spans_are;
  blocks_are = is.blocks_are ∙ blocks_are_one source method_bytes is.code is'.code is.code_is is'.code_is ∙ sym is'.blocks_are;
  need_is = is.need_is ∙ sym is'.need_is;
}
