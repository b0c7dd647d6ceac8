use Rattle.std.proofs.Common.{sym, subst, ◌∙◌}
use Rattle.run_definition.specs.Words.{IsWord}
use Rattle.nv_translate.proofs.laws.is_image.Goals as goal

pub returns : goal.returns
returns c = record {
  code = record {
    whole = record { words = c.laws.ensures.words; whole = c.laws.ensures.whole };
    few = c.laws.ensures.runs;
  };
  pages = record {
    whole = record { lanes = c.laws.ensures.lanes; zeros = c.laws.ensures.zeros; low = c.laws.ensures.pages };
    mapped = sym c.mapped-mapped.ensures.sum ∙ c.mapped-mapped.ensures.count;
  };
  entry = subst IsWord c.entry.ensures c.is_word.ensures;
}
