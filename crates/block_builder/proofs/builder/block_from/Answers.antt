use Rattle.std.proofs.Common.{◌≡◌, ℕ, Bool, false, ◌∙◌, ap, arith}
use Rattle.std.specs.Prelude.{slice_index_or}
use Rattle.block_builder.specs.Leaders.{words_of}
use Rattle.block_builder.specs.Blocks.{unit_at, end_of}
use Rattle.block_builder.proofs.BlockLemmas.{block_fits}
use Rattle.block_builder.proofs.builder.block_from.Goals as goal

pub overflow_cast-words : goal.overflow_cast-words
overflow_cast-words c =
    let units = c.args.units.now in
    let leads : ℕ → Bool = λ k. slice_index_or c.args.leaders.now k false in
    let last : c.end_of-last.result ≡ end_of units leads c.args.first = c.end_of-last.ensures.value in
    let words : c.words_of.result ≡ words_of (unit_at units (end_of units leads c.args.first)) = c.words_of.ensures ∙ ap words_of c.at.ensures ∙ ap (λ k. words_of (unit_at units k)) last in
    omega (arith, last, words, block_fits units leads c.args.first c.requires.are_units c.requires.within, c.requires.few)

pub words_from-requires : goal.words_from-requires
words_from-requires c =
    let units = c.args.units.now in
    let leads : ℕ → Bool = λ k. slice_index_or c.args.leaders.now k false in
    let last : c.end_of-last.result ≡ end_of units leads c.args.first = c.end_of-last.ensures.value in
    let words : c.words_of.result ≡ words_of (unit_at units (end_of units leads c.args.first)) = c.words_of.ensures ∙ ap words_of c.at.ensures ∙ ap (λ k. words_of (unit_at units k)) last in
    omega (arith, last, words, block_fits units leads c.args.first c.requires.are_units c.requires.within)
