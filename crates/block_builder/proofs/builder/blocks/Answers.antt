use Rattle.std.proofs.Common.{◌≡◌, ◌+◌, ◌-◌, ◌++◌, ◌<◌, ℕ, Bool, false, List, [], ◌∷◌, length, map, sym, ◌∙◌, ap, subst, arith}
use Rattle.std.specs.Prelude.{slice_index_or, filter}
use Rattle.std.specs.List.{All, range_with_len}
use Rattle.block_builder.specs.Leaders.{AreLeaders}
use Rattle.block_builder.specs.declared.block.Block.{Block}
use Rattle.block_builder.specs.Blocks.{block_from, blocks_of, IsPiece}
use Rattle.block_builder.proofs.BlockLemmas.{block_more, block_skipped, blocks_done, blocks_by_flags, blocks_are_pieces, blocks_have_words}
use Rattle.block_builder.proofs.builder.blocks.Goals.{then-flags-first+in_ok-push, else-flags-first}
use Rattle.block_builder.proofs.builder.blocks.Goals as goal

pub loop-first-preserved : goal.loop-first-preserved
loop-first-preserved c =
    let flags : ℕ → Bool = λ k. slice_index_or c.as_slice-flags.result.now k false in
    let block : ℕ → Block = block_from c.args.units.now flags in
    let first = c.loop-first.first in
    let n = length c.args.units.now in
    let sofar : List Block = c.loop-first.found.items in
    let rest : List Block = map block (filter flags (range_with_len (first + 1) (n - (first + 1)))) in
    let all : List Block = map block (filter flags (range_with_len 0 n)) in
    elim c.if-flags-first.branch [
      | then-flags-first+in_ok-push w ↦
          let found : c.if-flags-first.found.items ≡ sofar ++ (block first ∷ []) = ap (λ v. v.items) w.found-is ∙ w.in_ok-push.ensures.items ∙ ap (λ (b : Block). sofar ++ (b ∷ [])) w.block_from.ensures in
          subst (λ (bs : List Block). bs ++ rest ≡ all) (sym found) (block_more block flags first n sofar all (omega (arith, c.loop-first-test.true, c.len-first-end.ensures)) w.if-flags-first.true c.loop-first.invariant)
      | else-flags-first w ↦
          let found : c.if-flags-first.found.items ≡ sofar = ap (λ v. v.items) w.found-is in
          subst (λ (bs : List Block). bs ++ rest ≡ all) (sym found) (ap (λ (bs : List Block). sofar ++ bs) (block_skipped block flags first n (omega (arith, c.loop-first-test.true, c.len-first-end.ensures)) w.if-flags-first.false) ∙ c.loop-first.invariant)
    ]

all : (c : goal.After-drop-leaders-2) → c.loop-first.found.items ≡ blocks_of c.args.units.now c.args.start
all c =
    let flags : ℕ → Bool = λ k. slice_index_or c.as_slice-flags.result.now k false in
    let known : AreLeaders c.args.units.now c.args.start c.as_slice-flags.result.now = subst (λ (fs : List Bool). AreLeaders c.args.units.now c.args.start fs) (sym c.as_slice-flags.ensures.value) c.in_ok-leaders.ensures in
    let leads = known.leads in
    blocks_done (block_from c.args.units.now flags) flags c.loop-first.first (length c.args.units.now) c.loop-first.found.items _ (omega (arith, c.loop-first-test.false, c.len-first-end.ensures)) c.loop-first.invariant
    ∙ blocks_by_flags c.args.units.now flags c.args.start leads

pub returns-clause-value : goal.returns-clause-value
returns-clause-value c = all c

pub returns-clause-pieces : goal.returns-clause-pieces
returns-clause-pieces c = subst (λ bs. All (IsPiece c.args.units.now) bs) (sym (all c)) (blocks_are_pieces c.args.units.now c.args.start c.requires.are_units)

pub returns-clause-some_words : goal.returns-clause-some_words
returns-clause-some_words c = subst (λ bs. All (λ (b : Block). 0 < b.words) bs) (sym (all c)) (blocks_have_words c.args.units.now c.args.start)
