use Rattle.std.proofs.Common.{◌<◌, length, All, sym, subst, ap, arith}
use Rattle.block_builder.specs.declared.block.Block.{Block}
use Rattle.translate_classes.specs.Code.{span_plan}
use Rattle.translate_classes.proofs.ClassMaking.MakingLemmas.{adds-next}
use Rattle.translate_classes.proofs.CodeBlocks.TellingLemmas.{pieces-next, pieces-within}
use Rattle.std.specs.Prelude.{sum_by}
use Rattle.std.proofs.lemmas.List.Sums.{sum_by_more, sum_by_more_le}
use Rattle.std.proofs.lemmas.List.{take_all}
use Rattle.method_splitter.specs.declared.span.Span.{Span}
use Rattle.translate_classes.specs.Code.{span_plans}
use Rattle.translate_classes.proofs.Rooms.CountLemmas.{adds-count, plans-count}
use Rattle.translate_classes.proofs.spans.add_spans.Goals as goal

pub append_pieces-requires : goal.append_pieces-requires
append_pieces-requires c =
    let part = c.args.part.now in
    let own = c.requires.spans c.loop-k.k (record { first = 0; words = 0 }) c.loop-k-test.true in
    record {
      within = subst (All (λ (p : Block). p.first < length part.units.now)) (sym c.in_ok-method.ensures.pieces)
          (pieces-within part c.args.spans.now c.loop-k.k own);
    }

pub loop-k-preserved : goal.loop-k-preserved
loop-k-preserved c =
    let part = c.args.part.now in
    let spans = c.args.spans.now in
    let k = c.loop-k.k in
    let method = c.in_ok-method.method in
    let told = c.in_ok-method.ensures in (
      adds-next c.args.class.now c.loop-k.class c.add_span.new.class (span_plan part spans c.args.references.now) k c.loop-k.invariant.0 told.method,
      pieces-next part spans k method.pieces.items method.stretches.items c.loop-k.pieces.items c.append_pieces.new.pieces.items told.pieces
          told.stretches c.loop-k.invariant.1 c.in_ok-append_pieces.ensures,
      omega (arith, c.loop-k.invariant.2, told.few, sum_by_more (λ (s : Span). s.words) spans k (record { first = 0; words = 0 }) c.loop-k-test.true),
    )

pub add_span-requires-clause-size : goal.add_span-requires-clause-size
add_span-requires-clause-size c = c.requires.sizes c.loop-k.k (record { first = 0; words = 0 }) c.loop-k-test.true

pub add_span-requires-clause-few : goal.add_span-requires-clause-few
add_span-requires-clause-few c =
    let part = c.args.part.now in
    let spans = c.args.spans.now in
    let r = c.args.references.now in
    omega (
      arith,
      adds-count c.args.class.now c.loop-k.class (span_plans part spans r c.loop-k.k) c.loop-k.invariant.0,
      plans-count (span_plan part spans r) c.loop-k.k,
      ap length c.requires.none,
      c.requires.few,
      c.loop-k-test.true,
    )

pub add_span-requires-clause-room : goal.add_span-requires-clause-room
add_span-requires-clause-room c =
    omega (
      arith,
      c.requires.room,
      c.loop-k.invariant.2,
      c.loop-k-test.true,
      sum_by_more_le (λ (s : Span). s.words) c.args.spans.now c.loop-k.k (record { first = 0; words = 0 }) c.loop-k-test.true,
    )

pub returns-clause-few : goal.returns-clause-few
returns-clause-few c =
    omega (
      arith,
      c.loop-k.invariant.2,
      ap (λ l. sum_by (λ (s : Span). s.words) l) (take_all c.loop-k.k c.args.spans.now (omega arith)),
    )
