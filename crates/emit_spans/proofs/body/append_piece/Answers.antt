use Rattle.std.proofs.Common.{◌≡◌, ◌+◌, if◌then◌else◌, not, ap, sym, ◌∙◌, arith}
use Rattle.std.specs.Prelude.{filter}
use Rattle.std.specs.List.{flat_map}
use Rattle.std.proofs.lemmas.Result.{err_from_is_err_and}
use Rattle.emit_steps.specs.Widths.{size}
use Rattle.emit_spans.specs.Pieces.{flagged, begins, piece_at, words_before}
use Rattle.emit_spans.specs.Neighbours.{is_inner}
use Rattle.emit_spans.specs.Parts.{warm_part, cold_part}
use Rattle.emit_spans.specs.Laying.{base, warm_before, cold_before, stretch_at}
use Rattle.emit_spans.specs.Bodies.{part_offset}
use Rattle.emit_spans.proofs.ErrorLemmas.{passed-on}
use Rattle.emit_spans.proofs.BodyLemmas.{words-more, kept-more, kept-same, pushed, laid-more, size-more, size-rises}
use Rattle.emit_spans.proofs.body.append_piece.Goals as goal

pub returns-in_err-lay-clause-too_long : goal.returns-in_err-lay-clause-too_long
returns-in_err-lay-clause-too_long c = λ is.
    let units = c.args.units.now in
    let leads = flagged c.args.leads.now in
    let span = c.args.span in
    let k = c.args.k in
    let first = c.requires.begins_within.0 in
    let more = kept-more (begins leads span) span k first c.requires.begins in
    let kept = filter (begins leads span) (words_before span k) in
    let kept_more = filter (begins leads span) (words_before span (k + 1)) in
    let bytes = size-more (warm_part units leads span) kept kept_more k more in
    let least = size-rises (warm_part units leads span) (begins leads span) span (k + 1) (omega arith) (omega arith) in
    let p = err_from_is_err_and c.from_residual-in_err-lay.result c.from_residual-in_err-lay.ensures.1 in
    let long = c.in_err-lay.ensures.too_long (passed-on _ _ _ _ p.1 p.2 is) in
    omega (arith, long, bytes, least, ap size c.in_ok-part.ensures, c.requires.body.warm_end)

pub returns-clause-body : goal.returns-clause-body
returns-clause-body c =
    let units = c.args.units.now in
    let leads = flagged c.args.leads.now in
    let span = c.args.span in
    let k = c.args.k in
    let old = c.requires.body in
    let first = c.requires.begins_within.0 in
    let words = words-more span k first in
    let more = kept-more (begins leads span) span k first c.requires.begins in
    let same = kept-same (is_inner leads span) span k first (ap not c.requires.begins) in
    let kept = filter (begins leads span) (words_before span k) in
    let kept_more = filter (begins leads span) (words_before span (k + 1)) in
    let bytes = size-more (warm_part units leads span) kept kept_more k more in
    let to : c.lay.new.self.end ≡ base span + size (warm_before units leads span k) + size
    (warm_part units leads span k) = c.in_ok-lay.ensures.end ∙ (λ i. old.warm_end i + size (c.in_ok-part.ensures i)) in
    record {
      warm = laid-more (warm_part units leads span) kept kept_more k _ _ _ more c.in_ok-part.ensures old.warm c.in_ok-lay.ensures.steps;
      warm_end = omega (arith, to, bytes);
      warm_small = c.in_ok-lay.ensures.small;
      cold = old.cold ∙ sym (ap (flat_map (cold_part units leads span)) same);
      cold_end = old.cold_end ∙ sym (ap (λ ks. size (flat_map (cold_part units leads span) ks)) same);
      cold_small = old.cold_small;
      offsets = pushed (part_offset units leads span) (words_before span k) (words_before span (k + 1)) k _ _ _ words
          (old.warm_end ∙ sym (ap (λ b. if b then base span + size (warm_before units leads span k) else size
          (cold_before units leads span k)) c.requires.begins)) old.offsets c.in_ok-push.ensures.items;
      pieces = pushed (piece_at units leads span) kept kept_more k _ _ _ more c.piece_at-piece.ensures old.pieces
          c.in_ok-push-2.ensures.items;
      stretches = pushed (stretch_at units leads span) kept kept_more k _ _ _ more (λ i. record { from = old.warm_end i; to = to i })
          old.stretches c.in_ok-push-3.ensures.items;
    }
