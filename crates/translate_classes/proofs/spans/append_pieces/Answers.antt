use Rattle.std.proofs.Common.{◌≡◌, ◌+◌, ◌++◌, ◌∷◌, [], length, take, ap, ◌∙◌, arith}
use Rattle.std.specs.Prelude.{zip}
use Rattle.std.proofs.lemmas.List.{length_push, take_all}
use Rattle.std.proofs.lemmas.Slice.Zip.{zip_turn, zip_end, length-zip}
use Rattle.translate_classes.specs.Blocks.{told_pieces}
use Rattle.translate_classes.proofs.CodeBlocks.TellingLemmas.{told-next}
use Rattle.translate_classes.proofs.spans.append_pieces.Goals as goal

pub loop-piece-preserved : goal.loop-piece-preserved
loop-piece-preserved c =
    let pieces = c.args.method.now.pieces.items in
    let stretches = c.args.method.now.stretches.items in
    let told = c.loop-piece.yielded in
    let start = c.into_iter-piece-iterator.result in
    let first : start.a.rest.now ≡ pieces = cc in
    let second : start.b.rest.now ≡ stretches = cc in
    let turn =
    zip_turn pieces stretches told start c.loop-piece.piece-iterator c.next.new.self c.next.result first second c.loop-piece.yielded_by
    (c.in-Some.piece, c.in-Some.stretch) c.in-Some.is c.next.ensures.steps in
    let next =
    told-next c.args.part.now c.args.k pieces stretches (length told) c.in-Some.piece.now c.in-Some.stretch.now c.args.pieces.now.items
    c.loop-piece.pieces.items c.append_piece.new.pieces.items turn.0 turn.1 (turn.2 _) (turn.3 _) c.loop-piece.invariant
    c.in_ok-append_piece.ensures in
    let more : length told + 1 ≡ length (told ++ (c.in-Some.piece, c.in-Some.stretch) ∷ []) =
    omega (arith, length_push told (c.in-Some.piece, c.in-Some.stretch)) in
    next ∙ ap (λ n. c.args.pieces.now.items ++ told_pieces c.args.part.now c.args.k (take n (zip pieces stretches))) more

pub returns : goal.returns
returns c =
    let pieces = c.args.method.now.pieces.items in
    let stretches = c.args.method.now.stretches.items in
    let told = c.loop-piece.yielded in
    let start = c.into_iter-piece-iterator.result in
    let first : start.a.rest.now ≡ pieces = cc in
    let second : start.b.rest.now ≡ stretches = cc in
    let end =
    zip_end pieces stretches told start c.loop-piece.piece-iterator c.next.new.self c.next.result first second c.loop-piece.yielded_by c.in-None.is
    c.next.ensures.steps in
    let all = take_all (length told) (zip pieces stretches) (omega (arith, end, length-zip pieces stretches)) in
    c.loop-piece.invariant ∙ ap (λ l. c.args.pieces.now.items ++ told_pieces c.args.part.now c.args.k l) all
