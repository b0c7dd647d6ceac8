use Rattle.std.proofs.Common.{◌≡◌, ◌+◌, ◌++◌, ◌∷◌, [], ◌≤◌, arith, length, ap, ◌∙◌}
use Rattle.unix_definition.specs.Calls.{block_length}
use Rattle.unix_calls.proofs.ArgsLemmas.{block-more}
use Rattle.unix_calls.proofs.args.Args.push.Goals as goal

pub invariant_of-self-2 : goal.invariant_of-self-2
invariant_of-self-2 c =
    let texts = c.self.inside.texts.items in
    let view : texts ≡ c.args.self.now = c.self.view_is in
    let items : c.push.new.self.items ≡ texts ++ c.in_ok-kept.kept ∷ [] = c.in_ok-push.ensures.items in
    let kept : c.in_ok-kept.kept ≡ c.args.text.now = c.in_ok-kept.ensures in
    let all : c.push.new.self.items ≡ texts ++ c.args.text.now ∷ [] = items ∙ ap (λ t. texts ++ t ∷ []) kept in
    let more : block_length c.push.new.self.items ≡ block_length texts + length c.args.text.now + 5 = ap block_length all ∙ block-more texts c.args.text.now in
    let room : block_length (texts ++ c.args.text.now ∷ []) ≤ 4096 = rw view c.requires in
    let long : block_length (texts ++ c.args.text.now ∷ []) ≡ block_length texts + length c.args.text.now + 5 = block-more texts c.args.text.now in
    let is = c.self.invariant.0 in
    (omega (arith, more, is), omega (arith, long, room, is))
