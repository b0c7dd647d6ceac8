use Rattle.std.proofs.Common.{◌≡◌, arith, ap}
use Rattle.unix_definition.specs.Calls.{block_length}
use Rattle.unix_calls.proofs.ArgsLemmas.{block-more}
use Rattle.unix_calls.proofs.args.Args.block_with.Goals as goal

pub returns : goal.returns
returns c =
    let texts = c.self.inside.texts.items in
    let is : block_length texts ≡ block_length c.args.self.now = ap block_length c.self.view_is in
    omega (arith, block-more c.args.self.now c.args.text.now, c.self.invariant.0, is)
