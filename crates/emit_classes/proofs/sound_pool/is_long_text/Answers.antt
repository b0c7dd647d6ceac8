use Rattle.std.proofs.Common.{arith}
use Rattle.emit_classes.proofs.Joining.{text-is}
use Rattle.emit_classes.proofs.sound_pool.is_long_text.Goals as goal

pub returns-clause-text : goal.returns-clause-text
returns-clause-text c = text-is c.args.characters.now (λ i. omega (arith, c.type_inv.characters i))
