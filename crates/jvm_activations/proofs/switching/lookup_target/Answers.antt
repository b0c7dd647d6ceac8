use Rattle.std.proofs.lemmas.Int.{to_z-of_z}
use Rattle.jvm_activations.proofs.KeyLemmas.{found, missing}
use Rattle.jvm_activations.proofs.switching.lookup_target.Goals as goal

pub returns-in-Ok : goal.returns-in-Ok
returns-in-Ok c = found c.args.keys.now c.args.key _ c.in-Ok.place (to_z-of_z _ _ c.ranges.key) c.requires c.in-Ok.ensures.bound c.in-Ok.ensures.ok

pub returns-in-Err : goal.returns-in-Err
returns-in-Err c = missing c.args.keys.now c.args.key _ c.in-Err.field-0 (to_z-of_z _ _ c.ranges.key) c.requires c.in-Err.ensures.position
