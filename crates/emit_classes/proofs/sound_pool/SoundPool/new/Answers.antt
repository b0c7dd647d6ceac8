use Rattle.std.proofs.Common.{refl}
use Rattle.emit_classes.proofs.Joined.{empty-kept}
use Rattle.emit_classes.proofs.sound_pool.SoundPool.new.Goals as goal

pub invariant_of-result : goal.invariant_of-result
invariant_of-result c =
    empty-kept c.new.result c.in_ok-kinds.kinds.items 65536 c.new.ensures (c.in_ok-kinds.ensures.items_if_clones_equal (λ y e. e)) refl
