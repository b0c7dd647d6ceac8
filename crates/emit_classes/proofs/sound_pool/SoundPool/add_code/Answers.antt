use Rattle.emit_classes.proofs.Coded.{known, kept-coded}
use Rattle.emit_classes.proofs.Mentions.{mentions-coded}
use Rattle.emit_classes.proofs.sound_pool.SoundPool.add_code.Goals as goal

pub invariant_of-self : goal.invariant_of-self
invariant_of-self c =
    kept-coded c.args.code.now c.self.inside.pool c.method_code-bytes.new.pool c.self.inside.kinds.items c.method_code-bytes.ensures.added
    (known c.args.references.now c.self.inside.pool c.args.code.now (rw (← c.self.view_is) at c.requires)) c.left-left.ensures.few
    c.self.invariant

pub returns-clause-grown : goal.returns-clause-grown
returns-clause-grown c =
    let kept = kept-coded c.args.code.now c.self.inside.pool c.method_code-bytes.new.pool c.self.inside.kinds.items
    c.method_code-bytes.ensures.added
    (known c.args.references.now c.self.inside.pool c.args.code.now (rw (← c.self.view_is) at c.requires)) c.left-left.ensures.few
    c.self.invariant in
    rw (← c.self.view_is) (record {
      kept = c.method_code-bytes.ensures.kept;
      few = c.method_code-bytes.ensures.few;
      sound = λ _.
          kept.sound;
    })

pub returns-clause-mentions : goal.returns-clause-mentions
returns-clause-mentions c =
    rw (← c.self.view_is) (mentions-coded c.args.code.now c.self.inside.pool c.method_code-bytes.new.pool c.self.invariant.sound
    c.method_code-bytes.ensures.added)
