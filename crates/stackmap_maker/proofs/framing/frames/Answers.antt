use Rattle.stackmap_maker.proofs.framing.frames.Goals as goal

pub unreachable-requires : goal.unreachable-requires
unreachable-requires c = (rw c.in-Err-Untyped.field-0-is at c.in-Err-Untyped.ensures.unframed) c.args.v.now.typed
