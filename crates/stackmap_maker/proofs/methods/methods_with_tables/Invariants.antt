use Rattle.std.proofs.Common.{take}
use Rattle.stackmap_maker.specs.Made.{AreMadeWithin}
use Rattle.stackmap_maker.proofs.methods.methods_with_tables.Given as goal

abbrev pub invariant-loop-method : goal.invariant-loop-method
invariant-loop-method l = AreMadeWithin l.linked.classes l.number l.class l.pool l.room (take l.method l.class.methods) l.methods.items l.tables.items l.bytes
