use Rattle.std.proofs.Common.{◌+◌, ◌≤◌, List, All, length, drop}
use Rattle.jvm_definition.specs.declared.constant.Constant.{Constant}
use Rattle.emit_assembly.specs.Assembling.{Extends, Adds, constants_of, slots_beside, slots_of}
use Rattle.emit_assembly.specs.Operations.{Has}
use Rattle.emit_assembly.proofs.Placed.{AreMade}
use Rattle.emit_assembly.proofs.assembly.assemble.Given as goal

abbrev pub invariant-loop-i : goal.invariant-loop-i
invariant-loop-i l = record {
  kept : Extends l.fn.pool l.pool;
  added : Adds l.code l.fn.pool l.pool;
  seen : List Constant;
  has : All (Has l.pool) seen;
  few : length l.pool + slots_beside seen (constants_of (drop l.i l.code)) ≤ length l.fn.pool + slots_of l.code;
  made : AreMade l.references l.code l.i l.pool l.ops.items;
}
