-- JVM Specification, 6.5: how long instructions are.
use Rattle.std.specs.Prelude.{ℕ, ◌+◌, ◌*◌, length}
use Rattle.class_definition.specs.declared.op.Op.{Op}
use Rattle.class_definition.specs.declared.op.Op.TheVariants.{Bipush, Sipush, Ldc, Pool, Local, Iinc, Branch, GotoW, TableSwitch, LookupSwitch, Newarray}
use Rattle.class_definition.specs.Switches.{pad_of}

-- the number of bytes of an instruction at a place
abbrev pub size_at : ℕ → Op → ℕ
size_at at (Bipush n) = 2
size_at at (Sipush n) = 3
size_at at (Ldc slot) = 2
size_at at (Pool name slot) = 3
size_at at (Local name index) = 2
size_at at (Iinc index n) = 3
size_at at (Branch name target) = 3
size_at at (GotoW target) = 5
size_at at (TableSwitch s) = (13 + pad_of at) + 4 * length s.targets
size_at at (LookupSwitch s) = (9 + pad_of at) + 8 * length s.pairs
size_at at Newarray = 2
size_at at _ = 1
