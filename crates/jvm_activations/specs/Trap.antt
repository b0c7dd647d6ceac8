-- The kinds of traps by their names.
use Rattle.std.specs.Prelude.{ℕ}
use Rattle.jvm_definition.specs.Effect.{null_trap, index_trap, size_trap, divisor_trap, frames_trap, room_trap}
use Rattle.jvm_activations.specs.declared.trap.Trap.{Trap}
use Rattle.jvm_activations.specs.declared.trap.Trap.TheVariants.{Null, Index, Size, Divisor, Frames, Room}

abbrev pub trap_kind : Trap → ℕ
trap_kind Null = null_trap
trap_kind Index = index_trap
trap_kind Size = size_trap
trap_kind Divisor = divisor_trap
trap_kind Frames = frames_trap
trap_kind Room = room_trap
