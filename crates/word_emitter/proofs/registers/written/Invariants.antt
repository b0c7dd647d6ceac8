use Rattle.std.proofs.Common.{◌≡◌, drop}
use Rattle.std.specs.Prelude.{bit_or}
use Rattle.std.specs.List.{flat_map}
use Rattle.block_builder.specs.Registers.{register_set, unit_writes}
use Rattle.word_emitter.proofs.registers.written.Given as goal

-- the registers so far, and those of the units that are left
abbrev pub invariant-loop-unit : goal.invariant-loop-unit
invariant-loop-unit l =
    bit_or l.writes (register_set (flat_map unit_writes (drop l.unit-index l.units))) ≡ register_set (flat_map unit_writes l.units)
