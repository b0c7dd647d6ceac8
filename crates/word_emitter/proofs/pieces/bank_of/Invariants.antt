use Rattle.std.proofs.Common.{◌≡◌, drop}
use Rattle.std.specs.Prelude.{bit_or}
use Rattle.std.specs.List.{flat_map}
use Rattle.block_builder.specs.Registers.{register_set, unit_reads}
use Rattle.word_emitter.proofs.pieces.bank_of.Given as goal

-- the registers so far, and those of the units that are left
abbrev pub invariant-loop-unit : goal.invariant-loop-unit
invariant-loop-unit l =
    bit_or l.reads (register_set (flat_map unit_reads (drop l.unit-index l.units))) ≡ register_set (flat_map unit_reads l.units)
