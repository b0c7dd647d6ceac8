use Rattle.std.proofs.Common.{◌≡◌, drop, take}
use Rattle.std.specs.Prelude.{bit_or}
use Rattle.std.specs.List.{flat_map}
use Rattle.block_builder.specs.Registers.{register_set, unit_reads, unit_writes}
use Rattle.block_builder.proofs.builder.words_from.Given as goal

-- the registers so far, and those of the units that are left
abbrev pub invariant-loop-k : goal.invariant-loop-k
invariant-loop-k l =
    let own = take l.words (drop l.first l.units) in
    record {
      reads : bit_or l.reads (register_set (flat_map unit_reads (drop l.k own))) ≡ register_set (flat_map unit_reads own);
      writes : bit_or l.writes (register_set (flat_map unit_writes (drop l.k own))) ≡ register_set (flat_map unit_writes own);
    }
