-- The blocks of known words.
use Rattle.std.proofs.Common.{◌≡◌, ℕ, ◌+◌, ◌^◌, List, [], ◌∷◌, map, Some, None, refl}
use Rattle.mips_definition.specs.Table.{inst}
use Rattle.delay_slots.specs.declared.unit.Unit.TheVariants.{Plain, Branch, SlotMissing, SlotIsBranch, Call}
use Rattle.delay_slots.specs.Units.{units_of}
use Rattle.block_builder.specs.declared.block.Block.{Block}
use Rattle.block_builder.specs.Leaders.{direct}
use Rattle.block_builder.specs.Blocks.{blocks_of, part_of}

block : ℕ → ℕ → ℕ → ℕ → Block
block first words reads writes = record { first = first; words = words; reads = reads; writes = writes }

-- SYSCALL reads r2 and r4 to r7, and writes r2
call_reads : ℕ
call_reads = 2 ^ 2 + 2 ^ 4 + 2 ^ 5 + 2 ^ 6 + 2 ^ 7

-- addiu $4,$4,1, a branch over one word with it in its slot, and a call: the branch's target is the word behind its slot
program : List ℕ
program = 0x24840001 ∷ 0x10000001 ∷ 0x24840001 ∷ 0x24020001 ∷ 0x0000000C ∷ []

blocks_of_a_program : blocks_of (units_of program) 0x00400000 ≡ block 0 3 (2 ^ 4) (2 ^ 4) ∷ block 3 2 call_reads (2 ^ 2) ∷ []
unfolding inst program block call_reads
blocks_of_a_program = refl

-- the branch with its slot outside, and the slot alone
parts_of_a_program : part_of (units_of program) 1 1 ∷ part_of (units_of program) 2 1 ∷ [] ≡ block 1 1 (2 ^ 4) (2 ^ 4) ∷ block 2 1 (2 ^ 4) (2 ^ 4) ∷ []
unfolding inst program block
parts_of_a_program = refl

-- branches over one word, one after the other
blocks_of_pairs : blocks_of (units_of (0x10000001 ∷ 0x24840001 ∷ 0x10000001 ∷ 0x24840001 ∷ 0x24020001 ∷ 0x0000000C ∷ [])) 0x00400000
    ≡ block 0 2 (2 ^ 4) (2 ^ 4) ∷ block 2 2 (2 ^ 4) (2 ^ 4) ∷ block 4 2 call_reads (2 ^ 2) ∷ []
unfolding inst block call_reads
blocks_of_pairs = refl

-- beql $5,$6 with addiu $4,$4,1 in its slot
block_of_a_likely_branch : blocks_of (units_of (0x50A60001 ∷ 0x24840001 ∷ 0x0000000C ∷ [])) 0x00400000
    ≡ block 0 2 (2 ^ 4 + 2 ^ 5 + 2 ^ 6) (2 ^ 4) ∷ block 2 1 call_reads (2 ^ 2) ∷ []
unfolding inst block call_reads
block_of_a_likely_branch = refl

-- a branch back to the second word, with nop in its slot
target_inside : blocks_of (units_of (0x24840001 ∷ 0x24840001 ∷ 0x1000FFFE ∷ 0x00000000 ∷ [])) 0x00400000
    ≡ block 0 1 (2 ^ 4) (2 ^ 4) ∷ block 1 3 (2 ^ 4) (2 ^ 4) ∷ []
unfolding inst block
target_inside = refl

-- the slot of the second branch is the target of the first
slot_is_a_leader : blocks_of (units_of (0x10000002 ∷ 0x24840001 ∷ 0x10000002 ∷ 0x24A50001 ∷ 0x24020001 ∷ 0x0000000C ∷ [])) 0x00400000
    ≡ block 0 2 (2 ^ 4) (2 ^ 4) ∷ block 2 2 (2 ^ 5) (2 ^ 5) ∷ block 3 1 (2 ^ 5) (2 ^ 5) ∷ block 4 1 0 (2 ^ 2) ∷ block 5 1 call_reads (2 ^ 2) ∷ []
unfolding inst block call_reads
slot_is_a_leader = refl

-- ll $5,0($4) and sc $5,0($4)
linked_accesses : blocks_of (units_of (0xC0850000 ∷ 0xE0850000 ∷ [])) 0x00400000 ≡ block 0 2 (2 ^ 4 + 2 ^ 5) (2 ^ 5) ∷ []
unfolding inst block
linked_accesses = refl

-- mult $4,$5 and mfhi $2
products : blocks_of (units_of (0x00850018 ∷ 0x00001010 ∷ [])) 0x00400000 ≡ block 0 2 (2 ^ 4 + 2 ^ 5 + 2 ^ 32) (2 ^ 2 + 2 ^ 32 + 2 ^ 33) ∷ []
unfolding inst block
products = refl

-- a jump that links to the word behind its slot, and a return
links : blocks_of (units_of (0x0C100002 ∷ 0x00000000 ∷ 0x03E00008 ∷ 0x00000000 ∷ [])) 0x00400000 ≡ block 0 2 0 (2 ^ 31) ∷ block 2 2 (2 ^ 31) 0 ∷ []
unfolding inst block
links = refl

-- a branch in the slot of a branch, and a branch without a slot: both are no Branch
without_slots : blocks_of (units_of (0x10000001 ∷ 0x10000001 ∷ [])) 0x00400000 ≡ block 0 1 0 0 ∷ block 1 1 0 0 ∷ []
unfolding inst block
without_slots = refl

-- direct targets, with and without a slot
targets : map (λ u. direct u 0x00400000) (Branch (inst 0x10000001) (inst 0x24840001) ∷ SlotMissing (inst 0x50000001) ∷ SlotIsBranch (inst 0x08100004) 0x10000001 ∷ Branch (inst 0x03E00008) (inst 0) ∷ Plain (inst 0x24840001) ∷ Call ∷ [])
    ≡ Some 0x00400008 ∷ Some 0x00400008 ∷ Some 0x00400010 ∷ None ∷ None ∷ None ∷ []
unfolding inst
targets = refl
