-- Worked programs that end in a fault: its kind, the address of the instruction, and its value.
use Rattle.std.proofs.Common.{◌≡◌, refl, ℕ, List, [], ◌∷◌, negsuc}
use Rattle.run_definition.specs.declared.outcome.Outcome.{Outcome}
use Rattle.run_definition.specs.declared.outcome.Outcome.TheVariants.{Faulted}
use Rattle.mips_definition.specs.Effect.{fetch_fault, pc_align_fault, read_unmapped_fault, write_refused_fault, read_align_fault, write_align_fault, overflow_fault, break_fault, reserved_fault, branch_in_slot_fault}
use Rattle.mips_definition.specs.Table.{inst}
use Rattle.mips_decode.proofs.Programs.{run, value, numbers}

abbrev fault_at : ℕ → ℕ → ℕ → Outcome
fault_at kind pc value = Faulted (record { kind = kind; pc = pc; value = value })

reserved : (run (0xfc000000 ∷ []) 2 []).outcome ≡ fault_at reserved_fault 0x00400000 0xfc000000
unfolding inst
reserved = refl

-- a jump to a branch: its slot is the last instruction before a call and the end of the code
abbrev branch_first : List ℕ
branch_first = 0x3c080040 ∷ 0x35080010 ∷ 0x01000008 ∷ 0x24040000 ∷ 0x10000003 ∷ 0x24840005 ∷ 0x24840001 ∷ 0x24020001 ∷ 0x0000000c ∷ []

branch_first_faults : (run branch_first 9 (value (negsuc 21) ∷ [])).outcome ≡ fault_at fetch_fault 0x00400024 0x00400024
unfolding inst
branch_first_faults = refl

branch_first_asks : numbers (run branch_first 9 (value (negsuc 21) ∷ [])) ≡ 0 ∷ 0 ∷ []
unfolding inst
branch_first_asks = refl

branch_in_slot : (run (0x10000001 ∷ 0x10000001 ∷ []) 3 []).outcome ≡ fault_at branch_in_slot_fault 0x00400004 0x10000001
unfolding inst
branch_in_slot = refl

-- a jump goes where it is told, and the next fetch faults: alignment is tested first
unaligned_pc : (run (0x3c080040 ∷ 0x35080002 ∷ 0x01000008 ∷ 0x00000000 ∷ []) 6 []).outcome ≡ fault_at pc_align_fault 0x00400002 0x00400002
unfolding inst
unaligned_pc = refl

unaligned_pc_outside : (run (0x3c081000 ∷ 0x35080002 ∷ 0x01000008 ∷ 0x00000000 ∷ []) 6 []).outcome ≡ fault_at pc_align_fault 0x10000002 0x10000002
unfolding inst
unaligned_pc_outside = refl

outside_code : (run (0x3c081000 ∷ 0x35080000 ∷ 0x01000008 ∷ 0x00000000 ∷ []) 6 []).outcome ≡ fault_at fetch_fault 0x10000000 0x10000000
unfolding inst
outside_code = refl

past_code : (run (0x24040007 ∷ []) 3 []).outcome ≡ fault_at fetch_fault 0x00400004 0x00400004
unfolding inst
past_code = refl

overflow : (run (0x3c087fff ∷ 0x3508ffff ∷ 0x24090001 ∷ 0x01095020 ∷ []) 5 []).outcome ≡ fault_at overflow_fault 0x0040000c 0x01095020
unfolding inst
overflow = refl

code_written : (run (0x3c080040 ∷ 0xad000000 ∷ []) 3 []).outcome ≡ fault_at write_refused_fault 0x00400004 0x00400000
unfolding inst
code_written = refl

unmapped_read : (run (0x3c088000 ∷ 0x8d090000 ∷ []) 3 []).outcome ≡ fault_at read_unmapped_fault 0x00400004 0x80000000
unfolding inst
unmapped_read = refl

-- alignment is tested before the memory is
unaligned_read : (run (0x8c090001 ∷ []) 2 []).outcome ≡ fault_at read_align_fault 0x00400000 0x00000001
unfolding inst
unaligned_read = refl

unaligned_write : (run (0xa4090001 ∷ []) 2 []).outcome ≡ fault_at write_align_fault 0x00400000 0x00000001
unfolding inst
unaligned_write = refl

-- a BREAK shows its code, also in the slot of a branch that is not taken
breaks : (run (0x14000001 ∷ 0x0000cacd ∷ []) 3 []).outcome ≡ fault_at break_fault 0x00400004 0x0000032b
unfolding inst
breaks = refl
