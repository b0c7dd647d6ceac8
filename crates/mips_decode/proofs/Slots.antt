-- Links, delay slots, HI and LO and register 0, in programs that leave with $4.
use Rattle.std.proofs.Common.{◌≡◌, refl, [], ◌∷◌, pos, negsuc}
use Rattle.run_definition.specs.declared.outcome.Outcome.TheVariants.{Exited}
use Rattle.mips_definition.specs.Table.{inst}
use Rattle.mips_decode.proofs.Programs.{run, value}

-- jalr $8,$8 goes to the old $8, and its link 00400010 is then there: it leaves with the link's low 16 bits
jalr_target : (run (0x3c080040 ∷ 0x35080014 ∷ 0x01004009 ∷ 0x00000000 ∷ 0x0000000d ∷ 0x3104ffff ∷ 0x24020001 ∷ 0x0000000c ∷ []) 8 []).outcome ≡ Exited (pos 16)
unfolding inst
jalr_target = refl

-- bltzal $0 is not taken, and links
not_taken_links : (run (0x04100003 ∷ 0x00000000 ∷ 0x33e4ffff ∷ 0x24020001 ∷ 0x0000000c ∷ []) 6 []).outcome ≡ Exited (pos 8)
unfolding inst
not_taken_links = refl

-- bltzal $31 is decided by the old $31, which is 80000000
link_after_condition : (run (0x3c1f8000 ∷ 0x07f00003 ∷ 0x24040009 ∷ 0x0000000d ∷ 0x0000000d ∷ 0x24020001 ∷ 0x0000000c ∷ []) 6 []).outcome ≡ Exited (pos 9)
unfolding inst
link_after_condition = refl

-- jal: the slot runs before the word at the target, and $31 is the address after it
jal_links : (run (0x0c100004 ∷ 0x24040020 ∷ 0x0000000d ∷ 0x0000000d ∷ 0x009f2021 ∷ 0x3084ffff ∷ 0x24020001 ∷ 0x0000000c ∷ []) 7 []).outcome ≡ Exited (pos 40)
unfolding inst
jal_links = refl

-- a call in the slot of a taken branch: the answer comes, and the run goes on at the target
call_in_slot : (run (0x24020007 ∷ 0x10000002 ∷ 0x0000000c ∷ 0x0000000d ∷ 0x00402021 ∷ 0x24020001 ∷ 0x0000000c ∷ []) 7 (value (negsuc 11) ∷ [])).outcome ≡ Exited (negsuc 11)
unfolding inst
call_in_slot = refl

-- HI and LO are two
moved_hi : (run (0x24080005 ∷ 0x01000011 ∷ 0x24080007 ∷ 0x01000013 ∷ 0x00002010 ∷ 0x24020001 ∷ 0x0000000c ∷ []) 8 []).outcome ≡ Exited (pos 5)
unfolding inst
moved_hi = refl

moved_lo : (run (0x24080005 ∷ 0x01000011 ∷ 0x24080007 ∷ 0x01000013 ∷ 0x00002012 ∷ 0x24020001 ∷ 0x0000000c ∷ []) 8 []).outcome ≡ Exited (pos 7)
unfolding inst
moved_lo = refl

-- register 0 keeps its 0
zero_register : (run (0x24000007 ∷ 0x00002021 ∷ 0x24020001 ∷ 0x0000000c ∷ []) 5 []).outcome ≡ Exited (pos 0)
unfolding inst
zero_register = refl
