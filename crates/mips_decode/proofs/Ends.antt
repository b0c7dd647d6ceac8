-- Worked programs that leave, wait or go on.
use Rattle.std.proofs.Common.{◌≡◌, refl, ℕ, zero, suc, List, [], ◌∷◌, ◌++◌, map, pos, negsuc}
use Rattle.run_definition.specs.Question.{Question, no_text, unreadable, bytes, missing, there}
use Rattle.run_definition.specs.Answer.{next_answer}
use Rattle.run_definition.specs.Run.{run_of}
use Rattle.run_definition.specs.declared.outcome.Outcome.TheVariants.{Exited, Waiting, Going}
use Rattle.run_definition.specs.declared.outcome.Outcome.{Outcome}
use Rattle.mips_definition.specs.State.{register}
use Rattle.mips_definition.specs.Step.{turn}
use Rattle.mips_definition.specs.Table.{inst}
use Rattle.mips_decode.proofs.Programs.{run, started, value, numbers}

-- addiu $2,$0,1; addiu $4,$0,7; syscall: four steps, of which the first is the loader's call
abbrev seven : List ℕ
seven = 0x24020001 ∷ 0x24040007 ∷ 0x0000000c ∷ []

seven_goes : (run seven 3 []).outcome ≡ Going
unfolding inst
seven_goes = refl

seven_exits : (run seven 4 []).outcome ≡ Exited (pos 7)
unfolding inst
seven_exits = refl

seven_asks : numbers (run seven 4 []) ≡ 0 ∷ 1 ∷ []
unfolding inst
seven_asks = refl

-- without an answer the run waits, with the loader's question made: a room of 4,096 bytes in the argument page
seven_waits : (run_of turn next_answer 1 (started seven) []).outcome ≡ Waiting
unfolding inst
seven_waits = refl

seven_rooms : map (λ (q : Question). q.room) (run_of turn next_answer 1 (started seven) []).questions ≡ there 0x7fff_f000 4096 ∷ []
unfolding inst
seven_rooms = refl

-- the start, and the loader's call: its four words, and the registers and pc after it
start_registers : map (register (started seven)) (0 ∷ 4 ∷ 5 ∷ 28 ∷ 29 ∷ 30 ∷ []) ≡ 0 ∷ 0 ∷ 0 ∷ 0 ∷ 0x7fff_eff0 ∷ 0 ∷ []
start_registers = refl

loader_words : map (λ (q : Question). q.a0 ∷ q.a1 ∷ q.a2 ∷ q.a3 ∷ []) (run seven 1 []).questions ≡ (0x7fff_f000 ∷ 0x00401000 ∷ 4096 ∷ 0 ∷ []) ∷ []
loader_words = refl

loaded_registers : map (register (run seven 1 []).last) (2 ∷ 4 ∷ 5 ∷ 29 ∷ []) ≡ 0 ∷ 1 ∷ 0x7fff_f000 ∷ 0x7fff_eff0 ∷ []
loaded_registers = refl

loaded_pc : (run seven 1 []).last.pc ≡ 0x00400000
loaded_pc = refl

-- a word that is no instruction does no harm where it is not executed
reserved_behind : (run (seven ++ 0xfc000000 ∷ []) 4 []).outcome ≡ Exited (pos 7)
unfolding inst
reserved_behind = refl

-- a jump to the delay slot of a branch: the slot runs alone, and then straight on
slot_alone : (run (0x3c080040 ∷ 0x35080014 ∷ 0x01000008 ∷ 0x24040000 ∷ 0x10000003 ∷ 0x24840005 ∷ 0x24840001 ∷ 0x24020001 ∷ 0x0000000c ∷ []) 9 []).outcome ≡ Exited (pos 6)
unfolding inst
slot_alone = refl

-- a product by 0 leaves the dividend in HI and all ones in LO: 7 + FFFFFFFF is 6
zero_divisor : (run (0x24080007 ∷ 0x0100001a ∷ 0x00004812 ∷ 0x00002010 ∷ 0x00892021 ∷ 0x24020001 ∷ 0x0000000c ∷ []) 8 []).outcome ≡ Exited (pos 6)
unfolding inst
zero_divisor = refl

-- 80000000 by FFFFFFFF, with signs and without
least_divided : ℕ → List ℕ
least_divided divide = 0x3c088000 ∷ 0x2409ffff ∷ divide ∷ []

signed_lo : (run (least_divided 0x0109001a) 4 []).last.lo ≡ 0x80000000
unfolding least_divided inst
signed_lo = refl

signed_hi : (run (least_divided 0x0109001a) 4 []).last.hi ≡ 0
unfolding least_divided inst
signed_hi = refl

unsigned_lo : (run (least_divided 0x0109001b) 4 []).last.lo ≡ 0
unfolding least_divided inst
unsigned_lo = refl

unsigned_hi : (run (least_divided 0x0109001b) 4 []).last.hi ≡ 0x80000000
unfolding least_divided inst
unsigned_hi = refl

-- ADDU does not overflow: 7FFFFFFF + 1 shifted right by 24 is 128
sum_wraps : (run (0x3c087fff ∷ 0x3508ffff ∷ 0x24090001 ∷ 0x01095021 ∷ 0x000a2602 ∷ 0x24020001 ∷ 0x0000000c ∷ []) 8 []).outcome ≡ Exited (pos 128)
unfolding inst
sum_wraps = refl

-- a write of eight bytes of which four stand past the last address that can be read: it is answered -14, and the program leaves with 14
abbrev past_end : List ℕ
past_end = 0x3c057fff ∷ 0x34a5fffc ∷ 0x24060008 ∷ 0x24040001 ∷ 0x24020005 ∷ 0x0000000c ∷ 0x00022023 ∷ 0x24020001 ∷ 0x0000000c ∷ []

past_end_exits : (run past_end 10 (value (negsuc 13) ∷ [])).outcome ≡ Exited (pos 14)
unfolding inst
past_end_exits = refl

-- its text cannot be read
past_end_asks : map (λ (q : Question). q.text) (run past_end 7 []).questions ≡ no_text ∷ unreadable ∷ []
unfolding inst
past_end_asks = refl

-- a read of one byte from descriptor 0 into the code: the question has no room, and the answer is -14
read_code : List ℕ
read_code = 0x3c050040 ∷ 0x24060001 ∷ 0x24020004 ∷ 0x0000000c ∷ 0x00022023 ∷ 0x24020001 ∷ 0x0000000c ∷ []

read_code_asks : map (λ (q : Question). q.room) (run read_code 5 []).questions ≡ there 0x7fff_f000 4096 ∷ missing ∷ []
unfolding read_code inst
read_code_asks = refl

read_code_exits : (run read_code 8 (value (negsuc 13) ∷ [])).outcome ≡ Exited (pos 14)
unfolding read_code inst
read_code_exits = refl

-- an answer with a byte for which there is no room counts as none
read_code_waits : (run read_code 8 (record { value = pos 1; patch = 65 ∷ [] } ∷ [])).outcome ≡ Waiting
unfolding read_code inst
read_code_waits = refl

-- a read of one byte into the heap: the answer's byte is there for the next load
read_byte : (run (0x3c050040 ∷ 0x34a51000 ∷ 0x24060001 ∷ 0x24020004 ∷ 0x0000000c ∷ 0x90a40000 ∷ 0x24020001 ∷ 0x0000000c ∷ []) 9 (record { value = pos 1; patch = 65 ∷ [] } ∷ [])).outcome ≡ Exited (pos 65)
unfolding inst
read_byte = refl

-- a write of no bytes: its text is empty
write_nothing_asks : map (λ (q : Question). q.text) (run (0x24040001 ∷ 0x24020005 ∷ 0x0000000c ∷ []) 4 []).questions ≡ no_text ∷ bytes [] ∷ []
unfolding inst
write_nothing_asks = refl

-- a branch to itself goes on at each bound
endless : ℕ → Outcome
endless n = (run (0x1000ffff ∷ 0x00000000 ∷ []) n []).outcome

endless_0 : endless 0 ≡ Going
unfolding endless inst
endless_0 = refl

endless_1 : endless 1 ≡ Going
unfolding endless inst
endless_1 = refl

endless_1000 : endless 1000 ≡ Going
unfolding endless inst
endless_1000 = refl

-- a branch to the word after its slot, with 1 added to $4 in the slot, a thousand times: $4 begins at 1
chain : ℕ → List ℕ
chain zero = 0x24020001 ∷ 0x0000000c ∷ []
chain (suc n) = 0x10000001 ∷ 0x24840001 ∷ chain n

chain_exits : (run (chain 1000) 2003 []).outcome ≡ Exited (pos 1001)
unfolding chain inst
chain_exits = refl
