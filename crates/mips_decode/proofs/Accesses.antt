-- Loads and stores of single instructions in both orders, over the word 80FF7F01 at 7FFFE000.
use Rattle.std.proofs.Common.{◌≡◌, refl, ℕ, List, [], ◌∷◌, replicate, true, false, ◌==◌, map}
use Rattle.run_definition.specs.declared.order.Order.{Order}
use Rattle.run_definition.specs.declared.order.Order.TheVariants.{Big, Little}
use Rattle.run_definition.specs.Memory.{Memory}
use Rattle.mips_definition.specs.Memory.{with_word, word_at}
use Rattle.mips_definition.specs.Loads.{load_aligned, loaded_word, store_aligned, memory_stored, store_allowed}
use Rattle.mips_definition.specs.declared.names.load_name.LoadName.TheVariants.{Lb, Lh, Lwl, Lw, Lbu, Lhu, Lwr}
use Rattle.mips_definition.specs.declared.names.store_name.StoreName.TheVariants.{Sb, Sh, Swl, Sw, Swr}
use Rattle.mips_decode.proofs.Programs.{program_memory}

abbrev memory_in : Order → Memory
memory_in order = with_word order (program_memory []) 0x7fffe000 0x80ff7f01

big_loads : map (λ name. loaded_word name Big (memory_in Big) 0x7fffe000 0) (Lb ∷ Lbu ∷ Lh ∷ Lhu ∷ Lw ∷ []) ≡ 0xffffff80 ∷ 0x80 ∷ 0xffff80ff ∷ 0x80ff ∷ 0x80ff7f01 ∷ []
big_loads = refl

little_loads : map (λ name. loaded_word name Little (memory_in Little) 0x7fffe000 0) (Lb ∷ Lbu ∷ Lh ∷ Lhu ∷ Lw ∷ []) ≡ 1 ∷ 1 ∷ 0x7f01 ∷ 0x7f01 ∷ 0x80ff7f01 ∷ []
little_loads = refl

-- the word after a store of AABBCCDD at its second half
abbrev word_after : Order → Memory → ℕ
word_after order m = word_at order m 0x7fffe000

big_stores : map (λ name. word_after Big (memory_stored name Big (memory_in Big) 0x7fffe002 0xaabbccdd)) (Sb ∷ Sh ∷ []) ≡ 0x80ffdd01 ∷ 0x80ffccdd ∷ []
big_stores = refl

little_stores : map (λ name. word_after Little (memory_stored name Little (memory_in Little) 0x7fffe002 0xaabbccdd)) (Sb ∷ Sh ∷ []) ≡ 0x80dd7f01 ∷ 0xccdd7f01 ∷ []
little_stores = refl

-- in little-endian order the left part goes from the start of the word up to the address, and the right part from there to its end
abbrev offsets : List ℕ
offsets = 0x7fffe000 ∷ 0x7fffe001 ∷ 0x7fffe002 ∷ 0x7fffe003 ∷ []

little_lwl : map (λ a. loaded_word Lwl Little (memory_in Little) a 0xaabbccdd) offsets ≡ 0x01bbccdd ∷ 0x7f01ccdd ∷ 0xff7f01dd ∷ 0x80ff7f01 ∷ []
little_lwl = refl

little_lwr : map (λ a. loaded_word Lwr Little (memory_in Little) a 0xaabbccdd) offsets ≡ 0x80ff7f01 ∷ 0xaa80ff7f ∷ 0xaabb80ff ∷ 0xaabbcc80 ∷ []
little_lwr = refl

little_swl : map (λ a. word_after Little (memory_stored Swl Little (memory_in Little) a 0xaabbccdd)) offsets ≡ 0x80ff7faa ∷ 0x80ffaabb ∷ 0x80aabbcc ∷ 0xaabbccdd ∷ []
little_swl = refl

little_swr : map (λ a. word_after Little (memory_stored Swr Little (memory_in Little) a 0xaabbccdd)) offsets ≡ 0xaabbccdd ∷ 0xbbccdd01 ∷ 0xccdd7f01 ∷ 0xddff7f01 ∷ []
little_swr = refl

-- which addresses each access takes, of a multiple of 4 and the three after it
abbrev fours : List ℕ
fours = 4 ∷ 5 ∷ 6 ∷ 7 ∷ []

byte_alignments : map (λ name. map (load_aligned name) fours) (Lb ∷ Lbu ∷ Lwl ∷ Lwr ∷ []) ≡ replicate 4 (true ∷ true ∷ true ∷ true ∷ [])
byte_alignments = refl

load_alignments : map (λ name. map (load_aligned name) fours) (Lh ∷ Lhu ∷ Lw ∷ [])
    ≡ (true ∷ false ∷ true ∷ false ∷ []) ∷ (true ∷ false ∷ true ∷ false ∷ []) ∷ (true ∷ false ∷ false ∷ false ∷ []) ∷ []
load_alignments = refl

byte_store_alignments : map (λ name. map (store_aligned name) fours) (Sb ∷ Swl ∷ Swr ∷ []) ≡ replicate 3 (true ∷ true ∷ true ∷ true ∷ [])
byte_store_alignments = refl

store_alignments : map (λ name. map (store_aligned name) fours) (Sh ∷ Sw ∷ []) ≡ (true ∷ false ∷ true ∷ false ∷ []) ∷ (true ∷ false ∷ false ∷ false ∷ []) ∷ []
store_alignments = refl

-- a store is refused whole where one of its bytes may not be written
abbrev byte_writable : ℕ → Memory
byte_writable a = record (program_memory []) { writable = λ k. k == a }

refused : map (λ name. store_allowed name Big (byte_writable 0x7fffe001) 0x7fffe001) (Sb ∷ Sh ∷ Swl ∷ Sw ∷ Swr ∷ []) ≡ true ∷ false ∷ false ∷ false ∷ false ∷ []
refused = refl

refused_before : map (λ name. store_allowed name Big (byte_writable 0x7fffe000) 0x7fffe000) (Sb ∷ Sh ∷ Swl ∷ Sw ∷ Swr ∷ []) ≡ true ∷ false ∷ false ∷ false ∷ true ∷ []
refused_before = refl
