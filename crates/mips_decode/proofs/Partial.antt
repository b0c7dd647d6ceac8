-- LWL, LWR, SWL and SWR in programs: the memory word 11223344 and the register AABBCCDD, at each of the four bytes of a word.
use Rattle.std.proofs.Common.{◌≡◌, refl, ℕ, ◌+◌, List, [], ◌∷◌, map}
use Rattle.run_definition.specs.declared.order.Order.TheVariants.{Big}
use Rattle.mips_definition.specs.Memory.{word_at}
use Rattle.mips_definition.specs.State.{State, register}
use Rattle.mips_definition.specs.Table.{inst}
use Rattle.mips_decode.proofs.Programs.{run}

-- $8 is 7FFF0000 and the low half; the word 11223344 is stored there, and $10 is AABBCCDD
abbrev moves : ℕ → ℕ → List ℕ
moves low word =
    0x3c087fff ∷ (0x35080000 + low) ∷ 0x3c091122 ∷ 0x35293344 ∷ 0xad090000 ∷ 0x3c0aaabb ∷ 0x354accdd ∷ word ∷ []

abbrev after_moves : ℕ → ℕ → State
after_moves low word = (run (moves low word) 9 []).last

-- $10 after the access, at the four bytes of the word
abbrev registers : ℕ → ℕ → List ℕ
registers low word = map (λ b. register (after_moves low (word + b)) 10) (0 ∷ 1 ∷ 2 ∷ 3 ∷ [])

-- the word in memory after it
abbrev words : ℕ → ℕ → List ℕ
words low word = map (λ b. word_at Big (after_moves low (word + b)).memory (0x7fff0000 + low)) (0 ∷ 1 ∷ 2 ∷ 3 ∷ [])

lwl : registers 0xe000 0x890a0000 ≡ 0x11223344 ∷ 0x223344dd ∷ 0x3344ccdd ∷ 0x44bbccdd ∷ []
unfolding inst
lwl = refl

lwr : registers 0xe000 0x990a0000 ≡ 0xaabbcc11 ∷ 0xaabb1122 ∷ 0xaa112233 ∷ 0x11223344 ∷ []
unfolding inst
lwr = refl

swl : words 0xe000 0xa90a0000 ≡ 0xaabbccdd ∷ 0x11aabbcc ∷ 0x1122aabb ∷ 0x112233aa ∷ []
unfolding inst
swl = refl

swr : words 0xe000 0xb90a0000 ≡ 0xdd223344 ∷ 0xccdd3344 ∷ 0xbbccdd44 ∷ 0xaabbccdd ∷ []
unfolding inst
swr = refl

-- the same at the last word of the last page
lwl_at_end : registers 0xfffc 0x890a0000 ≡ 0x11223344 ∷ 0x223344dd ∷ 0x3344ccdd ∷ 0x44bbccdd ∷ []
unfolding inst
lwl_at_end = refl

lwr_at_end : registers 0xfffc 0x990a0000 ≡ 0xaabbcc11 ∷ 0xaabb1122 ∷ 0xaa112233 ∷ 0x11223344 ∷ []
unfolding inst
lwr_at_end = refl

swl_at_end : words 0xfffc 0xa90a0000 ≡ 0xaabbccdd ∷ 0x11aabbcc ∷ 0x1122aabb ∷ 0x112233aa ∷ []
unfolding inst
swl_at_end = refl

swr_at_end : words 0xfffc 0xb90a0000 ≡ 0xdd223344 ∷ 0xccdd3344 ∷ 0xbbccdd44 ∷ 0xaabbccdd ∷ []
unfolding inst
swr_at_end = refl
