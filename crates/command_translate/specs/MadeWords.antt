-- A program of so many blocks, at 00400000 (hexadecimal). It goes through the even blocks, then through the odd ones, and then to its end.
use Rattle.std.specs.Prelude.{ℕ, zero, suc, ◌+◌, ◌*◌, ◌/◌, ◌%◌, ◌^◌, ◌==◌, ◌&&◌, nat_lt, if◌then◌else◌, List, [], ◌∷◌, ◌++◌}

-- A number for each block: the first has the count of blocks.
abbrev pub next_number : ℕ → ℕ
next_number x = (1664525 * x + 1013904223) % 2 ^ 32

-- the address of a block of six words; the end stands behind the last
abbrev pub place : ℕ → ℕ
place number = 0x00400000 + 24 * number

-- the block to which a block jumps, or the end: the next but one; behind the last even block comes block 1
abbrev pub successor : ℕ → ℕ → ℕ
successor count number =
    if nat_lt (number + 2) count then number + 2
    else if (number % 2 == 0) && nat_lt 1 count then 1
    else count

-- the two halves of a word
abbrev pub upper : ℕ → ℕ
upper w = w / 2 ^ 16

abbrev pub lower : ℕ → ℕ
lower w = w % 2 ^ 16

-- addiu $8,$8 and the upper half of x; lui $9 and ori $9,$9 with the target; jr $9; xori $8,$8 and the lower half of x; break 0
abbrev pub block_words : ℕ → ℕ → List ℕ
block_words target x =
    (0x25080000 + upper x) ∷ (0x3C090000 + upper target) ∷ (0x35290000 + lower target) ∷ 0x01200008
    ∷ (0x39080000 + lower x) ∷ 0x0000000D ∷ []

-- so many blocks from one on, which has the number x
abbrev pub blocks_from : ℕ → ℕ → ℕ → ℕ → List ℕ
blocks_from count number x zero = []
blocks_from count number x (suc left) =
    block_words (place (successor count number)) x ++ blocks_from count (number + 1) (next_number x) left

-- andi $4,$8,127; addiu $2,$0,1; syscall 0: it exits with the seven low bits of $8
abbrev pub end_words : List ℕ
end_words = 0x3104007F ∷ 0x24020001 ∷ 0x0000000C ∷ []

unfoldable pub made_words : ℕ → List ℕ
made_words count = blocks_from count 0 count count ++ end_words
