-- Each word of the program has 32 bits, and is no floating-point instruction.
use Rattle.std.proofs.Common.{◌≡◌, ℕ, zero, suc, ◌+◌, ◌*◌, ◌%◌, ◌^◌, ◌<◌, ◌≤◌, ◌==◌, false, [], ◌∷◌, refl, arith}
use Rattle.std.specs.List.{All}
use Rattle.std.proofs.lemmas.Bool.Decides.{nat_tests}
use Rattle.std.proofs.lemmas.List.Elements.{All-append, All-cons, All-nil}
use Rattle.mips_definition.specs.Table.{is_float, op_of}
use Rattle.run_definition.specs.Words.{IsWord}
use Rattle.command_translate.specs.MadeWords.{block_words, blocks_from, end_words, lower, made_words, next_number, place, successor, upper}

abbrev pub IsPlain : ℕ → Type 0
IsPlain w = IsWord w × (is_float w ≡ false)

plain_op : (w op : ℕ) → op_of w ≡ op → (op == 0x11) ≡ false → (op == 0x31) ≡ false → (op == 0x39) ≡ false → is_float w ≡ false
plain_op w op is a b c = rw is (rw a (rw b c))

-- a half beside a word of which it is no part
plain_half : (first op half : ℕ) → first ≡ 2 ^ 26 * op + first % 2 ^ 26 → first % 2 ^ 16 ≡ 0 → op < 2 ^ 6 → half < 2 ^ 16
    → (op == 0x11) ≡ false → (op == 0x31) ≡ false → (op == 0x39) ≡ false → IsPlain (first + half)
plain_half first op half is even small short a b c =
    (omega (arith, is, even, small, short), plain_op (first + half) op (omega (arith, is, even, small, short)) a b c)

plain_addiu : (half : ℕ) → half < 2 ^ 16 → IsPlain (0x25080000 + half)
plain_addiu half short = plain_half 0x25080000 0x09 half refl refl (omega arith) short refl refl refl

plain_lui : (half : ℕ) → half < 2 ^ 16 → IsPlain (0x3C090000 + half)
plain_lui half short = plain_half 0x3C090000 0x0F half refl refl (omega arith) short refl refl refl

plain_ori : (half : ℕ) → half < 2 ^ 16 → IsPlain (0x35290000 + half)
plain_ori half short = plain_half 0x35290000 0x0D half refl refl (omega arith) short refl refl refl

plain_xori : (half : ℕ) → half < 2 ^ 16 → IsPlain (0x39080000 + half)
plain_xori half short = plain_half 0x39080000 0x0E half refl refl (omega arith) short refl refl refl

pub successor_within : (count number : ℕ) → successor count number ≤ count
successor_within count number = grind (arith, nat_tests)

pub place_is_word : (count number : ℕ) → count ≤ 65536 → place (successor count number) < 2 ^ 32
place_is_word count number few = omega (arith, successor_within count number, few)

plain_block : (target x : ℕ) → target < 2 ^ 32 → x < 2 ^ 32 → All IsPlain (block_words target x)
plain_block target x low small =
    let last = 0x0000000D ∷ [] in
    let slot = (0x39080000 + lower x) ∷ last in
    let jump = 0x01200008 ∷ slot in
    let second = (0x35290000 + lower target) ∷ jump in
    let first = (0x3C090000 + upper target) ∷ second in
    All-cons IsPlain (0x25080000 + upper x) first (plain_addiu (upper x) (omega (arith, small)))
    (All-cons IsPlain (0x3C090000 + upper target) second (plain_lui (upper target) (omega (arith, low)))
    (All-cons IsPlain (0x35290000 + lower target) jump (plain_ori (lower target) (omega arith))
    (All-cons IsPlain 0x01200008 slot (omega arith, refl)
    (All-cons IsPlain (0x39080000 + lower x) last (plain_xori (lower x) (omega arith))
    (All-cons IsPlain 0x0000000D [] (omega arith, refl) (All-nil IsPlain))))))

plain_blocks : (count number x left : ℕ) → count ≤ 65536 → x < 2 ^ 32 → All IsPlain (blocks_from count number x left)
plain_blocks count number x zero few small = All-nil IsPlain
plain_blocks count number x (suc left) few small =
    All-append IsPlain (block_words (place (successor count number)) x) (blocks_from count (number + 1) (next_number x) left)
    (plain_block (place (successor count number)) x (place_is_word count number few) small)
    (plain_blocks count (number + 1) (next_number x) left few (omega arith))

plain_end : All IsPlain end_words
plain_end =
    All-cons IsPlain 0x3104007F (0x24020001 ∷ 0x0000000C ∷ []) (omega arith, refl)
    (All-cons IsPlain 0x24020001 (0x0000000C ∷ []) (omega arith, refl) (All-cons IsPlain 0x0000000C [] (omega arith, refl) (All-nil IsPlain)))

pub plain_words : (count : ℕ) → count ≤ 65536 → All IsPlain (made_words count)
unfolding made_words
plain_words count few = All-append IsPlain (blocks_from count 0 count count) end_words (plain_blocks count 0 count count few (omega (arith, few))) plain_end
