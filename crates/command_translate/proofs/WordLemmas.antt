-- The words of the program, block by block.
use Rattle.std.proofs.Common.{◌≡◌, ℕ, zero, suc, ◌+◌, ◌-◌, ◌*◌, ◌<◌, ◌++◌, List, [], ◌∷◌, length, refl, sym, ap, ◌∙◌, arith, append_assoc}
use Rattle.std.proofs.lemmas.Grind.{flat_map-append}
use Rattle.std.proofs.lemmas.List.{length-append}
use Rattle.run_definition.specs.Words.{bytes_of_word}
use Rattle.elf_definition.specs.FileFields.{words}
use Rattle.command_translate.specs.MadeWords.{block_words, blocks_from, end_words, made_words, next_number, place, successor}

-- the first of the blocks that are left
pub block_first : (count number x left rest : ℕ) → left ≡ suc rest → words (blocks_from count number x left) ≡ words (block_words (place (successor count number)) x) ++ words (blocks_from count (number + 1) (next_number x) rest)
block_first count number x left rest is =
    ap (λ n. words (blocks_from count number x n)) is
    ∙ flat_map-append bytes_of_word (block_words (place (successor count number)) x) (blocks_from count (number + 1) (next_number x) rest)

-- another block stands behind those that were written
pub block_more : (count number x : ℕ) (old new all : List ℕ) → number < count → old ++ words (blocks_from count number x (count - number)) ≡ all → new ≡ old ++ words (block_words (place (successor count number)) x) → new ++ words (blocks_from count (number + 1) (next_number x) (count - (number + 1))) ≡ all
block_more count number x old new all below whole is =
    ap (λ bytes. bytes ++ words (blocks_from count (number + 1) (next_number x) (count - (number + 1)))) is
    ∙ append_assoc old (words (block_words (place (successor count number)) x)) (words (blocks_from count (number + 1) (next_number x) (count - (number + 1))))
    ∙ ap (λ bytes. old ++ bytes) (sym (block_first count number x (count - number) (count - (number + 1)) (omega arith)))
    ∙ whole

-- the blocks and the end stand behind nothing
pub all_written : (count : ℕ) (none blocks all : List ℕ) → none ≡ [] → blocks ≡ none ++ words (blocks_from count 0 count count) → all ≡ blocks ++ words end_words → all ≡ words (made_words count)
unfolding made_words
all_written count none blocks all empty first last =
    last
    ∙ ap (λ bytes. bytes ++ words end_words) (first ∙ ap (λ bytes. bytes ++ words (blocks_from count 0 count count)) empty)
    ∙ sym (flat_map-append bytes_of_word (blocks_from count 0 count count) end_words)

-- ---- lengths

length_words : (ws : List ℕ) → length (words ws) ≡ 4 * length ws
length_words [] = refl
length_words (w ∷ ws) = omega (arith, length_words ws)

length_blocks : (count number x left : ℕ) → length (blocks_from count number x left) ≡ 6 * left
length_blocks count number x zero = refl
length_blocks count number x (suc left) = omega (arith, length_blocks count (number + 1) (next_number x) left)

pub length_made : (count : ℕ) → length (words (made_words count)) ≡ 24 * count + 12
unfolding made_words
length_made count =
    length_words (made_words count) ∙ omega (arith, length-append {A = ℕ} (blocks_from count 0 count count) end_words, length_blocks count 0 count count)
