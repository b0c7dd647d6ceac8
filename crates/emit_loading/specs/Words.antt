-- The method that puts words into a page, whose arguments are an array of ints, if there is one, and a text. The text has five characters
-- of 7 bits for each word, most significant first, of the 35 bits that are three zeros and the word.
use Rattle.std.specs.Prelude.{ℕ, List, [], ◌∷◌, ◌++◌, length}
use Rattle.jvm_definition.specs.declared.array_name.ArrayName.TheVariants.{Iastore}
use Rattle.jvm_definition.specs.declared.branch_name.BranchName.TheVariants.{Ifnull}
use Rattle.jvm_definition.specs.declared.int_arithmetic.IntArithmetic.TheVariants.{Iadd}
use Rattle.jvm_definition.specs.declared.instruction.Instruction.TheVariants as instructions
use Rattle.emit_steps.specs.declared.step.Step.{Step}
use Rattle.emit_steps.specs.Offsets.{CodeOffset}
use Rattle.emit_steps.specs.declared.step.Step.TheVariants.{Does, Skips, Leaves}
use Rattle.emit_steps.specs.Widths.{size}
use Rattle.emit_instructions.specs.Access.{push_word, arithmetic}
use Rattle.emit_steps.specs.Returning.{returns}
use Rattle.emit_loading.specs.Parts.{load, store, load_reference, shift_left, next_character, ended_code}

-- ---- Local variables: 0 the array, 1 the text, 2 the word's number, 3 the place in the text.

-- there is no array: that many of the following steps are passed over
abbrev pub absent_code : ℕ → List Step
absent_code over = load_reference 0 ∷ Skips Ifnull over ∷ []

abbrev pub begun_code : List Step
begun_code = push_word 0 ∷ store 2 ∷ push_word 0 ∷ store 3 ∷ []

-- the bits on the stack, with those of the next character behind them
abbrev pub joined_code : List Step
joined_code = push_word 7 ∷ shift_left ∷ (next_character 1 3 ++ arithmetic Iadd ∷ [])

-- the word of the next five characters
abbrev pub word_code : List Step
word_code = next_character 1 3 ++ joined_code ++ joined_code ++ joined_code ++ joined_code

-- ---- The method: a loop over the words, if there is an array.

abbrev pub words_offset : CodeOffset
words_offset = size (absent_code 0 ++ begun_code)

abbrev pub put_code : List Step
put_code = Does (instructions.Array Iastore) ∷ Does (instructions.Increment 2 1)
    ∷ Leaves words_offset ∷ []

abbrev pub words_body : List Step
words_body = load_reference 0 ∷ load 2 ∷ (word_code ++ put_code)

abbrev pub words_loop : List Step
words_loop = begun_code ++ ended_code 1 3 (length words_body) ++ words_body

abbrev pub words_code : List Step
words_code = absent_code (length words_loop) ++ words_loop ++ returns ∷ []
