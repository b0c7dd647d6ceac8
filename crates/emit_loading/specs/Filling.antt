-- The method of a class that puts the words of the class's texts into pages.
use Rattle.std.specs.Prelude.{ℕ, List, [], ◌∷◌, ◌++◌}
use Rattle.std.specs.List.{flat_map}
use Rattle.jvm_definition.specs.declared.array_name.ArrayName.TheVariants.{Aaload}
use Rattle.jvm_definition.specs.declared.constant.Constant.TheVariants as constants
use Rattle.jvm_definition.specs.declared.instruction.Instruction.TheVariants as instructions
use Rattle.emit_steps.specs.declared.step.Step.{Step}
use Rattle.emit_steps.specs.declared.step.Step.TheVariants.{Does}
use Rattle.emit_instructions.specs.Access.{push_word}
use Rattle.emit_loading.specs.declared.page_slot.PageSlot.{PageSlot}
use Rattle.emit_steps.specs.Returning.{returns}
use Rattle.emit_loading.specs.Parts.{call, readable_table}

-- the text in a slot of a class
abbrev pub push_text : ℕ → ℕ → Step
push_text class slot = Does (instructions.Push (constants.Text class slot))

-- a page and its text are given to the method that puts words into pages
abbrev pub page_code : ℕ → ℕ → PageSlot → List Step
page_code class words s =
    readable_table ∷ push_word s.page ∷ Does (instructions.Array Aaload) ∷ push_text class s.slot
    ∷ call words ∷ []

abbrev pub filled_code : List PageSlot → ℕ → ℕ → List Step
filled_code slots class words = flat_map (page_code class words) slots

abbrev pub fill_code : List PageSlot → ℕ → ℕ → List Step
fill_code slots class words = filled_code slots class words ++ returns ∷ []
