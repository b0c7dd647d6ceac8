use Rattle.std.proofs.Common.{◌≡◌, ◌++◌}
use Rattle.std.specs.Prelude.{drop}
use Rattle.data_strings.specs.Texts as texts
use Rattle.data_strings.proofs.texts.page_text.Given as goal

-- the text so far and that of the words that are left
abbrev pub invariant-loop-word : goal.invariant-loop-word
invariant-loop-word l = l.text.items ++ texts.page_text (drop l.word-index l.words) ≡ texts.page_text l.words
