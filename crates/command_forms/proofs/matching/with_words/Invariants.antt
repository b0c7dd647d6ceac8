use Rattle.std.proofs.Common.{◌≡◌, take}
use Rattle.clap.specs.Words.{app_of}
use Rattle.command_forms.specs.Answers.{shown}
use Rattle.command_forms.specs.Builder.{with_rules, word_rules}
use Rattle.command_forms.proofs.matching.with_words.Given as goal

abbrev pub invariant-loop-place : goal.invariant-loop-place
invariant-loop-place l = app_of l.parser ≡ with_rules (word_rules 1 (shown (take l.place l.names))) (app_of l.initial.parser)
