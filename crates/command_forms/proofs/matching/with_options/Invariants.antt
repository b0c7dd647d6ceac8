use Rattle.std.proofs.Common.{◌≡◌, map, take}
use Rattle.clap.specs.Words.{app_of}
use Rattle.command_forms.specs.Answers.{shown}
use Rattle.command_forms.specs.Builder.{option_rule, with_rules}
use Rattle.command_forms.proofs.matching.with_options.Given as goal

abbrev pub invariant-loop-name : goal.invariant-loop-name
invariant-loop-name l = app_of l.parser ≡ with_rules (map option_rule (shown (take l.name-index l.options))) (app_of l.initial.parser)
