-- JVM Specification, 4.10: what verification is for.
use Rattle.std.specs.Prelude.{◌≢◌, ℕ, List}
use Rattle.run_definition.specs.Answer.{Answer, next_answer}
use Rattle.run_definition.specs.Run.{run_of}
use Rattle.run_definition.specs.declared.outcome.Outcome.TheVariants.{Trapped}
use Rattle.jvm_definition.specs.Program.{Program}
use Rattle.jvm_definition.specs.Step.{jvm_start, jvm_turn}

-- no run of a program comes to a step that no rule gives, in any number of words for arrays and over all answers of the system
abbrev pub NeverStuck : Program → Type 0
NeverStuck program =
    (words n : ℕ) (answers : List Answer)
    → (run_of (jvm_turn program words) next_answer n (jvm_start program) answers).outcome ≢ Trapped 0
