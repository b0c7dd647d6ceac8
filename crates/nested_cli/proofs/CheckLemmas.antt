-- What is so behind the checks of a command, and of the line behind its work.
use Rattle.std.proofs.Common.{◌≡◌, ℕ, List, Result, Ok, Err, IfErr, IfOk, subst, inl, inr}
use Rattle.command_deeds.specs.Checks.{Check, after_check}
use Rattle.command_deeds.specs.Ends.{CommandAnswer, Due, answers}
use Rattle.command_deeds.specs.World.{Seen}
use Rattle.command_deeds.specs.declared.done.Done.{Done}
use Rattle.command_deeds.specs.declared.done.Done.TheVariants as done
use Rattle.nested_cli.specs.Line.{Tells}

-- behind a check
pub checked : {A : Type 0} (Goal : Type 0) (due : Due) (check : Check A) → ((answer : CommandAnswer) → due ≡ answers answer → Goal)
    → IfErr check (λ answer. due ≡ answers answer) → IfOk check (λ a. Goal) → Goal
checked Goal due (Ok a) refusal refused done = done
checked Goal due (Err answer) refusal refused done = refusal answer refused

pub passing : {A : Type 0} (P Q : A → Type 0) (check : Check A) → ((a : A) → P a → Q a) → IfOk check P → IfOk check Q
passing P Q (Ok a) f p = f a p
passing P Q (Err answer) f p = p

-- behind two
pub checked-twice : {A B : Type 0} (Goal : Type 0) (P : A → B → Type 0) (due : Due) (one : Check A) (two : Check B) (next : A → Check B)
    → ((answer : CommandAnswer) → due ≡ answers answer → Goal) → two ≡ after_check one next
    → IfErr two (λ answer. due ≡ answers answer) → IfOk one (λ a. IfOk two (P a)) → ((a : A) (b : B) → P a b → Goal) → Goal
checked-twice Goal P due (Ok a) two next refusal is refused done f = checked Goal due two refusal refused (passing (P a) (λ b. Goal) two (f a) done)
checked-twice Goal P due (Err answer) two next refusal is refused done f =
    refusal answer (subst (λ check. IfErr check (λ answer. due ≡ answers answer)) is refused)

-- where the line is no write fault, the answer is the work's
pub not-told : (line : List ℕ) (old new : Seen (List ℕ)) (answer said : Done) → (said ≡ done.WriteFault → ⊥) → Tells line old new answer said
    → said ≡ answer
not-told line old new answer said none (inl told) = told.0
not-told line old new answer said none (inr told) = absurd (none told.0)
