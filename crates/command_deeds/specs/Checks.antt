-- Checks: each gives a value with which the work goes on, or the answer that refuses.
use Rattle.std.specs.Prelude.{◌≡◌, ℕ, List, Option, Some, None, Result, Ok, Err, Vec}
use Rattle.std.specs.declared.alloc.Global.{Global}
use Rattle.nv_outside.specs.Files.{Files}
use Rattle.command_words.specs.declared.named.Named.{Named}
use Rattle.command_deeds.specs.Answers.{CommandAnswer, lacks, says}
use Rattle.command_deeds.specs.declared.done.Done.{Done}

abbrev pub Check : Type 0 → Type 0
Check A = Result A CommandAnswer

-- a check behind a check: it is made where that passed, and where that refused, so it does
abbrev pub after_check : {A B : Type 0} → Check A → (A → Check B) → Check B
after_check (Ok value) next = next value
after_check (Err answer) next = Err answer

-- the same where the second is a relation
abbrev pub Behind : {A B : Type 0} → Check A → (A → Check B → Type 0) → Check B → Type 0
Behind (Ok value) IsChecked check = IsChecked value check
Behind (Err answer) IsChecked check = check ≡ Err answer

-- a value, unless there is a fault, which is told so
abbrev pub unless_fault : {A F : Type 0} → Option F → (F → Done) → A → Check A
unless_fault None refusal value = Ok value
unless_fault (Some fault) refusal value = Err (says (refusal fault))

-- a value, if there is one; or there is no file of this name, which a word gives
abbrev pub there : {A : Type 0} → ℕ → List ℕ → Option A → Check A
there word name None = Err (lacks word name)
there word name (Some value) = Ok value

-- the bytes of the file of a name
abbrev pub file_at : Files → ℕ → List ℕ → Check (List ℕ)
file_at files word name = there word name (files name)

abbrev pub file_that_is_named : Files → Named → Check (List ℕ)
file_that_is_named files name = file_at files name.word name.text

-- what the value of a check shows
abbrev pub shown : {A B E : Type 0} → (A → B) → Result A E → Result B E
shown view (Ok value) = Ok (view value)
shown view (Err answer) = Err answer

-- the bytes of a file that was loaded or made
abbrev pub bytes_of : Check (Vec ℕ Global) → Check (List ℕ)
bytes_of check = shown (λ (v : Vec ℕ Global). v.items) check
