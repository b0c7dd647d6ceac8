-- What holds of a value that was made.
use Rattle.std.proofs.Common.{IfOk, Result, Ok, Err}

pub if-made : {A E : Type 0} (P Q : A → Type 0) → ((a : A) → P a → Q a) → (r : Result A E) → IfOk r P → IfOk r Q
if-made P Q map (Ok a) p = map a p
if-made P Q map (Err e) p = tt
