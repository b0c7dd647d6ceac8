-- What a function that reads answers.
use Rattle.std.specs.Prelude.{◌≡◌, Result, Ok, Err}
use Rattle.class_definition.specs.declared.miss.Miss.{Miss}
use Rattle.class_format.specs.declared.failure.Failure.{Failure}
use Rattle.class_format.specs.declared.failure.Failure.TheVariants.{Missed, NoMemory}

-- a failure is the miss that reading meets; want of memory may come anywhere
abbrev pub Fails : {Y : Type 0} → Failure → Result Y Miss → Type 0
Fails (Missed miss) read = read ≡ Err miss
Fails NoMemory read = Unit {0}

-- the answer, seen by view, is what is read
abbrev pub Gives : {X Y : Type 0} → (X → Y) → Result X Failure → Result Y Miss → Type 0
Gives view (Ok x) read = read ≡ Ok (view x)
Gives view (Err e) read = Fails e read
