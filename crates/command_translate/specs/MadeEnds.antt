-- How the program ends.
use Rattle.std.specs.Prelude.{◌≡◌, ℕ, ◌≤◌, pos, List, [], ◌∷◌, codes}
use Rattle.elf_definition.specs.Start.{image_of}
use Rattle.mips_definition.specs.Step.{turn}
use Rattle.elf_definition.specs.Loading.{start_of}
use Rattle.run_definition.specs.Run.{run_of}
use Rattle.run_definition.specs.declared.outcome.Outcome.{Outcome}
use Rattle.run_definition.specs.declared.outcome.Outcome.TheVariants.{Exited}
use Rattle.unix_definition.specs.Unix.{reply, system_start}

-- it exits with a status of seven bits
pub record ExitsLow (outcome : Outcome) : Type 0 where
  pub status : ℕ
  pub low : status ≤ 127
  pub is : outcome ≡ Exited (pos status)

-- the outcome of so many steps from the start of a file's image, with 256 pages of heap and 64 of stack, on a system with 1,024
-- blocks, without files and input, and with the name as the one argument
abbrev pub made_outcome : ℕ → ℕ → List ℕ → Outcome
made_outcome steps moment file =
    (run_of turn reply steps (start_of (image_of (record { file = file; heap = 256; stack = 64 })))
    (system_start 1024 moment [] (codes "Main" ∷ []) [])).outcome
