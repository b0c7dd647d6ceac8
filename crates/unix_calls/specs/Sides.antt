-- The sides of the console, by number.
use Rattle.std.specs.Prelude.{ℕ, None, Some}
use Rattle.unix_definition.specs.Opened.{numbered_at}
use Rattle.unix_definition.specs.declared.opened.Opened.{Opened}
use Rattle.unix_definition.specs.declared.target.Target.{Target}
use Rattle.unix_definition.specs.declared.target.Target.TheVariants.{File, Input, Output, ErrorOutput}

-- 1 is input, 2 output, 3 error output, and 0 none of them
abbrev pub side_of : Target → ℕ
side_of (File k) = 0
side_of Input = 1
side_of Output = 2
side_of ErrorOutput = 3

-- the side that a descriptor stands for
abbrev pub console_of : Opened → ℕ → ℕ
console_of opened fd =
    elim (numbered_at opened fd) [ None ↦ 0 | Some found ↦ side_of found.1.target ]
