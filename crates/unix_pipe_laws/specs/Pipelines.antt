-- Machines whose stages stand one behind the other, and which stages are ready: what one writes to output waits in a pipe for the next.
use Rattle.std.specs.Prelude.{ℕ, zero, suc, ◌-◌, ◌==◌, nat_le, nat_lt, min, Bool, true, not, ◌||◌, ◌&&◌, if◌then◌else◌, List, length}
use Rattle.std.specs.List.{list_any}
use Rattle.run_definition.specs.Turn.{Turn, asks}
use Rattle.unix_definition.specs.System.{System}
use Rattle.unix_pipe_laws.specs.Stages.{PipeStage, reads_input, writes_output, is_over, input_left}

-- Machines on systems before their first call, the first of which has the input. A pipe that holds c bytes is full, and each machine makes at
-- most so many turns.
pub record Pipeline (S : Type 0) : Type 0 where
  pub turn : S → Turn S
  pub count : ℕ
  pub machines : ℕ → S
  pub systems : ℕ → System
  pub input : List ℕ
  pub c : ℕ
  pub bound : ℕ

-- Each stage, with what waits in the pipe before it; and of this, how many bytes its system has read ahead.
pub record PipeNet (S : Type 0) : Type 0 where
  pub stage : ℕ → PipeStage S
  pub ahead : ℕ → ℕ

abbrev pub is_over_at : {S : Type 0} → Pipeline S → PipeNet S → ℕ → Bool
is_over_at p net i = is_over p.bound (net.stage i)

-- the stage before is over; the first stage has all of its input
abbrev pub is_fed : {S : Type 0} → Pipeline S → PipeNet S → ℕ → Bool
is_fed p net zero = true
is_fed p net (suc i) = is_over_at p net i

abbrev pub is_newline : ℕ → Bool
is_newline b = b == 0x0A

-- so many bytes are there, or a line's end is
abbrev pub has_enough : ℕ → List ℕ → Bool
has_enough m rest = nat_le m (length rest) || list_any is_newline rest

-- how many bytes the pipe before a stage holds
abbrev pub in_pipe : {S : Type 0} → PipeNet S → ℕ → ℕ
in_pipe net i = length (input_left (net.stage i)) - net.ahead i

abbrev pub may_read : {S : Type 0} → Pipeline S → PipeNet S → ℕ → ℕ → Bool
may_read p net i n = is_fed p net i || has_enough (min n p.c) (input_left (net.stage i))

abbrev pub may_write : {S : Type 0} → Pipeline S → PipeNet S → ℕ → Bool
may_write p net i =
    suc i == p.count || (is_over_at p net (suc i) || nat_lt (in_pipe net (suc i)) p.c)

abbrev pub is_ready : {S : Type 0} → Pipeline S → PipeNet S → ℕ → Turn S → Bool
is_ready p net i (asks q next) =
    if reads_input (net.stage i).system.opened q then may_read p net i q.a2
    else if writes_output (net.stage i).system.opened q then may_write p net i
    else true
is_ready p net i other = true

-- what a stage does next
abbrev pub next_turn : {S : Type 0} → Pipeline S → PipeNet S → ℕ → Turn S
next_turn p net i = p.turn (net.stage i).machine

abbrev pub stands_ready : {S : Type 0} → Pipeline S → PipeNet S → ℕ → Bool
stands_ready p net i = is_ready p net i (next_turn p net i)

abbrev pub can_turn : {S : Type 0} → Pipeline S → PipeNet S → ℕ → Bool
can_turn p net i = nat_lt i p.count && (not (is_over_at p net i) && stands_ready p net i)
