-- What the system of a stage stands between, as plain data: where its input comes from, and where its output and error output go.
use Rattle.std.specs.Prelude.{◌≡◌, ℕ, min, nat_lt, Bool, true, false, ◌||◌, ◌++◌, List, length, Some, None, if◌then◌else◌}
use Rattle.nv_outside.specs.Seen.{Seen}
use Rattle.run_definition.specs.Answer.{Answer}
use Rattle.run_definition.specs.Question.{Question}
use Rattle.run_definition.specs.declared.io_fault.IoFault.{IoFault}
use Rattle.unix_definition.specs.Unix.{unix}
use Rattle.unix_calls.specs.Held.{Held}
use Rattle.unix_calls.specs.Serving.{Fell, Goes, Parts, parts}
use Rattle.unix_pipe_laws.specs.Stages.{reads_input, writes_output}
use Rattle.unix_pipe_laws.specs.Pipelines.{has_enough}
use Rattle.pipe_net.specs.declared.inlet.Inlet.{Inlet}
use Rattle.pipe_net.specs.declared.inlet.Inlet.TheVariants as inlet
use Rattle.pipe_net.specs.declared.outlet.Outlet.{Outlet}
use Rattle.pipe_net.specs.declared.outlet.Outlet.TheVariants as outlet

-- bytes that are kept, and how often there was no memory for more
pub record Kept : Type 0 where
  pub bytes : List ℕ
  pub faults : ℕ

abbrev pub kept_seen : Kept → Seen (List ℕ)
kept_seen kept = record { told = Some kept.bytes; faults = kept.faults }

-- The system; the source, and what stands in the pipe before it; the sink, and the pipe behind it; error output; which of them it reads and
-- writes; and how many bytes make a pipe full.
pub record Ports : Type 0 where
  pub unix : Held
  pub source : Seen (List ℕ)
  pub before : List ℕ
  pub sink : Seen (List ℕ)
  pub behind : Kept
  pub errors : Kept
  pub inlet : Inlet
  pub outlet : Outlet
  pub c : ℕ

-- ---- what it reads and writes

abbrev pub input_at : Inlet → Ports → Seen (List ℕ)
input_at inlet.Source p = p.source
input_at (inlet.Pipe fed) p = record { told = Some p.before; faults = 0 }

abbrev pub output_at : Outlet → Seen (List ℕ) → Kept → Seen (List ℕ)
output_at outlet.Sink sink behind = sink
output_at outlet.Pipe sink behind = kept_seen behind
output_at outlet.Nowhere sink behind = record { told = None; faults = 0 }

abbrev pub parts_of : Ports → Parts
parts_of p =
    parts p.unix (input_at p.inlet p) (output_at p.outlet p.sink p.behind) (kept_seen p.errors)

-- ---- which calls are ready

abbrev pub may_read_at : Inlet → Ports → ℕ → Bool
may_read_at inlet.Source p n = true
may_read_at (inlet.Pipe fed) p n =
    fed || has_enough (min n p.c) (p.unix.ahead ++ p.before)

abbrev pub may_write_at : Outlet → Ports → Bool
may_write_at outlet.Sink p = true
may_write_at outlet.Pipe p = nat_lt (length p.behind.bytes) p.c
may_write_at outlet.Nowhere p = true

abbrev pub ready_for : Ports → Question → Bool
ready_for p q =
    if reads_input p.unix.opened q then may_read_at p.inlet p q.a2
    else if writes_output p.unix.opened q then may_write_at p.outlet p
    else true

-- ---- what calls do

-- what it does not read or write stays
abbrev pub OtherInput : Inlet → Ports → Ports → Type 0
OtherInput inlet.Source p r = r.before ≡ p.before
OtherInput (inlet.Pipe fed) p r = r.source ≡ p.source

abbrev pub OtherOutput : Outlet → Seen (List ℕ) → Kept → Seen (List ℕ) → Kept → Type 0
OtherOutput outlet.Sink sink behind new_sink new_behind = new_behind ≡ behind
OtherOutput outlet.Pipe sink behind new_sink new_behind = new_sink ≡ sink
OtherOutput outlet.Nowhere sink behind new_sink new_behind =
    (new_sink ≡ sink) × (new_behind ≡ behind)

pub record KeepsOthers (p r : Ports) : Type 0 where
  pub input : OtherInput p.inlet p r
  pub output : OtherOutput p.outlet p.sink p.behind r.sink r.behind
  pub inlet : r.inlet ≡ p.inlet
  pub outlet : r.outlet ≡ p.outlet
  pub c : r.c ≡ p.c

-- a call that is ready was answered by the definition
pub record GoesThrough (p : Ports) (q : Question) (a : Answer) (r : Ports) : Type 0 where
  pub ready : ready_for p q ≡ true
  pub goes : Goes (λ s. unix s q) q.room (parts_of p) a (parts_of r)
  pub others : KeepsOthers p r

-- a call that is not ready changed nothing
abbrev pub Waits : Ports → Question → Ports → Type 0
Waits p q r = (ready_for p q ≡ false) × (r ≡ p)

-- the input, the output or error output failed a call that is ready
pub record FallsThrough (p : Ports) (q : Question) (r : Ports) (fault : IoFault) : Type 0 where
  pub ready : ready_for p q ≡ true
  pub fell : Fell fault (λ s. unix s q) q.number q.room (parts_of p) (parts_of r)
  pub others : KeepsOthers p r
