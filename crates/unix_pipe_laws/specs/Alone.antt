-- The stages of a pipeline one after the other. This knows neither pipes nor turns of stages.
use Rattle.std.specs.Prelude.{◌≡◌, ℕ, zero, suc, List, [], ◌++◌}
use Rattle.run_definition.specs.Run.{Run, run_of}
use Rattle.unix_definition.specs.System.{System}
use Rattle.unix_definition.specs.Unix.{reply}
use Rattle.unix_calls.specs.Arriving.{run_arriving}
use Rattle.unix_pipe_laws.specs.Stages.{input_left, output_of, with_rest}
use Rattle.unix_pipe_laws.specs.Pipelines.{Pipeline, PipeNet}

-- the systems have written nothing, and no read of input gives more than c bytes
pub record IsFreshPipeline {S : Type 0} (p : Pipeline S) : Type 0 where
  pub no_output : (i : ℕ) → (p.systems i).console.output ≡ []
  pub limited : (i : ℕ) → (p.systems i).most ≡ p.c

-- the run of the first stage over all of the input, or over input that comes in pieces, one before each call
abbrev pub first_run : {S : Type 0} → Pipeline S → Run S System
first_run p = run_of p.turn reply p.bound (p.machines 0) (with_rest (p.systems 0) p.input)

abbrev pub first_run_arriving : {S : Type 0} → Pipeline S → List (List ℕ) → Run S System
first_run_arriving p pieces =
    run_arriving p.turn p.bound (p.machines 0) (with_rest (p.systems 0) p.input) pieces

-- the run of each stage behind that of the first one: its input is all that the one before writes
abbrev pub run_alone_of : {S : Type 0} → Pipeline S → Run S System → ℕ → Run S System
run_alone_of p first zero = first
run_alone_of p first (suc i) =
    run_of p.turn reply p.bound (p.machines (suc i))
    (with_rest (p.systems (suc i)) (run_alone_of p first i).system.console.output)

-- a stage ended as its machine does alone, and wrote the same
pub record EndsAsAlone {S : Type 0} (p : Pipeline S) (first : Run S System) (net : PipeNet S)
    (i : ℕ) : Type 0 where
  pub outcome : (net.stage i).outcome ≡ (run_alone_of p first i).outcome
  pub output : output_of (net.stage i) ≡ (run_alone_of p first i).system.console.output
  pub error_output : (net.stage i).system.console.error_output
      ≡ (run_alone_of p first i).system.console.error_output
  pub machine : (net.stage i).machine ≡ (run_alone_of p first i).last
  -- and the first one read as much of the input
  pub rest : i ≡ 0 → input_left (net.stage i) ≡ (run_alone_of p first i).system.console.rest

-- what a stage has written so far is a front part of what it writes alone
pub record WritesFront {S : Type 0} (p : Pipeline S) (first : Run S System) (net : PipeNet S)
    (i : ℕ) : Type 0 where
  pub more : List ℕ
  pub output :
      (run_alone_of p first i).system.console.output ≡ output_of (net.stage i) ++ more
