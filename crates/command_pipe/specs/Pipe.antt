-- What `pipe` is to do: the sets of its classes are loaded, linked and verified, and run, where what
-- one of them writes to output is the next one's input.
use Rattle.std.specs.Prelude.{◌≡◌, ◌++◌, ◌-◌, ℕ, zero, suc, List, [], ◌∷◌, length, map, get_or, replicate, Option, Some, None, IfErr, IfOk}
use Rattle.run_definition.specs.Run.{Run}
use Rattle.run_definition.specs.declared.outcome.Outcome.{Outcome}
use Rattle.unix_definition.specs.System.{System}
use Rattle.unix_calls.specs.Drawing.{known}
use Rattle.unix_calls.specs.Held.{limited, system_of}
use Rattle.unix_calls.specs.Starting.{held_at_start}
use Rattle.unix_pipe_laws.specs.Pipelines.{Pipeline}
use Rattle.unix_pipe_laws.specs.Alone.{run_alone_of}
use Rattle.jvm_definition.specs.Step.{Loaded, loaded_program, loaded_turn}
use Rattle.class_definition.specs.declared.class.Class.{Class}
use Rattle.class_definition.specs.Linking.{program_of}
use Rattle.pipe_net.specs.Histories.{first_run_over}
use Rattle.pipe_net.specs.declared.net_fault.NetFault.{NetFault}
use Rattle.pipe_net.specs.declared.net_fault.NetFault.TheVariants as net
use Rattle.command_words.specs.declared.named_class.NamedClass.{NamedClass}
use Rattle.command_deeds.specs.Checks.{Check}
use Rattle.command_deeds.specs.Deeds.{pipes, tells}
use Rattle.command_deeds.specs.Ends.{Due, answers, says}
use Rattle.command_deeds.specs.Line.{pieces_joined}
use Rattle.command_deeds.specs.Stops.{stop_of}
use Rattle.command_deeds.specs.World.{World}
use Rattle.command_deeds.specs.declared.done.Done.TheVariants.{Piped}
use Rattle.command_deeds.specs.declared.stage_outcomes.StageOutcomes.{StageOutcomes}
use Rattle.command_deeds.specs.declared.stop.Stop.{Stop}
use Rattle.command_deeds.specs.declared.stop.Stop.TheVariants.{NoMemory}
use Rattle.command_pipe.specs.declared.launch.PipeLaunch.{PipeLaunch}
use Rattle.command_pipe.specs.Sets.{AreAccepted}

-- the pipeline of these sets, each on a system of its own with the name of its class as the one
-- argument
abbrev pub pipeline_for : PipeLaunch → List NamedClass → List (List Class) → Option (List ℕ)
    → Pipeline Loaded
pipeline_for launch classes sets input = record {
  turn = loaded_turn;
  count = length classes;
  machines = λ i. loaded_program (program_of (get_or sets i [])) launch.words;
  systems = λ i. system_of (limited (held_at_start launch.disk launch.moment []
      (get_or (map (λ c. c.name) classes) i [] ∷ [])) launch.size) [] [] [];
  input = known input;
  c = launch.size;
  bound = launch.steps;
}

-- what this is of each of so many stages, from the first on
abbrev pub each : {A : Type 0} → (ℕ → A) → ℕ → List A
each of_stage zero = []
each of_stage (suc n) = of_stage 0 ∷ each (λ i. of_stage (suc i)) n

-- stages that ended so
abbrev pub ended_so : List Outcome → StageOutcomes
ended_so outcomes = record {
  stages = map (λ ended. Some ended) outcomes ++ replicate (8 - length outcomes) None;
}

-- what is due of this pipeline, where these are the runs of its stages one after the other
abbrev pub of_stages : Pipeline Loaded → (ℕ → Run Loaded System) → Due
of_stages p run = record {
  deeds = pipes p (run 0).system.console.rest (run (p.count - 1)).system.console.output
      ∷ tells (pieces_joined (each (λ i. (run i).system.console.error_output) p.count)) ∷ [];
  answer = Some (says (Piped (ended_so (each (λ i. (run i).outcome) p.count))));
}

-- The first stage runs over all that input has, where it tells that, or else over these pieces of it, of
-- which one comes before each call; and a later one over all that the stage before it writes.
abbrev pub piped : PipeLaunch → List NamedClass → List (List Class) → Option (List ℕ)
    → List (List ℕ) → Due
piped launch classes sets input pieces =
    let p = pipeline_for launch classes sets input in
    of_stages p (run_alone_of p (first_run_over p input pieces))

-- What `pipe` is to do with these classes.
pub record IsDueOfPipe (classes : List NamedClass) (launch : PipeLaunch) (w : World) (due : Due)
    : Type 0 where
  -- the sets of the classes are loaded, link and are typed
  pub sets : Check (List (List Class))
  pub sets_are : AreAccepted w.shelf.told classes sets
  -- pieces of input, of which one comes before each call where it does not tell what it has left
  pub pieces : List (List ℕ)
  -- the answer where a set was refused
  pub refused : IfErr sets (λ answer. due ≡ answers answer)
  -- where none was, all stages run to their ends
  pub done : IfOk sets (λ accepted. due ≡ piped launch classes accepted w.input.told pieces)

-- what is due once the sets are accepted
abbrev pub IsDueOfSets : List NamedClass → PipeLaunch → List (List Class) → World → Due → Type 0
IsDueOfSets classes launch sets w due = (pieces : List (List ℕ))
    × (due ≡ piped launch classes sets w.input.told pieces)

-- why a command was stopped in whose pipeline a turn failed
abbrev pub net_stop : NetFault → Stop
net_stop (net.Io fault) = stop_of fault
net_stop net.NoMemory = NoMemory
