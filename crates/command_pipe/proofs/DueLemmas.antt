-- What a pipeline that was run, or stopped, comes to.
use Rattle.std.proofs.Common.{◌≡◌, ◌∙◌, ◌≤◌, ◌-◌, ℕ, suc, true, inl, inr, List, [], ◌++◌, length, Some, Ok, Err, refl, sym, ap, subst, arith}
use Rattle.std.proofs.lemmas.List.{append-nil, length-map}
use Rattle.nv_outside.proofs.WriteLemmas.{Appends-nothing}
use Rattle.nv_outside.specs.Seen.{Seen}
use Rattle.run_definition.specs.Run.{Run}
use Rattle.run_definition.specs.declared.io_fault.IoFault.TheVariants.{ReadFault, WriteFault}
use Rattle.unix_definition.specs.System.{System}
use Rattle.unix_pipe_laws.specs.Pipelines.{Pipeline}
use Rattle.unix_pipe_laws.specs.Stopping.{StopsInTurn}
use Rattle.unix_pipe_laws.specs.Alone.{run_alone_of}
use Rattle.jvm_definition.specs.Step.{Loaded}
use Rattle.class_definition.specs.declared.class.Class.{Class}
use Rattle.pipe_net.specs.Histories.{EndsInOrder, StopsInOrder, first_run_over}
use Rattle.pipe_net.specs.Showing.{stage_count}
use Rattle.pipe_net.specs.Turning.{errors_of, outcomes_of, outside_fault}
use Rattle.pipe_net.specs.declared.net.Net.{Net}
use Rattle.pipe_net.specs.declared.net_fault.NetFault.{NetFault}
use Rattle.pipe_net.specs.declared.net_fault.NetFault.TheVariants.{Io, NoMemory}
use Rattle.pipe_net.specs.declared.stage.Stage.{Stage}
use Rattle.command_words.specs.declared.named_class.NamedClass.{NamedClass}
use Rattle.command_deeds.proofs.DeedLemmas.{same_shelf, stays}
use Rattle.command_deeds.proofs.PieceLemmas.{Joins}
use Rattle.command_deeds.specs.Deeds.{DoesDeed, StopsPipes, pipes}
use Rattle.command_deeds.specs.Ends.{CommandAnswer, Comes, Due, answers, says}
use Rattle.command_deeds.specs.Line.{pieces_joined}
use Rattle.command_deeds.specs.World.{FailsIn, SameShelf, Takes, World, world}
use Rattle.command_deeds.specs.declared.done.Done.TheVariants.{Piped}
use Rattle.command_deeds.specs.declared.stage_outcomes.StageOutcomes.{StageOutcomes}
use Rattle.command_deeds.specs.declared.stop.Stop.TheVariants as stop
use Rattle.command_pipe.proofs.ListLemmas.{each-is}
use Rattle.command_pipe.specs.Pipe.{IsDueOfPipe, IsDueOfSets, each, ended_so, net_stop, piped, pipeline_for}
use Rattle.command_pipe.specs.Sets.{AreAccepted}
use Rattle.command_pipe.specs.declared.launch.PipeLaunch.{PipeLaunch}

-- ---- error outputs

pub nothing-joined : (old : Seen (List ℕ)) (all : List (List ℕ)) → Joins old old all all
nothing-joined old all = record { gained = []; took = (Appends-nothing old.told, refl); splits = refl }

pub all-joined : (old now : Seen (List ℕ)) (all later : List (List ℕ)) → later ≡ [] → Joins old now all later → Takes old now (pieces_joined all)
all-joined old now all later none j =
    subst (λ text. Takes old now text) (sym (j.splits ∙ ap (λ l. j.gained ++ pieces_joined l) none ∙ append-nil j.gained)) j.took

-- ---- what is done at a stop

stops-pipes : (p : Pipeline Loaded) (w v : World) (fault : NetFault) → StopsInTurn p (outside_fault fault) w.input v.input w.out v.out → StopsPipes p w v (net_stop fault)
stops-pipes p w v (Io ReadFault) h = h
stops-pipes p w v (Io WriteFault) h = h
stops-pipes p w v NoMemory h = h

module _ (launch : PipeLaunch) (classes : List NamedClass) (sets : List (List Class)) (some : 1 ≤ length classes) (w : World) where
  abbrev p : Pipeline Loaded
  p = pipeline_for launch classes sets w.input.told

  abbrev run : List (List ℕ) → ℕ → Run Loaded System
  run pieces = run_alone_of p (first_run_over p w.input.told pieces)

  last-is : suc (length classes - 1) ≡ length classes
  last-is = omega (arith, some)

  -- what is due over these pieces of input
  abbrev due : List (List ℕ) → Due
  due pieces = piped launch classes sets w.input.told pieces

  -- ---- a turn failed

  pub turn-failed : (v : World) (fault : NetFault) → v.shelf ≡ w.shelf → v.err ≡ w.err → StopsInOrder p w.input v.input w.out v.out fault
      → Comes true (IsDueOfSets classes launch sets) w v (Err (net_stop fault))
  turn-failed v fault shelf err s =
      inr (
        due s.pieces,
        (s.pieces, refl),
        inl (subst (SameShelf w.shelf) (sym shelf) (same_shelf w.shelf), err, stops-pipes p w v fault s.stops),
      )

  -- ---- all stages ended

  module _ (net : Net) (input out : Seen (List ℕ)) (all : stage_count net ≡ length classes) (e : EndsInOrder p net w.input input w.out out) where
    -- the world in which the pipeline has ended
    abbrev u : World
    u = world w.shelf input out w.err

    pipes-done : DoesDeed (pipes p (run e.pieces 0).system.console.rest (run e.pieces (length classes - 1)).system.console.output) w u
    pipes-done = (same_shelf w.shelf, e.input, e.output (length classes - 1) last-is, refl)

    errors-are : errors_of net ≡ each (λ i. (run e.pieces i).system.console.error_output) (length classes)
    errors-are =
        each-is (errors_of net) (λ i. (run e.pieces i).system.console.error_output) (length classes)
        (length-map net.stages.items (λ (x : Stage). x.errors.bytes.items) ∙ all) e.errors

    outcomes-are : outcomes_of net ≡ each (λ i. (run e.pieces i).outcome) (length classes)
    outcomes-are =
        each-is (outcomes_of net) (λ i. (run e.pieces i).outcome) (length classes)
        (length-map net.stages.items (λ (x : Stage). x.outcome) ∙ all) e.outcomes

    -- error output took what all wrote
    pub all-ended : (err : Seen (List ℕ)) (stages : StageOutcomes) → Takes w.err err (pieces_joined (errors_of net)) → stages ≡ ended_so (outcomes_of net)
        → Comes true (IsDueOfSets classes launch sets) w (world w.shelf input out err) (Ok (says (Piped stages)))
    all-ended err stages took is =
        let v = world w.shelf input out err in
        let text : Takes w.err err (pieces_joined (each (λ i. (run e.pieces i).system.console.error_output) (length classes))) =
        subst (λ (l : List (List ℕ)). Takes w.err err (pieces_joined l)) errors-are took in
        let same : ended_so (each (λ i. (run e.pieces i).outcome) (length classes)) ≡ stages = sym (is ∙ ap ended_so outcomes-are) in
        inr (
          due e.pieces,
          (e.pieces, refl),
          (ap (λ (s : StageOutcomes). Some (says (Piped s))) same, refl, (u, pipes-done, (v, (text, (same_shelf w.shelf, refl, refl)), stays v))),
        )

    -- or error output failed
    pub errors-failed : (err : Seen (List ℕ)) → FailsIn w.err err (pieces_joined (errors_of net))
        → Comes true (IsDueOfSets classes launch sets) w (world w.shelf input out err) (Err stop.WriteFault)
    errors-failed err fails =
        let text : FailsIn w.err err (pieces_joined (each (λ i. (run e.pieces i).system.console.error_output) (length classes))) =
        subst (λ (l : List (List ℕ)). FailsIn w.err err (pieces_joined l)) errors-are fails in
        inr (due e.pieces, (e.pieces, refl), inr (u, pipes-done, inl (refl, text, (same_shelf w.shelf, refl, refl))))

-- ---- no memory for the net

pub no-memory : (IsDueAt : World → Due → Type 0) (w : World) → Comes true IsDueAt w w (Err stop.NoMemory)
no-memory IsDueAt w = inl (same_shelf w.shelf, (refl, refl, refl))

-- ---- the whole command

pub pipe-refused : (classes : List NamedClass) (launch : PipeLaunch) (w : World) (answer : CommandAnswer) → AreAccepted w.shelf.told classes (Err answer)
    → IsDueOfPipe classes launch w (answers answer)
pipe-refused classes launch w answer h = record { sets = Err answer; sets_are = h; pieces = []; refused = refl; done = tt }

pub pipe-due : (classes : List NamedClass) (launch : PipeLaunch) (w u : World) (sets : List (List Class)) (due : Due) → u.input ≡ w.input
    → AreAccepted w.shelf.told classes (Ok sets) → IsDueOfSets classes launch sets u due → IsDueOfPipe classes launch w due
pipe-due classes launch w u sets due same h later = record {
  sets = Ok sets;
  sets_are = h;
  pieces = later.0;
  refused = tt;
  done = later.1 ∙ ap (λ (i : Seen (List ℕ)). piped launch classes sets i.told later.0) same;
}
