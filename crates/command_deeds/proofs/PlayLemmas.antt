-- What is due of a machine's run.
use Rattle.std.proofs.Common.{◌≡◌, ℕ, false, List, [], ◌∷◌, Option, Some, None, option_map, Ok, Err, refl, sym, ◌∙◌, ap, subst, inl, inr}
use Rattle.nv_outside.specs.Files.{AgreeWith, Files}
use Rattle.run_definition.specs.Run.{run_of}
use Rattle.run_definition.specs.Turn.{Turn}
use Rattle.run_definition.specs.declared.io_fault.IoFault.{IoFault}
use Rattle.run_definition.specs.declared.outcome.Outcome.{Outcome}
use Rattle.run_definition.specs.declared.outcome.Outcome.TheVariants.{Exited, Faulted, Trapped, Waiting, Going}
use Rattle.unix_definition.specs.Unix.{reply, system_start}
use Rattle.unix_calls.specs.Arriving.{run_arriving}
use Rattle.unix_calls.specs.Held.{Held, system_of}
use Rattle.unix_calls.specs.Playing.{Breaks, Plays, run_over}
use Rattle.unix_calls.specs.Serving.{parts}
use Rattle.unix_calls.specs.Stages.{stage_of}
use Rattle.unix_calls.specs.Starting.{Begins}
use Rattle.command_deeds.specs.Deeds.{Deed, DoesAll, DoesDeed, StopsIn, plays}
use Rattle.command_deeds.specs.Ends.{CommandAnswer as Said, Due, WorksOn, answers, is_stop, says}
use Rattle.command_deeds.specs.Stops.{stop_of}
use Rattle.command_deeds.specs.World.{SameShelf, World}
use Rattle.command_deeds.specs.declared.done.Done.{Done}
use Rattle.command_deeds.specs.declared.stop.Stop.{Stop}
use Rattle.command_deeds.specs.Readying.{IsReady}
use Rattle.command_deeds.specs.Runs.{IsDueOfHeld, IsDueOfPlay, GivenFile, Plan, answer_of, arguments_of, found_for, kept, of_runs, run_for}

-- ---- a run that ended

-- What a run did, and what is due of it.
pub record Played {S : Type 0} (steps : ℕ) (turn : S → Turn S) (s : S) (old new : Held) (w u : World) (keep : List (List ℕ)) (outcome : Outcome) : Type 0 where
  pub due : Due
  pub is_due : IsDueOfHeld steps turn s old keep w.input.told due
  pub first : Deed
  pub deeds : due.deeds ≡ first ∷ kept new.files keep
  pub answer : due.answer ≡ option_map says (answer_of outcome)
  pub does : DoesDeed first w u

pub run_played : {S : Type 0} (steps : ℕ) (turn : S → Turn S) (s now : S) (old new : Held) (w u : World) (outcome : Outcome) (keep : List (List ℕ))
    → Plays turn steps s now (parts old w.input w.out w.err) (parts new u.input u.out u.err) outcome → SameShelf w.shelf u.shelf
    → Played steps turn s old new w u keep outcome
run_played {S} steps turn s now old new w u outcome keep ran same =
    let run = λ (n : ℕ). run_over turn n s old w.input.told ran.0 in
    let files : (run steps).system.files ≡ new.files = ap (λ k. k.files) ran.1.system in
    record {
      due = of_runs turn steps run keep;
      is_due = (ran.0, refl);
      first = plays steps (λ n. stage_of turn (run n));
      deeds = ap (λ f. plays steps (λ n. stage_of turn (run n)) ∷ kept f keep) files;
      answer = ap (λ o. option_map says (answer_of o)) ran.1.is;
      does = (same, ran.1.comes);
    }

no_stop_of : (outcome : Outcome) (answer : Done) → answer_of outcome ≡ Some answer → is_stop answer ≡ false
no_stop_of (Exited status) answer e = let is : answer ≡ Done.Exited status = cc in rw is refl
no_stop_of (Faulted f) answer e = let is : answer ≡ Done.Faulted f = cc in rw is refl
no_stop_of (Trapped k) answer e = let is : answer ≡ Done.Trapped k = cc in rw is refl
no_stop_of Waiting answer e = cc
no_stop_of Going answer e = let is : answer ≡ Done.Spent = cc in rw is refl

-- its files were kept
pub run_kept : {S : Type 0} (steps : ℕ) (turn : S → Turn S) (s : S) (old new : Held) (w u v : World) (keep : List (List ℕ)) (outcome : Outcome) (answer : Done)
    → Played steps turn s old new w u keep outcome → answer_of outcome ≡ Some answer → DoesAll (kept new.files keep) u v
    → WorksOn (λ x. IsDueOfHeld steps turn s old keep x.input.told) w v (Ok (says answer))
run_kept steps turn s old new w u v keep outcome answer p is all = (
  p.due,
  p.is_due,
  (p.answer ∙ ap (option_map says) is, no_stop_of outcome answer is, subst (λ deeds. DoesAll deeds w v) (sym p.deeds) (u, p.does, all)),
)

-- keeping them was stopped
pub run_not_kept : {S : Type 0} (steps : ℕ) (turn : S → Turn S) (s : S) (old new : Held) (w u v : World) (keep : List (List ℕ)) (outcome : Outcome) (stop : Stop)
    → Played steps turn s old new w u keep outcome → StopsIn (kept new.files keep) u v stop
    → WorksOn (λ x. IsDueOfHeld steps turn s old keep x.input.told) w v (Err stop)
run_not_kept steps turn s old new w u v keep outcome stop p stops =
    (p.due, p.is_due, subst (λ deeds. StopsIn deeds w v stop) (sym p.deeds) (inr (u, p.does, stops)))

-- ---- a run that the outside failed

pub run_failed : {S : Type 0} (steps : ℕ) (turn : S → Turn S) (s : S) (old new : Held) (w u : World) (fault : IoFault) (keep : List (List ℕ))
    → Breaks turn steps s (parts old w.input w.out w.err) (parts new u.input u.out u.err) fault → SameShelf w.shelf u.shelf
    → WorksOn (λ x. IsDueOfHeld steps turn s old keep x.input.told) w u (Err (stop_of fault))
run_failed steps turn s old new w u fault keep broke same =
    (of_runs turn steps (λ n. run_over turn n s old w.input.told broke.0) keep, (broke.0, refl), inl (same, (fault, refl, broke.1)))

-- ---- a system that is ready

-- some run is due of it
pub some_run : {S : Type 0} (steps : ℕ) (turn : S → Turn S) (s : S) (unix : Held) (keep : List (List ℕ)) (input : Option (List ℕ))
    → (due : Due) × IsDueOfHeld steps turn s unix keep input due
some_run steps turn s unix keep input = (of_runs turn steps (λ n. run_over turn n s unix input []) keep, ([], refl))

-- before its first call it is the definition's
abbrev pub StartsAs : Plan → Held → Type 0
StartsAs plan unix =
    (rest : List ℕ) (found : List GivenFile) → Begins unix plan.session.disk plan.moment found (arguments_of plan)
    → system_of unix rest [] [] ≡ system_start plan.session.disk plan.moment found (arguments_of plan) rest

-- the run for so many steps over these arguments and files, and input or some pieces of it
abbrev pub IsDueOfSteps : {S : Type 0} → ℕ → (S → Turn S) → S → Plan → Option (List ℕ) → List GivenFile → Due → Type 0
IsDueOfSteps steps turn s plan input given due =
    (pieces : List (List ℕ)) × (due ≡ of_runs turn steps (λ n. run_for n turn s plan given input pieces) plan.session.keep.names)

-- its run is the run over its arguments and files
held_run : {S : Type 0} (steps : ℕ) (turn : S → Turn S) (s : S) (plan : Plan) (unix : Held) (given : List GivenFile) (input : Option (List ℕ))
    (pieces : List (List ℕ)) → StartsAs plan unix → Begins unix plan.session.disk plan.moment given (arguments_of plan)
    → of_runs turn steps (λ n. run_over turn n s unix input pieces) plan.session.keep.names
    ≡ of_runs turn steps (λ n. run_for n turn s plan given input pieces) plan.session.keep.names
held_run steps turn s plan unix given None pieces starts begins =
    ap (λ k. of_runs turn steps (λ n. run_arriving turn n s k pieces) plan.session.keep.names) (starts [] given begins)
held_run steps turn s plan unix given (Some rest) pieces starts begins =
    ap (λ k. of_runs turn steps (λ n. run_of turn reply n s k) plan.session.keep.names) (starts rest given begins)

-- what is due of the one is due of the other
pub held_due : {S : Type 0} (steps : ℕ) (turn : S → Turn S) (s : S) (plan : Plan) (unix : Held) (given : List GivenFile) (input : Option (List ℕ))
    (due : Due) → StartsAs plan unix → Begins unix plan.session.disk plan.moment given (arguments_of plan)
    → IsDueOfHeld steps turn s unix plan.session.keep.names input due → IsDueOfSteps steps turn s plan input given due
held_due steps turn s plan unix given input due starts begins h = (h.0, h.1 ∙ held_run steps turn s plan unix given input h.0 starts begins)

-- what is due of a system that is ready
pub ready_due : {S : Type 0} (turn : S → Turn S) (s : S) (plan : Plan) (w : World) (files : Files) (unix : Held) (due : Due) → StartsAs plan unix
    → AgreeWith w.shelf.told files → IsReady plan files unix
    → IsDueOfHeld plan.session.steps turn s unix plan.session.keep.names w.input.told due → IsDueOfPlay turn s plan w due
ready_due turn s plan w files unix due starts agree ready h =
    let held = held_due plan.session.steps turn s plan unix ready.given w.input.told due starts ready.begins h in
    record {
      files = files;
      agree = agree;
      found = Ok ready.given;
      found_is = sym ready.finds;
      pieces = held.0;
      refused = tt;
      done = held.1;
    }

-- and of one that is not
pub unready_due : {S : Type 0} (turn : S → Turn S) (s : S) (plan : Plan) (w : World) (files : Files) (answer : Said) → AgreeWith w.shelf.told files
    → found_for plan files ≡ Err answer → IsDueOfPlay turn s plan w (answers answer)
unready_due turn s plan w files answer agree refused = record {
  files = files;
  agree = agree;
  found = Err answer;
  found_is = sym refused;
  pieces = [];
  refused = refl;
  done = tt;
}
