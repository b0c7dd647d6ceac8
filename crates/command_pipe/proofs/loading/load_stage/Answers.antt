use Rattle.std.proofs.Common.{◌∙◌, [], ◌∷◌, List, Ok, ℕ, sym, ap, subst}
use Rattle.std.proofs.lemmas.Result.{err_from_is_err_and}
use Rattle.class_definition.specs.declared.class.Class.{Class}
use Rattle.jvm_definition.specs.Step.{loaded_program}
use Rattle.class_definition.specs.Linking.{program_of}
use Rattle.unix_calls.specs.Starting.{Begins}
use Rattle.command_deeds.specs.Ends.{Over}
use Rattle.command_deeds.specs.World.{shelf_seen}
use Rattle.command_guest.specs.Classes.{IsAcceptedSet}
use Rattle.command_pipe.proofs.ListLemmas.{short-name}
use Rattle.command_pipe.proofs.loading.load_stage.Goals as goal

pub system_for-requires-clause-short : goal.system_for-requires-clause-short
system_for-requires-clause-short g c = short-name c.as_str.result.now (rw c.as_str.ensures.value c.as_str.ensures.lawful)

pub returns-in_err-verified-clause-gives : goal.returns-in_err-verified-clause-gives
returns-in_err-verified-clause-gives g c =
    let p = err_from_is_err_and c.from_residual.result c.from_residual.ensures.1 in
    rw (p.1, p.2) c.in_err-verified.ensures.gives

pub returns-in_err-jvm-clause-gives : goal.returns-in_err-jvm-clause-gives
returns-in_err-jvm-clause-gives g c =
    let p = err_from_is_err_and c.from_residual-in_err-jvm.result c.from_residual-in_err-jvm.ensures.1 in
    rw (p.1, p.2) c.in_ok-verified.ensures.gives.same

pub returns-in_err-unix-clause-gives : goal.returns-in_err-unix-clause-gives
returns-in_err-unix-clause-gives g c =
    let p = err_from_is_err_and c.from_residual-in_err-unix.result c.from_residual-in_err-unix.ensures.1 in
    rw (p.1, p.2) c.in_ok-verified.ensures.gives.same

pub returns-clause-gives : goal.returns-clause-gives
returns-clause-gives g c =
    subst (λ (set : List Class). Over (λ files. IsAcceptedSet c.args.class.now files (Ok set)) (shelf_seen g.H.Shelf c.args.shelf.now)
    (shelf_seen g.H.Shelf c.accept.new.shelf)) (sym c.in_ok-jvm.ensures.classes) c.in_ok-verified.ensures.gives

pub returns-clause-stage : goal.returns-clause-stage
returns-clause-stage g c =
    let launch = c.args.launch.now in
    record {
      state = c.in_ok-jvm.ensures.state ∙ ap (λ (set : List Class). loaded_program (program_of set) launch.words) (sym c.in_ok-jvm.ensures.classes);
      going = c.in_ok-jvm.ensures.going;
      none = c.in_ok-jvm.ensures.count;
      begins = subst (λ (name : List ℕ). Begins c.in_ok-unix.unix launch.disk launch.moment [] (name ∷ [])) c.as_str.ensures.value
          c.in_ok-unix.ensures.begins;
    }
