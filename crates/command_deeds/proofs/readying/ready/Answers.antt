use Rattle.std.proofs.Common.{[]}
use Rattle.std.proofs.lemmas.Result.{err_from_is_err_and}
use Rattle.command_deeds.specs.World.{shelf_seen}
use Rattle.command_deeds.proofs.ReadyLemmas.{none_ahead, not_found_gives, plan_args, ready_gives, too_long_gives}
use Rattle.command_deeds.specs.Runs.{plan_of}
use Rattle.command_deeds.proofs.readying.ready.Goals as goal

pub returns-in_err-add_arguments-clause-gives : goal.returns-in_err-add_arguments-clause-gives
returns-in_err-add_arguments-clause-gives g c =
    let p = err_from_is_err_and c.from_residual-in_err-add_arguments.result c.from_residual-in_err-add_arguments.ensures.1 in
    let plan = plan_of c.args.launch.now in
    rw (p.1, p.2) (too_long_gives plan c.as_slice.result.now c.add_arguments.new.unix
    (shelf_seen g.H.Shelf c.args.shelf.now) c.in_err-add_arguments.field-0.0 c.as_slice.ensures
    ((rw c.as_str.ensures.value at c.in_err-add_arguments.ensures.adds) plan.session.disk plan.moment [] [] c.in_ok-unix.ensures))

pub add_files-requires-clause-new : goal.add_files-requires-clause-new
add_files-requires-clause-new g c =
    let plan = plan_of c.args.launch.now in
    record {
      blocks = plan.session.disk;
      moment = plan.moment;
      args = plan_args plan.name c.as_slice.result.now;
      begins =
          ((rw c.as_str.ensures.value at c.in_ok-add_arguments.ensures.adds) plan.session.disk plan.moment [] [] c.in_ok-unix.ensures).1;
    }

pub returns-in_err-add_files-clause-gives : goal.returns-in_err-add_files-clause-gives
returns-in_err-add_files-clause-gives g c =
    let p = err_from_is_err_and c.from_residual-in_err-add_files.result c.from_residual-in_err-add_files.ensures.1 in
    let plan = plan_of c.args.launch.now in
    rw (p.1, p.2) (not_found_gives plan c.as_slice.result.now c.as_slice-names.result.now c.add_arguments.new.unix c.add_files.new.unix
    (shelf_seen g.H.Shelf c.args.shelf.now) (shelf_seen g.H.Shelf c.add_files.new.shelf) c.in_err-add_files.field-0.0
    c.as_slice.ensures c.as_slice-names.ensures ((rw c.as_str.ensures.value at c.in_ok-add_arguments.ensures.adds) plan.session.disk plan.moment [] [] c.in_ok-unix.ensures)
    c.in_err-add_files.ensures.adds)

pub returns-clause-gives : goal.returns-clause-gives
returns-clause-gives g c =
    let plan = plan_of c.args.launch.now in
    ready_gives plan c.as_slice.result.now c.as_slice-names.result.now c.add_arguments.new.unix c.add_files.new.unix
    (shelf_seen g.H.Shelf c.args.shelf.now) (shelf_seen g.H.Shelf c.add_files.new.shelf) tt
    c.as_slice.ensures c.as_slice-names.ensures ((rw c.as_str.ensures.value at c.in_ok-add_arguments.ensures.adds) plan.session.disk plan.moment [] [] c.in_ok-unix.ensures)
    c.in_ok-add_files.ensures.adds

pub returns-clause-few : goal.returns-clause-few
returns-clause-few g c =
    let plan = plan_of c.args.launch.now in
    let begun = (rw c.as_str.ensures.value at c.in_ok-add_arguments.ensures.adds) plan.session.disk plan.moment [] [] c.in_ok-unix.ensures in
    none_ahead _ _ _ _ _ _ _ _ _ (c.in_ok-add_files.ensures.adds plan.session.disk plan.moment [] (plan_args plan.name c.as_slice.result.now) begun.1)
