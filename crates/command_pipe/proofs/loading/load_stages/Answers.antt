use Rattle.std.proofs.Common.{rules, ◌≡◌, ◌∙◌, ◌∷◌, ◌++◌, List, [], length, sym, ap, subst}
use Rattle.std.proofs.lemmas.Result.{err_from_is_err_and}
use Rattle.command_deeds.specs.Ends.{end_of}
use Rattle.command_deeds.specs.World.{shelf_seen}
use Rattle.command_deeds.proofs.DeedLemmas.{same_then_shelf}
use Rattle.command_pipe.specs.Sets.{Loading, set_of, sets_of}
use Rattle.command_pipe.proofs.ListLemmas.{is-nil}
use Rattle.command_pipe.proofs.SetLemmas.{HasAccepted, all_accepted, none_accepted, one_ends, one_more}
use Rattle.command_pipe.proofs.StageLemmas.{HasStages, all_stages, no_stages, one_stage_more, sets-more}
use Rattle.command_pipe.proofs.loading.load_stages.Goals as goal

pub loop-class-init : goal.loop-class-init
loop-class-init g c =
    let shelf = shelf_seen g.H.Shelf c.args.shelf.now in
    let classes = c.args.classes.now in
    let launch = c.args.launch.now in
    record {
      sets = subst (λ (stages : List Loading). HasAccepted shelf shelf classes classes (sets_of stages)) (sym c.new-stages.ensures.items) (none_accepted shelf classes);
      stages = subst (HasStages launch classes classes) (sym c.new-stages.ensures.items) (no_stages launch classes);
    }

pub loop-class-preserved : goal.loop-class-preserved
loop-class-preserved g c =
    let classes = c.args.classes.now in
    let launch = c.args.launch.now in
    let others = c.in-Some.others.now in
    let class = c.in-Some.class.now in
    let stages = c.loop-class.stages.items in
    let stage = c.in_ok-stage.stage in
    let a = shelf_seen g.H.Shelf c.args.shelf.now in
    let b = shelf_seen g.H.Shelf c.loop-class.shelf in
    let d = shelf_seen g.H.Shelf c.load_stage.new.shelf in
    let is : c.loop-class.rest.now ≡ class ∷ others = search rules in
    let more : c.push.new.stages.items ≡ stages ++ stage ∷ [] = c.in_ok-push.ensures in
    record {
      sets = subst (HasAccepted a d classes others) (sym (ap sets_of more ∙ sets-more stages stage))
          (one_more a b d classes others class (sets_of stages) (set_of stage) (rw is at c.loop-class.invariant.sets) c.in_ok-stage.ensures.gives);
      stages = subst (HasStages launch classes others) (sym more)
          (one_stage_more launch classes others class stages stage (rw is at c.loop-class.invariant.stages) c.in_ok-stage.ensures.stage);
    }

pub returns-in_err-stage-clause-gives : goal.returns-in_err-stage-clause-gives
returns-in_err-stage-clause-gives g c =
    let p = err_from_is_err_and c.from_residual.result c.from_residual.ensures.1 in
    let is : c.loop-class.rest.now ≡ c.in-Some.class.now ∷ c.in-Some.others.now = search rules in
    rw (p.1, p.2) (one_ends (shelf_seen g.H.Shelf c.args.shelf.now) (shelf_seen g.H.Shelf c.loop-class.shelf)
    (shelf_seen g.H.Shelf c.load_stage.new.shelf) c.args.classes.now c.in-Some.others.now c.in-Some.class.now (sets_of c.loop-class.stages.items)
    (end_of c.in_err-stage.field-0.0) (rw is at c.loop-class.invariant.sets) c.in_err-stage.ensures.gives)

pub returns-in_err-push-clause-gives : goal.returns-in_err-push-clause-gives
returns-in_err-push-clause-gives g c =
    let p = err_from_is_err_and c.from_residual-in_err-push.result c.from_residual-in_err-push.ensures.1 in
    rw (p.1, p.2) (same_then_shelf (shelf_seen g.H.Shelf c.args.shelf.now) (shelf_seen g.H.Shelf c.loop-class.shelf)
    (shelf_seen g.H.Shelf c.load_stage.new.shelf) c.loop-class.invariant.sets.same c.in_ok-stage.ensures.gives.same)

pub returns-clause-gives : goal.returns-clause-gives
returns-clause-gives g c =
    let empty : length c.loop-class.rest.now ≡ 0 = search rules in
    let none = is-nil c.loop-class.rest.now empty in
    all_accepted (shelf_seen g.H.Shelf c.args.shelf.now) (shelf_seen g.H.Shelf c.loop-class.shelf) c.args.classes.now
    (sets_of c.loop-class.stages.items) (rw none at c.loop-class.invariant.sets)

pub returns-clause-stages : goal.returns-clause-stages
returns-clause-stages g c =
    let empty : length c.loop-class.rest.now ≡ 0 = search rules in
    let none = is-nil c.loop-class.rest.now empty in
    all_stages c.args.launch.now c.args.classes.now c.loop-class.stages.items (rw none at c.loop-class.invariant.stages)
