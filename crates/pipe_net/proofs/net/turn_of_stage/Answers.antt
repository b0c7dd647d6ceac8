use Rattle.std.proofs.Common.{◌≡◌, ◌≤◌, ◌<◌, ◌+◌, suc, set, get_or, length, refl, ap, sym, ◌∙◌, subst, arith}
use Rattle.std.specs.Prelude.{slice_get, IfOk}
use Rattle.std.proofs.lemmas.List.{length-set}
use Rattle.nv_outside.specs.Seen.{input_seen, output_seen}
use Rattle.run_definition.specs.declared.outcome.Outcome.{Outcome}
use Rattle.unix_calls.specs.Held.{Held}
use Rattle.jvm_machine.specs.declared.jvm.Jvm.{Jvm}
use Rattle.jvm_machine.specs.Machine.{has_ended}
use Rattle.jvm_machine.specs.Counting.{count_of}
use Rattle.pipe_net.specs.declared.errors.Errors.{Errors}
use Rattle.pipe_net.specs.Executing.{Executes, GoesOnBehind}
use Rattle.pipe_net.specs.Settling.{Settles}
use Rattle.pipe_net.specs.Views.{errors_kept, pipe_kept, scene, scene_of}
use Rattle.pipe_net.proofs.Lists.{get-behind, get-front, get-of, set-split}
use Rattle.pipe_net.proofs.net.turn_of_stage.Goals as goal

pub returns : goal.returns
returns g c =
    let i = c.args.i in
    let front = c.split_at_mut-front.result.0.now in
    let back = c.split_at_mut-front.result.1.now in
    let all = c.split_at_mut-front.ensures.value in
    let long : length front ≡ suc i = omega (arith, c.split_at_mut-front.ensures.front_len) in
    let some : 0 < length back = omega (arith, c.split_at_mut-front.ensures.back_len, c.requires.pipes, c.requires.within) in
    let made = c.execute-executed.ensures in
    let settled = c.settle.ensures in
    let now = c.execute-executed.new in
    let terms = c.args.terms in
    let result = c.execute-executed.result in
    let old = get_or c.args.stages.now i c.index-stages-i.result in
    let before = get_or front i c.index-front-i.result in
    let behind = get_or back 0 c.index-back-0.result in
    record {
      old = old;
      new = c.settle.new.self;
      before = before;
      before_now = now.before;
      behind = behind;
      behind_now = now.behind;
      stage_is = get-of c.args.stages.now i c.index-stages-i.result c.requires.within;
      before_is = ap (λ l. slice_get l i) all ∙ (get-front front back i (omega arith) ∙ get-of front i c.index-front-i.result (omega arith));
      behind_is = ap (λ l. slice_get l (suc i)) all ∙ (get-behind front back (suc i) (sym long) ∙ get-of back 0 c.index-back-0.result some);
      stages_are = refl;
      pipes_are = set-split front back i now.before now.behind long (length-set front i now.before ∙ long) ∙ ap (λ l. set (set l i now.before) (suc i) now.behind) (sym all);
      executed = result;
      executes = subst (λ (k : Jvm × Held × Errors). Executes terms.most
          (scene_of terms old (input_seen g.S.Source c.args.source.now) before (output_seen g.O.Sink c.args.out.now) behind)
          (scene k.0 (record { unix = k.1; source = input_seen g.S.Source now.source; before = now.before.bytes.items; sink = output_seen g.O.Sink now.sink; behind = pipe_kept now.behind; errors = errors_kept k.2; inlet = terms.inlet; outlet = terms.outlet; c = terms.c })) result)
          (λ j. (sym settled.same_jvm j, sym settled.same_unix j, sym settled.same_errors j)) made.executes;
      counts = subst (λ (k : Jvm). IfOk result (λ e. count_of k ≡ count_of old.jvm + e.count)) (sym settled.same_jvm) made.count;
      short = subst (λ (u : Held). length u.ahead ≤ 4096) (sym settled.same_unix) made.short;
      goes_on = subst (λ (k : Jvm). IfOk result (λ e. GoesOnBehind e.stop (has_ended k))) (sym settled.same_jvm) made.goes_on;
      settles = subst (λ (k : Outcome × Errors). Settles terms.outlet result k.0 c.settle.new.self.outcome k.1.faults c.settle.result) (λ j. (made.same_outcome j, sym settled.same_errors j)) settled.settles;
    }
