use Rattle.std.proofs.Common.{◌++◌, ◌∷◌, [], List, Some, length, ap, sym, ◌∙◌, subst}
use Rattle.std.proofs.lemmas.Iterator.Adapters.{YieldsList-from_vec}
use Rattle.std.proofs.lemmas.Iterator.Consumers.{YieldsList-end, YieldsList-turn}
use Rattle.std.proofs.lemmas.List.{map-id}
use Rattle.unix_calls.specs.Held.{Held}
use Rattle.jvm_machine.specs.declared.jvm.Jvm.{Jvm}
use Rattle.pipe_net.specs.declared.pipe.Pipe.{Pipe}
use Rattle.pipe_net.specs.Adding.{IsMadeOf}
use Rattle.pipe_net.proofs.Lists.{get-of}
use Rattle.pipe_net.proofs.Making.{made-more, made-none, shows-made, sound-made}
use Rattle.pipe_net.proofs.net.Net.new.Goals as goal

pub loop-jvm-init : goal.loop-jvm-init
loop-jvm-init c =
    made-none (record { stages = c.in_ok-with_capacity.field-0; pipes = c.push.new.self; c = c.args.c; bound = c.args.bound }) c.in_ok-new.field-0 c.in_ok-with_capacity.ensures.items
    (c.in_ok-push.ensures.items ∙ ap (λ (l : List Pipe). l ++ c.in_ok-new.field-0 ∷ []) c.in_ok-with_capacity-2.ensures.items) c.in_ok-new.ensures.bytes

pub loop-jvm-preserved : goal.loop-jvm-preserved
loop-jvm-preserved c =
    made-more c.loop-jvm.net c.add.new.self c.loop-jvm.yielded c.args.c c.args.bound c.in-Some.jvm c.in-Some.unix c.loop-jvm.invariant c.in_ok-add.ensures

pub add-requires-clause-fresh : goal.add-requires-clause-fresh
add-requires-clause-fresh c =
    let gives = c.into_iter-jvm-iterator.ensures.into_iter_gives in
    let items = c.args.stages.items in
    let at = length c.loop-jvm.yielded in
    let this : Jvm × Held = (c.in-Some.jvm, c.in-Some.unix) in
    let t = YieldsList-turn (YieldsList-from_vec {s = c.into_iter-jvm-iterator.result} items gives.0 (gives.1 ∙ c.args.stages.ok.0)) c.loop-jvm.yielded c.loop-jvm.jvm-iterator c.loop-jvm.yielded_by c.next.result c.next.new.self this c.in-Some.is c.next.ensures.steps in
    (c.requires.fresh at c.in-Some.jvm c.in-Some.unix (get-of items at this t.0 ∙ ap (λ (x : Jvm × Held). Some x) (sym t.1))).fresh

-- all of the given stages were added
made : (c : goal.After-drop-jvm-iterator-2) → IsMadeOf c.loop-jvm.net c.args.stages.items c.args.c c.args.bound
made c =
    let gives = c.into_iter-jvm-iterator.ensures.into_iter_gives in
    let t = YieldsList-end (YieldsList-from_vec {s = c.into_iter-jvm-iterator.result} c.args.stages.items gives.0 (gives.1 ∙ c.args.stages.ok.0)) c.loop-jvm.yielded c.loop-jvm.jvm-iterator c.loop-jvm.yielded_by c.next.result c.next.new.self c.in-None.is c.next.ensures.steps in
    subst (λ (l : List (Jvm × Held)). IsMadeOf c.loop-jvm.net l c.args.c c.args.bound) (sym (map-id c.loop-jvm.yielded) ∙ t.0) c.loop-jvm.invariant

pub returns-clause-shows : goal.returns-clause-shows
returns-clause-shows c p is = shows-made c.loop-jvm.net c.args.stages.items c.args.c c.args.bound (made c) c.requires.fresh p is

pub returns-clause-sound : goal.returns-clause-sound
returns-clause-sound c = sound-made c.loop-jvm.net c.args.stages.items c.args.c c.args.bound (made c) c.requires.fresh
