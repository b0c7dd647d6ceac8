use Rattle.std.proofs.Common.{◌≡◌, suc, set, length, Some, List, refl, ap, sym, ◌∙◌, subst, arith}
use Rattle.std.specs.Prelude.{slice_get}
use Rattle.std.specs.Vec.{with_items}
use Rattle.std.proofs.lemmas.List.{length-set, with_items_is}
use Rattle.nv_outside.specs.Seen.{input_seen, output_seen}
use Rattle.pipe_net.specs.declared.net.Net.{Net}
use Rattle.pipe_net.specs.declared.pipe.Pipe.{Pipe}
use Rattle.pipe_net.specs.declared.stage.Stage.{Stage}
use Rattle.pipe_net.specs.Moving.{MovesStage}
use Rattle.pipe_net.proofs.Resting.{rests}
use Rattle.pipe_net.proofs.Leaving.{below-bound, leaves, may-go-on}
use Rattle.pipe_net.proofs.Moved.{Moved, stages-kept}
use Rattle.pipe_net.proofs.Giving.{counts-so, gives, sound-on}
use Rattle.pipe_net.proofs.net.Net.turn.Given.{Over}
use Rattle.pipe_net.proofs.net.Net.turn.Goals as goal

pub returns-then-is_over-clause-gives : goal.returns-then-is_over-clause-gives
returns-then-is_over-clause-gives g c p model shows =
    rests c.args.self.now c.args.i c.args.m (input_seen g.S.Source c.args.source.now) (output_seen g.O.Sink c.args.out.now) c.requires.sound c.requires.within (sym c.is_over.ensures ∙ c.if-is_over.true) p model shows

pub turn_of_stage-requires-clause-going : goal.turn_of_stage-requires-clause-going
turn_of_stage-requires-clause-going g c x is =
    may-go-on c.args.self.now c.args.i c.requires.sound (sym c.is_over.ensures ∙ c.if-is_over.false) x (ap (λ (l : List Stage). slice_get l c.args.i) (sym c.as_mut_slice.ensures.value) ∙ is)

pub turn_of_stage-requires-clause-short : goal.turn_of_stage-requires-clause-short
turn_of_stage-requires-clause-short g c x is =
    (c.requires.sound.stages c.args.i x (ap (λ (l : List Stage). slice_get l c.args.i) (sym c.as_mut_slice.ensures.value) ∙ is)).short

pub turn_of_stage-requires-clause-few : goal.turn_of_stage-requires-clause-few
turn_of_stage-requires-clause-few g c x is =
    let there : slice_get c.args.self.now.stages.items c.args.i ≡ Some x = ap (λ (l : List Stage). slice_get l c.args.i) (sym c.as_mut_slice.ensures.value) ∙ is in
    let most = c.terms-terms.ensures.are.most x there in
    let few = below-bound c.args.self.now c.args.i (sym c.is_over.ensures ∙ c.if-is_over.false) x there in
    omega (arith, most, few, c.terms-terms.ensures.fits)

-- what was done, over the net's own lists
lists-moved : (g : Over) (c : goal.After-self-2-1 g) → MovesStage c.terms-terms.result c.args.i c.args.self.now.stages.items (with_items c.args.self.now.stages c.turn_of_stage.new.stages).items c.args.self.now.pipes.items (with_items c.args.self.now.pipes c.turn_of_stage.new.pipes).items
    (input_seen g.S.Source c.args.source.now) (input_seen g.S.Source c.turn_of_stage.new.source) (output_seen g.O.Sink c.args.out.now) (output_seen g.O.Sink c.turn_of_stage.new.out) c.turn_of_stage.result
lists-moved g c =
    let v = c.turn_of_stage.ensures in
    let i = c.args.i in
    let stages : length c.turn_of_stage.new.stages ≡ length c.args.self.now.stages.items = ap length v.stages_are ∙ (length-set c.as_mut_slice.result.now i v.new ∙ ap length c.as_mut_slice.ensures.value) in
    let pipes : length c.turn_of_stage.new.pipes ≡ length c.args.self.now.pipes.items =
    ap length v.pipes_are ∙ (length-set (set c.as_mut_slice-2.result.now i v.before_now) (suc i) v.behind_now ∙ (length-set c.as_mut_slice-2.result.now i v.before_now ∙ ap length c.as_mut_slice-2.ensures.value)) in
    subst (λ (k : List Stage × List Stage × List Pipe × List Pipe). MovesStage c.terms-terms.result c.args.i k.0 k.1 k.2 k.3
    (input_seen g.S.Source c.args.source.now) (input_seen g.S.Source c.turn_of_stage.new.source) (output_seen g.O.Sink c.args.out.now) (output_seen g.O.Sink c.turn_of_stage.new.out) c.turn_of_stage.result)
    (λ j. (c.as_mut_slice.ensures.value j, sym (with_items_is c.args.self.now.stages c.turn_of_stage.new.stages (stages ∙ sym c.args.self.now.stages.ok.0)) j, c.as_mut_slice-2.ensures.value j, sym (with_items_is c.args.self.now.pipes c.turn_of_stage.new.pipes (pipes ∙ sym c.args.self.now.pipes.ok.0)) j)) v

abbrev net_now : (g : Over) → goal.After-self-2-1 g → Net
net_now g c = record c.args.self.now {
  stages = with_items c.args.self.now.stages c.turn_of_stage.new.stages;
  pipes = with_items c.args.self.now.pipes c.turn_of_stage.new.pipes;
}

abbrev made : (g : Over) → goal.After-self-2-1 g → Moved
made g c = record {
  old = c.args.self.now;
  new = net_now g c;
  i = c.args.i;
  m = c.args.m;
  terms = c.terms-terms.result;
  source = input_seen g.S.Source c.args.source.now;
  source_now = input_seen g.S.Source c.turn_of_stage.new.source;
  sink = output_seen g.O.Sink c.args.out.now;
  sink_now = output_seen g.O.Sink c.turn_of_stage.new.out;
  result = c.turn_of_stage.result;
  sound = c.requires.sound;
  within = c.requires.within;
  some = c.requires.some;
  going = sym c.is_over.ensures ∙ c.if-is_over.false;
  are = c.terms-terms.ensures.are;
  v = lists-moved g c;
  same_c = refl;
  same_bound = refl;
}

pub returns-clause-gives : goal.returns-clause-gives
returns-clause-gives g c = gives (made g c)

pub returns-clause-counts : goal.returns-clause-counts
returns-clause-counts g c = counts-so (made g c)

pub returns-clause-left : goal.returns-clause-left
returns-clause-left g c =
    leaves c.args.self.now (net_now g c) c.args.i c.args.m c.terms-terms.result
    (input_seen g.S.Source c.args.source.now) (input_seen g.S.Source c.turn_of_stage.new.source) (output_seen g.O.Sink c.args.out.now) (output_seen g.O.Sink c.turn_of_stage.new.out) c.turn_of_stage.result
    c.terms-terms.ensures.are (lists-moved g c) refl

pub returns-clause-sound : goal.returns-clause-sound
returns-clause-sound g c = sound-on (made g c)

pub returns-clause-stages : goal.returns-clause-stages
returns-clause-stages g c = stages-kept (made g c)
