-- What the model that a net shows says of a stage before its turn.
use Rattle.std.proofs.Common.{◌≡◌, ◌<◌, ◌≤◌, ◌+◌, inl, inr, ℕ, zero, suc, false, List, length, refl, ap, sym, ◌∙◌, subst, arith}
use Rattle.nv_outside.specs.Seen.{Seen}
use Rattle.run_definition.specs.declared.outcome.Outcome.TheVariants.{Going}
use Rattle.unix_definition.specs.System.{System}
use Rattle.unix_calls.specs.Drawing.{known}
use Rattle.unix_calls.specs.Held.{system_of}
use Rattle.jvm_machine.specs.Counting.{count_of}
use Rattle.jvm_definition.specs.Step.{Loaded}
use Rattle.unix_pipe_laws.specs.Stages.{output_of}
use Rattle.unix_pipe_laws.specs.Pipelines.{Pipeline, PipeNet, is_over_at}
use Rattle.unix_pipe_laws.proofs.Runs.{going-of}
use Rattle.pipe_net.specs.declared.inlet.Inlet.{Inlet}
use Rattle.pipe_net.specs.declared.outlet.Outlet.{Outlet}
use Rattle.pipe_net.specs.declared.outlet.Outlet.TheVariants as outlet
use Rattle.pipe_net.specs.declared.pipe.Pipe.{Pipe}
use Rattle.pipe_net.specs.declared.stage.Stage.{Stage}
use Rattle.pipe_net.specs.Ports.{Ports, input_at}
use Rattle.pipe_net.specs.Executing.{Scene}
use Rattle.pipe_net.specs.Moving.{inlet_of, over_in}
use Rattle.pipe_net.specs.Showing.{Shows, ShowsStage, rest_before}
use Rattle.pipe_net.proofs.Lists.{found}
use Rattle.pipe_net.proofs.Standing.{InletIs, OutletIs, Stands}
use Rattle.pipe_net.proofs.Shown.{over-shown}
use Rattle.pipe_net.proofs.Moved.{Moved, scene_before, scene_behind, outlet-is, OfInner, from-zero, from-later, most-is}

module _ (g : Moved) where
  open g use {old, new, i, m, terms, source, source_now, sink, sink_now, result, sound, within, some, going, are, v, same_c, same_bound}

  abbrev x : Scene
  x = scene_before g

  abbrev y : Scene
  y = scene_behind g

  abbrev stages : List Stage
  stages = old.stages.items

  abbrev pipes : List Pipe
  pipes = old.pipes.items

  module _ (p : Pipeline Loaded) (model : PipeNet Loaded) (shows : Shows old (known source.told) p model) where
    pub shown : ShowsStage v.old (rest_before i (known source.told) v.before) (model.stage i) (model.ahead i)
    shown = shows.stage i v.old v.before v.stage_is v.before_is

    pub over-at : (j : ℕ) → j < length stages → is_over_at p model j ≡ over_in old.bound stages j
    over-at j h = over-shown old (known source.told) p model shows sound j h

    pub not-over : is_over_at p model i ≡ false
    not-over = over-at i within ∙ going

    pub model-going : (model.stage i).outcome ≡ Going
    model-going = (going-of p.turn p.bound (model.stage i) not-over).0

    pub count-few : count_of v.old.jvm < old.bound
    count-few = let h = (going-of p.turn p.bound (model.stage i) not-over).1 in omega (arith, shown.made, shows.bound_is)

    pub rest-by : (k : ℕ) (l : Inlet) (left : Seen (List ℕ)) (pipe : Pipe) (ports : Ports) → l ≡ inlet_of old.bound stages k → ports.source ≡ left → ports.before ≡ pipe.bytes.items
        → rest_before k (known left.told) pipe ≡ known (input_at l ports).told
    rest-by zero l left pipe ports is source_is before_is = ap (λ (z : Seen (List ℕ)). known z.told) (sym source_is) ∙ ap (λ (n : Inlet). known (input_at n ports).told) (sym is)
    rest-by (suc k) l left pipe ports is source_is before_is = sym before_is ∙ ap (λ (n : Inlet). known (input_at n ports).told) (sym is)

    pub from-by : (k : ℕ) → i ≡ k → InletIs p i model terms.inlet
    from-by zero is = subst (InletIs p i model) (sym ((from-zero g) is)) is
    from-by (suc k) is = subst (InletIs p i model) (sym ((from-later g) k is)) (k, is, over-at k (omega arith))

    to-inner : (OfInner g) → OutletIs p i model outlet.Pipe v.behind.bytes.items
    to-inner on =
        let h : suc i < length stages = (let apart = on.0 in omega arith) in
        let s = found stages (suc i) h in
        let sh = shows.stage (suc i) s.0 v.behind s.1 v.behind_is in (
          (λ e. on.0 (e ∙ shows.count_is)),
          over-at (suc i) h ∙ on.1,
          (s.0.unix.ahead, ap (λ (k : System). k.console.rest) sh.system, sh.read_ahead),
        )

    to-is : OutletIs p i model terms.outlet v.behind.bytes.items
    to-is = elim (outlet-is g) [
      | inl last ↦ subst (λ (l : Outlet). OutletIs p i model l v.behind.bytes.items) (sym last.1) (last.0 ∙ sym shows.count_is)
      | inr inner ↦ elim inner [
        | inl done ↦ subst (λ (l : Outlet). OutletIs p i model l v.behind.bytes.items) (sym done.2)
            ((λ e. done.0 (e ∙ shows.count_is)), over-at (suc i) (let apart = done.0 in omega arith) ∙ done.1)
        | inr on ↦ subst (λ (l : Outlet). OutletIs p i model l v.behind.bytes.items) (sym on.2) (to-inner on)
      ]
    ]

    pub stands : Stands p i model x Going
    stands = record {
      own = record {
        machine = shown.machine;
        system = shown.system ∙ ap (λ r. system_of v.old.unix r (output_of (model.stage i)) v.old.errors.bytes.items) (rest-by i terms.inlet source v.before x.ports are.inlet refl refl);
        ended = model-going;
      };
      ahead = shown.read_ahead;
      from = from-by i refl;
      to = to-is;
      c = are.size ∙ sym shows.c_is;
    }

    pub in-range : i < p.count
    in-range = omega (arith, shows.count_is)

    pub fits-bound : (n : ℕ) → n ≤ terms.most → (model.stage i).made + n ≤ p.bound
    fits-bound n h = let few = count-few in omega (arith, shown.made, shows.bound_is, (most-is g))

    pub few-enough : (n : ℕ) → n ≤ terms.most → n ≤ m
    few-enough n h = omega (arith, (most-is g))

    pub some-most : 1 ≤ terms.most
    some-most = let few = count-few in omega (arith, (most-is g))
