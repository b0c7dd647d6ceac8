-- A turn of a stage that is not over, and which stage and which pipes of its net changed in it.
use Rattle.std.proofs.Common.{◌≡◌, ◌≢◌, ◌⊎◌, ◌<◌, ◌≤◌, ◌-◌, ◌==◌, inl, inr, ℕ, zero, suc, min, Bool, true, false, if◌then◌else◌, List, [], length, set, Option, Some, None, Result, refl, ap, sym, ◌∙◌, subst, arith}
use Rattle.std.specs.Prelude.{slice_get}
use Rattle.std.specs.Io.KnownBytes.{Appends, Consumes}
use Rattle.std.proofs.lemmas.Bool.{cases_eq, eqb-true, eqb-false}
use Rattle.std.proofs.lemmas.List.{length-set}
use Rattle.nv_outside.specs.Seen.{Seen, Takes}
use Rattle.jvm_machine.specs.Counting.{count_of}
use Rattle.pipe_net.specs.declared.inlet.Inlet.{Inlet}
use Rattle.pipe_net.specs.declared.inlet.Inlet.TheVariants as inlet
use Rattle.pipe_net.specs.declared.net.Net.{Net}
use Rattle.pipe_net.specs.declared.net_fault.NetFault.{NetFault}
use Rattle.pipe_net.specs.declared.outlet.Outlet.{Outlet}
use Rattle.pipe_net.specs.declared.outlet.Outlet.TheVariants as outlet
use Rattle.pipe_net.specs.declared.pipe.Pipe.{Pipe}
use Rattle.pipe_net.specs.declared.stage.Stage.{Stage}
use Rattle.pipe_net.specs.declared.terms.Terms.{Terms}
use Rattle.pipe_net.specs.declared.turn.Turn as turn
use Rattle.pipe_net.specs.Ports.{Kept, OtherInput, OtherOutput, output_at}
use Rattle.pipe_net.specs.Executing.{Scene}
use Rattle.pipe_net.specs.Settling.{over_by}
use Rattle.pipe_net.specs.Views.{scene_of}
use Rattle.pipe_net.specs.Moving.{AreTerms, MovesStage, inlet_of, over_in}
use Rattle.pipe_net.specs.Showing.{IsSound, IsSoundStage}
use Rattle.unix_calls.proofs.DrawLemmas.{consumes-nothing}
use Rattle.pipe_net.specs.Turning.{DrawsInput}
use Rattle.pipe_net.proofs.Lists.{set-is, set-other}
use Rattle.pipe_net.proofs.Stepping.{Loses, Since}

-- a turn of stage i of a sound net, on its terms, and what it did
pub record Moved : Type 0 where
  pub old : Net
  pub new : Net
  pub i : ℕ
  pub m : ℕ
  pub terms : Terms
  pub source : Seen (List ℕ)
  pub source_now : Seen (List ℕ)
  pub sink : Seen (List ℕ)
  pub sink_now : Seen (List ℕ)
  pub result : Result turn.Turn NetFault
  pub sound : IsSound old
  pub within : i < length old.stages.items
  pub some : 1 ≤ m
  pub going : over_in old.bound old.stages.items i ≡ false
  pub are : AreTerms old i m terms
  pub v : MovesStage terms i old.stages.items new.stages.items old.pipes.items new.pipes.items source source_now sink sink_now result
  pub same_c : new.c ≡ old.c
  pub same_bound : new.bound ≡ old.bound

module _ (g : Moved) where
  open g use {old, new, i, m, terms, source, source_now, sink, sink_now, result, sound, within, some, going, are, v, same_c, same_bound}

  abbrev pub scene_before : Scene
  scene_before = scene_of terms v.old source v.before sink v.behind

  abbrev pub scene_behind : Scene
  scene_behind = scene_of terms v.new source_now v.before_now sink_now v.behind_now

  abbrev stages : List Stage
  stages = old.stages.items

  abbrev pipes : List Pipe
  pipes = old.pipes.items

  pub pipe-within : i < length pipes
  pipe-within = let h = sound.pipes in omega arith

  pub behind-within : suc i < length pipes
  behind-within = let h = sound.pipes in omega arith

  -- ---- which stage and which pipes changed

  pub stage-new : (j : ℕ) (s : Stage) → slice_get new.stages.items j ≡ Some s → j ≡ i → s ≡ v.new
  stage-new j s is at = set-is stages i s v.new within (ap (λ k. slice_get (set stages i v.new) k) (sym at) ∙ (ap (λ l. slice_get l j) (sym v.stages_are) ∙ is))

  pub stage-old : (j : ℕ) (s : Stage) → slice_get new.stages.items j ≡ Some s → j ≢ i → slice_get stages j ≡ Some s
  stage-old j s is apart = sym (set-other stages i j v.new apart) ∙ (ap (λ l. slice_get l j) (sym v.stages_are) ∙ is)

  abbrev pipes_set : List Pipe
  pipes_set = set pipes i v.before_now

  length-set-pipes : length pipes_set ≡ length pipes
  length-set-pipes = length-set pipes i v.before_now

  pipe-at : (j : ℕ) (pipe : Pipe) → slice_get new.pipes.items j ≡ Some pipe → slice_get (set pipes_set (suc i) v.behind_now) j ≡ Some pipe
  pipe-at j pipe is = ap (λ l. slice_get l j) (sym v.pipes_are) ∙ is

  pub pipe-before : (j : ℕ) (pipe : Pipe) → slice_get new.pipes.items j ≡ Some pipe → j ≡ i → pipe ≡ v.before_now
  pipe-before j pipe is at =
      let there : slice_get pipes_set i ≡ Some pipe = sym (set-other pipes_set (suc i) i v.behind_now (λ e. omega arith)) ∙ (ap (λ k. slice_get (set pipes_set (suc i) v.behind_now) k) (sym at) ∙ pipe-at j pipe is) in
      set-is pipes i pipe v.before_now pipe-within there

  pub pipe-behind : (j : ℕ) (pipe : Pipe) → slice_get new.pipes.items j ≡ Some pipe → j ≡ suc i → pipe ≡ v.behind_now
  pipe-behind j pipe is at =
      set-is pipes_set (suc i) pipe v.behind_now (let h = behind-within in omega (arith, length-set-pipes)) (ap (λ k. slice_get (set pipes_set (suc i) v.behind_now) k) (sym at) ∙ pipe-at j pipe is)

  pub pipe-old : (j : ℕ) (pipe : Pipe) → slice_get new.pipes.items j ≡ Some pipe → j ≢ i → j ≢ suc i → slice_get pipes j ≡ Some pipe
  pipe-old j pipe is apart away = sym (set-other pipes i j v.before_now apart) ∙ (sym (set-other pipes_set (suc i) j v.behind_now away) ∙ pipe-at j pipe is)

  pub stages-kept : length new.stages.items ≡ length stages
  stages-kept = ap length v.stages_are ∙ length-set stages i v.new

  pub pipes-kept : length new.pipes.items ≡ length pipes
  pipes-kept = ap length v.pipes_are ∙ (length-set pipes_set (suc i) v.behind_now ∙ length-set-pipes)

  -- ---- where its input comes from, and where its output goes

  pub from-zero : i ≡ 0 → terms.inlet ≡ inlet.Source
  from-zero is = are.inlet ∙ ap (inlet_of old.bound stages) is

  pub from-later : (k : ℕ) → i ≡ suc k → terms.inlet ≡ inlet.Pipe (over_in old.bound stages k)
  from-later k is = are.inlet ∙ ap (inlet_of old.bound stages) is

  abbrev pub OfLast : Type 0
  OfLast = (suc i ≡ length stages) × (terms.outlet ≡ outlet.Sink)

  abbrev pub OfDone : Type 0
  OfDone = (suc i ≢ length stages) × (over_in old.bound stages (suc i) ≡ true) × (terms.outlet ≡ outlet.Nowhere)

  abbrev pub OfInner : Type 0
  OfInner = (suc i ≢ length stages) × (over_in old.bound stages (suc i) ≡ false) × (terms.outlet ≡ outlet.Pipe)

  pub outlet-is : OfLast ⊎ (OfDone ⊎ OfInner)
  outlet-is = by-tests (suc i == length stages) (over_in old.bound stages (suc i)) refl refl are.outlet
    where
      by-tests : (b c : Bool) → (suc i == length stages) ≡ b → over_in old.bound stages (suc i) ≡ c → terms.outlet ≡ (if b then outlet.Sink else if c then outlet.Nowhere else outlet.Pipe) → OfLast ⊎ (OfDone ⊎ OfInner)
      by-tests true c at over is = inl (eqb-true (suc i) (length stages) at, is)
      by-tests false true at over is = inr (inl (eqb-false (suc i) (length stages) at, over, is))
      by-tests false false at over is = inr (inr (eqb-false (suc i) (length stages) at, over, is))

  pub is-over : over_by old.bound v.old.outcome (count_of v.old.jvm) ≡ false
  is-over = sym (ap (λ (o : Option Stage). elim o [ None ↦ true | Some s ↦ over_by old.bound s.outcome (count_of s.jvm) ]) v.stage_is) ∙ going

  pub most-is : terms.most ≡ min m (old.bound - count_of v.old.jvm)
  most-is = are.most v.old v.stage_is

  -- what it took of the source
  pub draws-by : (k : ℕ) → i ≡ k → Loses terms.inlet scene_before.ports scene_behind.ports → OtherInput terms.inlet scene_before.ports scene_behind.ports → DrawsInput i source source_now
  draws-by zero is lost other =
      let l = subst (λ (z : Inlet). Loses z scene_before.ports scene_behind.ports) (from-zero is) lost in
      record { got = l.0; first = l.1; others = λ apart. absurd (apart is) }
  draws-by (suc k) is lost other =
      let same : source_now ≡ source = subst (λ (l : Inlet). OtherInput l scene_before.ports scene_behind.ports) (from-later k is) other in
      record {
        got = [];
        first = subst (λ (z : Seen (List ℕ)). Consumes source.told z.told []) (sym same) (consumes-nothing source.told);
        others = λ apart. ap (λ (z : Seen (List ℕ)). z.told) same;
      }

  -- ---- what a turn leaves, whatever the model

  module _ (w : List ℕ) (s : Since scene_before.ports scene_behind.ports w) where
    pub source-stays : (k : ℕ) → i ≡ suc k → source_now ≡ source
    source-stays k is = subst (λ (l : Inlet). OtherInput l scene_before.ports scene_behind.ports) (from-later k is) s.others.input

    pub sink-stays : suc i ≢ length stages → sink_now ≡ sink
    sink-stays apart = elim outlet-is [
      | inl last ↦ absurd (apart last.0)
      | inr inner ↦ elim inner [
        | inl done ↦ (subst (λ (l : Outlet). OtherOutput l sink scene_before.ports.behind sink_now scene_behind.ports.behind) done.2 s.others.output).0
        | inr on ↦ subst (λ (l : Outlet). OtherOutput l sink scene_before.ports.behind sink_now scene_behind.ports.behind) on.2 s.others.output
      ]
    ]

    pub took-last : suc i ≡ length stages → Appends sink.told sink_now.told w
    took-last at = elim outlet-is [
      | inl last ↦ (subst (λ (l : Outlet). Takes (output_at l sink scene_before.ports.behind) (output_at l sink_now scene_behind.ports.behind) w) last.1 s.took).0
      | inr inner ↦ elim inner [
        | inl done ↦ absurd (done.0 at)
        | inr on ↦ absurd (on.0 at)
      ]
    ]

    pub behind-stays : OfDone → v.behind_now.bytes.items ≡ v.behind.bytes.items
    behind-stays done = ap (λ (k : Kept). k.bytes) (subst (λ (l : Outlet). OtherOutput l sink scene_before.ports.behind sink_now scene_behind.ports.behind) done.2 s.others.output).1

  pub sound-now : IsSoundStage v.new → IsSound new
  sound-now own = record {
    pipes = pipes-kept ∙ (sound.pipes ∙ ap (λ n. suc n) (sym stages-kept));
    stages = λ j s is. elim (cases_eq j i) [
      | inl at ↦ subst IsSoundStage (sym (stage-new j s is at)) own
      | inr apart ↦ sound.stages j s (stage-old j s is apart)
    ];
  }

  pub old-sound : IsSoundStage v.old
  old-sound = sound.stages i v.old v.stage_is
