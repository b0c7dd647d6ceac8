-- How many instructions a turn leaves.
use Rattle.std.proofs.Common.{◌≡◌, ◌≤◌, ◌<◌, ◌+◌, ◌-◌, ◌||◌, not, nat_le, ℕ, zero, suc, Bool, true, false, if◌then◌else◌, List, [], ◌∷◌, set, Option, Some, None, Result, Ok, Err, refl, ap, sym, ◌∙◌, subst, arith}
use Rattle.std.specs.Prelude.{slice_get, IfOk}
use Rattle.std.proofs.lemmas.Bool.{ne_eqb, leb-false, true≢false}
use Rattle.std.proofs.lemmas.Option.{same_Some}
use Rattle.nv_outside.specs.Seen.{Seen}
use Rattle.nv_events.specs.Parts.{is_going}
use Rattle.run_definition.specs.declared.outcome.Outcome.{Outcome}
use Rattle.run_definition.specs.declared.outcome.Outcome.TheVariants.{Exited, Faulted, Trapped, Waiting, Going}
use Rattle.jvm_machine.specs.Machine.{has_ended}
use Rattle.run_definition.specs.declared.io_fault.IoFault.{IoFault}
use Rattle.jvm_machine.specs.Counting.{count_of}
use Rattle.pipe_net.specs.declared.executed.Executed.{Executed}
use Rattle.pipe_net.specs.declared.executed.Stop.{Stop}
use Rattle.pipe_net.specs.declared.executed.Stop.TheVariants.{Most, NotReady, Ended}
use Rattle.pipe_net.specs.declared.net.Net.{Net}
use Rattle.pipe_net.specs.declared.net_fault.NetFault.{NetFault}
use Rattle.pipe_net.specs.declared.stage.Stage.{Stage}
use Rattle.pipe_net.specs.declared.terms.Terms.{Terms}
use Rattle.pipe_net.specs.declared.turn.Turn as turn
use Rattle.pipe_net.specs.declared.turn.Turn.TheVariants.{Ran, Blocked}
use Rattle.pipe_net.specs.Executing.{Executes, Scene, Stops}
use Rattle.pipe_net.specs.Views.{scene_of}
use Rattle.pipe_net.specs.Settling.{Settles, over_by, turn_of}
use Rattle.pipe_net.specs.Showing.{IsSound}
use Rattle.pipe_net.specs.Moving.{AreTerms, MovesStage, over_in}
use Rattle.pipe_net.specs.Turning.{LeavesTurns, left_of, turns_left}

-- one stage has another count
set-left : (bound : ℕ) (xs : List Stage) (i : ℕ) (x y : Stage) → slice_get xs i ≡ Some x
    → left_of bound (set xs i y) + (bound - count_of x.jvm) ≡ left_of bound xs + (bound - count_of y.jvm)
set-left bound [] zero x y is = cc
set-left bound [] (suc i) x y is = cc
set-left bound (z ∷ xs) zero x y is =
    let same : count_of z.jvm ≡ count_of x.jvm = ap (λ (k : Stage). count_of k.jvm) (same_Some z x is) in
    omega (arith, same)
set-left bound (z ∷ xs) (suc i) x y is = let h = set-left bound xs i x y is in omega (arith, h)

at-most : (most : ℕ) (x y : Scene) (n : ℕ) (stop : Stop) → Stops most x y n stop → n ≤ most
at-most most x y n Most h = omega (arith, h.0)
at-most most x y n NotReady h = omega (arith, h.0)
at-most most x y n (Ended o) h = h.2

by-count : (n before now : ℕ) → before ≡ now + n → LeavesTurns before now (Ok (turn_of n))
by-count zero before now h = omega (arith, h)
by-count (suc k) before now h =
    subst (λ (t : turn.Turn). LeavesTurns before now (Ok t)) (sym (ap (λ b. if b then Blocked else Ran (suc k)) (ne_eqb (suc k) 0 (λ e. omega arith)))) h

pub leaves : (old new : Net) (i m : ℕ) (terms : Terms) (source source_now sink sink_now : Seen (List ℕ)) (result : Result turn.Turn NetFault) → AreTerms old i m terms
    → MovesStage terms i old.stages.items new.stages.items old.pipes.items new.pipes.items source source_now sink sink_now result → new.bound ≡ old.bound
    → LeavesTurns (turns_left old) (turns_left new) result
leaves old new i m terms source source_now sink sink_now result are v same_bound = by-executed v.executed v.executes v.counts v.settles
  where
    by-executed : (e : Result Executed IoFault) → Executes terms.most (scene_of terms v.old source v.before sink v.behind) (scene_of terms v.new source_now v.before_now sink_now v.behind_now) e → IfOk e (λ k. count_of v.new.jvm ≡ count_of v.old.jvm + k.count) → Settles terms.outlet e v.old.outcome v.new.outcome v.new.errors.faults result → LeavesTurns (turns_left old) (turns_left new) result
    by-executed (Err fault) h counts settles = subst (λ (r : Result turn.Turn NetFault). LeavesTurns (turns_left old) (turns_left new) r) (sym settles.1) tt
    by-executed (Ok e) h counts settles =
        let few = at-most terms.most (scene_of terms v.old source v.before sink v.behind) (scene_of terms v.new source_now v.before_now sink_now v.behind_now) e.count e.stop h in
        let most = are.most v.old v.stage_is in
        let all = set-left old.bound old.stages.items i v.old v.new v.stage_is in
        let now : turns_left new ≡ left_of old.bound (set old.stages.items i v.new) = (λ j. left_of (same_bound j) (v.stages_are j)) in
        subst (λ (r : Result turn.Turn NetFault). LeavesTurns (turns_left old) (turns_left new) r) (sym settles.1)
        (by-count e.count (turns_left old) (turns_left new) (omega (arith, few, most, all, now, counts)))

-- a stage that is not over has not ended
pub may-go-on : (net : Net) (i : ℕ) → IsSound net → over_in net.bound net.stages.items i ≡ false → (x : Stage) → slice_get net.stages.items i ≡ Some x → has_ended x.jvm ≡ false
may-go-on net i sound going x is =
    let over : over_by net.bound x.outcome (count_of x.jvm) ≡ false = sym (ap (λ (o : Option Stage). elim o [ None ↦ true | Some s ↦ over_by net.bound s.outcome (count_of s.jvm) ]) is) ∙ going in
    (sound.stages i x is).going (going-so x.outcome (or-first (not (is_going x.outcome)) (nat_le net.bound (count_of x.jvm)) over))
  where
    or-first : (b c : Bool) → (b || c) ≡ false → b ≡ false
    or-first true c h = absurd (true≢false h)
    or-first false c h = refl

    going-so : (o : Outcome) → not (is_going o) ≡ false → o ≡ Going
    going-so Going h = refl
    going-so (Exited status) h = cc
    going-so (Faulted f) h = cc
    going-so (Trapped k) h = cc
    going-so Waiting h = cc

pub below-bound : (net : Net) (i : ℕ) → over_in net.bound net.stages.items i ≡ false → (x : Stage) → slice_get net.stages.items i ≡ Some x → count_of x.jvm < net.bound
below-bound net i going x is =
    let over : over_by net.bound x.outcome (count_of x.jvm) ≡ false = sym (ap (λ (o : Option Stage). elim o [ None ↦ true | Some s ↦ over_by net.bound s.outcome (count_of s.jvm) ]) is) ∙ going in
    leb-false net.bound (count_of x.jvm) (or-second (not (is_going x.outcome)) (nat_le net.bound (count_of x.jvm)) over)
  where
    or-second : (b c : Bool) → (b || c) ≡ false → c ≡ false
    or-second true c h = absurd (true≢false h)
    or-second false c h = h
