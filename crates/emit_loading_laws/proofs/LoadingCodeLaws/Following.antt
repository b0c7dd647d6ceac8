-- Loading with a meter as the laws of runs want it.
use Rattle.std.proofs.Common.{◌≡◌, ℕ, ◌+◌, ◌≤◌, Bool, false, if◌then◌else◌, IsTrue, refl, ap, sym, subst, ◌∙◌, arith}
use Rattle.run_definition.specs.Question.{Question}
use Rattle.run_definition.specs.Answer.{Answer, answer_fits}
use Rattle.run_definition.specs.Turn.{Turn, End, ends, asks, «fault»}
use Rattle.run_simulation_laws.specs.Turns.{Pair, Alike, Follows}
use Rattle.run_simulation_laws.specs.Pairs.{FollowsByMeter}
use Rattle.run_simulation_laws.proofs.Paying.{paid, not-paid}
use Rattle.mips_definition.specs.State as guest
use Rattle.mips_definition.specs.Step as guest_step
use Rattle.mips_definition.specs.Step.{loader_question, after_loader}
use Rattle.jvm_definition.specs.Program.{Program}
use Rattle.jvm_definition.specs.Step.{JvmState, jvm_start, jvm_turn}
use Rattle.meter_laws.specs.Meters.{spent_fault}
use Rattle.emit_loading_laws.specs.Made.{begun_at}
use Rattle.emit_loading_laws.specs.Metered.{LoadsByMeter, EndsAtOnce, HasBegunByMeter}

-- both ask the same
alike-asks : {G J : Type 0} (GoesOn : G → J → Type 0) (Ends : Type 0) (q : Question) (next : Answer → G) (later : Answer → J) (x : Turn G) (y : Turn J)
    → x ≡ asks q next → y ≡ asks q later → Ends → ((a : Answer) → IsTrue (answer_fits a q) → GoesOn (next a) (later a)) → Alike GoesOn Ends x y
alike-asks {G} {J} GoesOn Ends q next later x y first second finish goes =
    let both : Alike GoesOn Ends (asks q next) (asks q later) = (refl, finish, goes) in
    subst (λ (z : Turn G). Alike GoesOn Ends z y) (sym first) (subst (λ (z : Turn J). Alike GoesOn Ends (asks q next) z) (sym second) both)

-- the guest machine and the classes of a program, of which nothing is counted
abbrev uncounted : Program → ℕ → Pair guest.State JvmState ⊥
uncounted program words = record {
  guest = guest_step.turn;
  classes = jvm_turn program words;
  tally = λ i. absurd i;
  marked = λ s. false;
}

module _ (program : Program) (words own m choose : ℕ) (is_span : ℕ → Bool) (limit : ℕ) (s : guest.State) (spent : guest.State → End) where
  abbrev Begun : ℕ → guest.State → JvmState → Type 0
  Begun = HasBegunByMeter own choose

  module _ (most left : ℕ) (begun : s.begun ≡ false) (l : LoadsByMeter program words own m choose is_span most left s) (time : most + 9 ≤ limit) where
    abbrev before : ℕ
    before = l.loads.reaches.reaches.turns

    soon : before ≤ most
    soon = l.loads.reaches.reaches.in_time

    rests-there : (a : Answer) (fit : IsTrue (answer_fits a (loader_question s))) → Begun left (after_loader s a) (begun_at program words own m choose 8 (l.loads.next a) (after_loader s a) (l.loads.begins a fit))
    rests-there a fit =
        let b = l.loads.begins a fit in
        record {
          begun = record {
            workspace = b.workspace;
            below = b.below;
            stands = refl;
            held = b.held;
            pc_is = b.pc_is;
            no_operands = b.no_operands;
            waits_in = b.waits_in;
          };
          left_is = l.left_then a fit;
        }

    follows : Follows (uncounted program words) (Begun left) (λ n. limit) s (jvm_start program)
    follows = record {
      guest_turns = 0;
      class_turns = before;
      guest_at = s;
      class_at = l.loads.asking;
      guest_comes = refl;
      class_comes = (l.loads.reaches.reaches.path 0).comes;
      no_sooner = omega arith;
      unmarked = λ n t some few comes. refl;
      early = λ i n few. absurd i;
      alike = alike-asks _ _ (loader_question s) (after_loader s) l.loads.next (guest_step.turn s) (jvm_turn program words l.loads.asking)
          (ap (λ b. if b then guest_step.instruction_turn s else asks (loader_question s) (after_loader s)) begun) l.loads.asks_it
          (record { in_time = omega (arith, soon, time); counted = λ i. absurd i })
          (λ a fit.
          let b = l.loads.begins a fit in
          let in_time = b.reaches.in_time in
          record {
            more = b.reaches.turns;
            rest = begun_at program words own m choose 8 (l.loads.next a) (after_loader s a) b;
            comes = (b.reaches.path 0).comes;
            rests = rests-there a fit;
            in_time = omega (arith, in_time, soon, time);
            counted = λ i. absurd i;
          });
    }

    pub metered-follows : FollowsByMeter guest_step.turn (jvm_turn program words) spent Begun (λ n. limit) (left + 1) s (jvm_start program)
    unfolding follows
    metered-follows =
        let none : 0 + 1 + left ≡ left + 1 = omega arith in
        subst (λ turns. FollowsByMeter guest_step.turn (jvm_turn program words) spent Begun (λ n. limit) turns s (jvm_start program)) none
        (paid (uncounted program words) spent Begun left (λ n. limit) s (jvm_start program) follows)

  pub spent-follows : (most at : ℕ) → spent s ≡ «fault» (spent_fault at) → EndsAtOnce program words m is_span most at → most + 1 ≤ limit
      → FollowsByMeter guest_step.turn (jvm_turn program words) spent Begun (λ n. limit) 0 s (jvm_start program)
  spent-follows most at is e time =
      let in_time = e.reaches.reaches.in_time in
      not-paid guest_step.turn (jvm_turn program words) spent Begun (λ n. limit) 0 e.reaches.reaches.turns s s (jvm_start program) e.last refl
      (e.reaches.reaches.path 0).comes (e.ends_so ∙ ap (λ f. ends f) (sym is)) (omega arith) (omega (arith, in_time, time))
