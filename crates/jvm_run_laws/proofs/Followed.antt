-- What runs as a program does runs as another program that runs so too.
use Rattle.std.proofs.Common.{◌≡◌, ◌≢◌, ℕ, ◌+◌, ◌++◌, Option, ap, sym, ◌∙◌}
use Rattle.run_definition.specs.Question.{Question}
use Rattle.run_definition.specs.Answer.{Answer}
use Rattle.run_definition.specs.Turn.{Turn}
use Rattle.run_definition.specs.Run.{Run, run_of}
use Rattle.run_definition.specs.declared.outcome.Outcome.{Outcome}
use Rattle.run_definition.specs.declared.outcome.Outcome.TheVariants.{Trapped, Going}
use Rattle.run_simulation_laws.specs.Runs.{Agrees, SameRuns}
use Rattle.jvm_definition.specs.Step.{jvm_start, jvm_turn}
use Rattle.jvm_definition.specs.Again.{again}
use Rattle.jvm_run_laws.specs.Below.{above}
use Rattle.jvm_run_laws.specs.Laws.{RunsAs, FollowedAgain, FollowedWithoutFrameBelow}
use Rattle.jvm_run_laws.proofs.Starts.{runs-afresh}
use Rattle.jvm_run_laws.proofs.FramesBelow.{runs-above}

-- what two runs have in common, whatever their machines' states are
record IsLike {S T K : Type 0} (run : Run S K) (other : Run T K) : Type 0 where
  pub questions : other.questions ≡ run.questions
  pub outcome : other.outcome ≡ run.outcome
  pub system : other.system ≡ run.system

like : {S T K : Type 0} (seen : S → T) (run : Run S K) (other : Run T K) → RunsAs seen run other → IsLike run other
like seen run other r = record { questions = r.questions; outcome = r.outcome; system = r.system }

liked : {S T K : Type 0} (seen : S → T) (run : Run S K) (other : Run T K) → RunsAs seen run other → IsLike other run
liked seen run other r =
    record { questions = sym r.questions; outcome = sym r.outcome; system = sym r.system }

module _ {G J L K : Type 0} (guest : G → Turn G) (classes : J → Turn J) (other : L → Turn L) (reply : K → Question → Option (Answer × K)) (allowed : ℕ → ℕ) (g : G) (j : J) (l : L) (k : K) (same : SameRuns guest classes reply allowed g j k) (runs : (n : ℕ) → IsLike (run_of classes reply n j k) (run_of other reply n l k)) where
  goes_forth : (n : ℕ) → Agrees (run_of guest reply n g k) (run_of other reply (allowed n) l k)
  goes_forth n =
      let first = same.forth n in
      let a = runs (allowed n) in
      record {
        questions = (first.questions.0, a.questions ∙ first.questions.1);
        over = λ h. let ends = first.over h in (a.questions ∙ ends.0, a.outcome ∙ ends.1, a.system ∙ ends.2);
      }

  goes_back : (n : ℕ) → Agrees (run_of other reply n l k) (run_of guest reply n g k)
  goes_back n =
      let first = same.back n in
      let a = runs n in
      record {
        questions = (first.questions.0, first.questions.1 ∙ ap (λ qs. qs ++ first.questions.0) (sym a.questions));
        over = λ h. let ends = first.over (λ e. h (a.outcome ∙ e)) in (ends.0 ∙ sym a.questions, ends.1 ∙ sym a.outcome, ends.2 ∙ sym a.system);
      }

  same_as : SameRuns guest other reply allowed g l k
  same_as = record { forth = goes_forth; back = goes_back }

pub followed-again : {G K : Type 0} (guest : G → Turn G) (reply : K → Question → Option (Answer × K)) → FollowedAgain guest reply
followed-again guest reply program words allowed heap g k free same =
    same_as guest (jvm_turn program words) (jvm_turn program (heap.used + words)) reply allowed g (jvm_start program) (again program heap) k same
    (λ n. like _ _ _ (runs-afresh reply program words n heap k free))

trap_is_over : (trap : ℕ) (o : Outcome) → o ≡ Trapped trap → o ≢ Going
trap_is_over trap o e going = cc

pub followed-without : {G K : Type 0} (guest : G → Turn G) (reply : K → Question → Option (Answer × K)) → FollowedWithoutFrameBelow guest reply
followed-without guest reply program words allowed below s g k nowhere untrapped same =
    let never : (m trap : ℕ) → (run_of (jvm_turn program words) reply m (above below s) k).outcome ≢ Trapped trap = λ m trap e. untrapped m trap (((same.back m).over (trap_is_over trap (run_of (jvm_turn program words) reply m (above below s) k).outcome e)).1 ∙ e) in
    same_as guest (jvm_turn program words) (jvm_turn program words) reply allowed g (above below s) s k same
    (λ n. liked _ _ _ (runs-above reply program words n below s k nowhere never))
