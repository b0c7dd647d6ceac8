-- What holds of a program's runs, wherever its arrays stand.
use Rattle.std.specs.Prelude.{◌≡◌, ◌≢◌, ℕ, ◌+◌, Option}
use Rattle.run_definition.specs.Question.{Question}
use Rattle.run_definition.specs.Answer.{Answer}
use Rattle.run_definition.specs.Turn.{Turn}
use Rattle.run_definition.specs.Run.{Run, run_of}
use Rattle.run_definition.specs.declared.outcome.Outcome.TheVariants.{Trapped}
use Rattle.run_simulation_laws.specs.Runs.{SameRuns}
use Rattle.jvm_definition.specs.Values.{Heap}
use Rattle.jvm_definition.specs.Program.{Program}
use Rattle.jvm_definition.specs.Step.{Frame, JvmState, jvm_start, jvm_turn}
use Rattle.jvm_definition.specs.Typing.{AllTyped, IsLinked}
use Rattle.jvm_run_laws.specs.Relocation.{relocated}
use Rattle.jvm_run_laws.specs.Below.{above, StandsNowhere}
use Rattle.jvm_definition.specs.Again.{again, heap_after, IsFree, IsLeft}

-- A run asks what another one asks and ends in the same way, with the system in the same state. Its
-- machine's last state is the other's, seen so.
pub record RunsAs {S T K : Type 0} (seen : S → T) (run : Run S K) (other : Run T K) : Type 0 where
  pub questions : other.questions ≡ run.questions
  pub outcome : other.outcome ≡ run.outcome
  pub system : other.system ≡ run.system
  pub last : other.last ≡ seen run.last

-- Behind other arrays, in a region that has the room of these as well, each program runs as it does
-- without them.
abbrev pub RunsDoNotSeePlaces : {K : Type 0} → (K → Question → Option (Answer × K)) → Type 0
RunsDoNotSeePlaces {K} reply =
    (program : Program) (words n : ℕ) (below : Heap) (s : JvmState) (k : K)
    → RunsAs (relocated below) (run_of (jvm_turn program words) reply n s k)
    (run_of (jvm_turn program (below.used + words)) reply n (relocated below s) k)

-- With its fields as at the start, over a heap of any arrays, each program runs as from its start.
abbrev pub RunsBeginAfresh : {K : Type 0} → (K → Question → Option (Answer × K)) → Type 0
RunsBeginAfresh {K} reply =
    (program : Program) (words n : ℕ) (heap : Heap) (k : K) → IsFree heap
    → RunsAs (relocated heap) (run_of (jvm_turn program words) reply n (jvm_start program) k)
    (run_of (jvm_turn program (heap.used + words)) reply n (again program heap) k)

-- What runs as the program does from its start runs so as it does over a heap of any arrays.
abbrev pub FollowedAgain : {G K : Type 0} → (G → Turn G) → (K → Question → Option (Answer × K))
    → Type 0
FollowedAgain {G} {K} guest reply =
    (program : Program) (words : ℕ) (allowed : ℕ → ℕ) (heap : Heap) (g : G) (k : K) → IsFree heap
    → SameRuns guest (jvm_turn program words) reply allowed g (jvm_start program) k
    → SameRuns guest (jvm_turn program (heap.used + words)) reply allowed g (again program heap) k

-- Runs of a program whose methods are typed leave such heaps.
abbrev pub LeftHeapsAreFree : Type 0
LeftHeapsAreFree =
    (program : Program) (heap : Heap) → AllTyped program → IsLinked program → IsLeft program heap
    → IsFree heap

-- What a run over a system leaves is what a run over answers leaves.
abbrev pub RunsLeaveHeaps : {K : Type 0} → (K → Question → Option (Answer × K)) → Type 0
RunsLeaveHeaps {K} reply =
    (program : Program) (words n : ℕ) (heap : Heap) (k : K) → IsLeft program heap
    → IsLeft program (heap_after reply program words n heap k)

-- A run that never traps above a frame which cannot go on runs so without that frame.
abbrev pub RunsNeedNoFrameBelow : {K : Type 0} → (K → Question → Option (Answer × K)) → Type 0
RunsNeedNoFrameBelow {K} reply =
    (program : Program) (words n : ℕ) (below : Frame) (s : JvmState) (k : K)
    → StandsNowhere program below
    → ((m trap : ℕ)
    → (run_of (jvm_turn program words) reply m (above below s) k).outcome ≢ Trapped trap)
    → RunsAs (above below) (run_of (jvm_turn program words) reply n s k)
    (run_of (jvm_turn program words) reply n (above below s) k)

-- What never traps, and runs as the program does above such a frame, runs as it does without it.
abbrev pub FollowedWithoutFrameBelow : {G K : Type 0} → (G → Turn G)
    → (K → Question → Option (Answer × K)) → Type 0
FollowedWithoutFrameBelow {G} {K} guest reply =
    (program : Program) (words : ℕ) (allowed : ℕ → ℕ) (below : Frame) (s : JvmState) (g : G) (k : K)
    → StandsNowhere program below
    → ((n trap : ℕ) → (run_of guest reply n g k).outcome ≢ Trapped trap)
    → SameRuns guest (jvm_turn program words) reply allowed g (above below s) k
    → SameRuns guest (jvm_turn program words) reply allowed g s k

-- In each program a frame may stand so.
abbrev pub SomeFrameStandsNowhere : Type 0
SomeFrameStandsNowhere = (program : Program) → (below : Frame) × StandsNowhere program below
