-- What the turns of stages do to all of them.
use Rattle.std.specs.Prelude.{◌≡◌, ℕ, zero, suc, ◌==◌, ◌<◌, true, if◌then◌else◌, List, [], ◌∷◌, ◌++◌, length, drop}
use Rattle.unix_pipe_laws.specs.Stages.{PipeStage, is_over, after_turn, comes_to, with_rest, input_left, output_of, begins}
use Rattle.unix_pipe_laws.specs.Pipelines.{Pipeline, PipeNet, next_turn, can_turn, is_over_at}

-- A stage is to make a turn, before which a piece of input comes, if it is a call of the first stage; and after which so many bytes are read ahead.
pub record PipeTurn : Type 0 where
  pub stage : ℕ
  pub piece : List ℕ
  pub ahead : ℕ

-- what a stage's output gained
abbrev pub gained : {S : Type 0} → PipeStage S → PipeStage S → List ℕ
gained old new = drop (length (output_of old)) (output_of new)

-- it goes into the pipe of the next stage, unless that is over
abbrev pub poured : {S : Type 0} → ℕ → List ℕ → PipeStage S → PipeStage S
poured bound bytes x = if is_over bound x then x
    else record x { system = with_rest x.system (input_left x ++ bytes) }

-- the stage that makes the turn, the one behind it, and the others
abbrev pub turned_stage : {S : Type 0} → Pipeline S → PipeNet S → PipeTurn → PipeStage S
turned_stage p net t =
    after_turn (comes_to t.stage t.piece) (net.stage t.stage) (next_turn p net t.stage)

abbrev pub stage_after : {S : Type 0} → Pipeline S → PipeNet S → PipeTurn → ℕ → PipeStage S
stage_after p net t j =
    if j == t.stage then turned_stage p net t
    else if j == suc t.stage
    then poured p.bound (gained (net.stage t.stage) (turned_stage p net t)) (net.stage j)
    else net.stage j

abbrev pub turned_net : {S : Type 0} → Pipeline S → PipeNet S → PipeTurn → PipeNet S
turned_net p net t = record {
  stage = stage_after p net t;
  ahead = λ j. if j == t.stage then t.ahead else net.ahead j;
}

-- it makes the turn where it can
abbrev pub happens : {S : Type 0} → Pipeline S → PipeNet S → PipeTurn → PipeNet S
happens p net t = if can_turn p net t.stage then turned_net p net t else net

abbrev pub run_turns : {S : Type 0} → Pipeline S → PipeNet S → List PipeTurn → PipeNet S
run_turns p net [] = net
run_turns p net (t ∷ turns) = run_turns p (happens p net t) turns

-- each of these turns is made
abbrev pub AllHappen : {S : Type 0} → Pipeline S → PipeNet S → List PipeTurn → Type 0
AllHappen p net [] = Unit {0}
AllHappen p net (t ∷ turns) = (can_turn p net t.stage ≡ true) × AllHappen p (happens p net t) turns

-- no piece of input comes: all of it is there from the first
abbrev pub BringNothing : List PipeTurn → Type 0
BringNothing [] = Unit {0}
BringNothing (t ∷ turns) = (t.piece ≡ []) × BringNothing turns

-- before the first turn all input stands before the first stage
abbrev pub first_rest : {S : Type 0} → Pipeline S → ℕ → List ℕ
first_rest p zero = p.input
first_rest p (suc i) = []

abbrev pub net_at_start : {S : Type 0} → Pipeline S → PipeNet S
net_at_start p = record {
  stage = λ i. begins (p.machines i) (p.systems i) (first_rest p i);
  ahead = λ i. 0;
}

abbrev pub AllOver : {S : Type 0} → Pipeline S → PipeNet S → Type 0
AllOver p net = (i : ℕ) → i < p.count → is_over_at p net i ≡ true
