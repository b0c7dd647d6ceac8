-- One turn in a net.
use Rattle.std.proofs.Common.{◌≡◌, ◌≢◌, ℕ, suc, ◌<◌, ◌==◌, nat_lt, Bool, true, false, not, ◌&&◌, if◌then◌else◌, List, [], ◌∷◌, ◌++◌, zero, refl, ap, ◌∙◌, arith}
use Rattle.std.proofs.lemmas.Bool.{and_parts, not-true, ltb-true, ne_eqb, eq-eqb}
use Rattle.unix_pipe_laws.specs.Stages.{PipeStage, is_over, with_rest, input_left, output_of}
use Rattle.unix_pipe_laws.specs.Pipelines.{Pipeline, PipeNet, is_over_at, next_turn, stands_ready, can_turn}
use Rattle.unix_pipe_laws.specs.Turns.{PipeTurn, gained, poured, turned_stage, stage_after, happens}
use Rattle.unix_pipe_laws.proofs.Runs.{piece_for}
use Rattle.run_definition.specs.Turn.{Turn}

module _ {S : Type 0} (p : Pipeline S) (net : PipeNet S) where
  -- what it means that a stage can make a turn
  pub record CanTurn (i : ℕ) : Type 0 where
    pub within : i < p.count
    pub going : is_over_at p net i ≡ false
    pub ready : stands_ready p net i ≡ true

  pub can : (i : ℕ) → can_turn p net i ≡ true → CanTurn i
  can i h =
      let a = and_parts (nat_lt i p.count) (not (is_over_at p net i) && stands_ready p net i) h in
      let b = and_parts (not (is_over_at p net i)) (stands_ready p net i) a.1 in
      record { within = ltb-true i p.count a.0; going = not-true (is_over_at p net i) b.0; ready = b.1 }

  -- ---- the stages after a turn

  module _ (t : PipeTurn) where
    abbrev i : ℕ
    i = t.stage

    abbrev own : PipeStage S
    own = turned_stage p net t

    abbrev filled : ℕ → PipeStage S
    filled j = poured p.bound (gained (net.stage i) own) (net.stage j)

    pub own-stage : stage_after p net t i ≡ own
    own-stage = ap (λ c. if c then own else (if i == suc i then filled i else net.stage i)) (eq-eqb i i refl)

    pub next-stage : stage_after p net t (suc i) ≡ filled (suc i)
    next-stage =
        ap (λ c. if c then own else (if suc i == suc i then filled (suc i) else net.stage (suc i))) (ne_eqb (suc i) i (λ e. omega arith))
        ∙ ap (λ c. if c then filled (suc i) else net.stage (suc i)) (eq-eqb (suc i) (suc i) refl)

    pub other-stage : (j : ℕ) → j ≢ i → j ≢ suc i → stage_after p net t j ≡ net.stage j
    other-stage j apart away =
        ap (λ c. if c then own else (if j == suc i then filled j else net.stage j)) (ne_eqb j i apart)
        ∙ ap (λ c. if c then filled j else net.stage j) (ne_eqb j (suc i) away)

    -- what is poured into a pipe is not written by its reader
    poured-output : (bytes : List ℕ) (x : PipeStage S) → output_of (poured p.bound bytes x) ≡ output_of x
    poured-output bytes x = by-test (is_over p.bound x)
      where
        by-test : (c : Bool) → output_of (if c then x else record x { system = with_rest x.system (input_left x ++ bytes) }) ≡ output_of x
        by-test true = refl
        by-test false = refl

    -- a stage that makes no turn has written the same
    pub same-output : (j : ℕ) → j ≢ i → output_of (stage_after p net t j) ≡ output_of (net.stage j)
    same-output j apart =
        ap (λ c. output_of (if c then own else (if j == suc i then filled j else net.stage j))) (ne_eqb j i apart)
        ∙ by-test (j == suc i)
      where
        by-test : (c : Bool) → output_of (if c then filled j else net.stage j) ≡ output_of (net.stage j)
        by-test true = poured-output (gained (net.stage i) own) (net.stage j)
        by-test false = refl

-- ---- pieces of input

module _ {S : Type 0} (p : Pipeline S) where
  -- the pieces that a turn of this number takes
  abbrev pub pieces_of : ℕ → Turn S → List ℕ → List (List ℕ)
  pieces_of zero t piece = piece_for p.turn p.bound t piece
  pieces_of (suc i) t piece = []

  -- the pieces that come in turns which are made
  abbrev pub pieces_now : PipeNet S → PipeTurn → List (List ℕ)
  pieces_now net t = if can_turn p net t.stage then pieces_of t.stage (next_turn p net t.stage) t.piece else []

  abbrev pub pieces_in : PipeNet S → List PipeTurn → List (List ℕ)
  pieces_in net [] = []
  pieces_in net (t ∷ turns) = pieces_now net t ++ pieces_in (happens p net t) turns
