-- What turns of the model do to the output of its stages.
use Rattle.std.proofs.Common.{◌≡◌, ◌≢◌, ℕ, Bool, true, false, inl, inr, if◌then◌else◌, List, [], ◌∷◌, ◌++◌, length, drop, refl, ap, sym, ◌∙◌, subst, append_assoc, append-nil}
use Rattle.std.proofs.Math.Seq.{drop-append_seam}
use Rattle.std.proofs.lemmas.Bool.{cases_eq}
use Rattle.jvm_definition.specs.Step.{Loaded}
use Rattle.unix_pipe_laws.specs.Stages.{PipeStage, output_of}
use Rattle.unix_pipe_laws.specs.Pipelines.{Pipeline, PipeNet, can_turn, next_turn}
use Rattle.unix_pipe_laws.specs.Turns.{PipeTurn, gained, happens, run_turns, turned_net}
use Rattle.unix_pipe_laws.proofs.Runs.{turn-adds}
use Rattle.unix_pipe_laws.proofs.Turning.{own-stage, same-output}
use Rattle.pipe_net.specs.Turning.{AreOf}
use Rattle.pipe_net.proofs.Turns.{run-more}

-- an output and what is further written behind it
pub record Grows (old new : PipeStage Loaded) : Type 0 where
  pub wrote : List ℕ
  pub is : output_of new ≡ output_of old ++ wrote

grows-nothing : (x y : PipeStage Loaded) → output_of y ≡ output_of x → Grows x y
grows-nothing x y same = record { wrote = []; is = same ∙ sym (append-nil (output_of x)) }

grows-both : (x y z : PipeStage Loaded) → Grows x y → Grows y z → Grows x z
grows-both x y z a b = record {
  wrote = a.wrote ++ b.wrote;
  is = b.is ∙ (ap (λ l. l ++ b.wrote) a.is ∙ append_assoc (output_of x) a.wrote b.wrote);
}

-- what was gained is what is behind
pub gained-behind : (x y : PipeStage Loaded) → Grows x y → output_of y ≡ output_of x ++ gained x y
gained-behind x y g = g.is ∙ ap (λ l. output_of x ++ l) (sym (ap (drop (length (output_of x))) g.is ∙ drop-append_seam (output_of x) g.wrote))

module _ (p : Pipeline Loaded) where
  turned-grows : (net : PipeNet Loaded) (t : PipeTurn) (j : ℕ) → Grows (net.stage j) ((turned_net p net t).stage j)
  turned-grows net t j = elim (cases_eq j t.stage) as (λ _. Grows (net.stage j) ((turned_net p net t).stage j)) [
    | inl at ↦
        let adds = turn-adds t.stage t.piece (net.stage t.stage) (next_turn p net t.stage) in
        record { wrote = adds.wrote; is = (λ k. output_of ((turned_net p net t).stage (at k))) ∙ (ap output_of (own-stage p net t) ∙ (adds.grows ∙ (λ k. output_of (net.stage (sym at k)) ++ adds.wrote))) }
    | inr apart ↦ grows-nothing (net.stage j) ((turned_net p net t).stage j) (same-output p net t j apart)
  ]

  happens-grows : (net : PipeNet Loaded) (t : PipeTurn) (j : ℕ) → Grows (net.stage j) ((happens p net t).stage j)
  happens-grows net t j = by-test (can_turn p net t.stage)
    where
      by-test : (c : Bool) → Grows (net.stage j) ((if c then turned_net p net t else net).stage j)
      by-test true = turned-grows net t j
      by-test false = grows-nothing (net.stage j) (net.stage j) refl

  pub run-grows : (net : PipeNet Loaded) (turns : List PipeTurn) (j : ℕ) → Grows (net.stage j) ((run_turns p net turns).stage j)
  run-grows net [] j = grows-nothing (net.stage j) (net.stage j) refl
  run-grows net (t ∷ turns) j =
      grows-both (net.stage j) ((happens p net t).stage j) ((run_turns p (happens p net t) turns).stage j) (happens-grows net t j) (run-grows (happens p net t) turns j)

  -- one more at their end
  pub run-one-grows : (net : PipeNet Loaded) (turns : List PipeTurn) (t : PipeTurn) (j : ℕ) → Grows ((run_turns p net turns).stage j) ((run_turns p net (turns ++ t ∷ [])).stage j)
  run-one-grows net turns t j =
      subst (λ (k : PipeNet Loaded). Grows ((run_turns p net turns).stage j) (k.stage j)) (sym (run-more p net turns t)) (happens-grows (run_turns p net turns) t j)

  -- turns of one stage leave the output of the others
  happens-leaves : (net : PipeNet Loaded) (t : PipeTurn) (j : ℕ) → j ≢ t.stage → output_of ((happens p net t).stage j) ≡ output_of (net.stage j)
  happens-leaves net t j apart = by-test (can_turn p net t.stage)
    where
      by-test : (c : Bool) → output_of ((if c then turned_net p net t else net).stage j) ≡ output_of (net.stage j)
      by-test true = same-output p net t j apart
      by-test false = refl

  pub run-leaves : (i : ℕ) (net : PipeNet Loaded) (turns : List PipeTurn) (j : ℕ) → AreOf i turns → j ≢ i → output_of ((run_turns p net turns).stage j) ≡ output_of (net.stage j)
  run-leaves i net [] j all apart = refl
  run-leaves i net (t ∷ turns) j all apart =
      run-leaves i (happens p net t) turns j all.1 apart ∙ happens-leaves net t j (λ e. apart (e ∙ all.0))
