-- A loaded program runs as its state does.
use Rattle.std.proofs.Common.{◌≡◌, ℕ, zero, suc, ◌+◌, List, [], ◌∷◌, Option, Some, None, refl, ap, sym, subst, ◌∙◌}
use Rattle.std.specs.List.{sum_by}
use Rattle.std.proofs.lemmas.List.Sums.{sum_by-cons}
use Rattle.run_definition.specs.Question.{Question}
use Rattle.run_definition.specs.Answer.{Answer}
use Rattle.run_definition.specs.Turn.{Turn, moves, ends, leaves, asks}
use Rattle.run_definition.specs.Run.{Run, asking, run_of}
use Rattle.nv_events.proofs.RunLaws.{given, turned, run_of-suc}
use Rattle.run_simulation_laws.specs.Trail.{Step, trail_given, trail_by, trail_of}
use Rattle.jvm_definition.specs.declared.instruction.Instruction.{Instruction}
use Rattle.jvm_definition.specs.Program.{Program}
use Rattle.jvm_definition.specs.Step.{JvmState, Loaded, jvm_turn, turn_loaded, loaded_turn}
use Rattle.emit_paths_laws.specs.Classes.{executed, executed_loaded, with_state, IsRunLoaded}

module _ {K : Type 0} (program : Program) (words : ℕ) (reply : K → Question → Option (Answer × K)) where
  abbrev load : JvmState → Loaded
  load s = with_state program words s

  -- ---- the runs

  same_stop : (qs : List Question) (r : Run JvmState K) (l : Run Loaded K) (q : Question) → IsRunLoaded program words r l → IsRunLoaded program words (asking q r) (asking q l)
  same_stop qs r l q h = record { questions = ap (λ rs. q ∷ rs) h.questions; outcome = h.outcome; last = h.last; system = h.system }

  run_given : (got : Option (Answer × K)) (q : Question) (next : Answer → JvmState) (s : JvmState) (k : K) (go : JvmState → K → Run JvmState K) (on : Loaded → K → Run Loaded K) → ((t : JvmState) (l : K) → IsRunLoaded program words (go t l) (on (load t) l)) → IsRunLoaded program words (given got q next s k go) (given got q (λ a. load (next a)) (load s) k on)
  run_given None q next s k go on h = record { questions = refl; outcome = refl; last = refl; system = refl }
  run_given (Some got) q next s k go on h = same_stop [] (go (next got.0) got.1) (on (load (next got.0)) got.1) q (h (next got.0) got.1)

  run_turned : (x : Turn JvmState) (s : JvmState) (k : K) (go : JvmState → K → Run JvmState K) (on : Loaded → K → Run Loaded K) → ((t : JvmState) (l : K) → IsRunLoaded program words (go t l) (on (load t) l)) → IsRunLoaded program words (turned reply x s k go) (turned reply (turn_loaded (load s) x) (load s) k on)
  run_turned (moves t) s k go on h = h t k
  run_turned (ends e) s k go on h = record { questions = refl; outcome = refl; last = refl; system = refl }
  run_turned (leaves q e) s k go on h = record { questions = refl; outcome = refl; last = refl; system = refl }
  run_turned (asks q next) s k go on h = run_given (reply k q) q next s k go on h

  pub loaded_run : (n : ℕ) (s : JvmState) (k : K) → IsRunLoaded program words (run_of (jvm_turn program words) reply n s k) (run_of loaded_turn reply n (load s) k)
  loaded_run zero s k = record { questions = refl; outcome = refl; last = refl; system = refl }
  loaded_run (suc n) s k =
      let by = run_turned (jvm_turn program words s) s k (run_of (jvm_turn program words) reply n) (run_of loaded_turn reply n) (loaded_run n) in
      subst (λ (r : Run JvmState K). IsRunLoaded program words r (run_of loaded_turn reply (suc n) (load s) k)) (sym (run_of-suc (jvm_turn program words) reply n s k)) (subst (λ (r : Run Loaded K). IsRunLoaded program words (turned reply (jvm_turn program words s) s k (run_of (jvm_turn program words) reply n)) r) (sym (run_of-suc loaded_turn reply n (load s) k)) by)

  -- ---- what they count

  module _ (weight : Instruction → ℕ) where
    abbrev Same : List (Step JvmState) → List (Step Loaded) → Type 0
    Same trail loaded = sum_by (executed_loaded weight) loaded ≡ sum_by (executed program weight) trail

    same_step : (s : JvmState) (to : Option JvmState) (to_loaded : Option Loaded) (trail : List (Step JvmState)) (loaded : List (Step Loaded)) → Same trail loaded → Same (record { from = s; to = to } ∷ trail) (record { from = load s; to = to_loaded } ∷ loaded)
    same_step s to to_loaded trail loaded h =
        sum_by-cons (executed_loaded weight) (record { from = load s; to = to_loaded }) loaded
        ∙ ap (λ x. executed program weight (record { from = s; to = to }) + x) h
        ∙ sym (sum_by-cons (executed program weight) (record { from = s; to = to }) trail)

    count_given : (got : Option (Answer × K)) (next : Answer → JvmState) (s : JvmState) (go : JvmState → K → List (Step JvmState)) (on : Loaded → K → List (Step Loaded)) → ((t : JvmState) (l : K) → Same (go t l) (on (load t) l)) → Same (trail_given got next s go) (trail_given got (λ a. load (next a)) (load s) on)
    count_given None next s go on h = same_step s None None [] [] refl
    count_given (Some got) next s go on h = same_step s (Some (next got.0)) (Some (load (next got.0))) (go (next got.0) got.1) (on (load (next got.0)) got.1) (h (next got.0) got.1)

    count_turned : (x : Turn JvmState) (s : JvmState) (k : K) (go : JvmState → K → List (Step JvmState)) (on : Loaded → K → List (Step Loaded)) → ((t : JvmState) (l : K) → Same (go t l) (on (load t) l)) → Same (trail_by reply x s k go) (trail_by reply (turn_loaded (load s) x) (load s) k on)
    count_turned (moves t) s k go on h = same_step s (Some t) (Some (load t)) (go t k) (on (load t) k) (h t k)
    count_turned (ends e) s k go on h = same_step s None None [] [] refl
    count_turned (leaves q e) s k go on h = same_step s None None [] [] refl
    count_turned (asks q next) s k go on h = count_given (reply k q) next s go on h

    pub loaded_counts : (n : ℕ) (s : JvmState) (k : K) → Same (trail_of (jvm_turn program words) reply n s k) (trail_of loaded_turn reply n (load s) k)
    loaded_counts zero s k = refl
    loaded_counts (suc n) s k =
        count_turned (jvm_turn program words s) s k (trail_of (jvm_turn program words) reply n) (trail_of loaded_turn reply n) (loaded_counts n)
