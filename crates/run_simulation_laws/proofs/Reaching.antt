-- How far a run has come after some turns: whatever bound is added, the rest of it is the run from there.
use Rattle.std.proofs.Common.{◌≡◌, ℕ, zero, suc, ◌+◌, ◌≤◌, List, [], ◌∷◌, ◌++◌, Option, Some, None, refl, ap, sym, subst, ◌∙◌, arith, append_assoc, unwrap_or}
use Rattle.std.proofs.lemmas.Option.{none-some}
use Rattle.run_definition.specs.Question.{Question}
use Rattle.run_definition.specs.Answer.{Answer}
use Rattle.run_definition.specs.Turn.{Turn, moves, ends, leaves, asks, End, outcome_of}
use Rattle.run_definition.specs.Run.{Run, stops, run_of}
use Rattle.nv_events.specs.Parts.{after}
use Rattle.run_definition.specs.declared.outcome.Outcome.TheVariants.{Waiting}
use Rattle.nv_events.proofs.RunLaws.{given, turned, run_of-suc, after_after}
use Rattle.run_simulation_laws.specs.Trail.{Step, went, stood, trail_given, trail_by, trail_of, if_moves, advanced, moved}

module _ {S K : Type 0} (turn : S → Turn S) (reply : K → Question → Option (Answer × K)) where
  -- after n turns, with these questions and this trail, at a state and a system
  pub record Reached (n : ℕ) (s : S) (k : K) (questions : List Question) (trail : List (Step S)) (t : S) (l : K) : Type 0 where
    pub runs : (m : ℕ) → run_of turn reply (n + m) s k ≡ after questions (run_of turn reply m t l)
    pub goes : (m : ℕ) → trail_of turn reply (n + m) s k ≡ trail ++ trail_of turn reply m t l

  -- after n turns, over
  pub record Finished (n : ℕ) (s : S) (k : K) (r : Run S K) (trail : List (Step S)) : Type 0 where
    pub runs : (m : ℕ) → run_of turn reply (n + m) s k ≡ r
    pub goes : (m : ℕ) → trail_of turn reply (n + m) s k ≡ trail

  pub reached_none : (s : S) (k : K) → Reached 0 s k [] [] s k
  reached_none s k = record {
    runs = λ m. let e : 0 + m ≡ m = omega arith in ap (λ i. run_of turn reply i s k) e;
    goes = λ m. let e : 0 + m ≡ m = omega arith in ap (λ i. trail_of turn reply i s k) e;
  }

  pub reached_join : (n m : ℕ) (s t u : S) (k l h : K) (qs rs : List Question) (xs ys : List (Step S)) → Reached n s k qs xs t l → Reached m t l rs ys u h → Reached (n + m) s k (qs ++ rs) (xs ++ ys) u h
  reached_join n m s t u k l h qs rs xs ys first next = record {
    runs = λ i. let e : n + m + i ≡ n + (m + i) = omega arith in ap (λ c. run_of turn reply c s k) e ∙ first.runs (m + i) ∙ ap (after qs) (next.runs i) ∙ after_after qs rs (run_of turn reply i u h);
    goes = λ i. let e : n + m + i ≡ n + (m + i) = omega arith in ap (λ c. trail_of turn reply c s k) e ∙ first.goes (m + i) ∙ ap (λ zs. xs ++ zs) (next.goes i) ∙ sym (append_assoc xs ys (trail_of turn reply i u h));
  }

  pub finished_join : (n m : ℕ) (s t : S) (k l : K) (qs : List Question) (xs ys : List (Step S)) (r : Run S K) → Reached n s k qs xs t l → Finished m t l r ys → Finished (n + m) s k (after qs r) (xs ++ ys)
  finished_join n m s t k l qs xs ys r first next = record {
    runs = λ i. let e : n + m + i ≡ n + (m + i) = omega arith in ap (λ c. run_of turn reply c s k) e ∙ first.runs (m + i) ∙ ap (after qs) (next.runs i);
    goes = λ i. let e : n + m + i ≡ n + (m + i) = omega arith in ap (λ c. trail_of turn reply c s k) e ∙ first.goes (m + i) ∙ ap (λ zs. xs ++ zs) (next.goes i);
  }

  -- ---- one turn, by what it is

  run_first : (x : Turn S) (m : ℕ) (s : S) (k : K) → turn s ≡ x → run_of turn reply (1 + m) s k ≡ turned reply x s k (run_of turn reply m)
  run_first x m s k e =
      let c : 1 + m ≡ suc m = omega arith in
      ap (λ i. run_of turn reply i s k) c ∙ run_of-suc turn reply m s k ∙ ap (λ y. turned reply y s k (run_of turn reply m)) e

  trail_first : (x : Turn S) (m : ℕ) (s : S) (k : K) → turn s ≡ x → trail_of turn reply (1 + m) s k ≡ trail_by reply x s k (trail_of turn reply m)
  trail_first x m s k e =
      let c : 1 + m ≡ suc m = omega arith in
      ap (λ i. trail_of turn reply i s k) c ∙ ap (λ y. trail_by reply y s k (trail_of turn reply m)) e

  pub one_moves : (s t : S) (k : K) → turn s ≡ moves t → Reached 1 s k [] (went s t ∷ []) t k
  one_moves s t k e = record {
    runs = λ m. run_first (moves t) m s k e;
    goes = λ m. trail_first (moves t) m s k e;
  }

  pub one_answered : (q : Question) (next : Answer → S) (a : Answer) (s : S) (k l : K) → turn s ≡ asks q next → reply k q ≡ Some (a, l) → Reached 1 s k (q ∷ []) (went s (next a) ∷ []) (next a) l
  one_answered q next a s k l e got = record {
    runs = λ m. run_first (asks q next) m s k e ∙ ap (λ y. given y q next s k (run_of turn reply m)) got;
    goes = λ m. trail_first (asks q next) m s k e ∙ ap (λ y. trail_given y next s (trail_of turn reply m)) got;
  }

  pub one_waits : (q : Question) (next : Answer → S) (s : S) (k : K) → turn s ≡ asks q next → reply k q ≡ None → Finished 1 s k (stops (q ∷ []) Waiting s k) (stood s ∷ [])
  one_waits q next s k e got = record {
    runs = λ m. run_first (asks q next) m s k e ∙ ap (λ y. given y q next s k (run_of turn reply m)) got;
    goes = λ m. trail_first (asks q next) m s k e ∙ ap (λ y. trail_given y next s (trail_of turn reply m)) got;
  }

  pub one_ends : (end : End) (s : S) (k : K) → turn s ≡ ends end → Finished 1 s k (stops [] (outcome_of end) s k) (stood s ∷ [])
  one_ends end s k e = record {
    runs = λ m. run_first (ends end) m s k e;
    goes = λ m. trail_first (ends end) m s k e;
  }

  pub one_leaves : (q : Question) (end : End) (s : S) (k : K) → turn s ≡ leaves q end → Finished 1 s k (stops (q ∷ []) (outcome_of end) s k) (stood s ∷ [])
  one_leaves q end s k e = record {
    runs = λ m. run_first (leaves q end) m s k e;
    goes = λ m. trail_first (leaves q end) m s k e;
  }

  -- ---- turns that only move

  moved_on : (n : ℕ) (x : Turn S) (s t : S) (k : K) → turn s ≡ x → if_moves x None (advanced turn n) ≡ Some t → ((u : S) → advanced turn n u ≡ Some t → Reached n u k [] (moved turn n u) t k) → Reached (1 + n) s k [] (if_moves x [] (λ u. went s u ∷ moved turn n u)) t k
  moved_on n (moves u) s t k e is on =
      reached_join 1 n s u t k k k [] [] (went s u ∷ []) (moved turn n u) (one_moves s u k e) (on u is)
  moved_on n (ends end) s t k e is on = absurd (none-some t is)
  moved_on n (leaves q end) s t k e is on = absurd (none-some t is)
  moved_on n (asks q next) s t k e is on = absurd (none-some t is)

  pub reached_moved : (n : ℕ) (s t : S) (k : K) → advanced turn n s ≡ Some t → Reached n s k [] (moved turn n s) t k
  reached_moved zero s t k is =
      let e : s ≡ t = ap (λ o. unwrap_or o t) is in
      subst (λ u. Reached 0 s k [] [] u k) e (reached_none s k)
  reached_moved (suc n) s t k is =
      let e : 1 + n ≡ suc n = omega arith in
      subst (λ i. Reached i s k [] (moved turn (suc n) s) t k) e (moved_on n (turn s) s t k refl is (λ u on. reached_moved n u t k on))

-- where n turns only move, so do fewer
less_on : {S : Type 0} (turn : S → Turn S) (n m : ℕ) (x : Turn S) (t : S) → if_moves x None (advanced turn n) ≡ Some t → ((u : S) → advanced turn n u ≡ Some t → (v : S) × (advanced turn m u ≡ Some v)) → (v : S) × (if_moves x None (advanced turn m) ≡ Some v)
less_on turn n m (moves u) t is on = on u is
less_on turn n m (ends end) t is on = absurd (none-some t is)
less_on turn n m (leaves q end) t is on = absurd (none-some t is)
less_on turn n m (asks q next) t is on = absurd (none-some t is)

pub advanced_less : {S : Type 0} (turn : S → Turn S) (m n : ℕ) (s t : S) → m ≤ n → advanced turn n s ≡ Some t → (v : S) × (advanced turn m s ≡ Some v)
advanced_less turn zero n s t h is = (s, refl)
advanced_less turn (suc m) zero s t h is = absurd (omega arith)
advanced_less turn (suc m) (suc n) s t h is =
    less_on turn n m (turn s) t is (λ u on. advanced_less turn m n u t (omega arith) on)
