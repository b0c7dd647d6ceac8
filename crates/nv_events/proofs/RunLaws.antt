-- Runs of machines, over any kind of system state.
use Rattle.std.proofs.Common.{◌≡◌, ◌≢◌, ℕ, zero, suc, Bool, true, false, IsTrue, if◌then◌else◌, ◌+◌, ◌-◌, ◌≤◌, List, [], ◌∷◌, ◌++◌, Option, Some, None, refl, ap, subst, sym, ◌∙◌, arith}
use Rattle.std.proofs.lemmas.List.{append_assoc, append-nil}
use Rattle.run_definition.specs.Question.{Question}
use Rattle.run_definition.specs.Answer.{Answer, answer_fits, next_answer}
use Rattle.run_definition.specs.Turn.{Turn, moves, ends, leaves, asks, End, exit, «fault», trap, outcome_of}
use Rattle.run_definition.specs.Run.{Run, stops, asking, run_of}
use Rattle.nv_events.specs.Parts.{after, is_going, then_run, left_over, IsRunOver}
use Rattle.nv_events.specs.Laws.{LongerRuns, LeavesFurtherAnswers, GivesFitting, RunsByAnswers}
use Rattle.run_definition.specs.declared.outcome.Outcome.{Outcome}
use Rattle.run_definition.specs.declared.outcome.Outcome.TheVariants.{Exited, Faulted, Trapped, Waiting, Going}

-- a run's first turn, by the turn, and by the answer that a question got
abbrev pub given : {S K : Type 0} → Option (Answer × K) → Question → (Answer → S) → S → K → (S → K → Run S K) → Run S K
given None q next s k more = stops (q ∷ []) Waiting s k
given (Some got) q next s k more = asking q (more (next got.0) got.1)

abbrev pub turned : {S K : Type 0} → (K → Question → Option (Answer × K)) → Turn S → S → K → (S → K → Run S K) → Run S K
turned reply (moves t) s k more = more t k
turned reply (ends e) s k more = stops [] (outcome_of e) s k
turned reply (leaves q e) s k more = stops (q ∷ []) (outcome_of e) s k
turned reply (asks q next) s k more = given (reply k q) q next s k more

pub run_of-suc : {S K : Type 0} (turn : S → Turn S) (reply : K → Question → Option (Answer × K)) (n : ℕ) (s : S) (k : K) → run_of turn reply (suc n) s k ≡ turned reply (turn s) s k (run_of turn reply n)
run_of-suc {S} {K} turn reply n s k = elim (turn s) as (λ x. elim x [
  | moves t ↦ run_of turn reply n t k
  | ends e ↦ stops [] (outcome_of e) s k
  | leaves q e ↦ stops (q ∷ []) (outcome_of e) s k
  | asks q next ↦ elim (reply k q) [
    | None ↦ stops (q ∷ []) Waiting s k
    | Some got ↦ asking q (run_of turn reply n (next got.0) got.1)
  ]
] ≡ turned reply x s k (run_of turn reply n)) [
  | moves t ↦ refl
  | ends e ↦ refl
  | leaves q e ↦ refl
  | asks q next ↦ elim (reply k q) as (λ y. elim y [
    | None ↦ stops (q ∷ []) Waiting s k
    | Some got ↦ asking q (run_of turn reply n (next got.0) got.1)
  ] ≡ given y q next s k (run_of turn reply n)) [ None ↦ refl | Some got ↦ refl ]
]

pub after_after : {S K : Type 0} (qs rs : List Question) (r : Run S K) → after qs (after rs r) ≡ after (qs ++ rs) r
after_after qs rs r =
    ap (λ all. record { questions = all; outcome = r.outcome; last = r.last; system = r.system }) (sym (append_assoc qs rs r.questions))

-- A run of n + m turns is the run of n, and where that goes on, the run of m from where it stands.

end_stops : (e : End) → is_going (outcome_of e) ≡ false
end_stops (exit status) = refl
end_stops («fault» f) = refl
end_stops (trap k) = refl

asking-then : {S K : Type 0} (b : Bool) (q : Question) (r more : Run S K) → asking q (if b then after r.questions more else r) ≡ (if b then after (q ∷ r.questions) more else asking q r)
asking-then true q r more = refl
asking-then false q r more = refl

stops-then : {S K : Type 0} (qs : List Question) (e : End) (s : S) (k : K) (more : S → K → Run S K) → stops qs (outcome_of e) s k ≡ then_run (stops qs (outcome_of e) s k) more
stops-then qs e s k more =
    ap (λ b. if b then after qs (more s k) else stops qs (outcome_of e) s k) (sym (end_stops e))

given-then : {S K : Type 0} (got : Option (Answer × K)) (q : Question) (next : Answer → S) (s : S) (k : K) (whole part more : S → K → Run S K) → ((t : S) (l : K) → whole t l ≡ then_run (part t l) more) → given got q next s k whole ≡ then_run (given got q next s k part) more
given-then None q next s k whole part more h = refl
given-then (Some got) q next s k whole part more h =
    let r = part (next got.0) got.1 in
    ap (asking q) (h (next got.0) got.1) ∙ asking-then (is_going r.outcome) q r (more r.last r.system)

turned-then : {S K : Type 0} (reply : K → Question → Option (Answer × K)) (x : Turn S) (s : S) (k : K) (whole part more : S → K → Run S K) → ((t : S) (l : K) → whole t l ≡ then_run (part t l) more) → turned reply x s k whole ≡ then_run (turned reply x s k part) more
turned-then reply (moves t) s k whole part more h = h t k
turned-then reply (ends e) s k whole part more h = stops-then [] e s k more
turned-then reply (leaves q e) s k whole part more h = stops-then (q ∷ []) e s k more
turned-then reply (asks q next) s k whole part more h =
    given-then (reply k q) q next s k whole part more h

pub run_of-add : {S K : Type 0} (turn : S → Turn S) (reply : K → Question → Option (Answer × K)) (n m : ℕ) (s : S) (k : K) → run_of turn reply (n + m) s k ≡ then_run (run_of turn reply n s k) (run_of turn reply m)
run_of-add turn reply zero m s k =
    let e : zero + m ≡ m = omega arith in ap (λ i. run_of turn reply i s k) e
run_of-add turn reply (suc n) m s k =
    let e : suc n + m ≡ suc (n + m) = omega arith in
    ap (λ i. run_of turn reply i s k) e
    ∙ run_of-suc turn reply (n + m) s k
    ∙ turned-then reply (turn s) s k (run_of turn reply (n + m)) (run_of turn reply n) (run_of turn reply m) (run_of-add turn reply n m)
    ∙ ap (λ r. then_run r (run_of turn reply m)) (sym (run_of-suc turn reply n s k))

is_going-true : (o : Outcome) → o ≢ Going → is_going o ≡ false
is_going-true (Exited status) h = refl
is_going-true (Faulted f) h = refl
is_going-true (Trapped k) h = refl
is_going-true Waiting h = refl
is_going-true Going h = absurd (h refl)

-- a run that has ended stays as it is for a larger bound
pub run_of-ended : {S K : Type 0} (turn : S → Turn S) (reply : K → Question → Option (Answer × K)) (n m : ℕ) (s : S) (k : K) → n ≤ m → (run_of turn reply n s k).outcome ≢ Going → run_of turn reply m s k ≡ run_of turn reply n s k
run_of-ended turn reply n m s k h stopped =
    let r = run_of turn reply n s k in
    let e : m ≡ n + (m - n) = omega arith in
    ap (λ i. run_of turn reply i s k) e
    ∙ run_of-add turn reply n (m - n) s k
    ∙ ap (λ b. if b then after r.questions (run_of turn reply (m - n) r.last r.system) else r) (is_going-true r.outcome stopped)

questions_then : {S K : Type 0} (b : Bool) (r more : Run S K) → (rest : List Question) × ((if b then after r.questions more else r).questions ≡ r.questions ++ rest)
questions_then true r more = (more.questions, refl)
questions_then false r more = ([], sym (append-nil r.questions))

-- the questions of a run are the first ones of each longer run
pub questions_grow : {S K : Type 0} (turn : S → Turn S) (reply : K → Question → Option (Answer × K)) (n m : ℕ) (s : S) (k : K) → n ≤ m → (rest : List Question) × ((run_of turn reply m s k).questions ≡ (run_of turn reply n s k).questions ++ rest)
questions_grow turn reply n m s k h =
    let r = run_of turn reply n s k in
    let e : m ≡ n + (m - n) = omega arith in
    let rest = questions_then (is_going r.outcome) r (run_of turn reply (m - n) r.last r.system) in
    (rest.0, ap (λ i. (run_of turn reply i s k).questions) e ∙ ap (λ x. x.questions) (run_of-add turn reply n (m - n) s k) ∙ rest.1)

pub longer-runs : {S K : Type 0} (turn : S → Turn S) (reply : K → Question → Option (Answer × K))
    → LongerRuns turn reply
longer-runs turn reply = record {
  add = run_of-add turn reply;
  ended = run_of-ended turn reply;
  questions = questions_grow turn reply;
}

-- A run over a list of answers that does not wait is the same over that list and more, which are then left over.

given-fits : {S : Type 0} (b : Bool) (a : Answer) (answers more : List Answer) (q : Question) (next : Answer → S) (s : S) (go : S → List Answer → Run S (List Answer)) → ((t : S) (left : List Answer) → (go t left).outcome ≢ Waiting → go t (left ++ more) ≡ left_over (go t left) more) → (given (if b then Some (a, answers) else None) q next s (a ∷ answers) go).outcome ≢ Waiting → given (if b then Some (a, answers ++ more) else None) q next s (a ∷ (answers ++ more)) go ≡ left_over (given (if b then Some (a, answers) else None) q next s (a ∷ answers) go) more
given-fits true a answers more q next s go h runs =
    ap (asking q) (h (next a) answers runs)
given-fits false a answers more q next s go h runs = absurd (runs refl)

given-more : {S : Type 0} (answers more : List Answer) (q : Question) (next : Answer → S) (s : S) (go : S → List Answer → Run S (List Answer)) → ((t : S) (left : List Answer) → (go t left).outcome ≢ Waiting → go t (left ++ more) ≡ left_over (go t left) more) → (given (next_answer answers q) q next s answers go).outcome ≢ Waiting → given (next_answer (answers ++ more) q) q next s (answers ++ more) go ≡ left_over (given (next_answer answers q) q next s answers go) more
given-more [] more q next s go h runs = absurd (runs refl)
given-more (a ∷ answers) more q next s go h runs = given-fits (answer_fits a q) a answers more q next s go h runs

turned-more : {S : Type 0} (x : Turn S) (s : S) (answers more : List Answer) (go : S → List Answer → Run S (List Answer)) → ((t : S) (left : List Answer) → (go t left).outcome ≢ Waiting → go t (left ++ more) ≡ left_over (go t left) more) → (turned next_answer x s answers go).outcome ≢ Waiting → turned next_answer x s (answers ++ more) go ≡ left_over (turned next_answer x s answers go) more
turned-more (moves t) s answers more go h runs = h t answers runs
turned-more (ends e) s answers more go h runs = refl
turned-more (leaves q e) s answers more go h runs = refl
turned-more (asks q next) s answers more go h runs =
    given-more answers more q next s go h runs

pub run_of-more : {S : Type 0} (turn : S → Turn S) → LeavesFurtherAnswers turn
run_of-more turn zero s answers more runs = refl
run_of-more {S} turn (suc n) s answers more runs =
    let first = run_of-suc turn next_answer n s in
    first (answers ++ more)
    ∙ turned-more (turn s) s answers more (run_of turn next_answer n) (λ t left. run_of-more turn n t left more) (subst (λ (r : Run S (List Answer)). r.outcome ≢ Waiting) (first answers) runs)
    ∙ ap (λ r. left_over r more) (sym (first answers))

-- A run over system states is a run over the answers that they give, where these fit.

given-list : {S K : Type 0} (got : Option (Answer × K)) (q : Question) (next : Answer → S) (s : S) (k : K) (go : S → K → Run S K) (over : S → List Answer → Run S (List Answer)) → ((a : Answer) (l : K) → got ≡ Some (a, l) → IsTrue (answer_fits a q)) → ((t : S) (l : K) → (answers : List Answer) × IsRunOver (go t l) (over t answers)) → (answers : List Answer) × IsRunOver (given got q next s k go) (given (next_answer answers q) q next s answers over)
given-list None q next s k go over fitting h =
    ([], record { questions = refl; outcome = refl; last = refl; used = refl })
given-list {S} {K} (Some got) q next s k go over fitting h =
    let rest = h (next got.0) got.1 in
    let r = rest.1 in
    let all = got.0 ∷ rest.0 in
    let asked : IsRunOver (asking q (go (next got.0) got.1)) (asking q (over (next got.0) rest.0)) = record { questions = ap (λ qs. q ∷ qs) r.questions; outcome = r.outcome; last = r.last; used = r.used } in
    let e : next_answer all q ≡ Some (got.0, rest.0) = ap (λ b. if b then Some (got.0, rest.0) else None) (fitting got.0 got.1 refl) in
    (all, subst (λ (y : Option (Answer × List Answer)). IsRunOver (asking q (go (next got.0) got.1)) (given y q next s all over)) (sym e) asked)

turned-list : {S K : Type 0} (reply : K → Question → Option (Answer × K)) (x : Turn S) (s : S) (k : K) (go : S → K → Run S K) (over : S → List Answer → Run S (List Answer)) → ((l m : K) (q : Question) (a : Answer) → reply l q ≡ Some (a, m) → IsTrue (answer_fits a q)) → ((t : S) (l : K) → (answers : List Answer) × IsRunOver (go t l) (over t answers)) → (answers : List Answer) × IsRunOver (turned reply x s k go) (turned next_answer x s answers over)
turned-list reply (moves t) s k go over fitting h = h t k
turned-list reply (ends e) s k go over fitting h =
    ([], record { questions = refl; outcome = refl; last = refl; used = refl })
turned-list reply (leaves q e) s k go over fitting h =
    ([], record { questions = refl; outcome = refl; last = refl; used = refl })
turned-list reply (asks q next) s k go over fitting h =
    given-list (reply k q) q next s k go over (λ a l. fitting k l q a) h

pub run_of-list : {S K : Type 0} (turn : S → Turn S) (reply : K → Question → Option (Answer × K))
    → GivesFitting reply → RunsByAnswers turn reply
run_of-list turn reply fitting zero s k =
    ([], record { questions = refl; outcome = refl; last = refl; used = refl })
run_of-list {S} {K} turn reply fitting (suc n) s k =
    let by_turn = turned-list reply (turn s) s k (run_of turn reply n) (run_of turn next_answer n) fitting (run_of-list turn reply fitting n) in
    let answers = by_turn.0 in
    let over = subst (λ (r : Run S (List Answer)). IsRunOver (turned reply (turn s) s k (run_of turn reply n)) r) (sym (run_of-suc turn next_answer n s answers)) by_turn.1 in
    (answers, subst (λ (r : Run S K). IsRunOver r (run_of turn next_answer (suc n) s answers)) (sym (run_of-suc turn reply n s k)) over)
