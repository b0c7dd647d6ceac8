-- How far a run over a server has come: what the loop over its turns keeps.
use Rattle.std.proofs.Common.{◌≡◌, ◌≢◌, ℕ, suc, ◌+◌, ◌-◌, ◌<◌, if◌then◌else◌, IsTrue, List, [], ◌∷◌, ◌++◌, length, Option, Some, None, Result, Ok, Err, refl, ap, sym, subst, ◌∙◌, arith}
use Rattle.std.proofs.lemmas.List.{append_assoc, append-nil, length-append}
use Rattle.run_definition.specs.Question.{Question}
use Rattle.run_definition.specs.Answer.{Answer, answer_fits, next_answer}
use Rattle.run_definition.specs.Turn.{Turn, moves, ends, leaves, asks, End, exit, «fault», trap, outcome_of}
use Rattle.run_definition.specs.Run.{Run, stops, run_of}
use Rattle.nv_events.specs.Parts.{after}
use Rattle.nv_events.specs.Serving.{Leads, StopsAt, Turns, RunsOver, FallsIn, RunsBy, RunsAsTold}
use Rattle.run_definition.specs.declared.io_fault.IoFault.{IoFault}
use Rattle.run_definition.specs.declared.outcome.Outcome.{Outcome}
use Rattle.run_definition.specs.declared.outcome.Outcome.TheVariants.{Waiting, Going}
use Rattle.nv_events.proofs.LeadsLaws.{leads_join, leads_over, question_at_end}
use Rattle.nv_events.proofs.RunLaws.{given, turned, run_of-suc, after_after}

-- After n turns, over questions and answers so far: for every further list of answers, the run over all of them is these
-- questions, and then the run over the further ones from here.
pub record Progress {S V : Type 0} (goes : V → Question → Answer → V → Type 0) (turn : S → Turn S) (n : ℕ) (old now : S) (v w : V) : Type 0 where
  pub questions : List Question
  pub answers : List Answer
  pub as_many : length questions ≡ length answers
  pub leads : Leads goes v questions answers w
  pub runs : (m : ℕ) (further : List Answer) → run_of turn next_answer (n + m) old (answers ++ further) ≡ after questions (run_of turn next_answer m now further)

-- the same over a kind of system state
pub record Reaches {S K : Type 0} (turn : S → Turn S) (reply : K → Question → Option (Answer × K)) (n : ℕ) (old now : S) (k l : K) : Type 0 where
  pub questions : List Question
  pub runs : (m : ℕ) → run_of turn reply (n + m) old k ≡ after questions (run_of turn reply m now l)

-- one turn of a run
module _ {S K : Type 0} (turn : S → Turn S) (reply : K → Question → Option (Answer × K)) where
  first_turn : (x : Turn S) (m : ℕ) (s : S) (k : K) → turn s ≡ x → run_of turn reply (suc m) s k ≡ turned reply x s k (run_of turn reply m)
  first_turn x m s k e =
      run_of-suc turn reply m s k ∙ ap (λ y. turned reply y s k (run_of turn reply m)) e

  first_answer : (q : Question) (next : Answer → S) (a : Answer) (m : ℕ) (s : S) (k l : K) → turn s ≡ asks q next → reply k q ≡ Some (a, l) → run_of turn reply (suc m) s k ≡ after (q ∷ []) (run_of turn reply m (next a) l)
  first_answer q next a m s k l e given_so =
      first_turn (asks q next) m s k e ∙ ap (λ y. given y q next s k (run_of turn reply m)) given_so

  first_none : (q : Question) (next : Answer → S) (m : ℕ) (s : S) (k : K) → turn s ≡ asks q next → reply k q ≡ None → run_of turn reply (suc m) s k ≡ stops (q ∷ []) Waiting s k
  first_none q next m s k e given_so =
      first_turn (asks q next) m s k e ∙ ap (λ y. given y q next s k (run_of turn reply m)) given_so

  -- a run that has come to a state, and the turns after it
  reaches_on : (n : ℕ) (old now next : S) (k l j : K) (rs : List Question) (r : Reaches turn reply n old now k l) → ((m : ℕ) → run_of turn reply (suc m) now l ≡ after rs (run_of turn reply m next j)) → (m : ℕ) → run_of turn reply (n + 1 + m) old k ≡ after (r.questions ++ rs) (run_of turn reply m next j)
  reaches_on n old now next k l j rs r turns m =
      let e : n + 1 + m ≡ n + suc m = omega arith in
      ap (λ i. run_of turn reply i old k) e
      ∙ r.runs (suc m)
      ∙ ap (after r.questions) (turns m)
      ∙ after_after r.questions rs (run_of turn reply m next j)

  reaches_end : (n bound : ℕ) (old now : S) (k l : K) (rest : Run S K) (r : Reaches turn reply n old now k l) → n < bound → ((m : ℕ) → run_of turn reply (suc m) now l ≡ rest) → run_of turn reply bound old k ≡ after r.questions rest
  reaches_end n bound old now k l rest r h turns =
      let m = bound - (n + 1) in
      let e : bound ≡ n + suc m = omega arith in
      ap (λ i. run_of turn reply i old k) e ∙ r.runs (suc m) ∙ ap (after r.questions) (turns m)

  reaches_bound : (n bound : ℕ) (old now : S) (k l : K) (r : Reaches turn reply n old now k l) → n ≡ bound → run_of turn reply bound old k ≡ after r.questions (stops [] Going now l)
  reaches_bound n bound old now k l r h =
      let e : bound ≡ n + 0 = omega arith in
      ap (λ i. run_of turn reply i old k) e ∙ r.runs 0

next_fits : (a : Answer) (further : List Answer) (q : Question) → IsTrue (answer_fits a q) → next_answer (a ∷ further) q ≡ Some (a, further)
next_fits a further q h = ap (λ b. if b then Some (a, further) else None) h

-- what a list of answers reaches, of which the further ones are left
abbrev over_answers : {S V : Type 0} (goes : V → Question → Answer → V → Type 0) (turn : S → Turn S) (n : ℕ) (old now : S) (v w : V) (p : Progress goes turn n old now v w) (further : List Answer) → Reaches turn next_answer n old now (p.answers ++ further) further
over_answers goes turn n old now v w p further =
    record { questions = p.questions; runs = λ m. p.runs m further }

pub progress_none : {S V : Type 0} (goes : V → Question → Answer → V → Type 0) (turn : S → Turn S) (old : S) (v : V) → Progress goes turn 0 old old v v
progress_none goes turn old v = record {
  questions = [];
  answers = [];
  as_many = refl;
  leads = refl;
  runs = λ m further. let e : 0 + m ≡ m = omega arith in ap (λ i. run_of turn next_answer i old further) e;
}

pub progress_on : {S V : Type 0} (goes : V → Question → Answer → V → Type 0) (held fell : V → Question → V → Type 0) (turn : S → Turn S) (x : Turn S) (n : ℕ) (old now next : S) (v w u : V) → turn now ≡ x → Turns goes held fell x now next w u (Ok None) → Progress goes turn n old now v w → Progress goes turn (n + 1) old next v u
progress_on {S} {V} goes held fell turn (moves t) n old now next v w u e h p =
    let on : Progress goes turn (n + 1) old t v w = record {
      questions = p.questions;
      answers = p.answers;
      as_many = p.as_many;
      leads = p.leads;
      runs = λ m further. let r = over_answers goes turn n old now v w p further in reaches_on turn next_answer n old now t (p.answers ++ further) further further [] r (λ m. first_turn turn next_answer (moves t) m now further e) m ∙ ap (λ qs. after qs (run_of turn next_answer m t further)) (append-nil p.questions);
    } in
    let same : Progress goes turn (n + 1) old next v w = subst (λ (s : S). Progress goes turn (n + 1) old s v w) (sym h.0) on in
    subst (λ (z : V). Progress goes turn (n + 1) old next v z) (sym h.1) same
progress_on goes held fell turn (ends end) n old now next v w u e h p = absurd h
progress_on goes held fell turn (leaves q end) n old now next v w u e h p = absurd h
progress_on {S} {V} goes held fell turn (asks q go) n old now next v w u e h p =
    let a = h.0 in
    let on : Progress goes turn (n + 1) old (go a) v u = record {
      questions = p.questions ++ q ∷ [];
      answers = p.answers ++ a ∷ [];
      as_many = length-append p.questions (q ∷ []) ∙ ap (λ i. i + 1) p.as_many ∙ sym (length-append p.answers (a ∷ []));
      leads = leads_join goes v w u p.questions (q ∷ []) p.answers (a ∷ []) p.as_many p.leads (u, h.2, refl);
      runs = λ m further. let r = over_answers goes turn n old now v w p (a ∷ further) in ap (λ all. run_of turn next_answer (n + 1 + m) old all) (append_assoc p.answers (a ∷ []) further) ∙ reaches_on turn next_answer n old now (go a) (p.answers ++ a ∷ further) (a ∷ further) further (q ∷ []) r (λ m. first_answer turn next_answer q go a m now (a ∷ further) further e (next_fits a further q h.1)) m;
    } in
    subst (λ (s : S). Progress goes turn (n + 1) old s v u) (sym h.3) on

-- how the loop ends

pub end_not_waiting : (e : End) → outcome_of e ≡ Waiting → ⊥
end_not_waiting (exit status) h = cc
end_not_waiting («fault» f) h = cc
end_not_waiting (trap k) h = cc

ran_so : {S V : Type 0} (goes : V → Question → Answer → V → Type 0) (held fell : V → Question → V → Type 0) (turn : S → Turn S) (bound : ℕ) (old new : S) (v w : V) (o : Outcome) (answers : List Answer) (r : Run S (List Answer)) → run_of turn next_answer bound old answers ≡ r → r.outcome ≡ o → r.last ≡ new → r.system ≡ [] → (o ≢ Waiting → Leads goes v r.questions answers w) → (o ≡ Waiting → StopsAt goes held v r.questions answers w) → RunsOver goes held fell turn bound old new v w o answers
ran_so {S} goes held fell turn bound old new v w o answers r e outcome last used leads waits =
    record {
      outcome = ap (λ x. x.outcome) e ∙ outcome;
      last = ap (λ x. x.last) e ∙ last;
      used = ap (λ x. x.system) e ∙ used;
      leads = λ h. subst (λ (x : Run S (List Answer)). Leads goes v x.questions answers w) (sym e) (leads h);
      waits = λ h. subst (λ (x : Run S (List Answer)). StopsAt goes held v x.questions answers w) (sym e) (waits h);
    }

-- the run over the answers so far, where it ends with its next turn
ends_with : {S V : Type 0} (goes : V → Question → Answer → V → Type 0) (turn : S → Turn S) (n bound : ℕ) (old now : S) (v w : V) (rest : Run S (List Answer)) (p : Progress goes turn n old now v w) → n < bound → ((m : ℕ) → run_of turn next_answer (suc m) now [] ≡ rest) → run_of turn next_answer bound old p.answers ≡ after p.questions rest
ends_with goes turn n bound old now v w rest p h turns =
    ap (run_of turn next_answer bound old) (sym (append-nil p.answers))
    ∙ reaches_end turn next_answer n bound old now (p.answers ++ []) [] rest (over_answers goes turn n old now v w p []) h turns

led_to : {S V : Type 0} (goes : V → Question → Answer → V → Type 0) (turn : S → Turn S) (n : ℕ) (old now : S) (v w u : V) (rs : List Question) (p : Progress goes turn n old now v w) → u ≡ w → Leads goes v (p.questions ++ rs) p.answers u
led_to {S} {V} goes turn n old now v w u rs p same =
    subst (λ (z : V). Leads goes v (p.questions ++ rs) p.answers z) (sym same) (leads_over goes v w p.questions rs p.answers p.leads)

pub progress_end : {S V : Type 0} (goes : V → Question → Answer → V → Type 0) (held fell : V → Question → V → Type 0) (turn : S → Turn S) (x : Turn S) (n bound : ℕ) (old now new : S) (v w u : V) (o : Outcome) → turn now ≡ x → Turns goes held fell x now new w u (Ok (Some o)) → n < bound → Progress goes turn n old now v w → (answers : List Answer) × RunsOver goes held fell turn bound old new v u o answers
progress_end goes held fell turn (moves t) n bound old now new v w u o e h l p = absurd h
progress_end goes held fell turn (ends end) n bound old now new v w u o e h l p =
    let rest = stops [] (outcome_of end) now [] in (
      p.answers,
      ran_so goes held fell turn bound old new v u o p.answers (after p.questions rest)
          (ends_with goes turn n bound old now v w rest p l (λ m. first_turn turn next_answer (ends end) m now [] e))
          (sym h.0) (sym h.1) refl
          (λ _. led_to goes turn n old now v w u [] p h.2)
          (λ waits. absurd (end_not_waiting end (sym h.0 ∙ waits))),
    )
progress_end goes held fell turn (leaves q end) n bound old now new v w u o e h l p =
    let rest = stops (q ∷ []) (outcome_of end) now [] in (
      p.answers,
      ran_so goes held fell turn bound old new v u o p.answers (after p.questions rest)
          (ends_with goes turn n bound old now v w rest p l (λ m. first_turn turn next_answer (leaves q end) m now [] e))
          (sym h.0) (sym h.1) refl
          (λ _. led_to goes turn n old now v w u (q ∷ []) p h.2)
          (λ waits. absurd (end_not_waiting end (sym h.0 ∙ waits))),
    )
progress_end goes held fell turn (asks q go) n bound old now new v w u o e h l p =
    let rest = stops (q ∷ []) Waiting now [] in (
      p.answers,
      ran_so goes held fell turn bound old new v u o p.answers (after p.questions rest)
          (ends_with goes turn n bound old now v w rest p l (λ m. first_none turn next_answer q go m now [] e refl))
          (sym h.0) (sym h.2) refl
          (λ runs. absurd (runs h.0))
          (λ _. (q, w, question_at_end p.questions [] q (length p.answers) p.as_many, leads_over goes v w p.questions (q ∷ []) p.answers p.leads, h.1)),
    )

pub progress_falls : {S V : Type 0} (goes : V → Question → Answer → V → Type 0) (held fell : V → Question → V → Type 0) (turn : S → Turn S) (x : Turn S) (n bound : ℕ) (old now new : S) (v w u : V) (broke : IoFault) → turn now ≡ x → Turns goes held fell x now new w u (Err broke) → n < bound → Progress goes turn n old now v w → (answers : List Answer) × FallsIn goes fell turn bound old v u answers
progress_falls goes held fell turn (moves t) n bound old now new v w u broke e h l p = absurd h
progress_falls goes held fell turn (ends end) n bound old now new v w u broke e h l p = absurd h
progress_falls goes held fell turn (leaves q end) n bound old now new v w u broke e h l p = absurd h
progress_falls {S} goes held fell turn (asks q go) n bound old now new v w u broke e h l p =
    let rest = stops (q ∷ []) Waiting now [] in
    let ran = ends_with goes turn n bound old now v w rest p l (λ m. first_none turn next_answer q go m now [] e refl) in (
      p.answers,
      record {
        outcome = ap (λ x. x.outcome) ran;
        used = ap (λ x. x.system) ran;
        falls = subst (λ (x : Run S (List Answer)). StopsAt goes fell v x.questions p.answers u) (sym ran) (q, w, question_at_end p.questions [] q (length p.answers) p.as_many, leads_over goes v w p.questions (q ∷ []) p.answers p.leads, h);
      },
    )

pub progress_bound : {S V : Type 0} (goes : V → Question → Answer → V → Type 0) (held fell : V → Question → V → Type 0) (turn : S → Turn S) (n bound : ℕ) (old now : S) (v w : V) → n ≡ bound → Progress goes turn n old now v w → (answers : List Answer) × RunsOver goes held fell turn bound old now v w Going answers
progress_bound goes held fell turn n bound old now v w l p =
    let rest = stops [] Going now [] in
    let ran = ap (run_of turn next_answer bound old) (sym (append-nil p.answers)) ∙ reaches_bound turn next_answer n bound old now (p.answers ++ []) [] (over_answers goes turn n old now v w p []) l in (
      p.answers,
      ran_so goes held fell turn bound old now v w Going p.answers (after p.questions rest) ran refl refl refl
          (λ _. led_to goes turn n old now v w w [] p refl)
          (λ waits. cc),
    )

-- the same over the state that a server tells

pub reaches_none : {S K : Type 0} (turn : S → Turn S) (reply : K → Question → Option (Answer × K)) (old : S) (k : K) → Reaches turn reply 0 old old k k
reaches_none turn reply old k = record {
  questions = [];
  runs = λ m. let e : 0 + m ≡ m = omega arith in ap (λ i. run_of turn reply i old k) e;
}

pub told_on : {S K V : Type 0} (goes : V → Question → Answer → V → Type 0) (held fell : V → Question → V → Type 0) (told : V → Option K) (turn : S → Turn S) (reply : K → Question → Option (Answer × K)) (x : Turn S) (n : ℕ) (old now next : S) (w u : V) (k l : K) → turn now ≡ x → Turns goes held fell x now next w u (Ok None) → ((q : Question) (a : Answer) → goes w q a u → (j : K) × (reply l q ≡ Some (a, j)) × (told u ≡ Some j)) → told w ≡ Some l → Reaches turn reply n old now k l → (j : K) × (told u ≡ Some j) × Reaches turn reply (n + 1) old next k j
told_on {S} goes held fell told turn reply (moves t) n old now next w u k l e h as_told at r =
    let on : Reaches turn reply (n + 1) old t k l = record {
      questions = r.questions ++ [];
      runs = reaches_on turn reply n old now t k l l [] r (λ m. first_turn turn reply (moves t) m now l e);
    } in
    (l, ap told h.1 ∙ at, subst (λ (s : S). Reaches turn reply (n + 1) old s k l) (sym h.0) on)
told_on goes held fell told turn reply (ends end) n old now next w u k l e h as_told at r = absurd h
told_on goes held fell told turn reply (leaves q end) n old now next w u k l e h as_told at r = absurd h
told_on {S} goes held fell told turn reply (asks q go) n old now next w u k l e h as_told at r =
    let got = as_told q h.0 h.2 in
    let on : Reaches turn reply (n + 1) old (go h.0) k got.0 = record {
      questions = r.questions ++ q ∷ [];
      runs = reaches_on turn reply n old now (go h.0) k l got.0 (q ∷ []) r (λ m. first_answer turn reply q go h.0 m now l got.0 e got.1);
    } in
    (got.0, got.2, subst (λ (s : S). Reaches turn reply (n + 1) old s k got.0) (sym h.3) on)

told_so : {S K : Type 0} (r run : Run S K) (new : S) (told : Option K) (o : Outcome) → run ≡ r → r.outcome ≡ o → r.last ≡ new → (o ≢ Waiting → told ≡ Some r.system) → RunsAsTold run new told (Ok o)
told_so r run new told o e outcome last at =
    (ap (λ x. x.outcome) e ∙ outcome, ap (λ x. x.last) e ∙ last, λ h. at h ∙ ap (λ x. Some x.system) (sym e))

pub told_end : {S K V : Type 0} (goes : V → Question → Answer → V → Type 0) (held fell : V → Question → V → Type 0) (told : V → Option K) (turn : S → Turn S) (reply : K → Question → Option (Answer × K)) (x : Turn S) (n bound : ℕ) (old now new : S) (w u : V) (k l : K) (o : Outcome) → turn now ≡ x → Turns goes held fell x now new w u (Ok (Some o)) → n < bound → ((q : Question) → held w q u → reply l q ≡ None) → told w ≡ Some l → Reaches turn reply n old now k l → RunsAsTold (run_of turn reply bound old k) new (told u) (Ok o)
told_end goes held fell told turn reply (moves t) n bound old now new w u k l o e h b as_told at r = absurd h
told_end goes held fell told turn reply (ends end) n bound old now new w u k l o e h b as_told at r =
    let rest = stops [] (outcome_of end) now l in
    told_so (after r.questions rest) _ new (told u) o (reaches_end turn reply n bound old now k l rest r b (λ m. first_turn turn reply (ends end) m now l e)) (sym h.0) (sym h.1) (λ _. ap told h.2 ∙ at)
told_end goes held fell told turn reply (leaves q end) n bound old now new w u k l o e h b as_told at r =
    let rest = stops (q ∷ []) (outcome_of end) now l in
    told_so (after r.questions rest) _ new (told u) o (reaches_end turn reply n bound old now k l rest r b (λ m. first_turn turn reply (leaves q end) m now l e)) (sym h.0) (sym h.1) (λ _. ap told h.2 ∙ at)
told_end goes held fell told turn reply (asks q go) n bound old now new w u k l o e h b as_told at r =
    let rest = stops (q ∷ []) Waiting now l in
    told_so (after r.questions rest) _ new (told u) o (reaches_end turn reply n bound old now k l rest r b (λ m. first_none turn reply q go m now l e (as_told q h.1))) (sym h.0) (sym h.2) (λ runs. absurd (runs h.0))

pub told_bound : {S K : Type 0} (turn : S → Turn S) (reply : K → Question → Option (Answer × K)) (n bound : ℕ) (old now : S) (k l : K) (told : Option K) → n ≡ bound → told ≡ Some l → Reaches turn reply n old now k l → RunsAsTold (run_of turn reply bound old k) now told (Ok Going)
told_bound turn reply n bound old now k l told h at r =
    told_so (after r.questions (stops [] Going now l)) _ now told Going (reaches_bound turn reply n bound old now k l r h) refl refl (λ _. at)

pub falls_by : {S V : Type 0} (goes : V → Question → Answer → V → Type 0) (held fell : V → Question → V → Type 0) (turn : S → Turn S) (n : ℕ) (old new : S) (v w : V) (result : Result Outcome IoFault) (broke : IoFault) → result ≡ Err broke → (answers : List Answer) × FallsIn goes fell turn n old v w answers → RunsBy goes held fell turn n old new v w result
falls_by goes held fell turn n old new v w result broke e falls =
    subst (λ (r : Result Outcome IoFault). RunsBy goes held fell turn n old new v w r) (sym e) falls
