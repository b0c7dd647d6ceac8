-- A run over a system is the run over the answers that the system gives. So what holds over all lists of answers holds over each system.
use Rattle.std.proofs.Common.{◌≡◌, ◌≢◌, ℕ, zero, suc, ◌+◌, arith, inl, inr, ◌⊎◌, Bool, true, false, if◌then◌else◌, IsTrue, List, [], ◌∷◌, ◌++◌, length, slice_get, Option, Some, None, refl, ap, sym, subst, ◌∙◌, append_assoc, unwrap_or}
use Rattle.std.proofs.lemmas.List.{append-nil, length-append}
use Rattle.std.proofs.lemmas.Option.{none-some}
use Rattle.run_definition.specs.Question.{Question}
use Rattle.run_definition.specs.Answer.{Answer, answer_fits, next_answer}
use Rattle.run_definition.specs.Turn.{Turn, moves, ends, leaves, asks, End, exit, «fault», trap, outcome_of}
use Rattle.run_definition.specs.Run.{Run, stops, asking, run_of}
use Rattle.nv_events.specs.Parts.{left_over}
use Rattle.nv_events.specs.Serving.{Leads}
use Rattle.run_definition.specs.declared.outcome.Outcome.{Outcome}
use Rattle.run_definition.specs.declared.outcome.Outcome.TheVariants.{Exited, Faulted, Trapped, Waiting, Going}
use Rattle.nv_events.proofs.LeadsLaws.{leads_over}
use Rattle.nv_events.proofs.RunLaws.{given, turned, run_of-suc, run_of-ended, run_of-more}
use Rattle.run_simulation_laws.specs.Runs.{Agrees, AgreesInCalls, SameRuns, SameCalls}

end_waits_not : (e : End) → outcome_of e ≢ Waiting
end_waits_not (exit status) h = cc
end_waits_not («fault» f) h = cc
end_waits_not (trap k) h = cc

module _ {K : Type 0} (reply : K → Question → Option (Answer × K)) where
  abbrev pub Gives : K → Question → Answer → K → Type 0
  Gives k q a l = reply k q ≡ Some (a, l)

  -- the system has no answer to the question behind those that were answered
  abbrev pub HasNone : List Question → List Answer → K → Type 0
  HasNone qs answers k = (q : Question) × (slice_get qs (length answers) ≡ Some q) × (reply k q ≡ None)

  -- a run over the system, and the run over the answers that it gave
  pub record Listed {S : Type 0} (k : K) (r : Run S K) (answers : List Answer) (listed : Run S (List Answer)) : Type 0 where
    pub questions : listed.questions ≡ r.questions
    pub outcome : listed.outcome ≡ r.outcome
    pub used : listed.system ≡ []
    pub leads : Leads Gives k r.questions answers r.system
    pub waits : r.outcome ≡ Waiting → HasNone r.questions answers r.system

  -- a run over answers that the system gives, and the run over the system
  pub record Told {S : Type 0} (answers : List Answer) (last : K) (listed : Run S (List Answer)) (r : Run S K) : Type 0 where
    pub questions : (rest : List Question) × (r.questions ≡ listed.questions ++ rest)
    pub over : listed.outcome ≢ Going → (listed.outcome ≡ Waiting → HasNone listed.questions answers last) → (r.questions ≡ listed.questions) × (r.outcome ≡ listed.outcome) × (listed.system ≡ [] → r.system ≡ last)

  module _ (fitting : (k l : K) (q : Question) (a : Answer) → reply k q ≡ Some (a, l) → IsTrue (answer_fits a q)) where
    -- ---- the answers of a run

    listed_end : {S : Type 0} (qs : List Question) (outcome : Outcome) (s : S) (k : K) → outcome ≢ Waiting → Listed k (stops qs outcome s k) [] (stops qs outcome s [])
    listed_end qs outcome s k over =
        record { questions = refl; outcome = refl; used = refl; leads = refl; waits = λ h. absurd (over h) }

    listed_given : {S : Type 0} (got : Option (Answer × K)) (q : Question) (next : Answer → S) (s : S) (k : K) (go : S → K → Run S K) (over : S → List Answer → Run S (List Answer)) → reply k q ≡ got → ((t : S) (l : K) → (answers : List Answer) × Listed l (go t l) answers (over t answers)) → (answers : List Answer) × Listed k (given got q next s k go) answers (given (next_answer answers q) q next s answers over)
    listed_given None q next s k go over e h =
        ([], record { questions = refl; outcome = refl; used = refl; leads = refl; waits = λ w. (q, refl, e) })
    listed_given {S} (Some got) q next s k go over e h =
        let a = got.0 in
        let rest = h (next a) got.1 in
        let r = rest.1 in
        let all = a ∷ rest.0 in
        let asked : Listed k (asking q (go (next a) got.1)) all (asking q (over (next a) rest.0)) = record { questions = ap (λ qs. q ∷ qs) r.questions; outcome = r.outcome; used = r.used; leads = (got.1, e, r.leads); waits = λ w. r.waits w } in
        let f : next_answer all q ≡ Some (a, rest.0) = ap (λ b. if b then Some (a, rest.0) else None) (fitting k got.1 q a e) in
        (all, subst (λ (y : Option (Answer × List Answer)). Listed k (asking q (go (next a) got.1)) all (given y q next s all over)) (sym f) asked)

    listed_turned : {S : Type 0} (x : Turn S) (s : S) (k : K) (go : S → K → Run S K) (over : S → List Answer → Run S (List Answer)) → ((t : S) (l : K) → (answers : List Answer) × Listed l (go t l) answers (over t answers)) → (answers : List Answer) × Listed k (turned reply x s k go) answers (turned next_answer x s answers over)
    listed_turned (moves t) s k go over h = h t k
    listed_turned (ends e) s k go over h = ([], listed_end [] (outcome_of e) s k (end_waits_not e))
    listed_turned (leaves q e) s k go over h = ([], listed_end (q ∷ []) (outcome_of e) s k (end_waits_not e))
    listed_turned (asks q next) s k go over h = listed_given (reply k q) q next s k go over refl h

    pub listed_of : {S : Type 0} (turn : S → Turn S) (n : ℕ) (s : S) (k : K) → (answers : List Answer) × Listed k (run_of turn reply n s k) answers (run_of turn next_answer n s answers)
    listed_of turn zero s k = ([], listed_end [] Going s k (λ h. cc))
    listed_of {S} turn (suc n) s k =
        let by = listed_turned (turn s) s k (run_of turn reply n) (run_of turn next_answer n) (listed_of turn n) in
        let answers = by.0 in
        let over = subst (λ (r : Run S (List Answer)). Listed k (turned reply (turn s) s k (run_of turn reply n)) answers r) (sym (run_of-suc turn next_answer n s answers)) by.1 in
        (answers, subst (λ (r : Run S K). Listed k r answers (run_of turn next_answer (suc n) s answers)) (sym (run_of-suc turn reply n s k)) over)

    -- ---- the run over answers that the system gives

    told_end : {S : Type 0} (qs : List Question) (outcome : Outcome) (s : S) (k last : K) (answers : List Answer) → Leads Gives k qs answers last → Told answers last (stops qs outcome s answers) (stops qs outcome s k)
    told_end qs outcome s k last [] leads =
        record { questions = ([], sym (append-nil qs)); over = λ h w. (refl, refl, λ none. sym leads) }
    told_end qs outcome s k last (a ∷ answers) leads =
        record { questions = ([], sym (append-nil qs)); over = λ h w. (refl, refl, λ none. let e : (a ∷ answers) ≡ [] = none in cc) }

    told_waits : {S : Type 0} (got : Option (Answer × K)) (q : Question) (next : Answer → S) (s : S) (k last : K) (go : S → K → Run S K) → reply k q ≡ got → last ≡ k → Told [] last (stops (q ∷ []) Waiting s []) (given got q next s k go)
    told_waits None q next s k last go e leads =
        record { questions = ([], refl); over = λ h w. (refl, refl, λ none. sym leads) }
    told_waits (Some got) q next s k last go e leads = record {
      questions = ((go (next got.0) got.1).questions, refl);
      over = λ h w. let none = w refl in let here : Some q ≡ Some none.0 = none.1 in let same : q ≡ none.0 = cc in let there : reply k q ≡ None = ap (reply k) same ∙ ap (λ x. reply x none.0) (sym leads) ∙ none.2 in let both : Some got ≡ None = sym e ∙ there in cc;
    }

    told_answered : {S : Type 0} (q : Question) (a : Answer) (answers : List Answer) (next : Answer → S) (s : S) (k mid last : K) (listed : Run S (List Answer)) (r : Run S K) → Told answers last listed r → Told (a ∷ answers) last (asking q listed) (asking q r)
    told_answered q a answers next s k mid last listed r t = record {
      questions = (t.questions.0, ap (λ qs. q ∷ qs) t.questions.1);
      over = λ h w. let o = t.over h (λ waits. w waits) in (ap (λ qs. q ∷ qs) o.0, o.1, o.2);
    }

    told_given : {S : Type 0} (answers : List Answer) (q : Question) (next : Answer → S) (s : S) (k last : K) (go : S → K → Run S K) (over : S → List Answer → Run S (List Answer)) → ((t : S) (l : K) (rest : List Answer) → Leads Gives l (over t rest).questions rest last → Told rest last (over t rest) (go t l)) → Leads Gives k (given (next_answer answers q) q next s answers over).questions answers last → Told answers last (given (next_answer answers q) q next s answers over) (given (reply k q) q next s k go)
    told_given [] q next s k last go over h leads = told_waits (reply k q) q next s k last go refl leads
    told_given {S} (a ∷ answers) q next s k last go over h leads =
        told_fits (answer_fits a q) refl leads
      where
        told_fits : (b : Bool) → answer_fits a q ≡ b → Leads Gives k (given (if b then Some (a, answers) else None) q next s (a ∷ answers) over).questions (a ∷ answers) last → Told (a ∷ answers) last (given (if b then Some (a, answers) else None) q next s (a ∷ answers) over) (given (reply k q) q next s k go)
        told_fits true e led =
            let mid = led.0 in
            subst (λ (y : Option (Answer × K)). Told (a ∷ answers) last (asking q (over (next a) answers)) (given y q next s k go)) (sym led.1) (told_answered q a answers next s k mid last (over (next a) answers) (go (next a) mid) (h (next a) mid answers led.2))
        told_fits false e led =
            let f : answer_fits a q ≡ true = fitting k led.0 q a led.1 in
            let both : false ≡ true = sym e ∙ f in
            cc

    told_turned : {S : Type 0} (x : Turn S) (answers : List Answer) (s : S) (k last : K) (go : S → K → Run S K) (over : S → List Answer → Run S (List Answer)) → ((t : S) (l : K) (rest : List Answer) → Leads Gives l (over t rest).questions rest last → Told rest last (over t rest) (go t l)) → Leads Gives k (turned next_answer x s answers over).questions answers last → Told answers last (turned next_answer x s answers over) (turned reply x s k go)
    told_turned (moves t) answers s k last go over h leads = h t k answers leads
    told_turned (ends e) answers s k last go over h leads = told_end [] (outcome_of e) s k last answers leads
    told_turned (leaves q e) answers s k last go over h leads = told_end (q ∷ []) (outcome_of e) s k last answers leads
    told_turned (asks q next) answers s k last go over h leads = told_given answers q next s k last go over h leads

    pub told_of : {S : Type 0} (turn : S → Turn S) (n : ℕ) (s : S) (k last : K) (answers : List Answer) → Leads Gives k (run_of turn next_answer n s answers).questions answers last → Told answers last (run_of turn next_answer n s answers) (run_of turn reply n s k)
    told_of turn zero s k last answers leads =
        record { questions = ([], refl); over = λ h w. absurd (h refl) }
    told_of {S} turn (suc n) s k last answers leads =
        let first = run_of-suc turn next_answer n s answers in
        let by = told_turned (turn s) answers s k last (run_of turn reply n) (run_of turn next_answer n) (λ t l rest led. told_of turn n t l last rest led) (subst (λ (r : Run S (List Answer)). Leads Gives k r.questions answers last) first leads) in
        subst (λ (r : Run S (List Answer)). Told answers last r (run_of turn reply (suc n) s k)) (sym first) (subst (λ (r : Run S K). Told answers last (turned next_answer (turn s) s answers (run_of turn next_answer n)) r) (sym (run_of-suc turn reply n s k)) by)

-- an answer of a list fits
abbrev first_if : Bool → Answer → List Answer → Option (Answer × List Answer)
first_if fit b answers = if fit then Some (b, answers) else None

first_fits : (fit : Bool) (b : Answer) (answers left : List Answer) (q : Question) (a : Answer) → answer_fits b q ≡ fit → first_if fit b answers ≡ Some (a, left) → IsTrue (answer_fits a q)
first_fits true b answers left q a f h =
    let same : b ≡ a = ap (λ (o : Option (Answer × List Answer)). (unwrap_or o (a, left)).0) h in ap (λ x. answer_fits x q) (sym same) ∙ f
first_fits false b answers left q a f h = absurd (none-some (a, left) h)

pub next_fits : (answers left : List Answer) (q : Question) (a : Answer) → next_answer answers q ≡ Some (a, left) → IsTrue (answer_fits a q)
next_fits [] left q a e = absurd (none-some (a, left) e)
next_fits (b ∷ answers) left q a e = first_fits (answer_fits b q) b answers left q a refl e

-- ---- how a run uses its list of answers

length_none : {A : Type 0} (xs : List A) → length xs ≡ 0 → xs ≡ []
length_none [] e = refl
length_none (x ∷ xs) e = absurd (omega arith)

none_behind : {A : Type 0} (xs ys : List A) → xs ++ ys ≡ [] → ys ≡ []
none_behind [] ys e = e
none_behind (x ∷ xs) ys e = cc

waits_or_not : (o : Outcome) → (o ≡ Waiting) ⊎ (o ≢ Waiting)
waits_or_not (Exited status) = inr (λ h. cc)
waits_or_not (Faulted f) = inr (λ h. cc)
waits_or_not (Trapped t) = inr (λ h. cc)
waits_or_not Waiting = inl refl
waits_or_not Going = inr (λ h. cc)

-- a run that has used its list
abbrev spent : {S : Type 0} → Run S (List Answer) → Run S (List Answer)
spent r = record { questions = r.questions; outcome = r.outcome; last = r.last; system = [] }

-- a run over answers is that over the first ones, which it has used
record Uses {S : Type 0} (go : List Answer → Run S (List Answer)) (answers : List Answer) (r : Run S (List Answer)) : Type 0 where
  pub used : List Answer
  pub parts : answers ≡ used ++ r.system
  pub as_many : r.outcome ≡ Waiting → length r.questions ≡ length used + 1
  pub alone : r.outcome ≢ Waiting → go used ≡ spent r

module _ {S : Type 0} (q : Question) (next : Answer → S) (s : S) (go : S → List Answer → Run S (List Answer)) (h : (t : S) (left : List Answer) → Uses (go t) left (go t left)) where
  abbrev asks_over : List Answer → Run S (List Answer)
  asks_over answers = turned next_answer (asks q next) s answers go

  abbrev asks_by : Bool → Answer → List Answer → Run S (List Answer)
  asks_by fit a rest = given (first_if fit a rest) q next s (a ∷ rest) go

  uses_fit : (fit : Bool) (a : Answer) (rest : List Answer) → answer_fits a q ≡ fit → Uses asks_over (a ∷ rest) (asks_by fit a rest)
  uses_fit true a rest e =
      let u = h (next a) rest in
      record {
        used = a ∷ u.used;
        parts = ap (λ xs. a ∷ xs) u.parts;
        as_many = λ w. let n = u.as_many w in omega arith;
        alone = λ over. ap (λ fit. asks_by fit a u.used) e ∙ ap (asking q) (u.alone over);
      }
  uses_fit false a rest e =
      record { used = []; parts = refl; as_many = λ w. refl; alone = λ over. absurd (over refl) }

  uses_asks : (answers : List Answer) → Uses asks_over answers (asks_over answers)
  uses_asks [] =
      record { used = []; parts = refl; as_many = λ w. refl; alone = λ over. absurd (over refl) }
  uses_asks (a ∷ rest) = uses_fit (answer_fits a q) a rest refl

uses_turned : {S : Type 0} (x : Turn S) (s : S) (go : S → List Answer → Run S (List Answer)) → ((t : S) (left : List Answer) → Uses (go t) left (go t left)) → (answers : List Answer) → Uses (λ given. turned next_answer x s given go) answers (turned next_answer x s answers go)
uses_turned (moves t) s go h answers = h t answers
uses_turned (ends e) s go h answers =
    record { used = []; parts = refl; as_many = λ w. absurd (end_waits_not e w); alone = λ over. refl }
uses_turned (leaves q e) s go h answers =
    record { used = []; parts = refl; as_many = λ w. absurd (end_waits_not e w); alone = λ over. refl }
uses_turned (asks q next) s go h answers = uses_asks q next s go h answers

uses_of : {S : Type 0} (turn : S → Turn S) (n : ℕ) (s : S) (answers : List Answer) → Uses (run_of turn next_answer n s) answers (run_of turn next_answer n s answers)
uses_of turn zero s answers =
    record { used = []; parts = refl; as_many = λ w. let e : Going ≡ Waiting = w in absurd (cc); alone = λ over. refl }
uses_of {S} turn (suc n) s answers =
    let u = uses_turned (turn s) s (run_of turn next_answer n) (λ t left. uses_of turn n t left) answers in
    let first = λ (given : List Answer). run_of-suc turn next_answer n s given in
    let r = run_of turn next_answer (suc n) s answers in
    let same = first answers in
    record {
      used = u.used;
      parts = u.parts ∙ ap (λ (x : Run S (List Answer)). u.used ++ x.system) (sym same);
      as_many = λ w. ap (λ (x : Run S (List Answer)). length x.questions) same ∙ u.as_many (sym (ap (λ (x : Run S (List Answer)). x.outcome) same) ∙ w);
      alone = λ over. first u.used ∙ u.alone (λ w. over (ap (λ (x : Run S (List Answer)). x.outcome) same ∙ w)) ∙ ap spent (sym same);
    }

-- A run that is over and has used its list, and one of another machine that has asked the same and is over in the same way: it has
-- used the list too, where what is over there on any list is over here.
module _ {S T : Type 0} (one : S → Turn S) (other : T → Turn T) (n m bound : ℕ) (s : S) (t : T) (return : (answers : List Answer) → AgreesInCalls (run_of other next_answer m t answers) (run_of one next_answer bound s answers)) (answers : List Answer) where
  abbrev first_run : Run S (List Answer)
  first_run = run_of one next_answer n s answers

  abbrev second_run : Run T (List Answer)
  second_run = run_of other next_answer m t answers

  used_by_waiting : first_run.system ≡ [] → second_run.questions ≡ first_run.questions → second_run.outcome ≡ Waiting → first_run.outcome ≡ Waiting → second_run.system ≡ []
  used_by_waiting none questions waits first_waits =
      let u = uses_of one n s answers in
      let v = uses_of other m t answers in
      let a : length answers ≡ length (u.used ++ first_run.system) = ap length u.parts in
      let b : length answers ≡ length (v.used ++ second_run.system) = ap length v.parts in
      let c = length-append u.used first_run.system in
      let d = length-append v.used second_run.system in
      let e : length first_run.system ≡ 0 = ap length none in
      let f = u.as_many first_waits in
      let g = v.as_many waits in
      let i : length second_run.questions ≡ length first_run.questions = ap length questions in
      length_none second_run.system (omega (arith, a, b, c, d, e, f, g, i))

  used_by_end : first_run.system ≡ [] → first_run.outcome ≢ Going → second_run.outcome ≢ Going → second_run.outcome ≢ Waiting → second_run.system ≡ []
  used_by_end none over second_over waits =
      let v = uses_of other m t answers in
      let alone = v.alone waits in
      let part = run_of one next_answer bound s v.used in
      let outcome : (run_of other next_answer m t v.used).outcome ≡ second_run.outcome = ap (λ (x : Run T (List Answer)). x.outcome) alone in
      let same = (return v.used).over (λ e. second_over (sym outcome ∙ e)) in
      let part_outcome : part.outcome ≡ second_run.outcome = same.1 ∙ outcome in
      let more : run_of one next_answer bound s (v.used ++ second_run.system) ≡ left_over part second_run.system = run_of-more one bound s v.used second_run.system (λ e. waits (sym part_outcome ∙ e)) in
      let whole : run_of one next_answer bound s answers ≡ left_over part second_run.system = ap (run_of one next_answer bound s) v.parts ∙ more in
      let whole_over : (run_of one next_answer bound s answers).outcome ≢ Going = λ e. second_over (sym part_outcome ∙ sym (ap (λ (x : Run S (List Answer)). x.outcome) whole) ∙ e) in
      let long : run_of one next_answer (n + bound) s answers ≡ first_run = run_of-ended one next_answer n (n + bound) s answers (omega arith) over in
      let long_too : run_of one next_answer (n + bound) s answers ≡ run_of one next_answer bound s answers = run_of-ended one next_answer bound (n + bound) s answers (omega arith) whole_over in
      none_behind part.system second_run.system (sym (ap (λ (x : Run S (List Answer)). x.system) whole) ∙ ap (λ (x : Run S (List Answer)). x.system) (sym long_too ∙ long) ∙ none)

  pub used_up : first_run.system ≡ [] → first_run.outcome ≢ Going → second_run.questions ≡ first_run.questions → second_run.outcome ≡ first_run.outcome → second_run.system ≡ []
  used_up none over questions outcome = elim (waits_or_not second_run.outcome) [
    | inl waits ↦ used_by_waiting none questions waits (sym outcome ∙ waits)
    | inr not_waits ↦ used_by_end none over (λ e. over (sym outcome ∙ e)) not_waits
  ]

-- ---- two machines

module _ {K : Type 0} (reply : K → Question → Option (Answer × K)) (fitting : (k l : K) (q : Question) (a : Answer) → reply k q ≡ Some (a, l) → IsTrue (answer_fits a q)) where
  pub agrees_told : {S T : Type 0} (one : S → Turn S) (other : T → Turn T) (n m bound : ℕ) (s : S) (t : T) → ((answers : List Answer) → AgreesInCalls (run_of one next_answer n s answers) (run_of other next_answer m t answers)) → ((answers : List Answer) → AgreesInCalls (run_of other next_answer m t answers) (run_of one next_answer bound s answers)) → (k : K) → Agrees (run_of one reply n s k) (run_of other reply m t k)
  agrees_told one other n m bound s t all return k =
      let r = run_of one reply n s k in
      let by = listed_of reply fitting one n s k in
      let answers = by.0 in
      let l = by.1 in
      let a = all answers in
      let listed = run_of other next_answer m t answers in
      let asks_more : listed.questions ≡ r.questions ++ a.questions.0 = a.questions.1 ∙ ap (λ qs. qs ++ a.questions.0) l.questions in
      let more = leads_over (Gives reply) k r.system r.questions a.questions.0 answers l.leads in
      let led : Leads (Gives reply) k listed.questions answers r.system = subst (λ (qs : List Question). Leads (Gives reply) k qs answers r.system) (sym asks_more) more in
      let u = told_of reply fitting other m t k r.system answers led in
      record {
        questions = (a.questions.0 ++ u.questions.0, u.questions.1 ∙ ap (λ qs. qs ++ u.questions.0) asks_more ∙ append_assoc r.questions a.questions.0 u.questions.0);
        over = λ h. let stopped : (run_of one next_answer n s answers).outcome ≢ Going = λ e. h (sym l.outcome ∙ e) in let o = a.over stopped in let outcome : listed.outcome ≡ r.outcome = o.1 ∙ l.outcome in let questions : listed.questions ≡ r.questions = o.0 ∙ l.questions in let v = u.over (λ e. h (sym outcome ∙ e)) (λ w. subst (λ (qs : List Question). HasNone reply qs answers r.system) (sym questions) (l.waits (sym outcome ∙ w))) in (v.0 ∙ questions, v.1 ∙ outcome, v.2 (used_up one other n m bound s t return answers l.used stopped o.0 o.1));
      }

  pub same_told : {G J : Type 0} (guest : G → Turn G) (classes : J → Turn J) (allowance : ℕ → ℕ) (g : G) (j : J) → ((answers : List Answer) → SameCalls guest classes next_answer allowance g j answers) → (k : K) → SameRuns guest classes reply allowance g j k
  same_told guest classes allowance g j same k = record {
    forth = λ n. agrees_told guest classes n (allowance n) (allowance n) g j (λ answers. (same answers).forth n) (λ answers. (same answers).back (allowance n)) k;
    back = λ m. agrees_told classes guest m m (allowance m) j g (λ answers. (same answers).back m) (λ answers. (same answers).forth m) k;
  }

-- runs that are the same make the same calls
pub calls_of : {S T K : Type 0} (r : Run S K) (s : Run T K) → Agrees r s → AgreesInCalls r s
calls_of r s a =
    record { questions = a.questions; over = λ h. let o = a.over h in (o.0, o.1) }

pub same_calls : {G J K : Type 0} (guest : G → Turn G) (classes : J → Turn J) (reply : K → Question → Option (Answer × K)) (allowance : ℕ → ℕ) (g : G) (j : J) (k : K) → SameRuns guest classes reply allowance g j k → SameCalls guest classes reply allowance g j k
same_calls guest classes reply allowance g j k same =
    record { forth = λ n. calls_of _ _ (same.forth n); back = λ m. calls_of _ _ (same.back m) }
