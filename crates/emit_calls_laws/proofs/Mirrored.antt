-- A guest with a meter runs as the guest does, and what it has made is off its meter.
use Rattle.std.proofs.Common.{◌≡◌, ℕ, zero, suc, ◌+◌, ◌-◌, ◌≤◌, ◌∷◌, Option, Some, None, refl, ap, sym, subst, ◌∙◌, arith}
use Rattle.run_definition.specs.Question.{Question}
use Rattle.run_definition.specs.Answer.{Answer}
use Rattle.run_definition.specs.Turn.{Turn, moves, ends, leaves, asks, End, outcome_of}
use Rattle.run_definition.specs.Run.{Run, run_of, asking}
use Rattle.run_definition.specs.declared.outcome.Outcome.TheVariants.{Going}
use Rattle.nv_events.proofs.RunLaws.{given, turned, run_of-suc}
use Rattle.run_simulation_laws.specs.Meter.{metered, metered_by, with_meter}
use Rattle.run_simulation_laws.proofs.Following.{end_is_over, waiting_is_over}
use Rattle.emit_calls_laws.specs.Calls.{MakeSameCall, IsAtSameCall}

-- the run of n turns of the guest with a meter, with so much on it, beside the guest's
record Mirrors {S K : Type 0} (n left : ℕ) (by_meter : Run (ℕ × S) K) (run : Run S K) : Type 0 where
  pub within : n ≤ left
  pub goes : run.outcome ≡ Going
  pub questions : by_meter.questions ≡ run.questions
  pub system : by_meter.system ≡ run.system
  pub last : by_meter.last ≡ (left - n, run.last)

module _ {S K : Type 0} (turn : S → Turn S) (spent : S → End) (reply : K → Question → Option (Answer × K)) where
  abbrev On : ℕ → ℕ → (S → K → Run S K) → (ℕ × S → K → Run (ℕ × S) K) → Type 0
  On n left go on = (t : S) (l : K) → (on (left, t) l).outcome ≡ Going → Mirrors n left (on (left, t) l) (go t l)

  one-more : {n left : ℕ} {by : Run (ℕ × S) K} {run : Run S K} → Mirrors n left by run → Mirrors (suc n) (suc left) by run
  one-more {n} {left} {by} {run} r =
      let within = r.within in
      let e : left - n ≡ suc left - suc n = omega arith in
      record {
        within = omega (arith, within);
        goes = r.goes;
        questions = r.questions;
        system = r.system;
        last = r.last ∙ ap (λ i. (i, run.last)) e;
      }

  asked-first : (n left : ℕ) (q : Question) (by : Run (ℕ × S) K) (run : Run S K) → Mirrors n left by run → Mirrors n left (asking q by) (asking q run)
  asked-first n left q by run r = record {
    within = r.within;
    goes = r.goes;
    questions = ap (λ qs. q ∷ qs) r.questions;
    system = r.system;
    last = r.last;
  }

  given-mirrors : (n left : ℕ) (got : Option (Answer × K)) (q : Question) (next : Answer → S) (s : S) (k : K) (go : S → K → Run S K) (on : ℕ × S → K → Run (ℕ × S) K) → On n left go on → (given got q (λ a. (left, next a)) (suc left, s) k on).outcome ≡ Going → Mirrors (suc n) (suc left) (given got q (λ a. (left, next a)) (suc left, s) k on) (given got q next s k go)
  given-mirrors n left None q next s k go on h goes = absurd (waiting_is_over goes)
  given-mirrors n left (Some got) q next s k go on h goes =
      asked-first (suc n) (suc left) q (on (left, next got.0) got.1) (go (next got.0) got.1) (one-more (h (next got.0) got.1 goes))

  turned-mirrors : (n left : ℕ) (x : Turn S) (s : S) (k : K) (go : S → K → Run S K) (on : ℕ × S → K → Run (ℕ × S) K) → On n left go on → (turned reply (with_meter left x) (suc left, s) k on).outcome ≡ Going → Mirrors (suc n) (suc left) (turned reply (with_meter left x) (suc left, s) k on) (turned reply x s k go)
  turned-mirrors n left (moves t) s k go on h goes = one-more (h t k goes)
  turned-mirrors n left (ends e) s k go on h goes = absurd (end_is_over e goes)
  turned-mirrors n left (leaves q e) s k go on h goes = absurd (end_is_over e goes)
  turned-mirrors n left (asks q next) s k go on h goes = given-mirrors n left (reply k q) q next s k go on h goes

  mirrored : (n left : ℕ) (s : S) (k : K) → (run_of (metered turn spent) reply n (left, s) k).outcome ≡ Going → Mirrors n left (run_of (metered turn spent) reply n (left, s) k) (run_of turn reply n s k)
  mirrored zero left s k goes =
      let e : left ≡ left - 0 = omega arith in
      record { within = omega arith; goes = refl; questions = refl; system = refl; last = ap (λ i. (i, s)) e }
  mirrored (suc n) zero s k goes =
      let e : Run.outcome (run_of (metered turn spent) reply (suc n) (zero, s) k) ≡ outcome_of (spent s) = refl in
      absurd (end_is_over (spent s) (sym e ∙ goes))
  mirrored (suc n) (suc left) s k goes =
      let by = run_of-suc (metered turn spent) reply n (suc left, s) k in
      let own = run_of-suc turn reply n s k in
      subst (λ r. Mirrors (suc n) (suc left) r (run_of turn reply (suc n) s k)) (sym by)
      (subst (λ r. Mirrors (suc n) (suc left) (turned reply (with_meter left (turn s)) (suc left, s) k (run_of (metered turn spent) reply n)) r) (sym own)
      (turned-mirrors n left (turn s) s k (run_of turn reply n) (run_of (metered turn spent) reply n) (λ t l still. mirrored n left t l still) (sym (ap (λ (r : Run (ℕ × S) K). r.outcome) by) ∙ goes)))

  -- a turn with a meter makes the guest's call, and then one at least is left
  record MeteredCall {J : Type 0} (left : ℕ) (x : Turn S) (y : Turn J) : Type 0 where
    pub some : 1 ≤ left
    pub same : MakeSameCall x y

  with-call : {J : Type 0} (left : ℕ) (x : Turn S) (y : Turn J) → MakeSameCall (with_meter left x) y → MakeSameCall x y
  with-call left (leaves q e) (leaves r f) same = same
  with-call left (asks q next) (asks r then) same = same
  with-call left (moves t) y same = absurd same
  with-call left (ends e) y same = absurd same
  with-call left (leaves q e) _ same = absurd same
  with-call left (asks q next) _ same = absurd same

  metered-call : {J : Type 0} (left : ℕ) (s : S) (y : Turn J) → MakeSameCall (metered_by turn spent left s) y → MeteredCall left (turn s) y
  metered-call zero s y same = absurd same
  metered-call (suc left) s y same = record { some = omega arith; same = with-call left (turn s) y same }

  -- ---- the call of a guest with a meter is the guest's

  pub unmetered-call : {J : Type 0} (classes : J → Turn J) (At : ℕ × S → J → Type 0) (m first left : ℕ) (s : S) (k : K) (run : Run J K) → IsAtSameCall (metered turn spent) classes reply m first (λ n. At) (left, s) k run → IsAtSameCall turn classes reply m first (λ n t y. (n + 1 ≤ left) × At (left - n, t) y) s k run
  unmetered-call classes At m first left s k run r =
      let made_is = r.made_is in
      let r_goes = ap (λ (x : Run (ℕ × S) K). x.outcome) (sym made_is) ∙ r.goes in
      let mirror = mirrored r.turns left s k r_goes in
      let last_is : r.made.last ≡ (left - r.turns, (run_of turn reply r.turns s k).last) = ap (λ (x : Run (ℕ × S) K). x.last) made_is ∙ mirror.last in
      let call = metered-call (left - r.turns) (run_of turn reply r.turns s k).last (classes run.last) (subst (λ (u : ℕ × S). MakeSameCall (metered turn spent u) (classes run.last)) last_is r.same_call) in
      let within = mirror.within in
      let some = call.some in
      record {
        turns = r.turns;
        no_later = r.no_later;
        made = run_of turn reply r.turns s k;
        made_is = refl;
        goes = mirror.goes;
        questions = sym mirror.questions ∙ sym (ap (λ (x : Run (ℕ × S) K). x.questions) made_is) ∙ r.questions;
        system = sym mirror.system ∙ sym (ap (λ (x : Run (ℕ × S) K). x.system) made_is) ∙ r.system;
        same_call = call.same;
        held = λ from. (omega (arith, some, within), subst (λ (u : ℕ × S). At u run.last) last_is (r.held from));
      }
