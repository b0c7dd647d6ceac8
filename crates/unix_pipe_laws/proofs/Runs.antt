-- Runs, turn by turn, and what each call adds to what was written.
use Rattle.std.proofs.Common.{◌≡◌, ℕ, zero, suc, ◌+◌, ◌-◌, ◌<◌, min, take, nat_le, Bool, true, false, not, ◌||◌, if◌then◌else◌, List, [], ◌∷◌, ◌++◌, Option, Some, None, option_map, refl, ap, sym, ◌∙◌, arith, subst, inl, inr}
use Rattle.std.proofs.lemmas.Bool.{or_cases, or_parts, not-true, not-false, leb-true, leb-false}
use Rattle.std.proofs.lemmas.List.{append-nil, append_assoc}
use Rattle.std.proofs.lemmas.Option.{same_Some}
use Rattle.run_definition.specs.Answer.{Answer, answer_fits}
use Rattle.run_definition.specs.Question.{Question}
use Rattle.run_definition.specs.Run.{Run, run_of, stops}
use Rattle.nv_events.specs.Parts.{after, is_going, then_run}
use Rattle.run_definition.specs.Turn.{Turn, moves, ends, leaves, asks}
use Rattle.run_definition.specs.declared.outcome.Outcome.{Outcome}
use Rattle.run_definition.specs.declared.outcome.Outcome.TheVariants.{Exited, Faulted, Trapped, Waiting, Going}
use Rattle.nv_events.proofs.RunLaws.{given, turned, run_of-suc, run_of-add}
use Rattle.unix_definition.specs.System.{System}
use Rattle.unix_definition.specs.Calls.{first_line}
use Rattle.unix_definition.specs.Unix.{unix, reply}
use Rattle.unix_calls.specs.Arriving.{Arriving, arriving, arrived, reply_behind, reply_arriving, without_pieces}
use Rattle.unix_pipe_laws.specs.Stages.{PipeStage, is_over, after_turn, answered_by, comes_to, output_of, with_rest}
use Rattle.unix_pipe_laws.proofs.Frames.{more-framed}

-- ---- fronts

-- one list is the front of another
pub record IsFront (front whole : List ℕ) : Type 0 where
  pub more : List ℕ
  pub joined : front ++ more ≡ whole

front-itself : (xs : List ℕ) → IsFront xs xs
front-itself xs = record { more = []; joined = append-nil xs }

front-further : (xs ys zs : List ℕ) → IsFront xs ys → IsFront ys zs → IsFront xs zs
front-further xs ys zs a b = record {
  more = a.more ++ b.more;
  joined = sym (append_assoc xs a.more b.more) ∙ (ap (λ l. l ++ b.more) a.joined ∙ b.joined);
}

-- ---- two runs that end the same

pub record EndsSame {S K : Type 0} (r q : Run S K) : Type 0 where
  pub outcome : r.outcome ≡ q.outcome
  pub last : r.last ≡ q.last
  pub system : r.system ≡ q.system

module _ {S K : Type 0} where
  pub ends-back : (r q : Run S K) → EndsSame r q → EndsSame q r
  ends-back r q h = record { outcome = sym h.outcome; last = sym h.last; system = sym h.system }

  pub ends-on : (r q w : Run S K) → EndsSame r q → EndsSame q w → EndsSame r w
  ends-on r q w h k = record { outcome = h.outcome ∙ k.outcome; last = h.last ∙ k.last; system = h.system ∙ k.system }

-- ---- a run from the middle

going-is : (o : Outcome) → is_going o ≡ true → o ≡ Going
going-is Going h = refl
going-is (Exited status) h = cc
going-is (Faulted f) h = cc
going-is (Trapped k) h = cc
going-is Waiting h = cc

module _ {S K : Type 0} (turn : S → Turn S) (reply_k : K → Question → Option (Answer × K)) where
  -- what is left of a run of so many turns, of which some were made
  abbrev pub onward : ℕ → Outcome → ℕ → S → K → Run S K
  onward bound o made s k = if is_going o then run_of turn reply_k (bound - made) s k else stops [] o s k

  rest-of : (r more : Run S K) (t : Bool) → EndsSame (if t then after r.questions more else r) (if t then more else stops [] r.outcome r.last r.system)
  rest-of r more true = record { outcome = refl; last = refl; system = refl }
  rest-of r more false = record { outcome = refl; last = refl; system = refl }

  -- one turn of it
  pub one-turn : (bound made : ℕ) (s : S) (k : K) → made < bound
      → let r = turned reply_k (turn s) s k (run_of turn reply_k 0) in
      EndsSame (run_of turn reply_k (bound - made) s k) (onward bound r.outcome (made + 1) r.last r.system)
  one-turn bound made s k less =
      let m = bound - (made + 1) in
      let one = run_of turn reply_k 1 s k in
      let r = turned reply_k (turn s) s k (run_of turn reply_k 0) in
      let first : one ≡ r = run_of-suc turn reply_k 0 s k in
      let e : bound - made ≡ 1 + m = omega arith in
      let all : run_of turn reply_k (bound - made) s k ≡ then_run r (run_of turn reply_k m) =
      ap (λ i. run_of turn reply_k i s k) e ∙ (run_of-add turn reply_k 1 m s k ∙ ap (λ (q : Run S K). then_run q (run_of turn reply_k m)) first) in
      subst (λ (q : Run S K). EndsSame q (onward bound r.outcome (made + 1) r.last r.system)) (sym all)
      (rest-of r (run_of turn reply_k m r.last r.system) (is_going r.outcome))

  -- nothing is left
  pub none-left : (bound made : ℕ) (o : Outcome) (s : S) (k : K) → (not (is_going o) || nat_le bound made) ≡ true → onward bound o made s k ≡ stops [] o s k
  none-left bound made o s k over = elim (or_cases (not (is_going o)) (nat_le bound made) over) [
    | inl ended ↦ ap (λ t. if t then run_of turn reply_k (bound - made) s k else stops [] o s k) (not-true (is_going o) ended)
    | inr full ↦
        let e : bound - made ≡ 0 = (let many = leb-true bound made full in omega arith) in
        by-test (is_going o) refl e
  ]
    where
      by-test : (t : Bool) → is_going o ≡ t → bound - made ≡ 0 → (if t then run_of turn reply_k (bound - made) s k else stops [] o s k) ≡ stops [] o s k
      by-test true is none = ap (λ i. run_of turn reply_k i s k) none ∙ ap (λ (x : Outcome). stops [] x s k) (sym (going-is o is))
      by-test false is none = refl

  -- ---- what was written stays in front

  module _ (out : K → List ℕ) (grow : (k : K) (q : Question) (a : Answer) (l : K) → reply_k k q ≡ Some (a, l) → IsFront (out k) (out l)) where
    turned-writes : (more : S → K → Run S K) → ((s : S) (k : K) → IsFront (out k) (out (more s k).system)) → (t : Turn S) (s : S) (k : K) → IsFront (out k) (out (turned reply_k t s k more).system)
    turned-writes more later (moves u) s k = later u k
    turned-writes more later (ends e) s k = front-itself (out k)
    turned-writes more later (leaves q e) s k = front-itself (out k)
    turned-writes more later (asks q next) s k = by-answer (reply_k k q) refl
      where
        by-answer : (o : Option (Answer × K)) → reply_k k q ≡ o → IsFront (out k) (out (given o q next s k more).system)
        by-answer None is = front-itself (out k)
        by-answer (Some got) is = front-further (out k) (out got.1) _ (grow k q got.0 got.1 is) (later (next got.0) got.1)

    pub run-writes : (n : ℕ) (s : S) (k : K) → IsFront (out k) (out (run_of turn reply_k n s k).system)
    run-writes zero s k = front-itself (out k)
    run-writes (suc n) s k =
        subst (λ (r : Run S K). IsFront (out k) (out r.system)) (sym (run_of-suc turn reply_k n s k))
        (turned-writes (run_of turn reply_k n) (λ t l. run-writes n t l) (turn s) s k)

    pub onward-writes : (bound made : ℕ) (o : Outcome) (s : S) (k : K) → IsFront (out k) (out (onward bound o made s k).system)
    onward-writes bound made o s k = by-test (is_going o)
      where
        by-test : (t : Bool) → IsFront (out k) (out (if t then run_of turn reply_k (bound - made) s k else stops [] o s k).system)
        by-test true = run-writes (bound - made) s k
        by-test false = front-itself (out k)

-- ---- what each call does to output, and how much a read gives at most

pub record Adds (s t : System) : Type 0 where
  pub wrote : List ℕ
  pub grows : t.console.output ≡ s.console.output ++ wrote
  pub same_most : t.most ≡ s.most

adds-nothing : (s : System) → Adds s s
adds-nothing s = record { wrote = []; grows = sym (append-nil s.console.output); same_most = refl }

unix-adds : (s : System) (q : Question) → Adds s (unix s q).1
unix-adds s q =
    let f = more-framed [] s q (λ is. ap (λ l. take (min q.a2 s.most) (first_line l)) (append-nil s.console.rest)) in
    record { wrote = f.wrote; grows = f.grows; same_most = f.same_most }

reply-adds : (s : System) (q : Question) (a : Answer) (t : System) → reply s q ≡ Some (a, t) → Adds s t
reply-adds s q a t is = by-test (answer_fits (unix s q).0 q) is
  where
    by-test : (f : Bool) → (if f then Some (unix s q) else None) ≡ Some (a, t) → Adds s t
    by-test true e = let same : (unix s q).1 ≡ t = cc in subst (Adds s) same (unix-adds s q)
    by-test false e = cc

pub reply-writes : (s : System) (q : Question) (a : Answer) (t : System) → reply s q ≡ Some (a, t) → IsFront s.console.output t.console.output
reply-writes s q a t is = let h = reply-adds s q a t is in record { more = h.wrote; joined = sym h.grows }

abbrev with_left : List (List ℕ) → Answer × System → Answer × Arriving
with_left pieces got = (got.0, arriving got.1 pieces)

system-in : (got : Answer × System) (pieces : List (List ℕ)) (x : Answer × Arriving) → Some (with_left pieces got) ≡ Some x → got.1 ≡ x.1.system
system-in got pieces x h = ap (λ (y : Answer × Arriving). y.1.system) (same_Some (with_left pieces got) x h)

behind-writes : (s : System) (pieces : List (List ℕ)) (q : Question) (a : Answer) (l : Arriving) → reply_behind s pieces q ≡ Some (a, l) → IsFront s.console.output l.system.console.output
behind-writes s [] q a l is = by-answer (reply s q) refl is
  where
    by-answer : (o : Option (Answer × System)) → reply s q ≡ o → option_map {U = Answer × Arriving} (λ given. (given.0, arriving given.1 [])) o ≡ Some (a, l) → IsFront s.console.output l.system.console.output
    by-answer None e h = cc
    by-answer (Some got) e h =
        let same_system : got.1 ≡ l.system = system-in got [] (a, l) h in
        subst (λ (t : System). IsFront s.console.output t.console.output) same_system (reply-writes s q got.0 got.1 e)
behind-writes s (piece ∷ pieces) q a l is = by-answer (reply (arrived s piece) q) refl is
  where
    by-answer : (o : Option (Answer × System)) → reply (arrived s piece) q ≡ o → option_map {U = Answer × Arriving} (λ given. (given.0, arriving given.1 pieces)) o ≡ Some (a, l) → IsFront s.console.output l.system.console.output
    by-answer None e h = cc
    by-answer (Some got) e h =
        let same_system : got.1 ≡ l.system = system-in got pieces (a, l) h in
        subst (λ (t : System). IsFront s.console.output t.console.output) same_system (reply-writes (arrived s piece) q got.0 got.1 e)

pub arriving-writes : (k : Arriving) (q : Question) (a : Answer) (l : Arriving) → reply_arriving k q ≡ Some (a, l) → IsFront k.system.console.output l.system.console.output
arriving-writes k q a l is = behind-writes k.system k.pieces q a l is

came-output : (i : ℕ) (piece : List ℕ) (s : System) → (comes_to i piece s).console.output ≡ s.console.output
came-output zero piece s = refl
came-output (suc i) piece s = refl

came-most : (i : ℕ) (piece : List ℕ) (s : System) → (comes_to i piece s).most ≡ s.most
came-most zero piece s = refl
came-most (suc i) piece s = refl

module _ {S : Type 0} where
  answered-adds : (x : PipeStage S) (s : System) (next : Answer → S) (f : Bool) (y : Answer × System) → Adds s y.1 → s.console.output ≡ output_of x → s.most ≡ x.system.most → Adds x.system (answered_by x next (if f then Some y else None)).system
  answered-adds x s next true y h output most = record { wrote = h.wrote; grows = h.grows ∙ ap (λ o. o ++ h.wrote) output; same_most = h.same_most ∙ most }
  answered-adds x s next false y h output most = adds-nothing x.system

  pub turn-adds : (i : ℕ) (piece : List ℕ) (x : PipeStage S) (t : Turn S) → Adds x.system (after_turn (comes_to i piece) x t).system
  turn-adds i piece x (moves t) = adds-nothing x.system
  turn-adds i piece x (ends e) = adds-nothing x.system
  turn-adds i piece x (leaves q e) = adds-nothing x.system
  turn-adds i piece x (asks q next) =
      let s = comes_to i piece x.system in
      answered-adds x s next (answer_fits (unix s q).0 q) (unix s q) (unix-adds s q) (came-output i piece x.system) (came-most i piece x.system)

  pub made-one : (comes : System → System) (x : PipeStage S) (t : Turn S) → (after_turn comes x t).made ≡ x.made + 1
  made-one comes x (moves t) = refl
  made-one comes x (ends e) = refl
  made-one comes x (leaves q e) = refl
  made-one comes x (asks q next) = by-answer (reply (comes x.system) q)
    where
      by-answer : (o : Option (Answer × System)) → (answered_by x next o).made ≡ x.made + 1
      by-answer None = refl
      by-answer (Some given) = refl

-- ---- a stage's turn is a turn of its run

module _ {S : Type 0} (turn : S → Turn S) (bound : ℕ) where
  -- what is left of its run
  abbrev pub left_alone : PipeStage S → Run S System
  left_alone x = onward turn reply bound x.outcome x.made x.machine x.system

  -- over pieces of input, of which one comes before each call
  abbrev pub left_arriving : PipeStage S → List (List ℕ) → Run S Arriving
  left_arriving x pieces = onward turn reply_arriving bound x.outcome x.made x.machine (arriving x.system pieces)

  pub going-of : (x : PipeStage S) → is_over bound x ≡ false → (x.outcome ≡ Going) × (x.made < bound)
  going-of x h =
      let parts = or_parts (not (is_going x.outcome)) (nat_le bound x.made) h in
      (going-is x.outcome (not-false (is_going x.outcome) parts.0), leb-false bound x.made parts.1)

  -- a run of one turn comes to where the stage stands after it
  pub record ComesTo {K : Type 0} (sys : K → System) (r : Run S K) (y : PipeStage S) (next : K) : Type 0 where
    pub outcome : r.outcome ≡ y.outcome
    pub last : r.last ≡ y.machine
    pub system : sys r.system ≡ y.system
    pub on : r.outcome ≡ Going → r.system ≡ next

  module _ {K : Type 0} (reply_k : K → Question → Option (Answer × K)) (sys : K → System) where
    abbrev pub seen : Run S K → Run S System
    seen r = record { questions = r.questions; outcome = r.outcome; last = r.last; system = sys r.system }

    goes-on-so : (n : ℕ) (r : Run S K) (y : PipeStage S) (next : K) → sys next ≡ y.system → ComesTo sys r y next → EndsSame (seen (onward turn reply_k bound r.outcome n r.last r.system)) (seen (onward turn reply_k bound y.outcome n y.machine next))
    goes-on-so n r y next there c =
        subst (λ (m : S). EndsSame (seen (onward turn reply_k bound r.outcome n r.last r.system)) (seen (onward turn reply_k bound y.outcome n m next))) c.last
        (subst (λ (o : Outcome). EndsSame (seen (onward turn reply_k bound r.outcome n r.last r.system)) (seen (onward turn reply_k bound o n r.last next))) c.outcome
        (by-test (is_going r.outcome) refl))
      where
        by-test : (t : Bool) → is_going r.outcome ≡ t → EndsSame (seen (if t then run_of turn reply_k (bound - n) r.last r.system else stops [] r.outcome r.last r.system)) (seen (if t then run_of turn reply_k (bound - n) r.last next else stops [] r.outcome r.last next))
        by-test true is =
            let same : r.system ≡ next = c.on (going-is r.outcome is) in
            record { outcome = ap (λ k. (run_of turn reply_k (bound - n) r.last k).outcome) same; last = ap (λ k. (run_of turn reply_k (bound - n) r.last k).last) same; system = ap (λ k. sys (run_of turn reply_k (bound - n) r.last k).system) same }
        by-test false is = record { outcome = refl; last = refl; system = c.system ∙ sym there }

    pub turn-made : (x y : PipeStage S) (k next : K) → is_over bound x ≡ false → y.made ≡ x.made + 1 → sys next ≡ y.system
        → ComesTo sys (turned reply_k (turn x.machine) x.machine k (run_of turn reply_k 0)) y next
        → EndsSame (seen (onward turn reply_k bound x.outcome x.made x.machine k)) (seen (onward turn reply_k bound y.outcome y.made y.machine next))
    turn-made x y k next still one is c =
        let going = going-of x still in
        let r = turned reply_k (turn x.machine) x.machine k (run_of turn reply_k 0) in
        let first = one-turn turn reply_k bound x.made x.machine k going.1 in
        let begin : onward turn reply_k bound x.outcome x.made x.machine k ≡ run_of turn reply_k (bound - x.made) x.machine k = ap (λ o. if is_going o then run_of turn reply_k (bound - x.made) x.machine k else stops [] o x.machine k) going.0 in
        let there : EndsSame (seen (run_of turn reply_k (bound - x.made) x.machine k)) (seen (onward turn reply_k bound r.outcome (x.made + 1) r.last r.system)) = record { outcome = first.outcome; last = first.last; system = ap sys first.system } in
        subst (λ (q : Run S K). EndsSame (seen q) (seen (onward turn reply_k bound y.outcome y.made y.machine next))) (sym begin)
        (subst (λ (n : ℕ). EndsSame (seen (run_of turn reply_k (bound - x.made) x.machine k)) (seen (onward turn reply_k bound y.outcome n y.machine next))) (sym one)
        (ends-on _ _ _ there (goes-on-so (x.made + 1) r y next is c)))

  -- ---- alone

  abbrev same : System → System
  same s = s

  comes-alone : (x : PipeStage S) (t : Turn S) → x.outcome ≡ Going → let y = after_turn same x t in ComesTo same (turned reply t x.machine x.system (run_of turn reply 0)) y y.system
  comes-alone x (moves t) going = record { outcome = sym going; last = refl; system = refl; on = λ _. refl }
  comes-alone x (ends e) going = record { outcome = refl; last = refl; system = refl; on = λ _. refl }
  comes-alone x (leaves q e) going = record { outcome = refl; last = refl; system = refl; on = λ _. refl }
  comes-alone x (asks q next) going = by-answer (reply x.system q)
    where
      by-answer : (o : Option (Answer × System)) → let y = answered_by x next o in ComesTo same (given o q next x.machine x.system (run_of turn reply 0)) y y.system
      by-answer None = record { outcome = refl; last = refl; system = refl; on = λ _. refl }
      by-answer (Some got) = record { outcome = sym going; last = refl; system = refl; on = λ _. refl }

  pub turn-alone : (x : PipeStage S) → is_over bound x ≡ false → EndsSame (left_alone x) (left_alone (after_turn same x (turn x.machine)))
  turn-alone x still =
      let y = after_turn same x (turn x.machine) in
      turn-made reply same x y x.system y.system still (made-one same x (turn x.machine)) refl (comes-alone x (turn x.machine) (going-of x still).0)

  -- ---- over pieces

  -- the piece that a turn takes
  abbrev pub piece_for : Turn S → List ℕ → List (List ℕ)
  piece_for (moves t) piece = []
  piece_for (ends e) piece = []
  piece_for (leaves q e) piece = []
  piece_for (asks q next) piece = piece ∷ []

  abbrev system_in : Arriving → System
  system_in a = a.system

  comes-arriving : (x : PipeStage S) (t : Turn S) (piece : List ℕ) (pieces : List (List ℕ)) → x.outcome ≡ Going
      → let y = after_turn (comes_to 0 piece) x t in ComesTo system_in (turned reply_arriving t x.machine (arriving x.system (piece_for t piece ++ pieces)) (run_of turn reply_arriving 0)) y (arriving y.system pieces)
  comes-arriving x (moves t) piece pieces going = record { outcome = sym going; last = refl; system = refl; on = λ _. refl }
  comes-arriving x (ends e) piece pieces going = record { outcome = refl; last = refl; system = refl; on = λ _. refl }
  comes-arriving x (leaves q e) piece pieces going = record { outcome = refl; last = refl; system = refl; on = λ _. refl }
  comes-arriving x (asks q next) piece pieces going = by-answer (reply (arrived x.system piece) q)
    where
      by-answer : (o : Option (Answer × System)) → let y = answered_by x next o in ComesTo system_in (given (option_map (λ given. (given.0, arriving given.1 pieces)) o) q next x.machine (arriving x.system (piece ∷ pieces)) (run_of turn reply_arriving 0)) y (arriving y.system pieces)
      by-answer None = record { outcome = refl; last = refl; system = refl; on = λ waits. cc }
      by-answer (Some got) = record { outcome = sym going; last = refl; system = refl; on = λ _. refl }

  pub turn-arriving : (x : PipeStage S) (piece : List ℕ) (pieces : List (List ℕ)) → is_over bound x ≡ false
      → EndsSame (without_pieces (left_arriving x (piece_for (turn x.machine) piece ++ pieces))) (without_pieces (left_arriving (after_turn (comes_to 0 piece) x (turn x.machine)) pieces))
  turn-arriving x piece pieces still =
      let t = turn x.machine in
      let y = after_turn (comes_to 0 piece) x t in
      turn-made reply_arriving system_in x y (arriving x.system (piece_for t piece ++ pieces)) (arriving y.system pieces) still (made-one (comes_to 0 piece) x t) refl (comes-arriving x t piece pieces (going-of x still).0)

  -- ---- where no piece has bytes

  abbrev pub AreEmpty : List (List ℕ) → Type 0
  AreEmpty [] = Unit {0}
  AreEmpty (piece ∷ pieces) = (piece ≡ []) × AreEmpty pieces

  no-more : (k : System) → arrived k [] ≡ k
  no-more k = ap (λ r. with_rest k r) (append-nil k.console.rest)

  module _ (over_pieces : S → Arriving → Run S Arriving) (plain : S → System → Run S System) (alike : (s : S) (k : System) (pieces : List (List ℕ)) → AreEmpty pieces → EndsSame (without_pieces (over_pieces s (arriving k pieces))) (plain s k)) where
    answered-alike : (q : Question) (next : Answer → S) (s : S) (k : System) (before left : List (List ℕ)) → AreEmpty left → (o : Option (Answer × System))
        → EndsSame (without_pieces (given (option_map (λ given. (given.0, arriving given.1 left)) o) q next s (arriving k before) over_pieces)) (given o q next s k plain)
    answered-alike q next s k before left none None = record { outcome = refl; last = refl; system = refl }
    answered-alike q next s k before left none (Some got) = let h = alike (next got.0) got.1 left none in record { outcome = h.outcome; last = h.last; system = h.system }

    turned-alike : (t : Turn S) (s : S) (k : System) (pieces : List (List ℕ)) → AreEmpty pieces → EndsSame (without_pieces (turned reply_arriving t s (arriving k pieces) over_pieces)) (turned reply t s k plain)
    turned-alike (moves u) s k pieces none = alike u k pieces none
    turned-alike (ends e) s k pieces none = record { outcome = refl; last = refl; system = refl }
    turned-alike (leaves q e) s k pieces none = record { outcome = refl; last = refl; system = refl }
    turned-alike (asks q next) s k [] none = answered-alike q next s k [] [] none (reply k q)
    turned-alike (asks q next) s k (piece ∷ pieces) none =
        let same_system : arrived k piece ≡ k = ap (arrived k) none.0 ∙ no-more k in
        subst (λ (l : System). EndsSame (without_pieces (given (option_map (λ given. (given.0, arriving given.1 pieces)) (reply l q)) q next s (arriving k (piece ∷ pieces)) over_pieces)) (given (reply k q) q next s k plain)) (sym same_system)
        (answered-alike q next s k (piece ∷ pieces) pieces none.1 (reply k q))

  -- a run over empty pieces is one over all of the input
  pub empty-pieces : (n : ℕ) (s : S) (k : System) (pieces : List (List ℕ)) → AreEmpty pieces → EndsSame (without_pieces (run_of turn reply_arriving n s (arriving k pieces))) (run_of turn reply n s k)
  empty-pieces zero s k pieces none = record { outcome = refl; last = refl; system = refl }
  empty-pieces (suc n) s k pieces none =
      subst (λ (r : Run S Arriving). EndsSame (without_pieces r) (run_of turn reply (suc n) s k)) (sym (run_of-suc turn reply_arriving n s (arriving k pieces)))
      (subst (λ (r : Run S System). EndsSame (without_pieces (turned reply_arriving (turn s) s (arriving k pieces) (run_of turn reply_arriving n))) r) (sym (run_of-suc turn reply n s k))
      (turned-alike (run_of turn reply_arriving n) (run_of turn reply n) (λ t l left none. empty-pieces n t l left none) (turn s) s k pieces none))
