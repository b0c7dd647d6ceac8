-- Where the classes follow the guest, the runs over each system do.
use Rattle.std.proofs.Common.{◌≡◌, ◌≢◌, ℕ, ◌+◌, IsTrue, List, [], ◌∷◌, ◌++◌, Option, Some, None, refl, ap, subst, ◌∙◌, arith, inl, inr}
use Rattle.std.proofs.lemmas.List.{append-nil}
use Rattle.run_definition.specs.Question.{Question}
use Rattle.run_definition.specs.Answer.{Answer, answer_fits}
use Rattle.run_definition.specs.Turn.{Turn, moves, ends, leaves, asks, End, exit, «fault», trap, outcome_of}
use Rattle.run_definition.specs.Run.{stops}
use Rattle.run_definition.specs.declared.outcome.Outcome.{Outcome}
use Rattle.run_definition.specs.declared.outcome.Outcome.TheVariants.{Waiting, Going}
use Rattle.run_simulation_laws.specs.Trail.{Step, went, stood, moved}
use Rattle.run_simulation_laws.specs.Turns.{Pair, ComesToRest, Stands, Alike, Follows}
use Rattle.run_simulation_laws.proofs.Reaching.{Reached, Finished, reached_join, finished_join, reached_moved, one_moves, one_answered, one_waits, one_ends, one_leaves, advanced_less}
use Rattle.run_simulation_laws.proofs.Rounds.{Round}

pub end_is_over : (e : End) → outcome_of e ≢ Going
end_is_over (exit status) h = cc
end_is_over («fault» f) h = cc
end_is_over (trap k) h = cc

pub waiting_is_over : Waiting ≢ Going
waiting_is_over h = cc

module _ {G J I K : Type 0} (p : Pair G J I) (reply : K → Question → Option (Answer × K)) (Rests : G → J → Type 0) (limit : ℕ → ℕ) (fitting : (k l : K) (q : Question) (a : Answer) → reply k q ≡ Some (a, l) → IsTrue (answer_fits a q)) (g : G) (j : J) (k : K) (f : Follows p Rests limit g j) where
  abbrev guest_by : Step G → List (Step G)
  guest_by step = moved p.guest f.guest_turns g ++ step ∷ []

  abbrev class_by : Step J → List (Step J)
  class_by step = moved p.classes f.class_turns j ++ step ∷ []

  guest_moved : Reached p.guest reply f.guest_turns g k [] (moved p.guest f.guest_turns g) f.guest_at k
  guest_moved = reached_moved p.guest reply f.guest_turns g f.guest_at k f.guest_comes

  class_moved : Reached p.classes reply f.class_turns j k [] (moved p.classes f.class_turns j) f.class_at k
  class_moved = reached_moved p.classes reply f.class_turns j f.class_at k f.class_comes

  abbrev GoesOn : G → J → Type 0
  GoesOn h l = ComesToRest p Rests (f.class_turns + 1) (limit (f.guest_turns + 1)) (λ i. (p.tally i).credit j) (guest_by (went f.guest_at h)) (class_by (went f.class_at l)) h l

  abbrev Ends : Type 0
  Ends = Stands p (f.class_turns + 1) (limit (f.guest_turns + 1)) (λ i. (p.tally i).credit j) (guest_by (stood f.guest_at)) (class_by (stood f.class_at))

  on : (qs : List Question) (h : G) (l : J) (m : K) → Reached p.guest reply 1 f.guest_at k qs (went f.guest_at h ∷ []) h m → Reached p.classes reply 1 f.class_at k qs (went f.class_at l ∷ []) l m → GoesOn h l → Round p reply Rests limit g j k
  on qs h l m guest classes c =
      let begun = reached_join p.classes reply f.class_turns 1 j f.class_at l k k m [] qs (moved p.classes f.class_turns j) (went f.class_at l ∷ []) class_moved classes in
      let whole = reached_join p.classes reply (f.class_turns + 1) c.more j l c.rest k m m qs [] (class_by (went f.class_at l)) (moved p.classes c.more l) begun (reached_moved p.classes reply c.more l c.rest m c.comes) in
      let no_sooner = f.no_sooner in
      record {
        guest_turns = f.guest_turns;
        used = f.class_turns + 1 + c.more;
        questions = qs;
        guest_trail = guest_by (went f.guest_at h);
        class_trail = class_by (went f.class_at l) ++ moved p.classes c.more l;
        no_sooner = omega arith;
        in_time = c.in_time;
        guest_moves = λ n less. advanced_less p.guest n f.guest_turns g f.guest_at less f.guest_comes;
        classes_move = λ n less. advanced_less p.classes n f.class_turns j f.class_at (omega arith) f.class_comes;
        unmarked = f.unmarked;
        early = f.early;
        comes = inl (record {
          guest_to = h;
          classes_to = c.rest;
          system = m;
          guest = reached_join p.guest reply f.guest_turns 1 g f.guest_at h k k m [] qs (moved p.guest f.guest_turns g) (went f.guest_at h ∷ []) guest_moved guest;
          classes = subst (λ rs. Reached p.classes reply (f.class_turns + 1 + c.more) j k rs (class_by (went f.class_at l) ++ moved p.classes c.more l) c.rest m) (append-nil qs) whole;
          rests = c.rests;
          paid = c.counted;
        });
      }

  over : (qs : List Question) (outcome : Outcome) → outcome ≢ Going → Finished p.guest reply 1 f.guest_at k (stops qs outcome f.guest_at k) (stood f.guest_at ∷ []) → Finished p.classes reply 1 f.class_at k (stops qs outcome f.class_at k) (stood f.class_at ∷ []) → Ends → Round p reply Rests limit g j k
  over qs outcome stopped guest classes c =
      let no_sooner = f.no_sooner in
      record {
        guest_turns = f.guest_turns;
        used = f.class_turns + 1;
        questions = qs;
        guest_trail = guest_by (stood f.guest_at);
        class_trail = class_by (stood f.class_at);
        no_sooner = omega arith;
        in_time = c.in_time;
        guest_moves = λ n less. advanced_less p.guest n f.guest_turns g f.guest_at less f.guest_comes;
        classes_move = λ n less. advanced_less p.classes n f.class_turns j f.class_at (omega arith) f.class_comes;
        unmarked = f.unmarked;
        early = f.early;
        comes = inr (record {
          outcome = outcome;
          over = stopped;
          guest_last = f.guest_at;
          class_last = f.class_at;
          guest = finished_join p.guest reply f.guest_turns 1 g f.guest_at k k [] (moved p.guest f.guest_turns g) (stood f.guest_at ∷ []) (stops qs outcome f.guest_at k) guest_moved guest;
          classes = finished_join p.classes reply f.class_turns 1 j f.class_at k k [] (moved p.classes f.class_turns j) (stood f.class_at ∷ []) (stops qs outcome f.class_at k) class_moved classes;
          paid = λ i. let h = c.counted i in omega arith;
        });
      }

  by_reply : (got : Option (Answer × K)) (q : Question) (next : Answer → G) (then : Answer → J) → p.guest f.guest_at ≡ asks q next → p.classes f.class_at ≡ asks q then → reply k q ≡ got → Ends → ((a : Answer) → IsTrue (answer_fits a q) → GoesOn (next a) (then a)) → Round p reply Rests limit g j k
  by_reply None q next then guest classes got finish goes =
      over (q ∷ []) Waiting waiting_is_over (one_waits p.guest reply q next f.guest_at k guest got) (one_waits p.classes reply q then f.class_at k classes got) finish
  by_reply (Some given) q next then guest classes got finish goes =
      let a = given.0 in
      let m = given.1 in
      on (q ∷ []) (next a) (then a) m (one_answered p.guest reply q next a f.guest_at k m guest got) (one_answered p.classes reply q then a f.class_at k m classes got) (goes a (fitting k m q a got))

  by_turns : (x : Turn G) (y : Turn J) → p.guest f.guest_at ≡ x → p.classes f.class_at ≡ y → Alike GoesOn Ends x y → Round p reply Rests limit g j k
  by_turns (moves h) (moves l) guest classes alike =
      on [] h l k (one_moves p.guest reply f.guest_at h k guest) (one_moves p.classes reply f.class_at l k classes) alike
  by_turns (ends e) (ends d) guest classes alike =
      over [] (outcome_of e) (end_is_over e) (one_ends p.guest reply e f.guest_at k guest) (one_ends p.classes reply e f.class_at k (classes ∙ ap ends alike.0)) alike.1
  by_turns (leaves q e) (leaves r d) guest classes alike =
      over (q ∷ []) (outcome_of e) (end_is_over e) (one_leaves p.guest reply q e f.guest_at k guest) (one_leaves p.classes reply q e f.class_at k (classes ∙ ap (λ x. leaves x d) alike.0 ∙ ap (leaves q) alike.1)) alike.2
  by_turns (asks q next) (asks r then) guest classes alike =
      by_reply (reply k q) q next then guest (classes ∙ ap (λ x. asks x then) alike.0) refl alike.1 alike.2
  by_turns _ _ guest classes alike = absurd alike

  pub round_of : Round p reply Rests limit g j k
  round_of = by_turns (p.guest f.guest_at) (p.classes f.class_at) refl refl f.alike
