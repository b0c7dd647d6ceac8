-- Where the guest's run goes on behind turns that the classes follow, both runs go on from where they rest.
use Rattle.std.proofs.Common.{◌≡◌, ◌≢◌, ℕ, ◌+◌, ◌≤◌, IsTrue, List, [], ◌∷◌, ◌++◌, Option, Some, None, refl, ap, sym, subst, ◌∙◌}
use Rattle.std.proofs.lemmas.List.{append-nil}
use Rattle.run_definition.specs.Question.{Question}
use Rattle.run_definition.specs.Answer.{Answer, answer_fits}
use Rattle.run_definition.specs.Turn.{Turn, moves, ends, leaves, asks, outcome_of}
use Rattle.run_definition.specs.Run.{run_of, stops}
use Rattle.run_definition.specs.declared.outcome.Outcome.{Outcome}
use Rattle.run_definition.specs.declared.outcome.Outcome.TheVariants.{Going, Waiting}
use Rattle.nv_events.specs.Laws.{GivesFitting}
use Rattle.nv_events.specs.Parts.{after}
use Rattle.run_simulation_laws.specs.Trail.{moved, stood, went}
use Rattle.run_simulation_laws.specs.Turns.{Alike, ComesToRest, Follows, Pair, Stands}
use Rattle.run_simulation_laws.proofs.Comparing.{run_over}
use Rattle.run_simulation_laws.proofs.Following.{end_is_over, waiting_is_over}
use Rattle.run_simulation_laws.proofs.Reaching.{Finished, Reached, finished_join, one_answered, one_ends, one_leaves, one_moves, one_waits, reached_join, reached_moved}

-- Behind these turns both go on over the same state of the system.
pub record GoesOn {G J K : Type 0} (guest : G → Turn G) (classes : J → Turn J) (reply : K → Question → Option (Answer × K)) (Rests : G → J → Type 0) (guest_turns most : ℕ) (g : G) (j : J) (k : K) : Type 0 where
  pub used : ℕ
  pub in_time : used ≤ most
  pub questions : List Question
  pub guest_to : G
  pub classes_to : J
  pub system : K
  pub guest_runs : (m : ℕ) → run_of guest reply (guest_turns + m) g k ≡ after questions (run_of guest reply m guest_to system)
  pub classes_run : (m : ℕ) → run_of classes reply (used + m) j k ≡ after questions (run_of classes reply m classes_to system)
  pub rests : Rests guest_to classes_to

module _ {G J I K : Type 0} (p : Pair G J I) (reply : K → Question → Option (Answer × K)) (fitting : GivesFitting reply) (Rests : G → J → Type 0) (limit : ℕ → ℕ) (g : G) (j : J) (k : K) (f : Follows p Rests limit g j) (n : ℕ) (least : f.guest_turns + 1 ≤ n) (going : (run_of p.guest reply n g k).outcome ≡ Going) where
  abbrev Goes : Type 0
  Goes = GoesOn p.guest p.classes reply Rests (f.guest_turns + 1) (limit (f.guest_turns + 1)) g j k

  abbrev ToRest : G → J → Type 0
  ToRest h l = ComesToRest p Rests (f.class_turns + 1) (limit (f.guest_turns + 1)) (λ i. (p.tally i).credit j) (moved p.guest f.guest_turns g ++ went f.guest_at h ∷ []) (moved p.classes f.class_turns j ++ went f.class_at l ∷ []) h l

  abbrev Ends : Type 0
  Ends = Stands p (f.class_turns + 1) (limit (f.guest_turns + 1)) (λ i. (p.tally i).credit j) (moved p.guest f.guest_turns g ++ stood f.guest_at ∷ []) (moved p.classes f.class_turns j ++ stood f.class_at ∷ [])

  guest-moved : Reached p.guest reply f.guest_turns g k [] (moved p.guest f.guest_turns g) f.guest_at k
  guest-moved = reached_moved p.guest reply f.guest_turns g f.guest_at k f.guest_comes

  classes-moved : Reached p.classes reply f.class_turns j k [] (moved p.classes f.class_turns j) f.class_at k
  classes-moved = reached_moved p.classes reply f.class_turns j f.class_at k f.class_comes

  -- the last turns lead on
  on : (qs : List Question) (h : G) (l : J) (m : K) → Reached p.guest reply 1 f.guest_at k qs (went f.guest_at h ∷ []) h m → Reached p.classes reply 1 f.class_at k qs (went f.class_at l ∷ []) l m → ToRest h l → Goes
  on qs h l m guest classes c =
      let guest_whole = reached_join p.guest reply f.guest_turns 1 g f.guest_at h k k m [] qs (moved p.guest f.guest_turns g) (went f.guest_at h ∷ []) guest-moved guest in
      let begun = reached_join p.classes reply f.class_turns 1 j f.class_at l k k m [] qs (moved p.classes f.class_turns j) (went f.class_at l ∷ []) classes-moved classes in
      let whole = reached_join p.classes reply (f.class_turns + 1) c.more j l c.rest k m m qs [] (moved p.classes f.class_turns j ++ went f.class_at l ∷ []) (moved p.classes c.more l) begun (reached_moved p.classes reply c.more l c.rest m c.comes) in
      let rested = subst (λ rs. Reached p.classes reply (f.class_turns + 1 + c.more) j k rs ((moved p.classes f.class_turns j ++ went f.class_at l ∷ []) ++ moved p.classes c.more l) c.rest m) (append-nil qs) whole in
      record {
        used = f.class_turns + 1 + c.more;
        in_time = c.in_time;
        questions = qs;
        guest_to = h;
        classes_to = c.rest;
        system = m;
        guest_runs = guest_whole.runs;
        classes_run = rested.runs;
        rests = c.rests;
      }

  -- the guest's run is not over
  not-over : (qs : List Question) (outcome : Outcome) → outcome ≢ Going → Finished p.guest reply 1 f.guest_at k (stops qs outcome f.guest_at k) (stood f.guest_at ∷ []) → ⊥
  not-over qs outcome over finished =
      let whole = finished_join p.guest reply f.guest_turns 1 g f.guest_at k k [] (moved p.guest f.guest_turns g) (stood f.guest_at ∷ []) (stops qs outcome f.guest_at k) guest-moved finished in
      let run = run_over p.guest reply (f.guest_turns + 1) n g k (stops qs outcome f.guest_at k) (moved p.guest f.guest_turns g ++ stood f.guest_at ∷ []) least whole in
      over (sym (ap (λ r. r.outcome) run) ∙ going)

  by-reply : (got : Option (Answer × K)) (q : Question) (next : Answer → G) (then : Answer → J) → p.guest f.guest_at ≡ asks q next → p.classes f.class_at ≡ asks q then → reply k q ≡ got → ((a : Answer) → IsTrue (answer_fits a q) → ToRest (next a) (then a)) → Goes
  by-reply None q next then guest classes got goes =
      absurd (not-over (q ∷ []) Waiting waiting_is_over (one_waits p.guest reply q next f.guest_at k guest got))
  by-reply (Some given) q next then guest classes got goes =
      let a = given.0 in
      let m = given.1 in
      on (q ∷ []) (next a) (then a) m (one_answered p.guest reply q next a f.guest_at k m guest got) (one_answered p.classes reply q then a f.class_at k m classes got) (goes a (fitting k m q a got))

  by-turns : (x : Turn G) (y : Turn J) → p.guest f.guest_at ≡ x → p.classes f.class_at ≡ y → Alike ToRest Ends x y → Goes
  by-turns (moves h) (moves l) guest classes alike =
      on [] h l k (one_moves p.guest reply f.guest_at h k guest) (one_moves p.classes reply f.class_at l k classes) alike
  by-turns (ends e) (ends d) guest classes alike =
      absurd (not-over [] (outcome_of e) (end_is_over e) (one_ends p.guest reply e f.guest_at k guest))
  by-turns (leaves q e) (leaves r d) guest classes alike =
      absurd (not-over (q ∷ []) (outcome_of e) (end_is_over e) (one_leaves p.guest reply q e f.guest_at k guest))
  by-turns (asks q next) (asks r then) guest classes alike =
      by-reply (reply k q) q next then guest (classes ∙ ap (λ x. asks x then) alike.0) refl alike.2
  by-turns _ _ guest classes alike = absurd alike

  pub goes-on : Goes
  goes-on = by-turns (p.guest f.guest_at) (p.classes f.class_at) refl refl f.alike
