-- Turns that follow to one kind of rest follow to another, where the guest asks at once or ends.
use Rattle.std.proofs.Common.{◌≡◌, ℕ, zero, suc, ◌+◌, List, [], ◌∷◌, ◌++◌, Option, Some, ap, unwrap_or}
use Rattle.run_definition.specs.Question.{Question}
use Rattle.run_definition.specs.Answer.{Answer}
use Rattle.run_definition.specs.Turn.{Turn, moves, ends, leaves, asks}
use Rattle.run_simulation_laws.specs.Trail.{Step, advanced, moved, stood, went}
use Rattle.run_simulation_laws.specs.Turns.{Alike, ComesToRest, Follows, Pair, Stands}
use Rattle.run_simulation_laws.proofs.Passing.{first_move}

module _ {G J I : Type 0} (p : Pair G J I) (First Then : G → J → Type 0) (limit : ℕ → ℕ) (g : G) (j : J) (stays : (u : G) → p.guest g ≡ moves u → ⊥) (so : (q : Question) (next : Answer → G) (a : Answer) (l : J) → p.guest g ≡ asks q next → First (next a) l → Then (next a) l) where
  -- the guest's first turn is its last one
  at-once : (n : ℕ) (h : G) → advanced p.guest n g ≡ Some h → g ≡ h
  at-once zero h comes = ap (λ (o : Option G). unwrap_or o h) comes
  at-once (suc n) h comes = let first = first_move p.guest n g h comes in absurd (stays first.0 first.1)

  rest-so : (used most : ℕ) (allowed : I → ℕ) (a : List (Step G)) (b : List (Step J)) (h : G) (l : J) → ((k : J) → First h k → Then h k) → ComesToRest p First used most allowed a b h l → ComesToRest p Then used most allowed a b h l
  rest-so used most allowed a b h l then c = record { more = c.more; rest = c.rest; comes = c.comes; rests = then c.rest c.rests; in_time = c.in_time; counted = c.counted }

  alike-so : (Goes Went : G → J → Type 0) (Ends : Type 0) (x : Turn G) (y : Turn J) → p.guest g ≡ x → ((q : Question) (next : Answer → G) (a : Answer) (l : J) → p.guest g ≡ asks q next → Goes (next a) l → Went (next a) l) → Alike Goes Ends x y → Alike Went Ends x y
  alike-so Goes Went Ends (moves h) (moves l) is on alike = absurd (stays h is)
  alike-so Goes Went Ends (ends e) (ends f) is on alike = alike
  alike-so Goes Went Ends (leaves q e) (leaves r f) is on alike = alike
  alike-so Goes Went Ends (asks q next) (asks r then) is on alike = (alike.0, alike.1, λ a fit. on q next a (then a) is (alike.2 a fit))
  alike-so Goes Went Ends _ _ is on alike = absurd alike

  pub follows-so : Follows p First limit g j → Follows p Then limit g j
  follows-so f =
      let used = f.class_turns + 1 in
      let most = limit (f.guest_turns + 1) in
      let allowed = λ (i : I). (p.tally i).credit j in
      let guest_trail = λ (s : Step G). moved p.guest f.guest_turns g ++ s ∷ [] in
      let class_trail = λ (s : Step J). moved p.classes f.class_turns j ++ s ∷ [] in
      let here : g ≡ f.guest_at = at-once f.guest_turns f.guest_at f.guest_comes in
      record {
        guest_turns = f.guest_turns;
        class_turns = f.class_turns;
        guest_at = f.guest_at;
        class_at = f.class_at;
        guest_comes = f.guest_comes;
        class_comes = f.class_comes;
        no_sooner = f.no_sooner;
        unmarked = f.unmarked;
        early = f.early;
        alike = alike-so
            (λ h l. ComesToRest p First used most allowed (guest_trail (went f.guest_at h)) (class_trail (went f.class_at l)) h l)
            (λ h l. ComesToRest p Then used most allowed (guest_trail (went f.guest_at h)) (class_trail (went f.class_at l)) h l)
            (Stands p used most allowed (guest_trail (stood f.guest_at)) (class_trail (stood f.class_at)))
            (p.guest f.guest_at) (p.classes f.class_at) (ap p.guest here)
            (λ q next a l is c. rest-so used most allowed (guest_trail (went f.guest_at (next a))) (class_trail (went f.class_at l)) (next a) l (λ k first. so q next a k is first) c)
            f.alike;
      }
