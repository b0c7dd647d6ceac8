-- Classes that follow a guest follow it with a meter.
use Rattle.std.proofs.Common.{◌≡◌, ℕ, zero, suc, ◌+◌, ◌*◌, ◌≤◌, IsTrue, List, [], ◌∷◌, ◌++◌, Option, Some, None, refl, ap, sym, subst, ◌∙◌, arith, unwrap_or}
use Rattle.std.proofs.lemmas.Option.{none-some}
use Rattle.run_definition.specs.Question.{Question}
use Rattle.run_definition.specs.Answer.{Answer, answer_fits}
use Rattle.run_definition.specs.Turn.{Turn, moves, ends, leaves, asks, End}
use Rattle.run_simulation_laws.specs.Trail.{Step, went, stood, if_moves, advanced, moved}
use Rattle.run_simulation_laws.specs.Turns.{Pair, ComesToRest, Stands, Alike, Follows}
use Rattle.run_simulation_laws.specs.Meter.{with_meter, metered}
use Rattle.run_simulation_laws.specs.Runs.{allowance}
use Rattle.run_simulation_laws.proofs.Metering.{metered_classes}
use Rattle.run_simulation_laws.proofs.Passing.{passes_before}
use Rattle.run_simulation_laws.proofs.Following.{round_of}
use Rattle.run_simulation_laws.proofs.Starting.{started_runs}
use Rattle.run_simulation_laws.specs.Pairs.{metered_pair, by_meter, FollowsByMeter}
use Rattle.run_simulation_laws.specs.MeteredLaws.{MeteredFromStart, RunsToItsMeter}

module _ {G : Type 0} (turn : G → Turn G) (spent : G → End) where
  moved-on : (n left : ℕ) (x : Turn G) (h : G) → if_moves x None (advanced turn n) ≡ Some h
      → ((u : G) → advanced turn n u ≡ Some h → advanced (metered turn spent) n (n + left, u) ≡ Some (left, h))
      → if_moves (with_meter (n + left) x) None (advanced (metered turn spent) n) ≡ Some (left, h)
  moved-on n left (moves u) h is on = on u is
  moved-on n left (ends e) h is on = absurd (none-some h is)
  moved-on n left (leaves q e) h is on = absurd (none-some h is)
  moved-on n left (asks q next) h is on = absurd (none-some h is)

  -- turns that only move take so much off the meter
  advanced-metered : (n left : ℕ) (g h : G) → advanced turn n g ≡ Some h → advanced (metered turn spent) n (n + left, g) ≡ Some (left, h)
  advanced-metered zero left g h is =
      let e : zero + left ≡ left = omega arith in
      let same : g ≡ h = ap (λ (o : Option G). unwrap_or o h) is in
      λ i. Some (e i, same i)
  advanced-metered (suc n) left g h is =
      let e : suc n + left ≡ suc (n + left) = omega arith in
      ap (λ m. advanced (metered turn spent) (suc n) (m, g)) e
      ∙ moved-on n left (turn g) h is (λ u there. advanced-metered n left u h there)

-- what comes to rest does so by the meter
module _ {G J I : Type 0} (p : Pair G J I) (spent : G → End) (rests : ℕ → G → J → Type 0) (left : ℕ) where
  abbrev by : Pair (ℕ × G) J ⊥
  by = metered_pair p.guest p.classes spent

  rest-by-meter : (used limit : ℕ) (allowed : I → ℕ) (nothing : ⊥ → ℕ) (a : List (Step G)) (b : List (Step J)) (c : List (Step (ℕ × G))) (d : List (Step J)) (h : G) (l : J)
      → ComesToRest p (rests left) used limit allowed a b h l → ComesToRest by (by_meter rests) used limit nothing c d (left, h) l
  rest-by-meter used limit allowed nothing a b c d h l r =
      record { more = r.more; rest = r.rest; comes = r.comes; rests = r.rests; in_time = r.in_time; counted = λ i. absurd i }

  stands-by-meter : (used limit : ℕ) (allowed : I → ℕ) (nothing : ⊥ → ℕ) (a : List (Step G)) (b : List (Step J)) (c : List (Step (ℕ × G))) (d : List (Step J))
      → Stands p used limit allowed a b → Stands by used limit nothing c d
  stands-by-meter used limit allowed nothing a b c d r = record { in_time = r.in_time; counted = λ i. absurd i }

  alike-by-meter : (GoesOn : G → J → Type 0) (Ends : Type 0) (Goes_on : ℕ × G → J → Type 0) (End_so : Type 0)
      → ((h : G) (l : J) → GoesOn h l → Goes_on (left, h) l) → (Ends → End_so)
      → (x : Turn G) (y : Turn J) → Alike GoesOn Ends x y → Alike Goes_on End_so (with_meter left x) y
  alike-by-meter GoesOn Ends Goes_on End_so on end (moves h) (moves l) a = on h l a
  alike-by-meter GoesOn Ends Goes_on End_so on end (ends e) (ends f) a = (a.0, end a.1)
  alike-by-meter GoesOn Ends Goes_on End_so on end (leaves q e) (leaves r f) a = (a.0, a.1, end a.2)
  alike-by-meter GoesOn Ends Goes_on End_so on end (asks q next) (asks r then) a =
      (a.0, end a.1, λ b fit. on (next b) (then b) (a.2 b fit))
  alike-by-meter GoesOn Ends Goes_on End_so on end x y a = absurd a

  paid-first : (limit : ℕ → ℕ) (g : G) (j : J) (f : Follows p (rests left) limit g j)
      → Follows by (by_meter rests) limit (f.guest_turns + (1 + left), g) j
  paid-first limit g j f =
      let e : 1 + left ≡ suc left = omega arith in
      let nothing = λ (i : ⊥). (by.tally i).credit j in
      let trail = λ (step : Step (ℕ × G)). moved by.guest f.guest_turns (f.guest_turns + (1 + left), g) ++ step ∷ [] in
      let used = f.class_turns + 1 in
      let most = limit (f.guest_turns + 1) in
      record {
        guest_turns = f.guest_turns;
        class_turns = f.class_turns;
        guest_at = (suc left, f.guest_at);
        class_at = f.class_at;
        guest_comes = ap (λ m. advanced (metered p.guest spent) f.guest_turns (f.guest_turns + m, g)) e
            ∙ advanced-metered p.guest spent f.guest_turns (suc left) g f.guest_at f.guest_comes;
        class_comes = f.class_comes;
        no_sooner = f.no_sooner;
        unmarked = λ n t least most comes. refl;
        early = λ i. absurd i;
        alike = alike-by-meter
            (λ h l. ComesToRest p (rests left) used most (λ i. (p.tally i).credit j) (moved p.guest f.guest_turns g ++ went f.guest_at h ∷ []) (moved p.classes f.class_turns j ++ went f.class_at l ∷ []) h l)
            (Stands p used most (λ i. (p.tally i).credit j) (moved p.guest f.guest_turns g ++ stood f.guest_at ∷ []) (moved p.classes f.class_turns j ++ stood f.class_at ∷ []))
            (λ s l. ComesToRest by (by_meter rests) used most nothing (trail (went (suc left, f.guest_at) s)) (moved p.classes f.class_turns j ++ went f.class_at l ∷ []) s l)
            (Stands by used most nothing (trail (stood (suc left, f.guest_at))) (moved p.classes f.class_turns j ++ stood f.class_at ∷ []))
            (λ h l. rest-by-meter used most (λ i. (p.tally i).credit j) nothing _ _ (trail (went (suc left, f.guest_at) (left, h))) (moved p.classes f.class_turns j ++ went f.class_at l ∷ []) h l)
            (stands-by-meter used most (λ i. (p.tally i).credit j) nothing _ _ (trail (stood (suc left, f.guest_at))) (moved p.classes f.class_turns j ++ stood f.class_at ∷ []))
            (p.guest f.guest_at) (p.classes f.class_at) f.alike;
      }

  pub paid : (limit : ℕ → ℕ) (g : G) (j : J) (f : Follows p (rests left) limit g j)
      → FollowsByMeter p.guest p.classes spent rests limit (f.guest_turns + 1 + left) g j
  paid limit g j f =
      let e : f.guest_turns + (1 + left) ≡ f.guest_turns + 1 + left = omega arith in
      subst (λ m. Follows by (by_meter rests) limit (m, g) j) e (paid-first limit g j f)

module _ {G J : Type 0} (guest : G → Turn G) (classes : J → Turn J) (spent : G → End) (rests : ℕ → G → J → Type 0) where
  abbrev q : Pair (ℕ × G) J ⊥
  q = metered_pair guest classes spent

  ends-so : (e : End) (x : Turn J) (GoesOn : ℕ × G → J → Type 0) (Ends : Type 0) → x ≡ ends e → Ends → Alike GoesOn Ends (ends e) x
  ends-so e x GoesOn Ends is end = subst (λ y. Alike GoesOn Ends (ends e) y) (sym is) (refl, end)

  pub not-paid : (limit : ℕ → ℕ) (n m : ℕ) (g h : G) (j l : J) → advanced guest n g ≡ Some h → advanced classes m j ≡ Some l
      → classes l ≡ ends (spent h) → n ≤ m → m + 1 ≤ limit (n + 1) → FollowsByMeter guest classes spent rests limit n g j
  not-paid limit n m g h j l comes class_comes is no_sooner in_time =
      let e : n ≡ n + 0 = omega arith in
      let trail = λ (step : Step (ℕ × G)). moved q.guest n (n, g) ++ step ∷ [] in
      let nothing = λ (i : ⊥). (q.tally i).credit j in
      record {
        guest_turns = n;
        class_turns = m;
        guest_at = (0, h);
        class_at = l;
        guest_comes = ap (λ k. advanced (metered guest spent) n (k, g)) e ∙ advanced-metered guest spent n 0 g h comes;
        class_comes = class_comes;
        no_sooner = no_sooner;
        unmarked = λ k t least most there. refl;
        early = λ i. absurd i;
        alike = ends-so (spent h) (classes l)
            (λ s k. ComesToRest q (by_meter rests) (m + 1) (limit (n + 1)) nothing (trail (went (0, h) s)) (moved classes m j ++ went l k ∷ []) s k)
            (Stands q (m + 1) (limit (n + 1)) nothing (trail (stood (0, h))) (moved classes m j ++ stood l ∷ [])) is
            (record { in_time = in_time; counted = λ i. absurd i });
      }

  pub paid-before : (limit wider : ℕ → ℕ) (n left : ℕ) (g : G) (j l : J) → advanced classes n j ≡ Some l
      → FollowsByMeter guest classes spent rests limit left g l → ((x : ℕ) → n + limit x ≤ wider x)
      → FollowsByMeter guest classes spent rests wider left g j
  paid-before limit wider n left g j l comes follows wide =
      passes_before q 0 n (left, g) j (left, g) l
      (record { guest_comes = refl; class_comes = comes; no_sooner = omega arith; unmarked = λ k t least most there. refl; early = λ i. absurd i; counted = λ i. absurd i })
      (by_meter rests) limit wider follows (λ some. refl)
      (λ x. let e : 0 + x ≡ x = omega arith in let w = wide x in subst (λ k. n + limit x ≤ wider k) (sym e) w)

-- from a start that is followed the classes run as the guest does, up to the meter
pub metered-start : {G J K : Type 0} {rests : ℕ → G → J → Type 0} (f : MeteredFromStart G J rests) (reply : K → Question → Option (Answer × K))
    → ((k l : K) (q : Question) (a : Answer) → reply k q ≡ Some (a, l) → IsTrue (answer_fits a q)) → RunsToItsMeter f reply
metered-start {rests = rests} f reply fitting m k room =
    let p = metered_pair f.guest f.classes f.spent in
    let round = round_of p reply (by_meter rests) (λ n. f.start + 2 * f.most) fitting (f.left, f.guest_at) f.classes_at k f.begins in
    let same = started_runs p p.tally reply (by_meter rests) f.most f.start f.turns fitting (f.left, f.guest_at) f.classes_at k round in
    let e : (f.left + 1) + 1 ≡ f.left + 2 = omega arith in
    let enough : allowance f.most f.start (f.left + 1) ≤ m = subst (λ n. f.most * n + f.start ≤ m) (sym e) room in
    metered_classes f.guest f.spent reply f.classes (allowance f.most f.start) f.left m f.guest_at f.classes_at k same enough
