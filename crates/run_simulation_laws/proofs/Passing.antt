-- How a turn is put together: parts one after the other, parts before a turn, and a part that ends at rest.
use Rattle.std.proofs.Common.{◌≡◌, ℕ, zero, suc, ◌+◌, ◌-◌, ◌<◌, ◌≤◌, false, List, [], ◌∷◌, ◌++◌, Option, Some, None, refl, ap, sym, subst, ◌∙◌, arith, append_assoc, inl, inr, unwrap_or}
use Rattle.std.proofs.lemmas.Bool.{cases_lt}
use Rattle.std.proofs.lemmas.List.Sums.{sum_by-append, sum_by-cons}
use Rattle.std.proofs.lemmas.Option.{none-some}
use Rattle.std.specs.List.{sum_by}
use Rattle.run_definition.specs.Turn.{Turn, moves, ends, leaves, asks}
use Rattle.run_simulation_laws.specs.Trail.{Step, went, stood, if_moves, advanced, moved}
use Rattle.run_simulation_laws.specs.Turns.{Pair, ComesToRest, Stands, Alike, Follows, Passes}
use Rattle.run_simulation_laws.proofs.Reaching.{advanced_less}

-- ---- turns that only move, one after the other

module _ {S : Type 0} (turn : S → Turn S) where
  comes_by : (n m : ℕ) (x : Turn S) (t : S) → if_moves x None (advanced turn n) ≡ Some t → ((u : S) → advanced turn n u ≡ Some t → advanced turn (n + m) u ≡ advanced turn m t) → if_moves x None (advanced turn (n + m)) ≡ advanced turn m t
  comes_by n m (moves u) t is on = on u is
  comes_by n m (ends e) t is on = absurd (none-some t is)
  comes_by n m (leaves q e) t is on = absurd (none-some t is)
  comes_by n m (asks q next) t is on = absurd (none-some t is)

  pub advanced_add : (n m : ℕ) (s t : S) → advanced turn n s ≡ Some t → advanced turn (n + m) s ≡ advanced turn m t
  advanced_add zero m s t is =
      let e : zero + m ≡ m = omega arith in
      ap (λ i. advanced turn i s) e ∙ ap (λ (o : Option S). advanced turn m (unwrap_or o t)) is
  advanced_add (suc n) m s t is =
      let e : suc n + m ≡ suc (n + m) = omega arith in
      ap (λ i. advanced turn i s) e ∙ comes_by n m (turn s) t is (λ u on. advanced_add n m u t on)

  trail_by_moves : (n m : ℕ) (x : Turn S) (s t : S) → if_moves x None (advanced turn n) ≡ Some t → ((u : S) → advanced turn n u ≡ Some t → moved turn (n + m) u ≡ moved turn n u ++ moved turn m t) → if_moves x [] (λ u. went s u ∷ moved turn (n + m) u) ≡ if_moves x [] (λ u. went s u ∷ moved turn n u) ++ moved turn m t
  trail_by_moves n m (moves u) s t is on = ap (λ xs. went s u ∷ xs) (on u is)
  trail_by_moves n m (ends e) s t is on = absurd (none-some t is)
  trail_by_moves n m (leaves q e) s t is on = absurd (none-some t is)
  trail_by_moves n m (asks q next) s t is on = absurd (none-some t is)

  pub moved_add : (n m : ℕ) (s t : S) → advanced turn n s ≡ Some t → moved turn (n + m) s ≡ moved turn n s ++ moved turn m t
  moved_add zero m s t is =
      let e : zero + m ≡ m = omega arith in
      ap (λ i. moved turn i s) e ∙ ap (λ (o : Option S). moved turn m (unwrap_or o t)) is
  moved_add (suc n) m s t is =
      let e : suc n + m ≡ suc (n + m) = omega arith in
      ap (λ i. moved turn i s) e ∙ trail_by_moves n m (turn s) s t is (λ u on. moved_add n m u t on)

  grows_by : (f : Step S → ℕ) (n m : ℕ) (x : Turn S) (s : S) → ((u : S) → sum_by f (moved turn n u) ≤ sum_by f (moved turn m u)) → sum_by f (if_moves x [] (λ u. went s u ∷ moved turn n u)) ≤ sum_by f (if_moves x [] (λ u. went s u ∷ moved turn m u))
  grows_by f n m (moves u) s h =
      let one = h u in
      let x = sum_by-cons f (went s u) (moved turn n u) in
      let y = sum_by-cons f (went s u) (moved turn m u) in
      omega arith
  grows_by f n m (ends e) s h = omega arith
  grows_by f n m (leaves q e) s h = omega arith
  grows_by f n m (asks q next) s h = omega arith

  pub moved_grows : (f : Step S → ℕ) (n m : ℕ) (s : S) → n ≤ m → sum_by f (moved turn n s) ≤ sum_by f (moved turn m s)
  moved_grows f zero m s less = omega arith
  moved_grows f (suc n) zero s less = absurd (omega arith)
  moved_grows f (suc n) (suc m) s less = grows_by f n m (turn s) s (λ u. moved_grows f n m u (omega arith))

  first_by : (n : ℕ) (x : Turn S) (s t : S) → turn s ≡ x → if_moves x None (advanced turn n) ≡ Some t → (u : S) × (turn s ≡ moves u) × (advanced turn n u ≡ Some t)
  first_by n (moves u) s t e is = (u, e, is)
  first_by n (ends end) s t e is = absurd (none-some t is)
  first_by n (leaves q end) s t e is = absurd (none-some t is)
  first_by n (asks q next) s t e is = absurd (none-some t is)

  pub first_move : (n : ℕ) (s t : S) → advanced turn (suc n) s ≡ Some t → (u : S) × (turn s ≡ moves u) × (advanced turn n u ≡ Some t)
  first_move n s t is = first_by n (turn s) s t refl is

  pub moved_one : (s t : S) → turn s ≡ moves t → moved turn 1 s ≡ went s t ∷ []
  moved_one s t e = ap (λ x. if_moves x [] (λ u. went s u ∷ [])) e

  split_from : (n k more : ℕ) (s t l : S) → n ≡ k + suc more → advanced turn k s ≡ Some t → advanced turn n s ≡ Some l → (u : S) × (turn t ≡ moves u) × (advanced turn more u ≡ Some l)
  split_from n k more s t l e comes is =
      first_move more t l (sym (ap (λ x. advanced turn x s) e ∙ advanced_add k (suc more) s t comes) ∙ is)

  -- a trail with the step that follows some turns, and the rest
  pub moved_parts : (n k more : ℕ) (s t u : S) → n ≡ k + suc more → advanced turn k s ≡ Some t → turn t ≡ moves u → moved turn n s ≡ (moved turn k s ++ went t u ∷ []) ++ moved turn more u
  moved_parts n k more s t u e comes moves_on =
      let step : moved turn (suc more) t ≡ went t u ∷ moved turn more u = ap (λ x. if_moves x [] (λ v. went t v ∷ moved turn more v)) moves_on in
      ap (λ x. moved turn x s) e
      ∙ moved_add k (suc more) s t comes
      ∙ ap (λ xs. moved turn k s ++ xs) step
      ∙ sym (append_assoc (moved turn k s) (went t u ∷ []) (moved turn more u))

-- ---- parts

module _ {G J I : Type 0} (p : Pair G J I) (k n : ℕ) (g : G) (j : J) (h : G) (l : J) (first : Passes p k n g j h l) where
  guest_sum : (i : I) (m : ℕ) → sum_by (p.tally i).guest (moved p.guest (k + m) g) ≡ sum_by (p.tally i).guest (moved p.guest k g) + sum_by (p.tally i).guest (moved p.guest m h)
  guest_sum i m =
      ap (sum_by (p.tally i).guest) (moved_add p.guest k m g h first.guest_comes) ∙ sum_by-append (p.tally i).guest (moved p.guest k g) (moved p.guest m h)

  class_sum : (i : I) (m : ℕ) → sum_by (p.tally i).classes (moved p.classes (n + m) j) ≡ sum_by (p.tally i).classes (moved p.classes n j) + sum_by (p.tally i).classes (moved p.classes m l)
  class_sum i m =
      ap (sum_by (p.tally i).classes) (moved_add p.classes n m j l first.class_comes) ∙ sum_by-append (p.tally i).classes (moved p.classes n j) (moved p.classes m l)

  -- what is counted inside, where what follows keeps to it
  early_on : (i : I) (more : ℕ) → ((m : ℕ) → m ≤ more → sum_by (p.tally i).classes (moved p.classes m l) ≤ (p.tally i).credit l + sum_by (p.tally i).guest (moved p.guest m h)) → (m : ℕ) → m ≤ k + more → sum_by (p.tally i).classes (moved p.classes m j) ≤ (p.tally i).credit j + sum_by (p.tally i).guest (moved p.guest m g)
  early_on i more next m within = elim (cases_lt k m) [
    | inr less ↦ first.early i m less
    | inl past ↦ let c = (p.tally i).classes in let d = (p.tally i).guest in let paid = first.counted i in let x = m - k in let e : m ≡ k + x = omega arith in let guest : sum_by d (moved p.guest m g) ≡ sum_by d (moved p.guest k g) + sum_by d (moved p.guest x h) = ap (λ z. sum_by d (moved p.guest z g)) e ∙ guest_sum i x in elim (cases_lt n m) [
      | inr less ↦ let part = moved_grows p.classes c m n j less in omega arith
      | inl beyond ↦ let y = m - n in let f : m ≡ n + y = omega arith in let classes : sum_by c (moved p.classes m j) ≡ sum_by c (moved p.classes n j) + sum_by c (moved p.classes y l) = ap (λ z. sum_by c (moved p.classes z j)) f ∙ class_sum i y in let no_sooner = first.no_sooner in let later = next y (omega arith) in let part = moved_grows p.guest d y x h (omega arith) in omega arith
    ]
  ]

  unmarked_on : (inside : 1 ≤ k → p.marked h ≡ false) (more : ℕ) → ((m : ℕ) (t : G) → 1 ≤ m → m < more → advanced p.guest m h ≡ Some t → p.marked t ≡ false) → (m : ℕ) (t : G) → 1 ≤ m → m < k + more → advanced p.guest m g ≡ Some t → p.marked t ≡ false
  unmarked_on inside more next m t one within is = elim (cases_lt m k) [
    | inl less ↦ first.unmarked m t one less is
    | inr least ↦ let x = m - k in let e : m ≡ k + x = omega arith in let there : advanced p.guest x h ≡ Some t = sym (ap (λ z. advanced p.guest z g) e ∙ advanced_add p.guest k x g h first.guest_comes) ∙ is in elim (cases_lt 0 x) [
      | inl some ↦ next x t (omega arith) (omega arith) there
      | inr none ↦ let z : x ≡ 0 = omega arith in let here : Some h ≡ Some t = sym (ap (λ i. advanced p.guest i h) z) ∙ there in let same : h ≡ t = ap (λ (o : Option G). unwrap_or o t) here in ap p.marked (sym same) ∙ inside (omega arith)
    ]
  ]

  pub passes_join : (inside : 1 ≤ k → p.marked h ≡ false) (k₂ n₂ : ℕ) (g₂ : G) (j₂ : J) → Passes p k₂ n₂ h l g₂ j₂ → Passes p (k + k₂) (n + n₂) g j g₂ j₂
  passes_join inside k₂ n₂ g₂ j₂ next =
      let no_sooner = first.no_sooner in
      let no_sooner₂ = next.no_sooner in
      record {
        guest_comes = advanced_add p.guest k k₂ g h first.guest_comes ∙ next.guest_comes;
        class_comes = advanced_add p.classes n n₂ j l first.class_comes ∙ next.class_comes;
        no_sooner = omega arith;
        unmarked = unmarked_on inside k₂ next.unmarked;
        early = λ i. early_on i k₂ (next.early i);
        counted = λ i. let a = first.counted i in let b = next.counted i in let x = guest_sum i k₂ in let y = class_sum i n₂ in omega arith;
      }

  -- ---- before a turn

  module _ (Rests : G → J → Type 0) (limit wider : ℕ → ℕ) (f : Follows p Rests limit h l) where
    guest_whole : (i : I) (steps : List (Step G)) → sum_by (p.tally i).guest (moved p.guest (k + f.guest_turns) g ++ steps) ≡ sum_by (p.tally i).guest (moved p.guest k g) + sum_by (p.tally i).guest (moved p.guest f.guest_turns h ++ steps)
    guest_whole i steps =
        let d = (p.tally i).guest in
        let a = sum_by-append d (moved p.guest (k + f.guest_turns) g) steps in
        let b = sum_by-append d (moved p.guest f.guest_turns h) steps in
        let c = guest_sum i f.guest_turns in
        omega arith

    class_whole : (i : I) (steps : List (Step J)) → sum_by (p.tally i).classes (moved p.classes (n + f.class_turns) j ++ steps) ≡ sum_by (p.tally i).classes (moved p.classes n j) + sum_by (p.tally i).classes (moved p.classes f.class_turns l ++ steps)
    class_whole i steps =
        let d = (p.tally i).classes in
        let a = sum_by-append d (moved p.classes (n + f.class_turns) j) steps in
        let b = sum_by-append d (moved p.classes f.class_turns l) steps in
        let c = class_sum i f.class_turns in
        omega arith

    goes_before : (room : n + limit (f.guest_turns + 1) ≤ wider (k + f.guest_turns + 1)) (h₂ : G) (l₂ : J) → ComesToRest p Rests (f.class_turns + 1) (limit (f.guest_turns + 1)) (λ i. (p.tally i).credit l) (moved p.guest f.guest_turns h ++ went f.guest_at h₂ ∷ []) (moved p.classes f.class_turns l ++ went f.class_at l₂ ∷ []) h₂ l₂ → ComesToRest p Rests (n + f.class_turns + 1) (wider (k + f.guest_turns + 1)) (λ i. (p.tally i).credit j) (moved p.guest (k + f.guest_turns) g ++ went f.guest_at h₂ ∷ []) (moved p.classes (n + f.class_turns) j ++ went f.class_at l₂ ∷ []) h₂ l₂
    goes_before room h₂ l₂ c =
        let in_time = c.in_time in
        record {
          more = c.more;
          rest = c.rest;
          comes = c.comes;
          rests = c.rests;
          in_time = omega arith;
          counted = λ i. let d = (p.tally i).classes in let step = went f.class_at l₂ ∷ [] in let later = moved p.classes c.more l₂ in let a = first.counted i in let b = c.counted i in let x = guest_whole i (went f.guest_at h₂ ∷ []) in let y = class_whole i step in let u = sum_by-append d (moved p.classes (n + f.class_turns) j ++ step) later in let v = sum_by-append d (moved p.classes f.class_turns l ++ step) later in omega arith;
        }

    stands_before : (room : n + limit (f.guest_turns + 1) ≤ wider (k + f.guest_turns + 1)) → Stands p (f.class_turns + 1) (limit (f.guest_turns + 1)) (λ i. (p.tally i).credit l) (moved p.guest f.guest_turns h ++ stood f.guest_at ∷ []) (moved p.classes f.class_turns l ++ stood f.class_at ∷ []) → Stands p (n + f.class_turns + 1) (wider (k + f.guest_turns + 1)) (λ i. (p.tally i).credit j) (moved p.guest (k + f.guest_turns) g ++ stood f.guest_at ∷ []) (moved p.classes (n + f.class_turns) j ++ stood f.class_at ∷ [])
    stands_before room c =
        let in_time = c.in_time in
        record {
          in_time = omega arith;
          counted = λ i. let a = first.counted i in let b = c.counted i in let x = guest_whole i (stood f.guest_at ∷ []) in let y = class_whole i (stood f.class_at ∷ []) in omega arith;
        }

    alike_before : (Goes Went : G → J → Type 0) (Ends Ended : Type 0) (x : Turn G) (y : Turn J) → ((h₂ : G) (l₂ : J) → Goes h₂ l₂ → Went h₂ l₂) → (Ends → Ended) → Alike Goes Ends x y → Alike Went Ended x y
    alike_before Goes Went Ends Ended (moves a) (moves b) on over alike = on a b alike
    alike_before Goes Went Ends Ended (ends a) (ends b) on over alike = (alike.0, over alike.1)
    alike_before Goes Went Ends Ended (leaves q a) (leaves r b) on over alike = (alike.0, alike.1, over alike.2)
    alike_before Goes Went Ends Ended (asks q a) (asks r b) on over alike = (alike.0, over alike.1, λ answer fit. on (a answer) (b answer) (alike.2 answer fit))
    alike_before Goes Went Ends Ended _ _ on over alike = absurd alike

    pub passes_before : (inside : 1 ≤ k → p.marked h ≡ false) → ((x : ℕ) → n + limit x ≤ wider (k + x)) → Follows p Rests wider g j
    passes_before inside wide =
        let no_sooner = first.no_sooner in
        let no_sooner₂ = f.no_sooner in
        let e : k + (f.guest_turns + 1) ≡ k + f.guest_turns + 1 = omega arith in
        let room : n + limit (f.guest_turns + 1) ≤ wider (k + f.guest_turns + 1) = subst (λ x. n + limit (f.guest_turns + 1) ≤ wider x) e (wide (f.guest_turns + 1)) in
        record {
          guest_turns = k + f.guest_turns;
          class_turns = n + f.class_turns;
          guest_at = f.guest_at;
          class_at = f.class_at;
          guest_comes = advanced_add p.guest k f.guest_turns g h first.guest_comes ∙ f.guest_comes;
          class_comes = advanced_add p.classes n f.class_turns j l first.class_comes ∙ f.class_comes;
          no_sooner = omega arith;
          unmarked = λ m t one within is. unmarked_on inside (f.guest_turns + 1) (λ x u some less at. f.unmarked x u some (omega arith) at) m t one (omega arith) is;
          early = λ i. early_on i f.guest_turns (f.early i);
          alike = alike_before _ _ _ _ (p.guest f.guest_at) (p.classes f.class_at) (goes_before room) (stands_before room) f.alike;
        }

-- ---- at rest

module _ {G J I : Type 0} (p : Pair G J I) (Rests : G → J → Type 0) (limit : ℕ → ℕ) (k n : ℕ) (g : G) (j : J) (h : G) (l : J) (part : Passes p (k + 1) n g j h l) where
  moves_alike : (Goes : G → J → Type 0) (Ends : Type 0) (x : Turn G) (y : Turn J) (h₂ : G) (l₂ : J) → x ≡ moves h₂ → y ≡ moves l₂ → Goes h₂ l₂ → Alike Goes Ends x y
  moves_alike Goes Ends x y h₂ l₂ first second goes =
      let both : Alike Goes Ends (moves h₂) (moves l₂) = goes in
      subst (λ (z : Turn G). Alike Goes Ends z y) (sym first) (subst (λ (z : Turn J). Alike Goes Ends (moves h₂) z) (sym second) both)

  rest_by : (more : ℕ) (a : G) (b v : J) → n ≡ k + suc more → advanced p.guest k g ≡ Some a → p.guest a ≡ moves h → advanced p.classes k j ≡ Some b → p.classes b ≡ moves v → advanced p.classes more v ≡ Some l → Rests h l → n ≤ limit (k + 1) → Follows p Rests limit g j
  rest_by more a b v e guest_comes guest_moves class_comes class_moves comes rests in_time =
      let guest_trail : moved p.guest (k + 1) g ≡ moved p.guest k g ++ went a h ∷ [] = moved_add p.guest k 1 g a guest_comes ∙ ap (λ xs. moved p.guest k g ++ xs) (moved_one p.guest a h guest_moves) in
      let class_trail : moved p.classes n j ≡ (moved p.classes k j ++ went b v ∷ []) ++ moved p.classes more v = moved_parts p.classes n k more j b v e class_comes class_moves in
      record {
        guest_turns = k;
        class_turns = k;
        guest_at = a;
        class_at = b;
        guest_comes = guest_comes;
        class_comes = class_comes;
        no_sooner = omega arith;
        unmarked = λ m t some less is. part.unmarked m t some (omega arith) is;
        early = λ i m less. part.early i m (omega arith);
        alike = moves_alike _ _ (p.guest a) (p.classes b) h v guest_moves class_moves (record {
          more = more;
          rest = l;
          comes = comes;
          rests = rests;
          in_time = omega arith;
          counted = λ i. let paid = part.counted i in let x = ap (sum_by (p.tally i).guest) guest_trail in let y = ap (sum_by (p.tally i).classes) class_trail in omega arith;
        });
      }

  pub passes_to_rest : Rests h l → n ≤ limit (k + 1) → Follows p Rests limit g j
  passes_to_rest rests in_time =
      let no_sooner = part.no_sooner in
      let a = advanced_less p.guest k (k + 1) g h (omega arith) part.guest_comes in
      let b = advanced_less p.classes k n j l (omega arith) part.class_comes in
      let e : n ≡ k + suc (n - k - 1) = omega arith in
      let one : k + 1 ≡ k + suc zero = omega arith in
      let u = split_from p.guest (k + 1) k zero g a.0 h one a.1 part.guest_comes in
      let to : u.0 ≡ h = ap (λ (o : Option G). unwrap_or o h) u.2 in
      let v = split_from p.classes n k (n - k - 1) j b.0 l e b.1 part.class_comes in
      rest_by (n - k - 1) a.0 b.0 v.0 e a.1 (u.1 ∙ ap moves to) b.1 v.1 v.2 rests in_time
