-- Where two machines, of which one follows the other, call the system.
use Rattle.std.proofs.Common.{◌≡◌, ◌≢◌, ℕ, zero, suc, ◌+◌, ◌-◌, ◌<◌, ◌≤◌, Bool, true, false, IsTrue, List, [], ◌∷◌, ◌++◌, Option, Some, None, refl, ap, sym, subst, ◌∙◌, arith, ◌⊎◌, inl, inr, unwrap_or}
use Rattle.std.proofs.lemmas.Bool.{cases_lt, false≢true}
use Rattle.run_definition.specs.Question.{Question}
use Rattle.run_definition.specs.Answer.{Answer, answer_fits}
use Rattle.run_definition.specs.Turn.{Turn, moves, ends, leaves, asks, outcome_of}
use Rattle.run_definition.specs.Run.{Run, run_of, stops}
use Rattle.run_definition.specs.declared.outcome.Outcome.{Outcome}
use Rattle.run_definition.specs.declared.outcome.Outcome.TheVariants.{Going, Waiting}
use Rattle.nv_events.specs.Parts.{after}
use Rattle.run_simulation_laws.specs.Trail.{advanced, moved, went, stood}
use Rattle.run_simulation_laws.specs.Turns.{Pair, Follows, Loads, Alike}
use Rattle.run_simulation_laws.proofs.Following.{end_is_over, waiting_is_over}
use Rattle.run_simulation_laws.proofs.Comparing.{run_still, run_on, run_over}
use Rattle.run_simulation_laws.proofs.Passing.{advanced_add, first_move}
use Rattle.run_simulation_laws.proofs.Reaching.{Reached, Finished, advanced_less, reached_moved, reached_join, one_moves, one_answered, one_waits, one_ends, one_leaves, finished_join}
use Rattle.emit_calls_laws.specs.Calls.{makes_call, MakeSameCall, BothMove, BothCall, ComesToCall, GuestEnds, LawOfCalls, CallsAlike}

-- ---- where a machine stops to move

abbrev pub only_moves : {S : Type 0} → Turn S → Bool
only_moves (moves t) = true
only_moves (ends e) = false
only_moves (leaves q e) = false
only_moves (asks q next) = false

pub call-stops : {S : Type 0} (x : Turn S) → makes_call x ≡ true → only_moves x ≡ false
call-stops (moves t) is = absurd (false≢true is)
call-stops (ends e) is = refl
call-stops (leaves q e) is = refl
call-stops (asks q next) is = refl

module _ {S : Type 0} (turn : S → Turn S) where
  -- it comes no further
  pub no-further : (n m : ℕ) (s t u : S) → advanced turn n s ≡ Some t → only_moves (turn t) ≡ false → advanced turn m s ≡ Some u → m ≤ n
  no-further n m s t u there stops comes = by_case (cases_lt n m)
    where
      by_case : (n < m) ⊎ (m ≤ n) → m ≤ n
      by_case (inr few) = few
      by_case (inl more) =
          let e : n + suc (m - n - 1) ≡ m = omega (arith, more) in
          let on : advanced turn (suc (m - n - 1)) t ≡ Some u = sym (advanced_add turn n (suc (m - n - 1)) s t there) ∙ ap (λ i. advanced turn i s) e ∙ comes in
          let move = first_move turn (m - n - 1) t u on in
          absurd (false≢true (sym stops ∙ ap only_moves move.1))

  same-state : (s t u : S) (n : ℕ) → advanced turn n s ≡ Some t → advanced turn n s ≡ Some u → t ≡ u
  same-state s t u n first second = ap (λ (o : Option S). unwrap_or o t) (sym first ∙ second)

  -- and two ways to where it stops come to the same
  pub same-stop : (n m : ℕ) (s t u : S) → advanced turn n s ≡ Some t → only_moves (turn t) ≡ false → advanced turn m s ≡ Some u → only_moves (turn u) ≡ false → t ≡ u
  same-stop n m s t u first stops second stopped =
      let a = no-further n m s t u first stops second in
      let b = no-further m n s u t second stopped first in
      let e : m ≡ n = omega (arith, a, b) in
      same-state s t u n first (sym (ap (λ i. advanced turn i s) e) ∙ second)

-- ---- from rest to the next call

module _ {G J : Type 0} (guest : G → Turn G) (classes : J → Turn J) (Rests At : G → J → Type 0) (law : LawOfCalls guest classes Rests At) where
  -- where both move first, the guest has so many turns less before its call
  behind-moves : (n : ℕ) (g h : G) (j : J) (b : BothMove guest classes Rests g j) → advanced guest n g ≡ Some h → makes_call (guest h) ≡ true → ((x : ℕ) → x < n → advanced guest x b.guest_to ≡ Some h → ComesToCall classes (At h) b.class_to) → ComesToCall classes (At h) j
  behind-moves n g h j b comes calls on =
      let some = b.some in
      let few = no-further guest n b.guest_turns g h b.guest_to comes (call-stops (guest h) calls) b.guest_comes in
      let e : b.guest_turns + (n - b.guest_turns) ≡ n = omega (arith, few) in
      let rest : advanced guest (n - b.guest_turns) b.guest_to ≡ Some h = sym (advanced_add guest b.guest_turns (n - b.guest_turns) g b.guest_to b.guest_comes) ∙ ap (λ i. advanced guest i g) e ∙ comes in
      let c = on (n - b.guest_turns) (omega (arith, some, few)) rest in
      record {
        turns = b.class_turns + c.turns;
        at = c.at;
        comes = advanced_add classes b.class_turns c.turns j b.class_to b.class_comes ∙ c.comes;
        calls = c.calls;
        held = c.held;
      }

  at-call : (n : ℕ) (g h : G) (j : J) (b : BothCall guest classes At g j) → advanced guest n g ≡ Some h → makes_call (guest h) ≡ true → ComesToCall classes (At h) j
  at-call n g h j b comes calls =
      let same : b.guest_at ≡ h = same-stop guest b.guest_turns n g b.guest_at h b.guest_comes (call-stops (guest b.guest_at) b.guest_calls) comes (call-stops (guest h) calls) in
      subst (λ (u : G). ComesToCall classes (At u) j) same b.class_comes

  at-end : (n : ℕ) (g h : G) (e : GuestEnds guest g) → advanced guest n g ≡ Some h → makes_call (guest h) ≡ true → ⊥
  at-end n g h e comes calls =
      let same : e.at ≡ h = same-stop guest e.turns n g e.at h e.comes (ap only_moves e.ends_so) comes (call-stops (guest h) calls) in
      false≢true (sym (ap makes_call e.ends_so) ∙ ap (λ (u : G). makes_call (guest u)) same ∙ calls)

  by-law : (n : ℕ) (g h : G) (j : J) → advanced guest n g ≡ Some h → makes_call (guest h) ≡ true → ((x : ℕ) → x < n → (u : G) (l : J) → Rests u l → advanced guest x u ≡ Some h → ComesToCall classes (At h) l) → BothMove guest classes Rests g j ⊎ (BothCall guest classes At g j ⊎ GuestEnds guest g) → ComesToCall classes (At h) j
  by-law n g h j comes calls on (inl b) = behind-moves n g h j b comes calls (λ x less rest. on x less b.guest_to b.class_to b.rests rest)
  by-law n g h j comes calls on (inr (inl b)) = at-call n g h j b comes calls
  by-law n g h j comes calls on (inr (inr e)) = absurd (at-end n g h e comes calls)

  below : (most n : ℕ) (g h : G) (j : J) → n < most → Rests g j → advanced guest n g ≡ Some h → makes_call (guest h) ≡ true → ComesToCall classes (At h) j
  below zero n g h j less rests comes calls = absurd (omega (arith, less))
  below (suc most) n g h j less rests comes calls =
      by-law n g h j comes calls (λ x fewer u l at_rest rest. below most x u h l (omega (arith, less, fewer)) at_rest rest calls) (law g j rests)

  pub comes-to-call : (n : ℕ) (g h : G) (j : J) → Rests g j → advanced guest n g ≡ Some h → makes_call (guest h) ≡ true → ComesToCall classes (At h) j
  comes-to-call n g h j rests comes calls = below (suc n) n g h j (omega arith) rests comes calls

  -- wherever the classes come to a call
  pub held-at-call : (n m : ℕ) (g h : G) (j l : J) → Rests g j → advanced guest n g ≡ Some h → makes_call (guest h) ≡ true → advanced classes m j ≡ Some l → makes_call (classes l) ≡ true → At h l
  held-at-call n m g h j l rests comes calls class_comes class_calls =
      let c = comes-to-call n g h j rests comes calls in
      let same : c.at ≡ l = same-stop classes c.turns m j c.at l c.comes (call-stops (classes c.at) c.calls) class_comes (call-stops (classes l) class_calls) in
      subst (At h) same c.held

-- ---- turns that follow, without what they count

-- the classes come on to rest by turns that only move
pub record RestsLater {G J : Type 0} (classes : J → Turn J) (Rests : G → J → Type 0) (h : G) (l : J) : Type 0 where
  pub more : ℕ
  pub rest : J
  pub comes : advanced classes more l ≡ Some rest
  pub rests : Rests h rest

abbrev pub AlikeTurns : {G J : Type 0} → (G → J → Type 0) → Turn G → Turn J → Type 0
AlikeTurns GoesOn x y = Alike GoesOn (Unit {0}) x y

pub record Leads {G J : Type 0} (guest : G → Turn G) (classes : J → Turn J) (Rests : G → J → Type 0) (g : G) (j : J) : Type 0 where
  pub guest_turns : ℕ
  pub class_turns : ℕ
  pub guest_at : G
  pub class_at : J
  pub guest_comes : advanced guest guest_turns g ≡ Some guest_at
  pub class_comes : advanced classes class_turns j ≡ Some class_at
  pub no_sooner : guest_turns ≤ class_turns
  pub alike : AlikeTurns (RestsLater classes Rests) (guest guest_at) (classes class_at)

alike-as : {G J : Type 0} (Goes Went : G → J → Type 0) (Ends : Type 0) (x : Turn G) (y : Turn J) → ((h : G) (l : J) → Goes h l → Went h l) → Alike Goes Ends x y → AlikeTurns Went x y
alike-as Goes Went Ends (moves a) (moves b) on alike = on a b alike
alike-as Goes Went Ends (ends a) (ends b) on alike = (alike.0, tt)
alike-as Goes Went Ends (leaves q a) (leaves r b) on alike = (alike.0, alike.1, tt)
alike-as Goes Went Ends (asks q a) (asks r b) on alike = (alike.0, tt, λ answer fit. on (a answer) (b answer) (alike.2 answer fit))
alike-as Goes Went Ends _ _ on alike = absurd alike

module _ {G J I : Type 0} (p : Pair G J I) (Rests : G → J → Type 0) where
  pub leads-of : (limit : ℕ → ℕ) (g : G) (j : J) → Follows p Rests limit g j → Leads p.guest p.classes Rests g j
  leads-of limit g j f = record {
    guest_turns = f.guest_turns;
    class_turns = f.class_turns;
    guest_at = f.guest_at;
    class_at = f.class_at;
    guest_comes = f.guest_comes;
    class_comes = f.class_comes;
    no_sooner = f.no_sooner;
    alike = alike-as _ _ _ (p.guest f.guest_at) (p.classes f.class_at) (λ h l c. record { more = c.more; rest = c.rest; comes = c.comes; rests = c.rests }) f.alike;
  }

  pub leads-loading : (limit : ℕ) (allowed : I → ℕ) (g : G) (j : J) → Loads p Rests limit allowed g j → Leads p.guest p.classes Rests g j
  leads-loading limit allowed g j f = record {
    guest_turns = 0;
    class_turns = f.class_turns;
    guest_at = g;
    class_at = f.class_at;
    guest_comes = refl;
    class_comes = f.class_comes;
    no_sooner = omega arith;
    alike =
        let both : AlikeTurns (RestsLater p.classes Rests) (asks f.question f.guest_next) (asks f.question f.class_next) = (refl, tt, λ a fit. let c = f.answered a fit in record { more = c.more; rest = c.rest; comes = c.comes; rests = c.rests }) in
        subst (λ (x : Turn G). AlikeTurns (RestsLater p.classes Rests) x (p.classes f.class_at)) (sym f.guest_asks)
        (subst (λ (y : Turn J). AlikeTurns (RestsLater p.classes Rests) (asks f.question f.guest_next) y) (sym f.class_asks) both);
  }

-- ---- runs

same-call-of : {G J : Type 0} (Goes : G → J → Type 0) (x : Turn G) (y : Turn J) → AlikeTurns Goes x y → makes_call y ≡ true → MakeSameCall x y
same-call-of Goes (moves a) (moves b) alike is = absurd (false≢true is)
same-call-of Goes (ends a) (ends b) alike is = absurd (false≢true is)
same-call-of Goes (leaves q a) (leaves r b) alike is = (alike.0, alike.1)
same-call-of Goes (asks q a) (asks r b) alike is = alike.0
same-call-of Goes _ _ alike is = absurd alike

pub same-calls : {G J : Type 0} (x : Turn G) (y : Turn J) → MakeSameCall x y → makes_call x ≡ true
same-calls (leaves q a) (leaves r b) same = refl
same-calls (asks q a) (asks r b) same = refl
same-calls _ _ same = absurd same

module _ {G J K : Type 0} (guest : G → Turn G) (classes : J → Turn J) (reply : K → Question → Option (Answer × K)) (Rests : G → J → Type 0) (At : ℕ → G → J → Type 0) (fitting : (k l : K) (q : Question) (a : Answer) → reply k q ≡ Some (a, l) → IsTrue (answer_fits a q)) where
  abbrev class_run : ℕ → J → K → Run J K
  class_run m j k = run_of classes reply m j k

  -- what is claimed of the run of m turns
  abbrev Claim : ℕ → ℕ → G → J → K → Type 0
  Claim m first g j k = CallsAlike guest classes reply m first At g k (class_run m j k)

  never : (x : Outcome) (A : Type 0) → x ≢ Going → x ≡ Going → A
  never x A not is = absurd (not is)

  module _ (first : ℕ) (g : G) (j : J) (k : K) (m : ℕ) (f : Leads guest classes Rests g j) (held : makes_call (guest f.guest_at) ≡ true → makes_call (classes f.class_at) ≡ true → first ≤ f.guest_turns → At f.guest_turns f.guest_at f.class_at) (on : (i : ℕ) (h : G) (l : J) (s : K) → i < m → Rests h l → CallsAlike guest classes reply i 0 (λ n. At (f.guest_turns + 1 + n)) h s (class_run i l s)) where
    guest_moved : Reached guest reply f.guest_turns g k [] (moved guest f.guest_turns g) f.guest_at k
    guest_moved = reached_moved guest reply f.guest_turns g f.guest_at k f.guest_comes

    class_moved : Reached classes reply f.class_turns j k [] (moved classes f.class_turns j) f.class_at k
    class_moved = reached_moved classes reply f.class_turns j f.class_at k f.class_comes

    abbrev Result : Run J K → Type 0
    Result run = CallsAlike guest classes reply m first At g k run

    -- ---- up to the last turn

    still : m ≤ f.class_turns → Result (class_run m j k)
    still few =
        let before = advanced_less classes m f.class_turns j f.class_at few f.class_comes in
        let s = before.0 in
        let run_is = run_still classes reply m j s k before.1 in
        subst Result (sym run_is)
        (λ goes calls.
        let most = no-further classes m f.class_turns j s f.class_at before.1 (call-stops (classes s) calls) f.class_comes in
        let e : m ≡ f.class_turns = omega (arith, few, most) in
        let same : s ≡ f.class_at = same-state classes j s f.class_at m before.1 (ap (λ i. advanced classes i j) e ∙ f.class_comes) in
        let class_calls : makes_call (classes f.class_at) ≡ true = ap (λ u. makes_call (classes u)) (sym same) ∙ calls in
        let same_call : MakeSameCall (guest f.guest_at) (classes f.class_at) = same-call-of (RestsLater classes Rests) (guest f.guest_at) (classes f.class_at) f.alike class_calls in
        let no_sooner = f.no_sooner in
        record {
          turns = f.guest_turns;
          no_later = omega (arith, e, no_sooner);
          made = stops [] Going f.guest_at k;
          made_is = sym (run_still guest reply f.guest_turns g f.guest_at k f.guest_comes);
          goes = refl;
          questions = refl;
          system = refl;
          same_call = subst (λ u. MakeSameCall (guest f.guest_at) (classes u)) (sym same) same_call;
          held = λ from. subst (At f.guest_turns f.guest_at) (sym same) (held (same-calls (guest f.guest_at) (classes f.class_at) same_call) class_calls from);
        })

    -- ---- behind it

    module _ (least : f.class_turns + 1 ≤ m) where
      module _ (qs : List Question) (h : G) (l : J) (s : K) (guest_goes : Reached guest reply 1 f.guest_at k qs (went f.guest_at h ∷ []) h s) (class_goes : Reached classes reply 1 f.class_at k qs (went f.class_at l ∷ []) l s) (c : RestsLater classes Rests h l) where
        abbrev left : ℕ
        left = m - (f.class_turns + 1)

        begun : Reached classes reply (f.class_turns + 1) j k qs (moved classes f.class_turns j ++ went f.class_at l ∷ []) l s
        begun = reached_join classes reply f.class_turns 1 j f.class_at l k k s [] qs (moved classes f.class_turns j) (went f.class_at l ∷ []) class_moved class_goes

        run-is : class_run m j k ≡ after qs (class_run left l s)
        run-is = run_on classes reply (f.class_turns + 1) m j l k s qs (moved classes f.class_turns j ++ went f.class_at l ∷ []) least begun

        guest-goes : Reached guest reply (f.guest_turns + 1) g k qs (moved guest f.guest_turns g ++ went f.guest_at h ∷ []) h s
        guest-goes = reached_join guest reply f.guest_turns 1 g f.guest_at h k k s [] qs (moved guest f.guest_turns g) (went f.guest_at h ∷ []) guest_moved guest_goes

        on-the-way : left < c.more → Result (class_run m j k)
        on-the-way few =
            let before = advanced_less classes left c.more l c.rest (omega (arith, few)) c.comes in
            subst Result (sym (run-is ∙ ap (after qs) (run_still classes reply left l before.0 s before.1)))
            (λ goes calls. let most = no-further classes left c.more l before.0 c.rest before.1 (call-stops (classes before.0) calls) c.comes in absurd (omega (arith, few, most)))

        abbrev then : ℕ
        then = left - c.more

        from-rest : c.more ≤ left → Result (class_run m j k)
        from-rest enough =
            let next_is : class_run left l s ≡ after [] (class_run then c.rest s) = run_on classes reply c.more left l c.rest s s [] (moved classes c.more l) enough (reached_moved classes reply c.more l c.rest s c.comes) in
            subst Result (sym (run-is ∙ ap (after qs) next_is))
            (λ goes calls.
            let r = on then h c.rest s (omega (arith, least)) c.rests goes calls in
            let no_later = r.no_later in
            let no_sooner = f.no_sooner in
            record {
              turns = f.guest_turns + 1 + r.turns;
              no_later = omega (arith, no_later, no_sooner, least, enough);
              made = after qs r.made;
              made_is = ap (after qs) r.made_is ∙ sym (guest-goes.runs r.turns);
              goes = r.goes;
              questions = ap (λ rs. qs ++ rs) r.questions;
              system = r.system;
              same_call = r.same_call;
              held = λ from. r.held (omega arith);
            })

        later : Result (class_run m j k)
        later = by_case (cases_lt left c.more)
          where
            by_case : (left < c.more) ⊎ (c.more ≤ left) → Result (class_run m j k)
            by_case (inl few) = on-the-way few
            by_case (inr enough) = from-rest enough

      over : (qs : List Question) (outcome : Outcome) → outcome ≢ Going → Finished classes reply 1 f.class_at k (stops qs outcome f.class_at k) (stood f.class_at ∷ []) → Result (class_run m j k)
      over qs outcome stopped classes_end =
          let done = finished_join classes reply f.class_turns 1 j f.class_at k k [] (moved classes f.class_turns j) (stood f.class_at ∷ []) (stops qs outcome f.class_at k) class_moved classes_end in
          subst Result (sym (run_over classes reply (f.class_turns + 1) m j k (stops qs outcome f.class_at k) (moved classes f.class_turns j ++ stood f.class_at ∷ []) least done))
          (λ goes calls. absurd (stopped goes))

      by-reply : (got : Option (Answer × K)) (q : Question) (next : Answer → G) (then : Answer → J) → guest f.guest_at ≡ asks q next → classes f.class_at ≡ asks q then → reply k q ≡ got → ((a : Answer) → IsTrue (answer_fits a q) → RestsLater classes Rests (next a) (then a)) → Result (class_run m j k)
      by-reply None q next then guest_is class_is got goes = over (q ∷ []) Waiting waiting_is_over (one_waits classes reply q then f.class_at k class_is got)
      by-reply (Some given) q next then guest_is class_is got goes =
          let a = given.0 in
          let s = given.1 in
          later (q ∷ []) (next a) (then a) s (one_answered guest reply q next a f.guest_at k s guest_is got) (one_answered classes reply q then a f.class_at k s class_is got) (goes a (fitting k s q a got))

      by-turns : (x : Turn G) (y : Turn J) → guest f.guest_at ≡ x → classes f.class_at ≡ y → AlikeTurns (RestsLater classes Rests) x y → Result (class_run m j k)
      by-turns (moves h) (moves l) guest_is class_is alike = later [] h l k (one_moves guest reply f.guest_at h k guest_is) (one_moves classes reply f.class_at l k class_is) alike
      by-turns (ends e) (ends d) guest_is class_is alike = over [] (outcome_of d) (end_is_over d) (one_ends classes reply d f.class_at k class_is)
      by-turns (leaves q e) (leaves r d) guest_is class_is alike = over (r ∷ []) (outcome_of d) (end_is_over d) (one_leaves classes reply r d f.class_at k class_is)
      by-turns (asks q next) (asks r then) guest_is class_is alike = by-reply (reply k q) q next then guest_is (class_is ∙ ap (λ x. asks x then) alike.0) refl alike.2
      by-turns _ _ guest_is class_is alike = absurd alike

      behind : Result (class_run m j k)
      behind = by-turns (guest f.guest_at) (classes f.class_at) refl refl f.alike

    pub from-leads : Result (class_run m j k)
    from-leads = by_case (cases_lt m (f.class_turns + 1))
      where
        by_case : (m < f.class_turns + 1) ⊎ (f.class_turns + 1 ≤ m) → Result (class_run m j k)
        by_case (inl few) = still (omega (arith, few))
        by_case (inr least) = behind least

-- ---- from rest, and from the start

module _ {G J K : Type 0} (guest : G → Turn G) (classes : J → Turn J) (reply : K → Question → Option (Answer × K)) (Rests At : G → J → Type 0) (fitting : (k l : K) (q : Question) (a : Answer) → reply k q ≡ Some (a, l) → IsTrue (answer_fits a q)) (follow : (g : G) (j : J) → Rests g j → Leads guest classes Rests g j) (calls : LawOfCalls guest classes Rests At) where
  rest-below : (most m : ℕ) (g : G) (j : J) (k : K) → m < most → Rests g j → CallsAlike guest classes reply m 0 (λ n. At) g k (run_of classes reply m j k)
  rest-below zero m g j k less rests = absurd (omega (arith, less))
  rest-below (suc most) m g j k less rests =
      let f = follow g j rests in
      from-leads guest classes reply Rests (λ n. At) fitting 0 g j k m f
      (λ guest_calls class_calls from. held-at-call guest classes Rests At calls f.guest_turns f.class_turns g f.guest_at j f.class_at rests f.guest_comes guest_calls f.class_comes class_calls)
      (λ i h l s fewer at_rest. rest-below most i h l s (omega (arith, less, fewer)) at_rest)

  pub rest-calls-alike : (m : ℕ) (g : G) (j : J) (k : K) → Rests g j → CallsAlike guest classes reply m 0 (λ n. At) g k (run_of classes reply m j k)
  rest-calls-alike m g j k rests = rest-below (suc m) m g j k (omega arith) rests

  -- where the guest does not begin with a turn that only moves
  pub start-calls-alike : (m : ℕ) (g : G) (j : J) (k : K) → only_moves (guest g) ≡ false → Leads guest classes Rests g j → CallsAlike guest classes reply m 1 (λ n. At) g k (run_of classes reply m j k)
  start-calls-alike m g j k stays f =
      from-leads guest classes reply Rests (λ n. At) fitting 1 g j k m f
      (λ guest_calls class_calls from. let few = no-further guest 0 f.guest_turns g g f.guest_at refl stays f.guest_comes in absurd (omega (arith, few, from)))
      (λ i h l s fewer at_rest. rest-calls-alike i h l s at_rest)
