-- From paths in a method to turns that follow, where nothing is counted.
use Rattle.std.proofs.Common.{◌≡◌, ℕ, zero, ◌+◌, ◌-◌, ◌≤◌, IsTrue, Bool, false, [], ◌∷◌, ◌++◌, Option, Some, refl, ap, sym, subst, ◌∙◌, arith, unwrap_or}
use Rattle.run_definition.specs.Question.{Question}
use Rattle.run_definition.specs.Answer.{Answer, answer_fits}
use Rattle.run_definition.specs.Turn.{Turn, moves, ends, leaves, asks}
use Rattle.run_simulation_laws.specs.Trail.{advanced, moved, stood, went}
use Rattle.run_simulation_laws.specs.Turns.{Alike, ComesToRest, Follows, Pair, Stands}
use Rattle.run_simulation_laws.proofs.Passing.{advanced_add, first_move}
use Rattle.run_simulation_laws.proofs.Reaching.{advanced_less}
use Rattle.mips_definition.specs.State as guest
use Rattle.jvm_definition.specs.declared.instruction.Instruction.{Instruction}
use Rattle.jvm_definition.specs.Program.{Program}
use Rattle.jvm_definition.specs.Step.{JvmState, jvm_turn}
use Rattle.emit_simulation_laws.specs.Following.{ComesToTurn}
use Rattle.emit_simulation_laws.specs.Sites.{Site, turn_in}
use Rattle.emit_spans_laws.specs.Resuming.{ComesTo, ComesToByAnswers, FollowsInSpan, LastInSpan}
use Rattle.emit_metered_laws.specs.Spending.{uncounted}
use Rattle.emit_program_laws.proofs.TurnLaws.Following.{ForEach}
use Rattle.emit_program_laws.proofs.TurnLaws.Turning.{HasTurns}

-- no state of the guest is marked
abbrev pub unmarked : guest.State → Bool
unmarked s = false

-- From a state the classes come to rest within so many turns that only move.
pub record Settles (program : Program) (words : ℕ) (Rests : guest.State → JvmState → Type 0) (extra : ℕ) (t : guest.State) (y : JvmState) : Type 0 where
  pub more : ℕ
  pub rest : JvmState
  pub comes : advanced (jvm_turn program words) more y ≡ Some rest
  pub rests : Rests t rest
  pub in_time : more ≤ extra

-- ---- the last of some turns

-- Turns that only move, apart from the last of them.
record Parted {S : Type 0} (step : S → Turn S) (n : ℕ) (x z : S) : Type 0 where
  pub before : S
  pub comes : advanced step n x ≡ Some before
  pub last : step before ≡ moves z

parted : {S : Type 0} (step : S → Turn S) (n : ℕ) (x z : S) → advanced step (n + 1) x ≡ Some z → Parted step n x z
parted {S} step n x z comes =
    let less = advanced_less step n (n + 1) x z (omega arith) comes in
    let b = less.0 in
    let one : advanced step 1 b ≡ Some z = sym (advanced_add step n 1 x b less.1) ∙ comes in
    let u = first_move step zero b z one in
    let to : u.0 ≡ z = ap (λ (o : Option S). unwrap_or o z) u.2 in
    record { before = b; comes = less.1; last = u.1 ∙ ap (λ (s : S). moves s) to }

-- ---- a part of a method

-- The classes follow in so many turns of the guest.
pub record FollowsFor {G J I : Type 0} (p : Pair G J I) (Rests : G → J → Type 0) (limit : ℕ → ℕ) (g : G) (j : J) (n : ℕ) : Type 0 where
  pub follows : Follows p Rests limit g j
  pub turns : follows.guest_turns + 1 ≡ n

module _ (site : Site) (Rests : guest.State → JvmState → Type 0) (g : guest.State) (last : Turn guest.State) (made : HasTurns unmarked g last) (low high most extra : ℕ) (sum : (Instruction → ℕ) → ℕ) (Arrives : JvmState → guest.State → Type 0) (limit : ℕ → ℕ) (start : JvmState) (room : most + extra ≤ limit (made.earlier + 1)) where
  abbrev machines : Pair guest.State JvmState ⊥
  machines = uncounted site.program site.words

  abbrev SettlesAt : guest.State → Type 0
  SettlesAt t = (y : JvmState) → Arrives y t → Settles site.program site.words Rests extra t y

  -- how many turns of the classes belong to these of the guest
  abbrev own_limit : ℕ
  own_limit = limit (made.earlier + 1)

  -- what stands beside the last turns: the classes come to rest, or have ended in time
  module _ (n : ℕ) (class_at : JvmState) where
    abbrev Goes : guest.State → JvmState → Type 0
    Goes h l = ComesToRest machines Rests (n + 1) own_limit (λ i. (machines.tally i).credit start) (moved machines.guest made.earlier g ++ went made.before h ∷ []) (moved machines.classes n start ++ went class_at l ∷ []) h l

    abbrev Stays : Type 0
    Stays = Stands machines (n + 1) own_limit (λ i. (machines.tally i).credit start) (moved machines.guest made.earlier g ++ stood made.before ∷ []) (moved machines.classes n start ++ stood class_at ∷ [])

    goes : (k : ℕ) (h : guest.State) (l : JvmState) → n + 1 + k ≤ own_limit → Settles site.program site.words Rests k h l → Goes h l
    goes k h l time s =
        let later = s.in_time in
        record { more = s.more; rest = s.rest; comes = s.comes; rests = s.rests; in_time = omega (arith, later, time); counted = λ i. absurd i }

    stays : n + 1 ≤ own_limit → Stays
    stays time = record { in_time = time; counted = λ i. absurd i }

  -- ---- the last turn moves

  both-move : (Goes : guest.State → JvmState → Type 0) (Ends : Type 0) (x : Turn guest.State) (y : Turn JvmState) (h : guest.State) (l : JvmState) → x ≡ moves h → y ≡ moves l → Goes h l → Alike Goes Ends x y
  both-move Goes Ends x y h l first second on =
      let both : Alike Goes Ends (moves h) (moves l) = on in
      subst (λ (z : Turn guest.State). Alike Goes Ends z y) (sym first) (subst (λ (z : Turn JvmState). Alike Goes Ends (moves h) z) (sym second) both)

  moving-by : (n : ℕ) (t : guest.State) (y : JvmState) → last ≡ moves t → made.earlier ≤ n → n + 1 ≤ most → Parted (turn_in site) n start y → Settles site.program site.words Rests extra t y → FollowsFor machines Rests limit g start (made.earlier + 1)
  moving-by n t y is sooner less p s = record {
    follows = record {
      guest_turns = made.earlier;
      class_turns = n;
      guest_at = made.before;
      class_at = p.before;
      guest_comes = made.comes;
      class_comes = p.comes;
      no_sooner = sooner;
      unmarked = λ m u one few at. refl;
      early = λ i. absurd i;
      alike = both-move (Goes n p.before) (Stays n p.before) (machines.guest made.before) (machines.classes p.before) t y (made.last_is ∙ is) p.last
          (goes n p.before extra t y (omega (arith, less, room)) s);
    };
    turns = refl;
  }

  moving : (t : guest.State) → last ≡ moves t → SettlesAt t → ComesTo site low high (made.earlier + 1) most sum (λ y. Arrives y t) start → FollowsFor machines Rests limit g start (made.earlier + 1)
  moving t is settles comes =
      let sooner = comes.no_sooner in
      let in_time = comes.in_time in
      let n = comes.turns - 1 in
      let e : comes.turns ≡ n + 1 = omega (arith, sooner) in
      let there : advanced (turn_in site) (n + 1) start ≡ Some comes.after = subst (λ k. advanced (turn_in site) k start ≡ Some comes.after) e comes.path.comes in
      moving-by n t comes.after is (omega (arith, sooner)) (omega (arith, in_time, sooner)) (parted (turn_in site) n start comes.after there) (settles comes.after comes.arrives)

  -- ---- it calls the system, or ends the run

  answered : (q : Question) (then : Answer → JvmState) (next : Answer → guest.State) (used place : ℕ) → ((a : Answer) → SettlesAt (next a)) → (by : ComesToByAnswers site (place + 1) high used most sum (λ y a. Arrives y (next a)) q then) → (a : Answer) → IsTrue (answer_fits a q) → Settles site.program site.words Rests (by.left + extra) (next a) (then a)
  answered q then next used place settles by a fit =
      let comes = by.comes a fit in
      let s = settles a comes.after comes.arrives in
      let first = comes.in_time in
      let second = s.in_time in
      record {
        more = comes.turns + s.more;
        rest = s.rest;
        comes = advanced_add (turn_in site) comes.turns s.more (then a) comes.after comes.path.comes ∙ s.comes;
        rests = s.rests;
        in_time = omega (arith, first, second);
      }

  outer-alike : (n place : ℕ) (class_at : JvmState) → n + 1 ≤ most → (turn_last : Turn guest.State) (y : Turn JvmState) → ForEach SettlesAt turn_last → LastInSpan site high most sum Arrives turn_last (n + 1) place y → Alike (Goes n class_at) (Stays n class_at) turn_last y
  outer-alike n place class_at less (ends e) (ends f) each like = (like, stays n class_at (omega (arith, less, room)))
  outer-alike n place class_at less (leaves q e) (leaves r f) each like = (like.0, like.1, stays n class_at (omega (arith, less, room)))
  outer-alike n place class_at less (asks q next) (asks r then) each like =
      let by = like.1 in
      let time = by.in_time in (
        like.0,
        stays n class_at (omega (arith, less, room)),
        λ a fit. goes n class_at (by.left + extra) (next a) (then a) (omega (arith, time, room)) (answered q then next (n + 1) place each by a fit),
      )
  outer-alike n place class_at less _ _ each like = absurd like

  outer : (turn_last : Turn guest.State) → last ≡ turn_last → ForEach SettlesAt turn_last → ComesToTurn site low high (made.earlier + 1) most sum (LastInSpan site high most sum Arrives turn_last) start → FollowsFor machines Rests limit g start (made.earlier + 1)
  outer turn_last is each comes =
      let sooner = comes.no_sooner in
      record {
        follows = record {
          guest_turns = made.earlier;
          class_turns = comes.turns;
          guest_at = made.before;
          class_at = comes.before;
          guest_comes = made.comes;
          class_comes = comes.path.comes;
          no_sooner = omega (arith, sooner);
          unmarked = λ m u one few at. refl;
          early = λ i. absurd i;
          alike = subst (λ (z : Turn guest.State). Alike (Goes comes.turns comes.before) (Stays comes.turns comes.before) z (turn_in site comes.before)) (sym (made.last_is ∙ is))
              (outer-alike comes.turns comes.place comes.before comes.in_time turn_last (turn_in site comes.before) each comes.last);
        };
        turns = refl;
      }

  -- the classes follow the guest's turns by paths in a method
  pub paths-follow : (turn_last : Turn guest.State) → last ≡ turn_last → ForEach SettlesAt turn_last → FollowsInSpan site low high (made.earlier + 1) most sum Arrives start turn_last → FollowsFor machines Rests limit g start (made.earlier + 1)
  paths-follow (moves t) is each follows = moving t is each follows
  paths-follow (ends e) is each follows = outer (ends e) is each follows
  paths-follow (leaves q e) is each follows = outer (leaves q e) is each follows
  paths-follow (asks q next) is each follows = outer (asks q next) is each follows
