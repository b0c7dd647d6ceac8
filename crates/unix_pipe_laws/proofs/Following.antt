-- Each stage of a net is in the middle of its run alone, but for the input that is still to come.
use Rattle.std.proofs.Common.{◌≡◌, ◌≢◌, ℕ, zero, suc, ◌-◌, ◌<◌, inl, inr, min, Bool, true, false, if◌then◌else◌, List, [], ◌∷◌, ◌++◌, length, take, drop, Some, None, refl, ap, sym, subst, ◌∙◌, arith}
use Rattle.std.proofs.Math.Seq.{drop-append_seam}
use Rattle.std.proofs.lemmas.Bool.{cases_eq, or_cases}
use Rattle.std.proofs.lemmas.List.{append-nil, append_assoc, append_cancel_left}
use Rattle.run_definition.specs.Answer.{Answer, answer_fits}
use Rattle.run_definition.specs.Run.{Run, run_of, stops}
use Rattle.run_definition.specs.Turn.{Turn, moves, ends, leaves, asks}
use Rattle.unix_definition.specs.System.{System}
use Rattle.unix_definition.specs.Calls.{first_line}
use Rattle.unix_definition.specs.Unix.{unix, fitting_answer, reply}
use Rattle.unix_calls.specs.Arriving.{arriving, reply_arriving, without_pieces}
use Rattle.unix_pipe_laws.specs.Stages.{PipeStage, reads_input, writes_output, is_over, after_turn, answered_by, comes_to, with_rest, input_left, output_of}
use Rattle.unix_pipe_laws.specs.Pipelines.{Pipeline, PipeNet, is_over_at, is_fed, has_enough, may_read, may_write, is_ready, next_turn, can_turn}
use Rattle.unix_pipe_laws.specs.Turns.{PipeTurn, AllOver, BringNothing, gained, poured, turned_stage, turned_net, happens, run_turns, net_at_start}
use Rattle.unix_pipe_laws.specs.Alone.{EndsAsAlone, IsFreshPipeline, WritesFront, first_run, first_run_arriving, run_alone_of}
use Rattle.unix_pipe_laws.proofs.Lines.{enough-read}
use Rattle.unix_pipe_laws.proofs.Frames.{more_in, more-framed}
use Rattle.unix_pipe_laws.proofs.Runs.{AreEmpty, EndsSame, IsFront, ends-back, ends-on, onward-writes, none-left, turn-adds, reply-writes, arriving-writes, left_alone, left_arriving, turn-alone, turn-arriving, empty-pieces}
use Rattle.unix_pipe_laws.proofs.Turning.{CanTurn, can, pieces_of, pieces_now, pieces_in, own-stage, next-stage, other-stage, same-output}

-- more input behind what is there
abbrev pub with_more : {S : Type 0} → PipeStage S → List ℕ → PipeStage S
with_more x more = record x { system = more_in x.system more }

module _ {S : Type 0} (p : Pipeline S) (first : Run S System) where
  -- what a stage writes alone
  abbrev pub written_by : ℕ → List ℕ
  written_by i = (run_alone_of p first i).system.console.output

  -- The first stage is in the middle of its run, for which these pieces are still to come.
  pub record LeadsFirst (net : PipeNet S) (pieces : List (List ℕ)) : Type 0 where
    pub leads : EndsSame (without_pieces (left_arriving p.turn p.bound (net.stage 0) pieces)) first

  -- A later stage is in the middle of its run, with all that the stage before has not written yet behind its input.
  pub record LeadsLater (net : PipeNet S) (i : ℕ) : Type 0 where
    pub more : List ℕ
    pub leads : EndsSame (left_alone p.turn p.bound (with_more (net.stage (suc i)) more)) (run_alone_of p first (suc i))
    pub most : (net.stage (suc i)).system.most ≡ p.c
    pub to_come : is_over_at p net (suc i) ≡ false → output_of (net.stage i) ++ more ≡ written_by i

  abbrev pub Leads : PipeNet S → List (List ℕ) → ℕ → Type 0
  Leads net pieces zero = LeadsFirst net pieces
  Leads net pieces (suc i) = LeadsLater net i

  -- ---- at its end

  over-alone : (x : PipeStage S) → is_over p.bound x ≡ true → left_alone p.turn p.bound x ≡ stops [] x.outcome x.machine x.system
  over-alone x is = none-left p.turn reply p.bound x.made x.outcome x.machine x.system is

  over-arriving : (x : PipeStage S) (pieces : List (List ℕ)) → is_over p.bound x ≡ true → left_arriving p.turn p.bound x pieces ≡ stops [] x.outcome x.machine (arriving x.system pieces)
  over-arriving x pieces is = none-left p.turn reply_arriving p.bound x.made x.outcome x.machine (arriving x.system pieces) is

  -- what a stage that is over has written is all that its machine writes alone
  wrote-all : (net : PipeNet S) (pieces : List (List ℕ)) (i : ℕ) → Leads net pieces i → is_over_at p net i ≡ true → output_of (net.stage i) ≡ written_by i
  wrote-all net pieces zero f is = ap (λ r. r.system.system.console.output) (sym (over-arriving (net.stage 0) pieces is)) ∙ ap (λ s. s.console.output) f.leads.system
  wrote-all net pieces (suc i) f is = ap (λ r. r.system.console.output) (sym (over-alone (with_more (net.stage (suc i)) f.more) is)) ∙ ap (λ s. s.console.output) f.leads.system

  -- what a stage has written so far is the front of it
  writes-front : (net : PipeNet S) (pieces : List (List ℕ)) (i : ℕ) → Leads net pieces i → IsFront (output_of (net.stage i)) (written_by i)
  writes-front net pieces zero f =
      let x = net.stage 0 in
      subst (λ (s : System). IsFront (output_of x) s.console.output) f.leads.system
      (onward-writes p.turn reply_arriving (λ a. a.system.console.output) arriving-writes p.bound x.made x.outcome x.machine (arriving x.system pieces))
  writes-front net pieces (suc i) f =
      let x = with_more (net.stage (suc i)) f.more in
      subst (λ (s : System). IsFront (output_of x) s.console.output) f.leads.system
      (onward-writes p.turn reply (λ s. s.console.output) reply-writes p.bound x.made x.outcome x.machine x.system)

  -- where the stage before is over, nothing is still to come
  nothing-comes : (net : PipeNet S) (pieces : List (List ℕ)) (i : ℕ) (more : List ℕ) → Leads net pieces i → is_over_at p net i ≡ true → output_of (net.stage i) ++ more ≡ written_by i → more ≡ []
  nothing-comes net pieces i more f is comes =
      let x = net.stage i in
      append_cancel_left (output_of x) more [] (comes ∙ (sym (wrote-all net pieces i f is) ∙ sym (append-nil (output_of x))))

  -- ---- a turn of its own

  -- an answer with more input behind
  answer-with-more : (x : PipeStage S) (more : List ℕ) (next : Answer → S) (f : Bool) (y : Answer × System)
      → answered_by (with_more x more) next (if f then Some (y.0, more_in y.1 more) else None) ≡ with_more (answered_by x next (if f then Some y else None)) more
  answer-with-more x more next true y = refl
  answer-with-more x more next false y = refl

  abbrev same : System → System
  same s = s

  -- more input behind does not matter to a turn that can be made
  turn-with-more : (net : PipeNet S) (i : ℕ) (more : List ℕ) (t : Turn S) → (net.stage i).system.most ≡ p.c → (is_fed p net i ≡ true → more ≡ []) → is_ready p net i t ≡ true
      → after_turn same (with_more (net.stage i) more) t ≡ with_more (after_turn same (net.stage i) t) more
  turn-with-more net i more (moves t) limit none ready = refl
  turn-with-more net i more (ends e) limit none ready = refl
  turn-with-more net i more (leaves q e) limit none ready = refl
  turn-with-more net i more (asks q next) limit none ready =
      let x = net.stage i in
      let s = x.system in
      let enough : reads_input s.opened q ≡ true → may_read p net i q.a2 ≡ true =
      λ is. sym (ap (λ b. if b then may_read p net i q.a2 else (if writes_output s.opened q then may_write p net i else true)) is) ∙ ready in
      let alike = λ (is : reads_input s.opened q ≡ true). elim (or_cases (is_fed p net i) (has_enough (min q.a2 p.c) s.console.rest) (enough is)) as (λ _. take (min q.a2 s.most) (first_line (s.console.rest ++ more)) ≡ take (min q.a2 s.most) (first_line s.console.rest)) [
        | inl done ↦ ap (λ l. take (min q.a2 s.most) (first_line (s.console.rest ++ l))) (none done) ∙ ap (λ l. take (min q.a2 s.most) (first_line l)) (append-nil s.console.rest)
        | inr there ↦ enough-read (min q.a2 s.most) s.console.rest more (ap (λ m. has_enough (min q.a2 m) s.console.rest) limit ∙ there)
      ] in
      let f = more-framed more s q alike in
      ap (λ z. answered_by (with_more x more) next (fitting_answer q z)) f.frame ∙ answer-with-more x more next (answer_fits (unix s q).0 q) (unix s q)

  -- ---- all stages after a turn

  module _ (net : PipeNet S) (pieces : List (List ℕ)) where
    -- what is said of the stage that makes the turn, at its number
    abbrev MakesTurn : ℕ → PipeStage S → Type 0
    MakesTurn zero y = EndsSame (without_pieces (left_arriving p.turn p.bound y pieces)) first
    MakesTurn (suc i) y = (more : List ℕ)
        × EndsSame (left_alone p.turn p.bound (with_more y more)) (run_alone_of p first (suc i))
        × (y.system.most ≡ p.c)
        × (output_of (net.stage i) ++ more ≡ written_by i)

    own-turn : (i : ℕ) (piece : List ℕ) → CanTurn p net i → ((j : ℕ) → Leads net (pieces_of p i (next_turn p net i) piece ++ pieces) j) → MakesTurn i (after_turn (comes_to i piece) (net.stage i) (next_turn p net i))
    own-turn zero piece turns all =
        let x = net.stage 0 in
        let y = after_turn (comes_to 0 piece) x (next_turn p net 0) in
        ends-on _ _ _ (ends-back _ _ (turn-arriving p.turn p.bound x piece pieces turns.going)) (all 0).leads
    own-turn (suc i) piece turns all =
        let x = net.stage (suc i) in
        let f = all (suc i) in
        let t = next_turn p net (suc i) in
        let adds = turn-adds (suc i) piece x t in
        let moved : after_turn same (with_more x f.more) t ≡ with_more (after_turn same x t) f.more =
        turn-with-more net (suc i) f.more t f.most (λ is. nothing-comes net pieces i f.more (all i) is (f.to_come turns.going)) turns.ready in (
          f.more,
          subst (λ (y : PipeStage S). EndsSame (left_alone p.turn p.bound y) (run_alone_of p first (suc i))) moved
              (ends-on _ _ _ (ends-back _ _ (turn-alone p.turn p.bound (with_more x f.more) turns.going)) f.leads),
          adds.same_most ∙ f.most,
          f.to_come turns.going,
        )

  module _ (net : PipeNet S) (t : PipeTurn) (pieces : List (List ℕ)) (turns : CanTurn p net t.stage) (all : (j : ℕ) → Leads net (pieces_of p t.stage (next_turn p net t.stage) t.piece ++ pieces) j) where
    abbrev i : ℕ
    i = t.stage

    abbrev x : PipeStage S
    x = net.stage i

    abbrev acted : PipeStage S
    acted = turned_stage p net t

    abbrev now : PipeNet S
    now = turned_net p net t

    own-leads : (j : ℕ) → j ≡ i → MakesTurn net pieces j acted → now.stage j ≡ acted → Leads now pieces j
    own-leads zero is made stands = record { leads = subst (λ (y : PipeStage S). EndsSame (without_pieces (left_arriving p.turn p.bound y pieces)) first) (sym stands) made }
    own-leads (suc k) is made stands = record {
      more = made.0;
      leads = subst (λ (y : PipeStage S). EndsSame (left_alone p.turn p.bound (with_more y made.0)) (run_alone_of p first (suc k))) (sym stands) made.1;
      most = ap (λ y. y.system.most) stands ∙ made.2;
      to_come = λ still. ap (λ o. o ++ made.0) (same-output p net t k (λ e. omega arith)) ∙ made.3;
    }

    own : Leads now pieces i
    own = own-leads i refl (own-turn net pieces i t.piece turns all) (own-stage p net t)

    -- ---- what the next stage gains

    abbrev y : PipeStage S
    y = net.stage (suc i)

    abbrev bytes : List ℕ
    bytes = gained x acted

    wrote-is : output_of (now.stage i) ≡ output_of acted
    wrote-is = ap output_of (own-stage p net t)

    grown : output_of acted ≡ output_of x ++ bytes
    grown =
        let a = turn-adds i t.piece x (next_turn p net i) in
        a.grows ∙ ap (λ l. output_of x ++ l) (sym (ap (drop (length (output_of x))) a.grows ∙ drop-append_seam (output_of x) a.wrote))

    record Gains (z : PipeStage S) : Type 0 where
      more : List ℕ
      leads : EndsSame (left_alone p.turn p.bound (with_more z more)) (run_alone_of p first (suc i))
      most : z.system.most ≡ p.c
      to_come : is_over p.bound z ≡ false → output_of acted ++ more ≡ written_by i

    -- it is over, and nothing goes into its pipe
    gains-nothing : is_over p.bound y ≡ true → Gains y
    gains-nothing is =
        let g = all (suc i) in
        record { more = g.more; leads = g.leads; most = g.most; to_come = λ still. let no : true ≡ false = sym is ∙ still in cc }

    abbrev filled : PipeStage S
    filled = record y { system = with_rest y.system (input_left y ++ bytes) }

    -- what was written comes from what was still to come
    gains-some : is_over p.bound y ≡ false → Gains filled
    gains-some going =
        let g = all (suc i) in
        let front = writes-front now pieces i own in
        let whole : (output_of x ++ bytes) ++ front.more ≡ written_by i = ap (λ o. o ++ front.more) (sym (wrote-is ∙ grown)) ∙ front.joined in
        let split : g.more ≡ bytes ++ front.more = append_cancel_left (output_of x) g.more (bytes ++ front.more) (g.to_come going ∙ (sym whole ∙ append_assoc (output_of x) bytes front.more)) in
        let alike : with_more y g.more ≡ with_more filled front.more = ap (λ r. record y { system = with_rest y.system r }) (ap (λ l. input_left y ++ l) split ∙ sym (append_assoc (input_left y) bytes front.more)) in
        record {
          more = front.more;
          leads = subst (λ (z : PipeStage S). EndsSame (left_alone p.turn p.bound z) (run_alone_of p first (suc i))) alike g.leads;
          most = g.most;
          to_come = λ still. ap (λ o. o ++ front.more) grown ∙ whole;
        }

    gains : Gains (poured p.bound bytes y)
    gains = by-test (is_over p.bound y) refl
      where
        by-test : (b : Bool) → is_over p.bound y ≡ b → Gains (if b then y else filled)
        by-test true e = gains-nothing e
        by-test false e = gains-some e

    next : Leads now pieces (suc i)
    next =
        let e = next-stage p net t in
        let g = gains in
        record {
          more = g.more;
          leads = subst (λ (z : PipeStage S). EndsSame (left_alone p.turn p.bound (with_more z g.more)) (run_alone_of p first (suc i))) (sym e) g.leads;
          most = ap (λ z. z.system.most) e ∙ g.most;
          to_come = λ still. ap (λ o. o ++ g.more) wrote-is ∙ g.to_come (ap (is_over p.bound) (sym e) ∙ still);
        }

    -- ---- the others

    apart-pieces : (k : ℕ) (u : Turn S) (piece : List ℕ) → zero ≢ k → pieces_of p k u piece ++ pieces ≡ pieces
    apart-pieces zero u piece apart = absurd (apart refl)
    apart-pieces (suc k) u piece apart = refl

    other-leads : (j : ℕ) → j ≢ i → j ≢ suc i → now.stage j ≡ net.stage j → Leads now pieces j
    other-leads zero apart away stands = record {
      leads = subst (λ (y : PipeStage S). EndsSame (without_pieces (left_arriving p.turn p.bound y pieces)) first) (sym stands)
          (subst (λ (ps : List (List ℕ)). EndsSame (without_pieces (left_arriving p.turn p.bound (net.stage 0) ps)) first) (apart-pieces i (next_turn p net i) t.piece apart) (all 0).leads);
    }
    other-leads (suc k) apart away stands =
        let f = all (suc k) in
        record {
          more = f.more;
          leads = subst (λ (y : PipeStage S). EndsSame (left_alone p.turn p.bound (with_more y f.more)) (run_alone_of p first (suc k))) (sym stands) f.leads;
          most = ap (λ y. y.system.most) stands ∙ f.most;
          to_come = λ still. ap (λ o. o ++ f.more) (same-output p net t k (λ e. away (ap (λ n. suc n) e))) ∙ f.to_come (ap (is_over p.bound) (sym stands) ∙ still);
        }

    pub goes-on : (j : ℕ) → Leads now pieces j
    goes-on j = elim (cases_eq j i) [
      | inl is ↦ subst (Leads now pieces) (sym is) own
      | inr apart ↦ elim (cases_eq j (suc i)) [
        | inl is ↦ subst (Leads now pieces) (sym is) next
        | inr away ↦ other-leads j apart away (other-stage p net t j apart away)
      ]
    ]

  -- ---- runs

  happens-leads : (net : PipeNet S) (t : PipeTurn) (pieces : List (List ℕ)) → ((j : ℕ) → Leads net (pieces_now p net t ++ pieces) j) → (j : ℕ) → Leads (happens p net t) pieces j
  happens-leads net t pieces = by-test (can_turn p net t.stage) refl
    where
      by-test : (c : Bool) → can_turn p net t.stage ≡ c → ((j : ℕ) → Leads net ((if c then pieces_of p t.stage (next_turn p net t.stage) t.piece else []) ++ pieces) j) → (j : ℕ) → Leads (if c then turned_net p net t else net) pieces j
      by-test true is all = goes-on net t pieces (can p net t.stage is) all
      by-test false is all = all

  pub run-leads : (turns : List PipeTurn) (net : PipeNet S) → ((j : ℕ) → Leads net (pieces_in p net turns) j) → (j : ℕ) → Leads (run_turns p net turns) [] j
  run-leads [] net all = all
  run-leads (t ∷ turns) net all = run-leads turns (happens p net t) (happens-leads net t (pieces_in p (happens p net t) turns) all)

  -- ---- the ends

  pub ends-so : (net : PipeNet S) (i : ℕ) → Leads net [] i → is_over_at p net i ≡ true → EndsAsAlone p first net i
  ends-so net zero f is =
      let x = net.stage 0 in
      let e = over-arriving x [] is in
      record {
        outcome = ap (λ r. r.outcome) (sym e) ∙ f.leads.outcome;
        output = ap (λ r. r.system.system.console.output) (sym e) ∙ ap (λ s. s.console.output) f.leads.system;
        error_output = ap (λ r. r.system.system.console.error_output) (sym e) ∙ ap (λ s. s.console.error_output) f.leads.system;
        machine = ap (λ r. r.last) (sym e) ∙ f.leads.last;
        rest = λ zero_is. ap (λ r. r.system.system.console.rest) (sym e) ∙ ap (λ s. s.console.rest) f.leads.system;
      }
  ends-so net (suc i) f is =
      let x = with_more (net.stage (suc i)) f.more in
      let e = over-alone x is in
      record {
        outcome = ap (λ r. r.outcome) (sym e) ∙ f.leads.outcome;
        output = ap (λ r. r.system.console.output) (sym e) ∙ ap (λ s. s.console.output) f.leads.system;
        error_output = ap (λ r. r.system.console.error_output) (sym e) ∙ ap (λ s. s.console.error_output) f.leads.system;
        machine = ap (λ r. r.last) (sym e) ∙ f.leads.last;
        rest = λ zero_is. absurd (omega arith);
      }

  pub front-of : (net : PipeNet S) (i : ℕ) → Leads net [] i → WritesFront p first net i
  front-of net i f = let front = writes-front net [] i f in record { more = front.more; output = sym front.joined }

-- ---- from the start

module _ {S : Type 0} (p : Pipeline S) (fresh : IsFreshPipeline p) where
  start-leads : (pieces : List (List ℕ)) (j : ℕ) → Leads p (first_run_arriving p pieces) (net_at_start p) pieces j
  start-leads pieces zero =
      let e : p.bound - 0 ≡ p.bound = omega arith in
      record {
        leads = subst (λ (n : ℕ). EndsSame (without_pieces (run_of p.turn reply_arriving n (p.machines 0) (arriving (with_rest (p.systems 0) p.input) pieces))) (first_run_arriving p pieces)) (sym e)
            (record { outcome = refl; last = refl; system = refl });
      }
  start-leads pieces (suc i) =
      let first = first_run_arriving p pieces in
      let more = written_by p first i in
      let e : p.bound - 0 ≡ p.bound = omega arith in
      record {
        more = more;
        leads = subst (λ (n : ℕ). EndsSame (run_of p.turn reply n (p.machines (suc i)) (with_rest (p.systems (suc i)) more)) (run_alone_of p first (suc i))) (sym e)
            (record { outcome = refl; last = refl; system = refl });
        most = fresh.limited (suc i);
        to_come = λ still. ap (λ o. o ++ more) (fresh.no_output i);
      }

  abbrev pieces_from_start : List PipeTurn → List (List ℕ)
  pieces_from_start turns = pieces_in p (net_at_start p) turns

  ends-over-pieces : (turns : List PipeTurn) → AllOver p (run_turns p (net_at_start p) turns) → (i : ℕ) → i < p.count
      → EndsAsAlone p (first_run_arriving p (pieces_from_start turns)) (run_turns p (net_at_start p) turns) i
  ends-over-pieces turns all i within =
      let pieces = pieces_from_start turns in
      let first = first_run_arriving p pieces in
      let net = run_turns p (net_at_start p) turns in
      ends-so p first net i (run-leads p first turns (net_at_start p) (start-leads pieces) i) (all i within)

  pub comes-in-pieces : (turns : List PipeTurn) → AllOver p (run_turns p (net_at_start p) turns)
      → (pieces : List (List ℕ)) × ((i : ℕ) → i < p.count → EndsAsAlone p (first_run_arriving p pieces) (run_turns p (net_at_start p) turns) i)
  comes-in-pieces turns all = (pieces_from_start turns, ends-over-pieces turns all)

  -- ---- where all input is there from the first

  empty-both : (xs ys : List (List ℕ)) → AreEmpty p.turn p.bound xs → AreEmpty p.turn p.bound ys → AreEmpty p.turn p.bound (xs ++ ys)
  empty-both [] ys a b = b
  empty-both (x ∷ xs) ys a b = (a.0, empty-both xs ys a.1 b)

  empty-piece : (i : ℕ) (u : Turn S) (piece : List ℕ) → piece ≡ [] → AreEmpty p.turn p.bound (pieces_of p i u piece)
  empty-piece (suc i) u piece is = tt
  empty-piece zero (moves t) piece is = tt
  empty-piece zero (ends e) piece is = tt
  empty-piece zero (leaves q e) piece is = tt
  empty-piece zero (asks q go) piece is = (is, tt)

  empty-now : (net : PipeNet S) (t : PipeTurn) → t.piece ≡ [] → AreEmpty p.turn p.bound (pieces_now p net t)
  empty-now net t is = by-test (can_turn p net t.stage)
    where
      by-test : (c : Bool) → AreEmpty p.turn p.bound (if c then pieces_of p t.stage (next_turn p net t.stage) t.piece else [])
      by-test true = empty-piece t.stage (next_turn p net t.stage) t.piece is
      by-test false = tt

  nothing-in : (turns : List PipeTurn) (net : PipeNet S) → BringNothing turns → AreEmpty p.turn p.bound (pieces_in p net turns)
  nothing-in [] net none = tt
  nothing-in (t ∷ turns) net none = empty-both (pieces_now p net t) (pieces_in p (happens p net t) turns) (empty-now net t none.0) (nothing-in turns (happens p net t) none.1)

  alone-alike : (r q : Run S System) → EndsSame r q → (i : ℕ) → EndsSame (run_alone_of p r i) (run_alone_of p q i)
  alone-alike r q h zero = h
  alone-alike r q h (suc i) =
      let input = ap (λ (s : System). s.console.output) (alone-alike r q h i).system in
      subst (λ (o : List ℕ). EndsSame (run_alone_of p r (suc i)) (run_of p.turn reply p.bound (p.machines (suc i)) (with_rest (p.systems (suc i)) o))) input
      (record { outcome = refl; last = refl; system = refl })

  pub all-there : (turns : List PipeTurn) → BringNothing turns → AllOver p (run_turns p (net_at_start p) turns) → (i : ℕ) → i < p.count
      → EndsAsAlone p (first_run p) (run_turns p (net_at_start p) turns) i
  all-there turns none all i within =
      let pieces = pieces_from_start turns in
      let ends = ends-over-pieces turns all i within in
      let h = alone-alike (first_run_arriving p pieces) (first_run p) (empty-pieces p.turn p.bound p.bound (p.machines 0) (with_rest (p.systems 0) p.input) pieces (nothing-in turns (net_at_start p) none)) i in
      record {
        outcome = ends.outcome ∙ h.outcome;
        output = ends.output ∙ ap (λ s. s.console.output) h.system;
        error_output = ends.error_output ∙ ap (λ s. s.console.error_output) h.system;
        machine = ends.machine ∙ h.last;
        rest = λ zero_is. ends.rest zero_is ∙ ap (λ s. s.console.rest) h.system;
      }

  -- ---- at any time

  leads-over-pieces : (turns : List PipeTurn) (i : ℕ) → Leads p (first_run_arriving p (pieces_from_start turns)) (run_turns p (net_at_start p) turns) [] i
  leads-over-pieces turns i =
      let pieces = pieces_from_start turns in
      run-leads p (first_run_arriving p pieces) turns (net_at_start p) (start-leads pieces) i

  pub front-over-pieces : (turns : List PipeTurn) → (pieces : List (List ℕ)) × ((i : ℕ) → WritesFront p (first_run_arriving p pieces) (run_turns p (net_at_start p) turns) i)
  front-over-pieces turns =
      let pieces = pieces_from_start turns in
      (pieces, λ i. front-of p (first_run_arriving p pieces) (run_turns p (net_at_start p) turns) i (leads-over-pieces turns i))

  pub front-of-all : (turns : List PipeTurn) → BringNothing turns → (i : ℕ) → WritesFront p (first_run p) (run_turns p (net_at_start p) turns) i
  front-of-all turns none i =
      let pieces = pieces_from_start turns in
      let front = front-of p (first_run_arriving p pieces) (run_turns p (net_at_start p) turns) i (leads-over-pieces turns i) in
      let h = alone-alike (first_run_arriving p pieces) (first_run p) (empty-pieces p.turn p.bound p.bound (p.machines 0) (with_rest (p.systems 0) p.input) pieces (nothing-in turns (net_at_start p) none)) i in
      record { more = front.more; output = ap (λ s. s.console.output) (sym h.system) ∙ front.output }
