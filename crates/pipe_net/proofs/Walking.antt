-- Instructions of a stage, one after the other, are turns of the model.
use Rattle.std.proofs.Common.{◌≡◌, ◌≢◌, ◌<◌, ◌≤◌, ◌+◌, ℕ, zero, suc, true, false, not, ◌||◌, if◌then◌else◌, List, [], ◌∷◌, ◌++◌, length, Some, refl, ap, sym, ◌∙◌, subst, arith, append-nil, append_assoc}
use Rattle.std.proofs.lemmas.Bool.{lt-leb, ne_eqb}
use Rattle.nv_events.specs.Parts.{is_going}
use Rattle.run_definition.specs.declared.outcome.Outcome.{Outcome}
use Rattle.run_definition.specs.declared.outcome.Outcome.TheVariants.{Going}
use Rattle.jvm_definition.specs.Step.{Loaded, loaded_turn}
use Rattle.unix_pipe_laws.specs.Stages.{PipeStage, comes_to, is_over, output_of}
use Rattle.unix_pipe_laws.specs.Pipelines.{Pipeline, PipeNet, can_turn, next_turn}
use Rattle.unix_pipe_laws.specs.Turns.{PipeTurn, AllHappen, BringNothing, poured, run_turns, turned_net}
use Rattle.unix_pipe_laws.proofs.Runs.{made-one}
use Rattle.unix_pipe_laws.proofs.Turning.{own-stage, other-stage}
use Rattle.pipe_net.specs.Executing.{Scene, Walks, EndsSo}
use Rattle.pipe_net.specs.Turning.{AreOf}
use Rattle.pipe_net.proofs.Turns.{run-one, happen-more, of-more, nothing-more, one-more, poured-nothing, poured-both}
use Rattle.pipe_net.proofs.Standing.{Stands, can-turn, next-is}
use Rattle.pipe_net.proofs.Stepping.{Since, Stepped, last-step, since-both, since-nothing, step, turn_at}

module _ (p : Pipeline Loaded) (i : ℕ) where
  -- what changed of a net in turns of one stage, in which it wrote this to output
  pub record Changed (start net : PipeNet Loaded) (w : List ℕ) : Type 0 where
    pub output : output_of (net.stage i) ≡ output_of (start.stage i) ++ w
    pub next : net.stage (suc i) ≡ poured p.bound w (start.stage (suc i))
    pub others : (j : ℕ) → j ≢ i → j ≢ suc i → net.stage j ≡ start.stage j
    pub aheads : (j : ℕ) → j ≢ i → net.ahead j ≡ start.ahead j

  changed-nothing : (start : PipeNet Loaded) → Changed start start []
  changed-nothing start = record {
    output = sym (append-nil (output_of (start.stage i)));
    next = sym (poured-nothing p.bound (start.stage (suc i)));
    others = λ j apart away. refl;
    aheads = λ j apart. refl;
  }

  -- So many turns of the model came from one scene to another, behind which the stage goes on or ended so.
  pub record Walked (start : PipeNet Loaded) (x y : Scene) (outcome : Outcome) (n : ℕ) : Type 0 where
    pub turns : List PipeTurn
    pub of_stage : AreOf i turns
    pub happen : AllHappen p start turns
    pub many : length turns ≡ n
    pub stands : Stands p i (run_turns p start turns) y outcome
    pub w : List ℕ
    pub changed : Changed start (run_turns p start turns) w
    pub since : Since x.ports y.ports w
    pub quiet : (rest : List ℕ) → x.ports.source.told ≡ Some rest → BringNothing turns
    pub made : ((run_turns p start turns).stage i).made ≡ (start.stage i).made + n

  walked-nothing : (start : PipeNet Loaded) (x : Scene) → Stands p i start x Going → Walked start x x Going 0
  walked-nothing start x s = record {
    turns = [];
    of_stage = tt;
    happen = tt;
    many = refl;
    stands = s;
    w = [];
    changed = changed-nothing start;
    since = since-nothing x.ports;
    quiet = λ rest is. tt;
    made = omega arith;
  }

  pub still-going : (y : PipeStage Loaded) → y.outcome ≡ Going → y.made < p.bound → is_over p.bound y ≡ false
  still-going y going few = λ j. not (is_going (going j)) || lt-leb p.bound y.made few j

  -- one turn more
  module _ (start : PipeNet Loaded) (within : i < p.count) (x y z : Scene) (outcome : Outcome) (n : ℕ) (a : Walked start x y Going n) (few : (start.stage i).made + n < p.bound) (b : Stepped p i (run_turns p start a.turns) y z outcome) where
    abbrev mid : PipeNet Loaded
    mid = run_turns p start a.turns

    abbrev t : PipeTurn
    t = turn_at p i b.piece b.ahead

    abbrev now : PipeNet Loaded
    now = turned_net p mid t

    can : can_turn p mid i ≡ true
    can = can-turn p i mid within (still-going (mid.stage i) a.stands.own.ended (let m = a.made in omega arith)) b.ready

    run-is : run_turns p start (a.turns ++ t ∷ []) ≡ now
    run-is = run-one p start a.turns t can

    changed-more : Changed start now (a.w ++ b.w)
    changed-more = record {
      output = ap output_of (own-stage p mid t) ∙ (b.wrote ∙ (ap (λ l. l ++ b.w) a.changed.output ∙ append_assoc (output_of (start.stage i)) a.w b.w));
      next = next-is p i mid b.piece b.ahead y z Going outcome a.stands b.w b.wrote ∙ (ap (poured p.bound b.w) a.changed.next ∙ poured-both p.bound a.w b.w (start.stage (suc i)));
      others = λ j apart away. other-stage p mid t j apart away ∙ a.changed.others j apart away;
      aheads = λ j apart. ap (λ c. if c then b.ahead else mid.ahead j) (ne_eqb j i apart) ∙ a.changed.aheads j apart;
    }

    made-more : (now.stage i).made ≡ (start.stage i).made + suc n
    made-more =
        let one = ap (λ (s : PipeStage Loaded). s.made) (own-stage p mid t) in
        let two = made-one (comes_to i b.piece) (mid.stage i) (next_turn p mid i) in
        let before = a.made in
        omega arith

    pub walked-more : Walked start x z outcome (suc n)
    walked-more = record {
      turns = a.turns ++ t ∷ [];
      of_stage = of-more i a.turns t a.of_stage refl;
      happen = happen-more p start a.turns t a.happen can;
      many = one-more a.turns t ∙ (let m = a.many in omega arith);
      stands = subst (λ (k : PipeNet Loaded). Stands p i k z outcome) (sym run-is) b.stands;
      w = a.w ++ b.w;
      changed = subst (λ (k : PipeNet Loaded). Changed start k (a.w ++ b.w)) (sym run-is) changed-more;
      since = since-both x.ports y.ports z.ports a.w b.w a.since b.since;
      quiet = λ rest is. nothing-more a.turns t (a.quiet rest is) (let m = a.since.told rest is in b.quiet m.0 m.1);
      made = ap (λ (k : PipeNet Loaded). (k.stage i).made) run-is ∙ made-more;
    }

  module _ (turn_is : p.turn ≡ loaded_turn) (start : PipeNet Loaded) (within : i < p.count) (x : Scene) (s : Stands p i start x Going) where
    pub walk : (n : ℕ) (y : Scene) → (start.stage i).made + n ≤ p.bound → Walks n x y → Walked start x y Going n
    walk zero y few h = subst (λ (z : Scene). Walked start x z Going 0) (sym h) (walked-nothing start x s)
    walk (suc n) y few h =
        let mid = h.0 in
        let a = walk n mid (omega arith) h.1 in
        walked-more start within x mid y Going n a (omega arith) (step p i turn_is (run_turns p start a.turns) mid a.stands y h.2)

    pub walk-to-end : (n : ℕ) (mid y : Scene) (outcome : Outcome) → (start.stage i).made + suc n ≤ p.bound → Walks n x mid → EndsSo mid y outcome → Walked start x y outcome (suc n)
    walk-to-end n mid y outcome few h ends =
        let a = walk n mid (omega arith) h in
        walked-more start within x mid y outcome n a (omega arith) (last-step p i turn_is (run_turns p start a.turns) mid a.stands y outcome ends)
