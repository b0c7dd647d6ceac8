-- When a stage in the middle of its turn stands as its model does.
use Rattle.std.proofs.Common.{◌≡◌, ◌≢◌, ◌<◌, ℕ, suc, nat_lt, min, true, false, not, ◌||◌, ◌&&◌, if◌then◌else◌, List, ◌++◌, length, drop, refl, ap, sym, ◌∙◌, subst, arith, length-append, append_assoc}
use Rattle.std.proofs.lemmas.Bool.{eq-eqb, ne_eqb, and_from, not_from_false, lt-ltb}
use Rattle.std.proofs.Math.Seq.{drop-append_seam}
use Rattle.run_definition.specs.Answer.{Answer}
use Rattle.run_definition.specs.Question.{Question}
use Rattle.run_definition.specs.Turn.{asks}
use Rattle.run_definition.specs.declared.outcome.Outcome.{Outcome}
use Rattle.unix_definition.specs.System.{System}
use Rattle.unix_calls.specs.Held.{system_of}
use Rattle.unix_calls.specs.Drawing.{known}
use Rattle.jvm_definition.specs.Step.{Loaded}
use Rattle.unix_pipe_laws.specs.Stages.{PipeStage, is_over, input_left, output_of, reads_input, writes_output}
use Rattle.unix_pipe_laws.specs.Pipelines.{Pipeline, PipeNet, can_turn, has_enough, in_pipe, is_fed, is_over_at, is_ready, may_read, may_write, stands_ready}
use Rattle.unix_pipe_laws.specs.Turns.{PipeTurn, gained, poured, turned_net, turned_stage}
use Rattle.unix_pipe_laws.proofs.Turning.{own-stage, next-stage, other-stage}
use Rattle.pipe_net.specs.declared.inlet.Inlet.{Inlet}
use Rattle.pipe_net.specs.declared.inlet.Inlet.TheVariants as inlet
use Rattle.pipe_net.specs.declared.outlet.Outlet.{Outlet}
use Rattle.pipe_net.specs.declared.outlet.Outlet.TheVariants as outlet
use Rattle.pipe_net.specs.Ports.{Ports, input_at, may_read_at, may_write_at, ready_for}
use Rattle.pipe_net.specs.Executing.{Scene}
use Rattle.pipe_net.proofs.Turns.{poured-on, poured-over-stays}

module _ (p : Pipeline Loaded) (i : ℕ) where
  -- what is there of the stage's input
  abbrev pub rest_at : Inlet → Ports → List ℕ
  rest_at l x = known (input_at l x).told

  -- where its input comes from
  abbrev pub InletIs : PipeNet Loaded → Inlet → Type 0
  InletIs net inlet.Source = i ≡ 0
  InletIs net (inlet.Pipe fed) = (k : ℕ) × (i ≡ suc k) × (is_over_at p net k ≡ fed)

  -- where its output goes: into a pipe that holds these bytes
  abbrev pub OutletIs : PipeNet Loaded → Outlet → List ℕ → Type 0
  OutletIs net outlet.Sink bytes = suc i ≡ p.count
  OutletIs net outlet.Pipe bytes = (suc i ≢ p.count) × (is_over_at p net (suc i) ≡ false)
      × ((xs : List ℕ) × (input_left (net.stage (suc i)) ≡ xs ++ bytes) × (net.ahead (suc i) ≡ length xs))
  OutletIs net outlet.Nowhere bytes = (suc i ≢ p.count) × (is_over_at p net (suc i) ≡ true)

  -- a stage stands as its model does
  pub record OwnIs (y : PipeStage Loaded) (x : Scene) (outcome : Outcome) : Type 0 where
    pub machine : y.machine ≡ x.state
    pub system : y.system ≡ system_of x.ports.unix (rest_at x.ports.inlet x.ports) (output_of y) x.ports.errors.bytes
    pub ended : y.outcome ≡ outcome

  pub record Stands (net : PipeNet Loaded) (x : Scene) (outcome : Outcome) : Type 0 where
    pub own : OwnIs (net.stage i) x outcome
    pub ahead : net.ahead i ≡ length x.ports.unix.ahead
    pub from : InletIs net x.ports.inlet
    pub to : OutletIs net x.ports.outlet x.ports.behind.bytes
    pub c : x.ports.c ≡ p.c

  -- ---- a call is ready in the model where it is for the server

  module _ (net : PipeNet Loaded) (x : Ports) where
    may-read : (l : Inlet) (n : ℕ) → InletIs net l → x.c ≡ p.c → input_left (net.stage i) ≡ x.unix.ahead ++ rest_at l x → may_read p net i n ≡ may_read_at l x n
    may-read inlet.Source n is c left = ap (λ j. is_fed p net j || has_enough (min n p.c) (input_left (net.stage i))) is
    may-read (inlet.Pipe fed) n is c left =
        ap (λ j. is_fed p net j || has_enough (min n p.c) (input_left (net.stage i))) is.1
        ∙ (λ j. is.2 j || has_enough (min n (sym c j)) (left j))

    may-write : (l : Outlet) → OutletIs net l x.behind.bytes → x.c ≡ p.c → may_write p net i ≡ may_write_at l x
    may-write outlet.Sink is c = ap (λ b. b || (is_over_at p net (suc i) || nat_lt (in_pipe net (suc i)) p.c)) (eq-eqb (suc i) p.count is)
    may-write outlet.Pipe is c =
        let holds : in_pipe net (suc i) ≡ length x.behind.bytes = omega (arith, ap length is.2.1, is.2.2, length-append is.2.0 x.behind.bytes) in
        ap (λ b. b || (is_over_at p net (suc i) || nat_lt (in_pipe net (suc i)) p.c)) (ne_eqb (suc i) p.count is.0)
        ∙ (λ j. is.1 j || nat_lt (holds j) (sym c j))
    may-write outlet.Nowhere is c =
        ap (λ b. b || (is_over_at p net (suc i) || nat_lt (in_pipe net (suc i)) p.c)) (ne_eqb (suc i) p.count is.0)
        ∙ ap (λ b. b || nat_lt (in_pipe net (suc i)) p.c) is.1

  pub ready-alike : (net : PipeNet Loaded) (x : Scene) (outcome : Outcome) (q : Question) (next : Answer → Loaded) → Stands net x outcome → is_ready p net i (asks q next) ≡ ready_for x.ports q
  ready-alike net x outcome q next s =
      let opened = ap (λ (k : System). k.opened) s.own.system in
      let read = may-read net x.ports x.ports.inlet q.a2 s.from s.c (ap (λ (k : System). k.console.rest) s.own.system) in
      let write = may-write net x.ports x.ports.outlet s.to s.c in
      λ j. if reads_input (opened j) q then read j else if writes_output (opened j) q then write j else true

  pub can-turn : (net : PipeNet Loaded) → i < p.count → is_over_at p net i ≡ false → stands_ready p net i ≡ true → can_turn p net i ≡ true
  can-turn net within going ready =
      and_from (nat_lt i p.count) (not (is_over_at p net i) && stands_ready p net i) (lt-ltb i p.count within)
      (and_from (not (is_over_at p net i)) (stands_ready p net i) (not_from_false (is_over_at p net i) going) ready)

  -- ---- after a turn

  module _ (net : PipeNet Loaded) (piece : List ℕ) (ahead : ℕ) (x y : Scene) (before outcome : Outcome) (s : Stands net x before) where
    abbrev turn : PipeTurn
    turn = record { stage = i; piece = piece; ahead = ahead }

    abbrev own : PipeStage Loaded
    own = turned_stage p net turn

    abbrev now : PipeNet Loaded
    now = turned_net p net turn

    own-is : now.stage i ≡ own
    own-is = own-stage p net turn

    module _ (w : List ℕ) (wrote : output_of own ≡ output_of (net.stage i) ++ w) where
      gained-is : gained (net.stage i) own ≡ w
      gained-is = ap (drop (length (output_of (net.stage i)))) wrote ∙ drop-append_seam (output_of (net.stage i)) w

      pub next-is : now.stage (suc i) ≡ poured p.bound w (net.stage (suc i))
      next-is = next-stage p net turn ∙ ap (λ bytes. poured p.bound bytes (net.stage (suc i))) gained-is

      from-still : (l : Inlet) → InletIs net l → InletIs now l
      from-still inlet.Source is = is
      from-still (inlet.Pipe fed) is =
          let k = is.0 in
          (k, is.1, ap (is_over p.bound) (other-stage p net turn k (λ e. let f = is.1 in omega arith) (λ e. let f = is.1 in omega arith)) ∙ is.2)

      to-still : (l : Outlet) (bytes bytes_now : List ℕ) → OutletIs net l bytes → (l ≡ outlet.Pipe → bytes_now ≡ bytes ++ w) → OutletIs now l bytes_now
      to-still outlet.Sink bytes bytes_now is more = is
      to-still outlet.Pipe bytes bytes_now is more = (
        is.0,
        ap (is_over p.bound) next-is ∙ (poured-over-stays p.bound w (net.stage (suc i)) ∙ is.1),
        (
          is.2.0,
          ap input_left (next-is ∙ poured-on p.bound w (net.stage (suc i)) is.1)
              ∙ (ap (λ l. l ++ w) is.2.1 ∙ (append_assoc is.2.0 bytes w ∙ ap (λ l. is.2.0 ++ l) (sym (more refl)))),
          ap (λ b. if b then ahead else net.ahead (suc i)) (ne_eqb (suc i) i (λ e. omega arith)) ∙ is.2.2,
        ),
      )
      to-still outlet.Nowhere bytes bytes_now is more = (is.0, ap (is_over p.bound) next-is ∙ (poured-over-stays p.bound w (net.stage (suc i)) ∙ is.1))

      pub stands-on : OwnIs own y outcome → ahead ≡ length y.ports.unix.ahead → y.ports.inlet ≡ x.ports.inlet → y.ports.outlet ≡ x.ports.outlet → y.ports.c ≡ x.ports.c
          → (x.ports.outlet ≡ outlet.Pipe → y.ports.behind.bytes ≡ x.ports.behind.bytes ++ w) → Stands now y outcome
      stands-on is long same_inlet same_outlet same_c more = record {
        own = subst (λ (z : PipeStage Loaded). OwnIs z y outcome) (sym own-is) is;
        ahead = ap (λ b. if b then ahead else net.ahead i) (eq-eqb i i refl) ∙ long;
        from = subst (InletIs now) (sym same_inlet) (from-still x.ports.inlet s.from);
        to = subst (λ (l : Outlet). OutletIs now l y.ports.behind.bytes) (sym same_outlet) (to-still x.ports.outlet x.ports.behind.bytes y.ports.behind.bytes s.to more);
        c = same_c ∙ s.c;
      }
