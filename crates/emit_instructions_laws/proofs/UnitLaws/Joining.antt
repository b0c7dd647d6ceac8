-- A path before code that follows a turn of the guest.
use Rattle.std.proofs.Common.{◌≡◌, ℕ, ◌+◌, ◌≤◌, subst, arith}
use Rattle.std.specs.Bool.{⊤}
use Rattle.run_definition.specs.Answer.{Answer}
use Rattle.run_definition.specs.Turn.{Turn, moves, ends, leaves, asks}
use Rattle.jvm_definition.specs.declared.instruction.Instruction.{Instruction}
use Rattle.jvm_definition.specs.Effect.{Workspace}
use Rattle.jvm_definition.specs.Step as machine
use Rattle.mips_definition.specs.State.{State}
use Rattle.emit_paths_laws.proofs.Joining.{paths-join, path-wider}
use Rattle.emit_simulation_laws.specs.Sites.{Site, PathIn, stands, turn_in}
use Rattle.emit_simulation_laws.specs.Following.{ComesToEnd, ComesToTurn, LastTurn, Follows}

-- what is said of the end of code follows from something else, for each state that a turn leads to
abbrev pub Maps : Turn State → (Workspace → State → Type 0) → (Workspace → State → Type 0) → Type 0
Maps (moves t) First Then = (u : Workspace) → First u t → Then u t
Maps (asks q next) First Then = (a : Answer) (u : Workspace) → First u (next a) → Then u (next a)
Maps (ends e) First Then = ⊤
Maps (leaves q e) First Then = ⊤

module _ (site : Site) (high : ℕ) (total all : (Instruction → ℕ) → ℕ) (First Then : Workspace → State → Type 0) (weighs : (weight : Instruction → ℕ) → total weight ≤ all weight) where
  end-wider : (low least most : ℕ) (t : State) (x : machine.JvmState) → ((u : Workspace) → First u t → Then u t) → ComesToEnd site low high least most total (λ u. First u t) x → ComesToEnd site low high least most all (λ u. Then u t) x
  end-wider low least most t x map c = record {
    turns = c.turns;
    after = c.after;
    path = path-wider site.program site.words site.method low high low high c.turns total all x (stands site high c.after) (omega arith) (omega arith) (λ weight still. weighs weight) c.path;
    no_sooner = c.no_sooner;
    in_time = c.in_time;
    arrives = map c.after c.arrives;
  }

  last-wider : (n most later : ℕ) → n + most ≤ later → (guest : Turn State) (used place : ℕ) (t : Turn machine.JvmState) → Maps guest First Then → LastTurn site high most total First guest used place t → LastTurn site high later all Then guest (n + used) place t
  last-wider n most later few (ends e) used place (ends f) map last = last
  last-wider n most later few (leaves q e) used place (leaves r f) map last = last
  last-wider n most later few (asks q next) used place (asks r then) map last = (
    last.0,
    record {
      left = last.1.left;
      in_time = let a = last.1.in_time in omega (arith, a, few);
      comes = λ a fit. end-wider (place + 1) 0 last.1.left (next a) (then a) (map a) (last.1.comes a fit);
    },
  )
  last-wider n most later few (moves g) used place t map last = absurd last
  last-wider n most later few (ends e) used place (moves t) map last = absurd last
  last-wider n most later few (ends e) used place (leaves r f) map last = absurd last
  last-wider n most later few (ends e) used place (asks r then) map last = absurd last
  last-wider n most later few (leaves q e) used place (moves t) map last = absurd last
  last-wider n most later few (leaves q e) used place (ends f) map last = absurd last
  last-wider n most later few (leaves q e) used place (asks r then) map last = absurd last
  last-wider n most later few (asks q next) used place (moves t) map last = absurd last
  last-wider n most later few (asks q next) used place (ends f) map last = absurd last
  last-wider n most later few (asks q next) used place (leaves r f) map last = absurd last

-- code that follows may be given more weight than it takes
module _ (site : Site) (high : ℕ) (total all : (Instruction → ℕ) → ℕ) (Arrives : Workspace → State → Type 0) (weighs : (weight : Instruction → ℕ) → total weight ≤ all weight) where
  turn-wider : (low least most : ℕ) (x : machine.JvmState) (guest : Turn State) → Maps guest Arrives Arrives → ComesToTurn site low high least most total (LastTurn site high most total Arrives guest) x → ComesToTurn site low high least most all (LastTurn site high most all Arrives guest) x
  turn-wider low least most x guest map c = record {
    turns = c.turns;
    before = c.before;
    place = c.place;
    path = path-wider site.program site.words site.method low c.place low c.place c.turns total all x c.before (omega arith) (omega arith) (λ weight still. weighs weight) c.path;
    is_there = c.is_there;
    below = c.below;
    no_sooner = c.no_sooner;
    in_time = c.in_time;
    last =
        let sum : 0 + (c.turns + 1) ≡ c.turns + 1 = omega arith in
        subst (λ used. LastTurn site high most all Arrives guest used c.place (turn_in site c.before)) sum
        (last-wider site high total all Arrives Arrives weighs 0 most most (omega arith) guest (c.turns + 1) c.place (turn_in site c.before) map c.last);
  }

  pub follows-wider : (low least most : ℕ) (x : machine.JvmState) (guest : Turn State) → Follows site low high least most total Arrives x guest → Follows site low high least most all Arrives x guest
  follows-wider low least most x (moves t) c = end-wider site high total all Arrives Arrives weighs low least most t x (λ u is. is) c
  follows-wider low least most x (ends e) c = turn-wider low least most x (ends e) tt c
  follows-wider low least most x (leaves q e) c = turn-wider low least most x (leaves q e) tt c
  follows-wider low least most x (asks q next) c = turn-wider low least most x (asks q next) (λ a u is. is) c

-- so many turns first, and then code that follows
module _ (site : Site) (low middle high n least most sooner later : ℕ) (first total all : (Instruction → ℕ) → ℕ) (x y : machine.JvmState) (path : PathIn site low middle n first x y) (no_sooner : sooner ≤ n + least) (in_time : n + most ≤ later) (weighs : (weight : Instruction → ℕ) → first weight + total weight ≤ all weight) where
  pub end-after : (First Then : Workspace → State → Type 0) (t : State) → ((u : Workspace) → First u t → Then u t) → ComesToEnd site middle high least most total (λ u. First u t) y → ComesToEnd site low high sooner later all (λ u. Then u t) x
  end-after First Then t map c = record {
    turns = n + c.turns;
    after = c.after;
    path = path-wider site.program site.words site.method low high low high (n + c.turns) (λ weight. first weight + total weight) all x (stands site high c.after) (omega arith) (omega arith) (λ weight still. weighs weight)
        (paths-join site.program site.words site.method low middle high n c.turns first total x y (stands site high c.after) path c.path);
    no_sooner = let a = c.no_sooner in omega (arith, a, no_sooner);
    in_time = let a = c.in_time in omega (arith, a, in_time);
    arrives = map c.after c.arrives;
  }

  turn-after : (First Then : Workspace → State → Type 0) (guest : Turn State) → Maps guest First Then → ComesToTurn site middle high least most total (LastTurn site high most total First guest) y → ComesToTurn site low high sooner later all (LastTurn site high later all Then guest) x
  turn-after First Then guest map c = record {
    turns = n + c.turns;
    before = c.before;
    place = c.place;
    path = path-wider site.program site.words site.method low c.place low c.place (n + c.turns) (λ weight. first weight + total weight) all x c.before (omega arith) (omega arith) (λ weight still. weighs weight)
        (paths-join site.program site.words site.method low middle c.place n c.turns first total x y c.before path c.path);
    is_there = c.is_there;
    below = c.below;
    no_sooner = let a = c.no_sooner in omega (arith, a, no_sooner);
    in_time = let a = c.in_time in omega (arith, a, in_time);
    last =
        let sum : n + (c.turns + 1) ≡ n + c.turns + 1 = omega arith in
        subst (λ used. LastTurn site high later all Then guest used c.place (turn_in site c.before)) sum
        (last-wider site high total all First Then (λ weight. let a = weighs weight in omega (arith, a)) n most later in_time guest (c.turns + 1) c.place (turn_in site c.before) map c.last);
  }

  pub follows-after : (First Then : Workspace → State → Type 0) (guest : Turn State) → Maps guest First Then → Follows site middle high least most total First y guest → Follows site low high sooner later all Then x guest
  follows-after First Then (moves t) map c = end-after First Then t map c
  follows-after First Then (ends e) map c = turn-after First Then (ends e) map c
  follows-after First Then (leaves q e) map c = turn-after First Then (leaves q e) map c
  follows-after First Then (asks q next) map c = turn-after First Then (asks q next) map c
