-- Code that follows a turn of the guest, and behind it code that leads to where the classes go on.
use Rattle.std.proofs.Common.{ℕ, ◌+◌, ◌≤◌, arith}
use Rattle.std.specs.Bool.{⊤}
use Rattle.run_definition.specs.Answer.{Answer}
use Rattle.run_definition.specs.Turn.{Turn, moves, ends, leaves, asks}
use Rattle.mips_definition.specs.State.{State}
use Rattle.jvm_definition.specs.declared.instruction.Instruction.{Instruction}
use Rattle.jvm_definition.specs.Effect.{Workspace}
use Rattle.jvm_definition.specs.Step as machine
use Rattle.emit_paths_laws.proofs.Joining.{paths-join, path-wider}
use Rattle.emit_simulation_laws.specs.Sites.{Site, stands, turn_in}
use Rattle.emit_simulation_laws.specs.Following.{ComesToEnd, ComesToTurn, LastTurn, Follows}
use Rattle.emit_spans_laws.specs.Resuming.{ComesTo, LastInSpan, FollowsInSpan}

-- each state that a turn leads to is as said, whatever the answer
abbrev pub Reaches : (State → Type 0) → Turn State → Type 0
Reaches P (moves t) = P t
Reaches P (ends e) = ⊤
Reaches P (leaves q e) = ⊤
Reaches P (asks q next) = (answer : Answer) → P (next answer)

module _ (site : Site) (middle high most extra later : ℕ) (total more all : (Instruction → ℕ) → ℕ) (in_time : most + extra ≤ later)
    (weighs : (weight : Instruction → ℕ) → total weight + more weight ≤ all weight) (First : Workspace → State → Type 0)
    (Then : machine.JvmState → State → Type 0) where
  -- the code behind leads on from a state
  abbrev pub GoesOn : State → Type 0
  GoesOn t = (u : Workspace) → First u t → ComesTo site middle high 0 extra more (λ y. Then y t) (stands site middle u)

  pub end-before : (low least few : ℕ) (t : State) (x : machine.JvmState) → GoesOn t → ComesToEnd site low middle least few total (λ u. First u t) x
      → ComesTo site low high least (few + extra) all (λ y. Then y t) x
  end-before low least few t x behind c =
      let d = behind c.after c.arrives in
      let sooner = c.no_sooner in
      let first = c.in_time in
      let second = d.in_time in
      record {
        turns = c.turns + d.turns;
        after = d.after;
        path = path-wider site.program site.words site.method low high low high (c.turns + d.turns) (λ weight. total weight + more weight) all x
            d.after (omega arith) (omega arith) (λ weight still. weighs weight)
            (paths-join site.program site.words site.method low middle high c.turns d.turns total more x (stands site middle c.after)
            d.after c.path d.path);
        no_sooner = omega (arith, sooner);
        in_time = omega (arith, first, second);
        arrives = d.arrives;
      }

  last-before : (guest : Turn State) (used place : ℕ) (t : Turn machine.JvmState) → Reaches GoesOn guest
      → LastTurn site middle most total First guest used place t → LastInSpan site high later all Then guest used place t
  last-before (ends e) used place (ends f) behind last = last
  last-before (leaves q e) used place (leaves r f) behind last = last
  last-before (asks q next) used place (asks r then_on) behind last = (
    last.0,
    record {
      left = last.1.left + extra;
      in_time = let few = last.1.in_time in omega (arith, few, in_time);
      comes = λ a fit. end-before (place + 1) 0 last.1.left (next a) (then_on a) (behind a) (last.1.comes a fit);
    },
  )
  last-before (moves g) used place t behind last = absurd last
  last-before (ends e) used place (moves t) behind last = absurd last
  last-before (ends e) used place (leaves r f) behind last = absurd last
  last-before (ends e) used place (asks r then_on) behind last = absurd last
  last-before (leaves q e) used place (moves t) behind last = absurd last
  last-before (leaves q e) used place (ends f) behind last = absurd last
  last-before (leaves q e) used place (asks r then_on) behind last = absurd last
  last-before (asks q next) used place (moves t) behind last = absurd last
  last-before (asks q next) used place (ends f) behind last = absurd last
  last-before (asks q next) used place (leaves r f) behind last = absurd last

  turn-before : middle ≤ high → (low least : ℕ) (guest : Turn State) (x : machine.JvmState) → Reaches GoesOn guest
      → ComesToTurn site low middle least most total (LastTurn site middle most total First guest) x
      → ComesToTurn site low high least later all (LastInSpan site high later all Then guest) x
  turn-before ordered low least guest x behind c = record {
    turns = c.turns;
    before = c.before;
    place = c.place;
    path = path-wider site.program site.words site.method low c.place low c.place c.turns total all x c.before (omega arith) (omega arith)
        (λ weight still. let a = weighs weight in omega (arith, a)) c.path;
    is_there = c.is_there;
    below = let a = c.below in omega (arith, a, ordered);
    no_sooner = c.no_sooner;
    in_time = let few = c.in_time in omega (arith, few, in_time);
    last = last-before guest (c.turns + 1) c.place (turn_in site c.before) behind c.last;
  }

  pub follows-on : middle ≤ high → (low least : ℕ) (guest : Turn State) (x : machine.JvmState) → Reaches GoesOn guest
      → Follows site low middle least most total First x guest → FollowsInSpan site low high least later all Then x guest
  follows-on ordered low least (moves t) x behind c =
      let d = end-before low least most t x behind c in
      record {
        turns = d.turns;
        after = d.after;
        path = d.path;
        no_sooner = d.no_sooner;
        in_time = let few = d.in_time in omega (arith, few, in_time);
        arrives = d.arrives;
      }
  follows-on ordered low least (ends e) x behind c = turn-before ordered low least (ends e) x behind c
  follows-on ordered low least (leaves q e) x behind c = turn-before ordered low least (leaves q e) x behind c
  follows-on ordered low least (asks q next) x behind c = turn-before ordered low least (asks q next) x behind c
