-- Code behind code that follows a turn of the guest, and code in three parts.
use Rattle.std.proofs.Common.{◌≡◌, ℕ, ◌+◌, ◌*◌, ◌≤◌, List, ◌++◌, subst, arith}
use Rattle.run_definition.specs.declared.order.Order.{Order}
use Rattle.run_definition.specs.Turn.{Turn, moves, ends, leaves, asks}
use Rattle.mips_definition.specs.State.{State}
use Rattle.jvm_definition.specs.declared.instruction.Instruction.{Instruction}
use Rattle.jvm_definition.specs.Effect.{Workspace}
use Rattle.jvm_definition.specs.Step as machine
use Rattle.emit_steps.specs.declared.step.Step.{Step}
use Rattle.emit_steps.specs.Widths.{size}
use Rattle.emit_paths_laws.proofs.Joining.{paths-join, path-wider}
use Rattle.emit_simulation_laws.specs.Sites.{Site, stands, turn_in, whole_weight}
use Rattle.emit_simulation_laws.specs.Following.{ComesToEnd, ComesToTurn, LastTurn, Follows}
use Rattle.emit_simulation_laws.proofs.GuestFollows.Weights.{whole-both, size-both}
use Rattle.emit_instructions_laws.proofs.UnitLaws.Joining.{Maps, follows-after}

-- what is said of the end follows from something else in each state
pub maps-all : (First Then : Workspace → State → Type 0) → ((u : Workspace) (t : State) → First u t → Then u t) → (turn : Turn State)
    → Maps turn First Then
maps-all First Then map (moves t) = λ u first. map u t first
maps-all First Then map (asks q next) = λ a u first. map u (next a) first
maps-all First Then map (ends e) = tt
maps-all First Then map (leaves q e) = tt

-- ---- code behind

module _ (site : Site) (middle high most extra later : ℕ) (total more all : (Instruction → ℕ) → ℕ) (in_time : most + extra ≤ later)
    (weighs : (weight : Instruction → ℕ) → total weight + more weight ≤ all weight) (First Then : Workspace → State → Type 0)
    (behind : (u : Workspace) (t : State) → First u t → ComesToEnd site middle high 0 extra more (λ v. Then v t) (stands site middle u)) where
  end-before : (low least few : ℕ) (t : State) (x : machine.JvmState) → ComesToEnd site low middle least few total (λ u. First u t) x
      → ComesToEnd site low high least (few + extra) all (λ v. Then v t) x
  end-before low least few t x c =
      let d = behind c.after t c.arrives in
      let sooner = c.no_sooner in
      let first = c.in_time in
      let second = d.in_time in
      record {
        turns = c.turns + d.turns;
        after = d.after;
        path = path-wider site.program site.words site.method low high low high (c.turns + d.turns) (λ weight. total weight + more weight) all x
            (stands site high d.after) (omega arith) (omega arith) (λ weight still. weighs weight)
            (paths-join site.program site.words site.method low middle high c.turns d.turns total more x (stands site middle c.after)
            (stands site high d.after) c.path d.path);
        no_sooner = omega (arith, sooner);
        in_time = omega (arith, first, second);
        arrives = d.arrives;
      }

  last-before : (guest : Turn State) (used place : ℕ) (t : Turn machine.JvmState) → LastTurn site middle most total First guest used place t
      → LastTurn site high later all Then guest used place t
  last-before (ends e) used place (ends f) last = last
  last-before (leaves q e) used place (leaves r f) last = last
  last-before (asks q next) used place (asks r then_on) last = (
    last.0,
    record {
      left = last.1.left + extra;
      in_time = let few = last.1.in_time in omega (arith, few, in_time);
      comes = λ a fit. end-before (place + 1) 0 last.1.left (next a) (then_on a) (last.1.comes a fit);
    },
  )
  last-before (moves g) used place t last = absurd last
  last-before (ends e) used place (moves t) last = absurd last
  last-before (ends e) used place (leaves r f) last = absurd last
  last-before (ends e) used place (asks r then_on) last = absurd last
  last-before (leaves q e) used place (moves t) last = absurd last
  last-before (leaves q e) used place (ends f) last = absurd last
  last-before (leaves q e) used place (asks r then_on) last = absurd last
  last-before (asks q next) used place (moves t) last = absurd last
  last-before (asks q next) used place (ends f) last = absurd last
  last-before (asks q next) used place (leaves r f) last = absurd last

  turn-before : middle ≤ high → (low least : ℕ) (guest : Turn State) (x : machine.JvmState)
      → ComesToTurn site low middle least most total (LastTurn site middle most total First guest) x
      → ComesToTurn site low high least later all (LastTurn site high later all Then guest) x
  turn-before ordered low least guest x c = record {
    turns = c.turns;
    before = c.before;
    place = c.place;
    path = path-wider site.program site.words site.method low c.place low c.place c.turns total all x c.before (omega arith) (omega arith)
        (λ weight still. let a = weighs weight in omega (arith, a)) c.path;
    is_there = c.is_there;
    below = let a = c.below in omega (arith, a, ordered);
    no_sooner = c.no_sooner;
    in_time = let few = c.in_time in omega (arith, few, in_time);
    last = last-before guest (c.turns + 1) c.place (turn_in site c.before) c.last;
  }

  pub follows-before : middle ≤ high → (low least : ℕ) (guest : Turn State) (x : machine.JvmState) → Follows site low middle least most total First x guest
      → Follows site low high least later all Then x guest
  follows-before ordered low least (moves t) x c =
      let d = end-before low least most t x c in
      record {
        turns = d.turns;
        after = d.after;
        path = d.path;
        no_sooner = d.no_sooner;
        in_time = let few = d.in_time in omega (arith, few, in_time);
        arrives = d.arrives;
      }
  follows-before ordered low least (ends e) x c = turn-before ordered low least (ends e) x c
  follows-before ordered low least (leaves q e) x c = turn-before ordered low least (leaves q e) x c
  follows-before ordered low least (asks q next) x c = turn-before ordered low least (asks q next) x c

-- ---- code in three parts, of which the one in the middle follows

module _ (site : Site) (order : Order) (at k : ℕ) (front middle back : List Step) (w : Workspace) (last : Turn State) (Begins : Workspace → Type 0)
    (Runs : Workspace → Workspace → State → Type 0) (Then : Workspace → State → Type 0) where
  abbrev first_end : ℕ
  first_end = at + size front

  abbrev second_end : ℕ
  second_end = first_end + size middle

  abbrev third_end : ℕ
  third_end = second_end + size back

  pub three-parts : 1 ≤ k → ComesToEnd site at first_end 0 62 (whole_weight order front) Begins (stands site at w)
      → ((v : Workspace) → Begins v
      → Follows site first_end second_end k (132 * k) (whole_weight order middle) (Runs v) (stands site first_end v) last)
      → ((v u : Workspace) (t : State) → Begins v → Runs v u t
      → ComesToEnd site second_end third_end 0 62 (whole_weight order back) (λ z. Then z t) (stands site second_end u))
      → Follows site at (at + size (front ++ (middle ++ back))) k (256 * k) (whole_weight order (front ++ (middle ++ back))) Then (stands site at w)
      last
  three-parts some c follows behind =
      let v = c.after in
      let few = c.in_time in
      let rest = follows-before site second_end third_end (132 * k) 62 (132 * k + 62) (whole_weight order middle) (whole_weight order back)
      (whole_weight order (middle ++ back)) (omega arith) (λ weight. let a = whole-both order weight middle back in omega (arith, a)) (Runs v)
      Then (λ u t runs. behind v u t c.arrives runs) (omega arith) first_end k last (stands site first_end v) (follows v c.arrives) in
      let outer = size-both front (middle ++ back) in
      let inner = size-both middle back in
      let end : third_end ≡ at + size (front ++ (middle ++ back)) = omega (arith, outer, inner) in
      subst (λ high. Follows site at high k (256 * k) (whole_weight order (front ++ (middle ++ back))) Then (stands site at w) last) end
      (follows-after site at first_end third_end c.turns k (132 * k + 62) k (256 * k) (whole_weight order front) (whole_weight order (middle ++ back))
      (whole_weight order (front ++ (middle ++ back))) (stands site at w) (stands site first_end v) c.path (omega arith) (omega (arith, few, some))
      (λ weight. let a = whole-both order weight front (middle ++ back) in omega (arith, a)) Then Then last
      (maps-all Then Then (λ u t first. first) last) rest)
