-- The units of a piece one after the other, over a bank.
use Rattle.std.proofs.Common.{◌≡◌, ℕ, ◌+◌, ◌*◌, ◌^◌, ◌<◌, Bool, false, List, [], ◌∷◌, ◌++◌, length, None, append-nil, mod-eq_of_lt, subst, sym, ◌∙◌, arith}
use Rattle.std.specs.List.{flat_map}
use Rattle.std.proofs.lemmas.Bool.{or_parts, true≢false}
use Rattle.run_definition.specs.declared.order.Order.{Order}
use Rattle.run_definition.specs.Turn.{Turn, moves, ends, leaves, asks}
use Rattle.mips_definition.specs.State.{State}
use Rattle.delay_slots.specs.declared.unit.Unit.{Unit as Word}
use Rattle.delay_slots.specs.declared.unit.Unit.TheVariants as units
use Rattle.delay_slots.specs.Turns.{done, unit_turns, turn_count, last_turn}
use Rattle.block_builder.specs.Laws.{InstructionsChangeWhatTheyWrite}
use Rattle.block_builder.specs.Registers.{unit_writes, written_by}
use Rattle.jvm_definition.specs.declared.instruction.Instruction.{Instruction}
use Rattle.jvm_definition.specs.Effect.{Workspace}
use Rattle.jvm_definition.specs.Step as machine
use Rattle.emit_steps.specs.declared.step.Step.{Step}
use Rattle.emit_steps.specs.Widths.{size}
use Rattle.emit_steps.specs.Placing.{LiesAt}
use Rattle.emit_instructions.specs.Units.{unit_code}
use Rattle.word_emitter.specs.Pieces.{is_needed, is_written, units_code}
use Rattle.emit_simulation_laws.specs.Knowing.{gained}
use Rattle.emit_simulation_laws.specs.Lawful.{AreAllKnown, IsLawful, KnownByUnit, has_register}
use Rattle.emit_simulation_laws.proofs.PieceSets.{AreLawful, SetLaws, NeedLaws}
use Rattle.emit_paths_laws.proofs.Joining.{no-turns, path-wider}
use Rattle.emit_simulation_laws.specs.Holding.{HoldsOn, KeepsFields}
use Rattle.emit_simulation_laws.specs.Sites.{Site, stands, turn_in, whole_weight}
use Rattle.emit_simulation_laws.specs.Following.{LastTurn, Follows}
use Rattle.emit_simulation_laws.specs.Behind.{IsDone}
use Rattle.emit_simulation_laws.specs.Laws.{PathLaws}
use Rattle.emit_simulation_laws.proofs.GuestFollows.Weights.{whole-both, size-both}
use Rattle.emit_instructions_laws.specs.Instructions.{IsReady}
use Rattle.emit_instructions_laws.specs.Units.{UnitArrives, UnitFollows}
use Rattle.emit_instructions_laws.proofs.UnitLaws.Joining.{Maps, follows-after}
use Rattle.emit_instructions_laws.proofs.UnitLaws.Reaching.{says-from}
use Rattle.emit_instructions_laws.specs.Pieces.{AreStraight, PieceGoal, UnitGoal, piece_turns, then_turns}
use Rattle.emit_instructions_laws.proofs.PieceLaws.Behind.{maps-all}
use Rattle.emit_instructions_laws.proofs.PieceLaws.Turns.{GoesOrEnds, IsPast, LeavesOthers, Reaches, plain-past, unit-leaves}
use Rattle.emit_instructions_laws.proofs.PieceLaws.Within.{unit-stays}

-- Where the code of units has come to its end, over a bank.
pub record HasRun (bank : ℕ) (known : ℕ → Bool) (piece : List Word) (x : State) (before after : Workspace) (t : State) : Type 0 where
  pub held : HoldsOn bank (gained (flat_map unit_writes piece) known) after t
  pub fields_kept : KeepsFields bank before after
  pub left : LeavesOthers (is_written piece) x t
  pub goal : PieceGoal piece x.pc before after t

-- ---- the last unit

-- what is said of the end follows from something else in each state that a turn leads to
maps-reached : (P : State → Type 0) (First Then : Workspace → State → Type 0) → ((u : Workspace) (t : State) → P t → First u t → Then u t)
    → (turn : Turn State) → Reaches P turn → Maps turn First Then
maps-reached P First Then map (moves t) at = λ u first. map u t at first
maps-reached P First Then map (asks q next) at = λ a u first. map u (next a) (at a) first
maps-reached P First Then map (ends e) at = tt
maps-reached P First Then map (leaves q e) at = tt

-- a unit's turns alone are those of a piece that ends with it
alone : (site : Site) (low high n : ℕ) (total : (Instruction → ℕ) → ℕ) (Arrives : Workspace → State → Type 0) (y : machine.JvmState) (last : Turn State)
    → Follows site low high n (132 * n) total Arrives y last
    → Follows site low high (then_turns n last (piece_turns [])).0 (132 * (then_turns n last (piece_turns [])).0) total Arrives y
    (then_turns n last (piece_turns [])).1
alone site low high n total Arrives y (moves t) c = record {
  turns = c.turns;
  after = c.after;
  path = c.path;
  no_sooner = let a = c.no_sooner in omega (arith, a);
  in_time = let a = c.in_time in omega (arith, a);
  arrives = c.arrives;
}
alone site low high n total Arrives y (ends e) c = c
alone site low high n total Arrives y (leaves q e) c = c
alone site low high n total Arrives y (asks q next) c = c

module _ (sets : SetLaws) (bank : ℕ) (known : ℕ → Bool) (w : Workspace) (x : State) where
  abbrev LeavesBy : Word → State → Type 0
  LeavesBy unit t = LeavesOthers (has_register (unit_writes unit)) x t

  one-run : (unit : Word) → IsLawful unit → (u : Workspace) (t : State) → LeavesBy unit t → HoldsOn bank (gained (unit_writes unit) known) u t
      → KeepsFields bank w u → UnitGoal unit x.pc w u t → HasRun bank known (unit ∷ []) x w u t
  one-run unit is u t leaves_others held fields_kept goal = record {
    held = subst (λ written. HoldsOn bank (gained written known) u t) (sym (append-nil (unit_writes unit))) held;
    fields_kept = fields_kept;
    left = λ r positive below none.
        leaves_others r positive below
        (sym (sets.is_membership (unit_writes unit) r (sets.writes_numbers unit is) positive below) ∙ (or_parts _ false none).0);
    goal = goal;
  }

  maps-last : (unit : Word) → IsLawful unit → Reaches (LeavesBy unit) (last_turn (unit_turns unit x))
      → Maps (last_turn (unit_turns unit x)) (UnitArrives bank known unit x.pc w) (HasRun bank known (unit ∷ []) x w)
  maps-last (units.Plain i) is at =
      maps-reached (LeavesBy (units.Plain i)) (UnitArrives bank known (units.Plain i) x.pc w) (HasRun bank known (units.Plain i ∷ []) x w)
      (λ u t leaves_others done. one-run (units.Plain i) is u t leaves_others done.state.held done.state.kept.fields_kept done.state.kept.operands_kept) (done i x) at
  maps-last (units.Branch i slot) is at =
      maps-reached (LeavesBy (units.Branch i slot)) (UnitArrives bank known (units.Branch i slot) x.pc w)
      (HasRun bank known (units.Branch i slot ∷ []) x w)
      (λ u t leaves_others gone. one-run (units.Branch i slot) is u t leaves_others gone.held gone.fields_kept gone.goal)
      (last_turn (unit_turns (units.Branch i slot) x)) at
  maps-last (units.SlotMissing i) is at =
      maps-reached (LeavesBy (units.SlotMissing i)) (UnitArrives bank known (units.SlotMissing i) x.pc w)
      (HasRun bank known (units.SlotMissing i ∷ []) x w)
      (λ u t leaves_others gone. one-run (units.SlotMissing i) is u t leaves_others gone.held gone.fields_kept gone.goal)
      (last_turn (unit_turns (units.SlotMissing i) x)) at
  maps-last (units.SlotIsBranch i word) is at =
      maps-reached (LeavesBy (units.SlotIsBranch i word)) (UnitArrives bank known (units.SlotIsBranch i word) x.pc w)
      (HasRun bank known (units.SlotIsBranch i word ∷ []) x w)
      (λ u t leaves_others gone. one-run (units.SlotIsBranch i word) is u t leaves_others gone.held gone.fields_kept gone.goal)
      (last_turn (unit_turns (units.SlotIsBranch i word) x)) at
  maps-last units.Call is at =
      maps-reached (LeavesBy units.Call) (UnitArrives bank known units.Call x.pc w) (HasRun bank known (units.Call ∷ []) x w)
      (λ u t leaves_others done. one-run units.Call is u t leaves_others done.state.held done.state.kept.fields_kept done.state.kept.operands_kept) (last_turn (unit_turns units.Call x)) at
  maps-last (units.Trap kind value) is at = tt

-- ---- a Plain unit before others

module _ (site : Site) (order : Order) (at : ℕ) (first second : List Step) (w : Workspace) (Past : State → Type 0) (rest : State → ℕ × Turn State)
    (First Then : Workspace → State → Type 0) (Second : Workspace → State → Workspace → State → Type 0) where
  abbrev middle : ℕ
  middle = at + size first

  abbrev high : ℕ
  high = middle + size second

  abbrev all : (Instruction → ℕ) → ℕ
  all = whole_weight order (first ++ second)

  abbrev GoesOn : Turn State → Type 0
  GoesOn last = Follows site at high (then_turns 1 last rest).0 (132 * (then_turns 1 last rest).0) all Then (stands site at w)
      (then_turns 1 last rest).1

  ends-alike : (e : _) (used place : ℕ) (t : Turn machine.JvmState) → LastTurn site middle 132 (whole_weight order first) First (ends e) used place t
      → LastTurn site high 132 all Then (ends e) used place t
  ends-alike e used place (ends f) last = last
  ends-alike e used place (moves t) last = absurd last
  ends-alike e used place (leaves q f) last = absurd last
  ends-alike e used place (asks q next) last = absurd last

  pub one-more : ((t : State) (u : Workspace) → Past t → First u t
      → Follows site middle high (rest t).0 (132 * (rest t).0) (whole_weight order second) (Second u t) (stands site middle u) (rest t).1)
      → ((t : State) (u : Workspace) → Past t → First u t → (v : Workspace) (s : State) → Second u t v s → Then v s) → (last : Turn State)
      → GoesOrEnds Past last → Follows site at middle 1 132 (whole_weight order first) First (stands site at w) last → GoesOn last
  one-more goes_on map (moves t) next c =
      let few = c.in_time in
      let some = c.no_sooner in
      follows-after site at middle high c.turns (rest t).0 (132 * (rest t).0) (1 + (rest t).0) (132 * (1 + (rest t).0)) (whole_weight order first)
      (whole_weight order second) all (stands site at w) (stands site middle c.after) c.path (omega (arith, some)) (omega (arith, few))
      (λ weight. let a = whole-both order weight first second in omega (arith, a))
      (Second c.after t) Then (rest t).1
      (maps-all (Second c.after t) Then (λ v s second. map t c.after next c.arrives v s second) (rest t).1)
      (goes_on t c.after next c.arrives)
  one-more goes_on map (ends e) next c = record {
    turns = c.turns;
    before = c.before;
    place = c.place;
    path = path-wider site.program site.words site.method at c.place at c.place c.turns (whole_weight order first) all (stands site at w) c.before
        (omega arith) (omega arith) (λ weight still. let a = whole-both order weight first second in omega (arith, a)) c.path;
    is_there = c.is_there;
    below = let a = c.below in omega (arith, a);
    no_sooner = c.no_sooner;
    in_time = c.in_time;
    last = ends-alike e (c.turns + 1) c.place (turn_in site c.before) c.last;
  }
  one-more goes_on map (leaves q e) next c = absurd next
  one-more goes_on map (asks q after) next c = absurd next

-- ---- all units

-- what a piece says of its goal is said of the operands alone that were there before
unit-from : (unit : Word) (at : ℕ) (before first after : Workspace) (t : State) → first.operands ≡ before.operands → UnitGoal unit at first after t
    → UnitGoal unit at before after t
unit-from (units.Plain i) at before first after t operands goal = goal ∙ operands
unit-from (units.Branch i slot) at before first after t operands goal = says-from i at before first after t.pc operands goal
unit-from (units.SlotMissing i) at before first after t operands goal = says-from i at before first after t.pc operands goal
unit-from (units.SlotIsBranch i word) at before first after t operands goal = says-from i at before first after t.pc operands goal
unit-from units.Call at before first after t operands goal = goal ∙ operands
unit-from (units.Trap kind value) at before first after t operands goal = goal ∙ operands

goal-from : (piece : List Word) (at : ℕ) (before first after : Workspace) (t : State) → first.operands ≡ before.operands
    → PieceGoal piece at first after t → PieceGoal piece at before after t
goal-from [] at before first after t operands goal = goal ∙ operands
goal-from (unit ∷ []) at before first after t operands goal = unit-from unit at before first after t operands goal
goal-from (unit ∷ next ∷ rest) at before first after t operands goal = goal-from (next ∷ rest) (at + 4) before first after t operands goal

-- what has run behind a Plain unit has run behind it and the others
run-more : (sets : SetLaws) (bank : ℕ) (known : ℕ → Bool) (i : _) (next : Word) (rest : List Word) (x t s : State) (w u v : Workspace)
    → t.pc ≡ x.pc + 4 → IsLawful (units.Plain i) → LeavesOthers (has_register (written_by i)) x t → IsDone bank known (written_by i) w u t
    → HasRun bank (gained (written_by i) known) (next ∷ rest) t u v s → HasRun bank known (units.Plain i ∷ next ∷ rest) x w v s
run-more sets bank known i next rest x t s w u v there is leaves_others done run = record {
  held = subst (λ k. HoldsOn bank k v s) (sym (sets.gained_joined (written_by i) (flat_map unit_writes (next ∷ rest)) known)) run.held;
  fields_kept = λ r positive below keeps. run.fields_kept r positive below keeps ∙ done.state.kept.fields_kept r positive below keeps;
  left = λ r positive below none.
      let parts = or_parts _ _ none in
      run.left r positive below parts.1
      ∙ leaves_others r positive below (sym (sets.is_membership (written_by i) r (sets.writes_numbers (units.Plain i) is) positive below) ∙ parts.0);
  goal = subst (λ pc. PieceGoal (next ∷ rest) pc w v s) there (goal-from (next ∷ rest) t.pc w u v s done.state.kept.operands_kept run.goal);
}

module _ (laws : PathLaws) (sets : SetLaws) (change : InstructionsChangeWhatTheyWrite) (need : NeedLaws)
    (unit_follows : (unit : Word) → IsLawful unit → UnitFollows unit) (site : Site) (order : Order) (bank : ℕ) (ready : IsReady site order) where
  abbrev RunsFrom : List Word → (ℕ → Bool) → ℕ → Workspace → State → ℕ → Type 0
  RunsFrom piece known at w x pc = Follows site at (at + size (units_code bank piece pc)) (piece_turns piece x).0 (132 * (piece_turns piece x).0)
      (whole_weight order (units_code bank piece pc)) (HasRun bank known piece x w) (stands site at w) (piece_turns piece x).1

  last-follows : (unit : Word) (known : ℕ → Bool) (at : ℕ) (w : Workspace) (x : State) → IsLawful unit → x.order ≡ order
      → LiesAt site.program site.method at (unit_code bank unit x.pc) → KnownByUnit known unit → HoldsOn bank known w x
      → Follows site at (at + size (unit_code bank unit x.pc)) (piece_turns (unit ∷ []) x).0 (132 * (piece_turns (unit ∷ []) x).0)
      (whole_weight order (unit_code bank unit x.pc)) (HasRun bank known (unit ∷ []) x w) (stands site at w) (piece_turns (unit ∷ []) x).1
  last-follows unit known at w x is order_is lies knows h =
      let code : List Step = unit_code bank unit x.pc in
      let n : ℕ = turn_count (unit_turns unit x) in
      alone site at (at + size code) n (whole_weight order code) (HasRun bank known (unit ∷ []) x w) (stands site at w)
      (last_turn (unit_turns unit x))
      (follows-after site at at (at + size code) 0 n (132 * n) n (132 * n) (λ weight. 0) (whole_weight order code) (whole_weight order code)
      (stands site at w) (stands site at w) (no-turns site.program site.words site.method at at (stands site at w) (omega arith)) (omega arith)
      (omega arith) (λ weight. omega arith)
      (UnitArrives bank known unit x.pc w) (HasRun bank known (unit ∷ []) x w) (last_turn (unit_turns unit x))
      (maps-last sets bank known w x unit is (unit-leaves change unit x))
      (unit_follows unit is site order bank known at w x ready order_is lies knows h))

  pub units-follow : (rest : List Word) (unit : Word) (known : ℕ → Bool) (at : ℕ) (w : Workspace) (x : State) → AreLawful (unit ∷ rest)
      → AreStraight (unit ∷ rest) → x.order ≡ order → x.pending ≡ None → x.pc + 4 * length (unit ∷ rest) < 2 ^ 32
      → LiesAt site.program site.method at (units_code bank (unit ∷ rest) x.pc) → AreAllKnown (is_needed (unit ∷ rest)) known → HoldsOn bank known w x
      → RunsFrom (unit ∷ rest) known at w x x.pc
  units-follow [] unit known at w x lawful straight order_is free below lies knows h =
      let code : List Step = unit_code bank unit x.pc in
      subst (λ whole. Follows site at (at + size whole) (piece_turns (unit ∷ []) x).0 (132 * (piece_turns (unit ∷ []) x).0) (whole_weight order whole)
      (HasRun bank known (unit ∷ []) x w) (stands site at w) (piece_turns (unit ∷ []) x).1) (sym (append-nil code))
      (last-follows unit known at w x lawful.0 order_is (subst (LiesAt site.program site.method at) (append-nil code) lies)
      (need.unit_known unit known lawful.0 (need.first_known unit [] known knows)) h)
  units-follow (next ∷ rest) (units.Plain i) known at w x lawful straight order_is free below lies knows h =
      let unit : Word = units.Plain i in
      let first : List Step = unit_code bank unit x.pc in
      let second : List Step = units_code bank (next ∷ rest) (x.pc + 4) in
      let parts = laws.parts site.program site.method at first second (unit-stays bank unit x.pc) lies in
      let known_then : ℕ → Bool = gained (written_by i) known in
      let sum = size-both first second in
      let end : at + size first + size second ≡ at + size (first ++ second) = omega (arith, sum) in
      let small : x.pc + 4 < 2 ^ 32 = omega (arith, below) in
      let there : (t : State) → IsPast (written_by i) x t → t.pc ≡ x.pc + 4 = λ t past. past.next.pc ∙ mod-eq_of_lt small in
      let fits : (t : State) → IsPast (written_by i) x t → t.pc + 4 * length (next ∷ rest) < 2 ^ 32 =
      λ t past. let e = there t past in omega (arith, below, e) in
      subst (λ high. Follows site at high (piece_turns (unit ∷ next ∷ rest) x).0 (132 * (piece_turns (unit ∷ next ∷ rest) x).0)
      (whole_weight order (first ++ second)) (HasRun bank known (unit ∷ next ∷ rest) x w) (stands site at w)
      (piece_turns (unit ∷ next ∷ rest) x).1) end
      (one-more site order at first second w (IsPast (written_by i) x) (piece_turns (next ∷ rest)) (UnitArrives bank known unit x.pc w)
      (HasRun bank known (unit ∷ next ∷ rest) x w) (λ u t. HasRun bank known_then (next ∷ rest) t u)
      (λ t u past arrives.
      subst (λ pc. RunsFrom (next ∷ rest) known_then (at + size first) u t pc) (there t past)
      (units-follow rest next known_then (at + size first) u t lawful.1 straight.1 (past.next.order ∙ order_is) past.next.pending (fits t past)
      (subst (λ pc. LiesAt site.program site.method (at + size first) (units_code bank (next ∷ rest) pc)) (sym (there t past)) parts.1)
      (need.others_known unit (next ∷ rest) known lawful.0 knows) arrives.state.held))
      (λ t u past arrives v s run. run-more sets bank known i next rest x t s w u v (there t past) lawful.0 past.left arrives run)
      (done i x) (plain-past change i x free lawful.0.0.is_none lawful.0.1)
      (unit_follows unit lawful.0 site order bank known at w x ready order_is parts.0
      (need.unit_known unit known lawful.0 (need.first_known unit (next ∷ rest) known knows)) h))
  units-follow (next ∷ rest) (units.Branch i slot) known at w x lawful straight order_is free below lies knows h = absurd
      (true≢false (sym straight.0))
  units-follow (next ∷ rest) (units.SlotMissing i) known at w x lawful straight order_is free below lies knows h = absurd
      (true≢false (sym straight.0))
  units-follow (next ∷ rest) (units.SlotIsBranch i word) known at w x lawful straight order_is free below lies knows h = absurd
      (true≢false (sym straight.0))
  units-follow (next ∷ rest) units.Call known at w x lawful straight order_is free below lies knows h = absurd (true≢false (sym straight.0))
  units-follow (next ∷ rest) (units.Trap kind value) known at w x lawful straight order_is free below lies knows h = absurd
      (true≢false (sym straight.0))
