-- The code of each unit.
use Rattle.std.proofs.Common.{◌≡◌, ℕ, ◌+◌, ◌*◌, ◌%◌, ◌^◌, ◌<◌, Bool, true, List, [], ◌∷◌, ◌++◌, Option, Some, None, inl, inr, refl, ap, subst, sym, ◌∙◌, arith, lit≤}
use Rattle.run_definition.specs.declared.order.Order.{Order}
use Rattle.run_definition.specs.Turn.{Turn, ends, «fault»}
use Rattle.run_definition.specs.declared.fault.Fault.{Fault}
use Rattle.mips_definition.specs.State.{State}
use Rattle.mips_definition.specs.Effect.{fetch_fault, branch_in_slot_fault}
use Rattle.mips_definition.specs.Step.{into_slot, past_slot, faulted}
use Rattle.mips_definition.specs.declared.inst.Inst.{Inst}
use Rattle.delay_slots.specs.declared.unit.Unit.TheVariants as units
use Rattle.delay_slots.specs.Turns.{UnitTurns, done, then_slot, turn_count, last_turn}
use Rattle.block_builder.specs.Registers.{Register, general, special, read_by, written_by}
use Rattle.jvm_definition.specs.declared.value.Value.TheVariants.{Int as int}
use Rattle.jvm_definition.specs.declared.instruction.Instruction.{Instruction}
use Rattle.jvm_definition.specs.Effect.{Workspace, with_operands}
use Rattle.emit_steps.specs.declared.step.Step.{Step}
use Rattle.emit_steps.specs.Widths.{size}
use Rattle.emit_steps.specs.Placing.{LiesAt}
use Rattle.emit_instructions.specs.Branching.{transfer_code}
use Rattle.emit_instructions.specs.Faulting.{fault_code}
use Rattle.emit_instructions.specs.Units.{instruction_code, next_address}
use Rattle.word_emitter.specs.Pieces.{is_likely}
use Rattle.emit_simulation_laws.specs.Knowing.{gaining, AreKnown, gained}
use Rattle.emit_simulation_laws.specs.Lawful.{IsTransfer, IsInstruction, KnownByBranch}
use Rattle.emit_simulation_laws.specs.Holding.{HoldsOn}
use Rattle.emit_simulation_laws.specs.Sites.{Site, stands, whole_weight}
use Rattle.emit_simulation_laws.specs.Following.{LastTurn, Follows}
use Rattle.emit_simulation_laws.specs.Behind.{IsDone, HasGone, SaysGoal}
use Rattle.emit_simulation_laws.specs.Laws.{PathLaws}
use Rattle.emit_simulation_laws.proofs.GuestFollows.CodeLaws.{CodeLaws, code-laws}
use Rattle.emit_instructions_laws.specs.Instructions.{IsReady, most_turns}
use Rattle.emit_instructions_laws.specs.Units.{AllFollow, AllUnitsFollow}
use Rattle.emit_instructions_laws.specs.Past.{FollowsPast, SlotsArePassedOver}
use Rattle.emit_instructions_laws.proofs.UnitLaws.Goals.{GoesTo, slot-goes}
use Rattle.emit_instructions_laws.proofs.UnitLaws.Joining.{follows-wider}
use Rattle.emit_instructions_laws.proofs.UnitLaws.Fronts.{PassesOver}
use Rattle.emit_instructions_laws.proofs.UnitLaws.Links.{HasPut, link_written, link_state}
use Rattle.emit_instructions_laws.proofs.UnitLaws.Reaching.{slot-joined}
use Rattle.emit_instructions_laws.proofs.UnitLaws.Transfers.{Does, link_of, link-written, transfer-does}
use Rattle.emit_instructions_laws.proofs.UnitLaws.Calls.{call-follows}

-- ---- what is gained

gained-joined : (first second : List Register) (known : ℕ → Bool) → gained second (gained first known) ≡ gained (first ++ second) known
gained-joined [] second known = refl
gained-joined (general d ∷ first) second known = gained-joined first second (gaining known d)
gained-joined (special name ∷ first) second known = gained-joined first second known

holds-known : {known more : ℕ → Bool} (bank : ℕ) (w : Workspace) (s : State) → ((r : ℕ) → 0 < r → r < 32 → more r ≡ true → known r ≡ true) → HoldsOn bank known w s → HoldsOn bank more w s
holds-known bank w s fewer h = record {
  register_is = λ r above below is. h.register_is r above below (fewer r above below is);
  register_word = h.register_word;
  hi_is = h.hi_is;
  hi_word = h.hi_word;
  lo_is = h.lo_is;
  lo_word = h.lo_word;
  pc = h.pc;
  pc_is = h.pc_is;
  link_is = h.link_is;
  readable = h.readable;
  readable_is = h.readable_is;
  writable = h.writable;
  writable_is = h.writable_is;
  memory_held = h.memory_held;
}

-- ---- a link changes a register alone

link-pc : (link : Option ℕ) (x : State) → (link_state link x).pc ≡ x.pc
link-pc None x = refl
link-pc (Some r) x = refl

link-order : (link : Option ℕ) (x : State) → (link_state link x).order ≡ x.order
link-order None x = refl
link-order (Some r) x = refl

-- ---- faults

fault-follows : (laws : CodeLaws) (site : Site) (order : Order) (at kind pc value : ℕ) (w : Workspace) (Arrives : Workspace → State → Type 0) → LiesAt site.program site.method at (fault_code kind pc value) → Follows site at (at + size (fault_code kind pc value)) 1 most_turns (whole_weight order (fault_code kind pc value)) Arrives (stands site at w) (ends («fault» (record { kind = kind; pc = pc; value = value })))
fault-follows laws site order at kind pc value w Arrives lies =
    let ending : Fault = record { kind = kind; pc = pc; value = value } in
    laws.fault_follows site order at 1 most_turns 3 3 (fault_code kind pc value) w (with_operands w (int value ∷ int pc ∷ int kind ∷ w.operands)) ending (LastTurn site (at + size (fault_code kind pc value)) most_turns (whole_weight order (fault_code kind pc value)) Arrives (ends («fault» ending))) lies refl (lit≤ tt) (lit≤ tt) (λ place. refl)

-- ---- branches with their slots

module _ (laws : PathLaws) (site : Site) (order : Order) (bank : ℕ) (known : ℕ → Bool) (at : ℕ) (w : Workspace) (x : State) (h : HoldsOn bank known w x) (i : Inst) (is : IsTransfer i) (reads : AreKnown known (read_by i)) (slot : List Step) (lies : LiesAt site.program site.method at (transfer_code bank i x.pc slot)) (written slot_written : List Register) (same : gained slot_written (gained (link_written (link_of i)) known) ≡ gained written known) (second : State → Turn State) where
  abbrev code : List Step
  code = transfer_code bank i x.pc slot

  abbrev after_branch : ℕ → Bool
  after_branch = gained (link_written (link_of i)) known

  abbrev linked_state : State
  linked_state = link_state (link_of i) x

  abbrev FollowsBy : ((Instruction → ℕ) → ℕ) → UnitTurns → Type 0
  FollowsBy total turns = Follows site at (at + size code) (turn_count turns) (132 * turn_count turns) total (HasGone bank known written i x.pc w) (stands site at w) (last_turn turns)

  abbrev FollowsTurns : UnitTurns → Type 0
  FollowsTurns turns = FollowsBy (whole_weight order code) turns

  -- a likely branch that is not taken

  module _ (passed_over : is_likely i ≡ true → (r : ℕ) → 0 < r → r < 32 → gained written known r ≡ true → after_branch r ≡ true) where
    passes-gone : is_likely i ≡ true → (u : Workspace) → HasPut bank known (link_of i) (SaysGoal i x.pc w) ((x.pc + 8) % 2 ^ 32) w u x → HasGone bank known written i x.pc w u (past_slot linked_state)
    passes-gone likely u has = record {
      held = holds-known bank u linked_state (passed_over likely) has.held;
      fields_kept = has.fields_kept;
      goal = subst (SaysGoal i x.pc w u) (ap (λ pc. (pc + 8) % 2 ^ 32) (sym (link-pc (link_of i) x))) has.goal;
    }

    passes-follows : is_likely i ≡ true → (last : Turn State) → (passes : PassesOver site order bank known (link_of i) (SaysGoal i x.pc w) at w x code slot last) → FollowsBy passes.past.total (then_slot last second)
    passes-follows likely last passes =
        let c = passes.past.comes in
        subst (λ (d : Turn State). FollowsBy passes.past.total (then_slot d second)) (sym passes.done_is)
        (record {
          turns = c.turns;
          after = c.after;
          path = c.path;
          no_sooner = c.no_sooner;
          in_time = c.in_time;
          arrives = passes-gone likely c.after c.arrives;
        })

    past-does : (last : Turn State) → Does site order bank known (link_of i) (SaysGoal i x.pc w) at w x code slot (is_likely i) last → turn_count (then_slot last second) ≡ 1 → FollowsPast site order at code slot (HasGone bank known written i x.pc w) w (then_slot last second)
    past-does last (inl goes) one =
        let two : 2 ≡ 1 = subst (λ (d : Turn State). turn_count (then_slot d second) ≡ 1) goes.done_is one in
        absurd (omega (arith, two))
    past-does last (inr passes) one = record {
      total = passes.1.past.total;
      weighs = passes.1.past.weighs;
      follows = passes-follows passes.0 last passes.1;
    }

    pub branch-past : turn_count (then_slot (done i x) second) ≡ 1 → FollowsPast site order at code slot (HasGone bank known written i x.pc w) w (then_slot (done i x) second)
    branch-past one = past-does (done i x) (transfer-does laws site order bank known w x h at slot i is reads lies) one

  -- any branch

  module _ (slot_goes : (target : ℕ) → GoesTo target (second (into_slot linked_state target))) (slot_follows : (target place : ℕ) (v : Workspace) → LiesAt site.program site.method place slot → HasPut bank known (link_of i) (SaysGoal i x.pc w) target w v x → Follows site place (place + size slot) 1 most_turns (whole_weight order slot) (IsDone bank after_branch slot_written v) (stands site place v) (second (into_slot linked_state target))) (passed_over : is_likely i ≡ true → (r : ℕ) → 0 < r → r < 32 → gained written known r ≡ true → after_branch r ≡ true) where
    by-turn : Does site order bank known (link_of i) (SaysGoal i x.pc w) at w x code slot (is_likely i) (done i x) → FollowsTurns (then_slot (done i x) second)
    by-turn (inl goes) =
        subst (λ (d : Turn State). FollowsTurns (then_slot d second)) (sym goes.done_is)
        (slot-joined site order bank known (link_of i) i goes.target 16 at w x code slot goes.reaches (lit≤ tt) written slot_written same (second (into_slot linked_state goes.target)) (slot_goes goes.target)
        (λ v has. slot_follows goes.target goes.reaches.place v goes.reaches.lies has))
    by-turn (inr passes) =
        let past = passes.1.past in
        follows-wider site (at + size code) past.total (whole_weight order code) (HasGone bank known written i x.pc w) (λ weight. let a = past.weighs weight in omega (arith, a)) at (turn_count (then_slot (done i x) second)) (132 * turn_count (then_slot (done i x) second)) (stands site at w) (last_turn (then_slot (done i x) second))
        (passes-follows passed_over passes.0 (done i x) passes.1)

    pub branch-follows : FollowsTurns (then_slot (done i x) second)
    branch-follows = by-turn (transfer-does laws site order bank known w x h at slot i is reads lies)

-- what the link alone gains
link-gained : (i : Inst) (known : ℕ → Bool) → IsTransfer i → gained (link_written (link_of i)) known ≡ gained (written_by i) known
link-gained i known is = ap (λ registers. gained registers known) (link-written i is.is_one)

-- what the link and the slot gain, and what is known where the slot is passed over
slot-gained : (i slot : Inst) (known : ℕ → Bool) → IsTransfer i → gained (written_by slot) (gained (link_written (link_of i)) known) ≡ gained (written_by i ++ written_by slot) known
slot-gained i slot known is = ap (gained (written_by slot)) (link-gained i known is) ∙ gained-joined (written_by i) (written_by slot) known

slot-passed : (i slot : Inst) (known : ℕ → Bool) → IsTransfer i → KnownByBranch known i slot → is_likely i ≡ true → (r : ℕ) → 0 < r → r < 32 → gained (written_by i ++ written_by slot) known r ≡ true → gained (link_written (link_of i)) known r ≡ true
slot-passed i slot known is knows likely r above below more =
    subst (λ k. k r ≡ true) (sym (link-gained i known is))
    (knows.passed_over likely r above below (subst (λ k. k r ≡ true) (sym (gained-joined (written_by i) (written_by slot) known)) more))

pub unit-follows : PathLaws → AllFollow → AllUnitsFollow
unit-follows laws all (units.Plain i) is = λ site order bank known at w x ready order_is lies knows h.
    all i is.0 site order bank known at w x ready order_is lies is.0.fields knows h
unit-follows laws all units.Call is = λ site order bank known at w x ready order_is lies knows h.
    call-follows (code-laws laws) site order bank known at w x lies knows h
unit-follows laws all (units.Trap kind value) is = λ site order bank known at w x ready order_is lies knows h.
    fault-follows (code-laws laws) site order at kind x.pc value w (IsDone bank known [] w) lies
unit-follows laws all (units.Branch i slot) is = λ site order bank known at w x ready order_is lies knows h.
    let link = link_of i in
    branch-follows laws site order bank known at w x h i is.0 knows.branch (instruction_code bank slot (next_address x.pc)) lies (written_by i ++ written_by slot) (written_by slot) (slot-gained i slot known is.0) (done slot)
    (λ target. slot-goes (into_slot (link_state link x) target) target refl slot is.1.is_none)
    (λ target place v there has.
    slot-at site order bank (gained (link_written link) known) place v (into_slot (link_state link x) target) slot (next_address x.pc) (ap (λ pc. (pc + 4) % 2 ^ 32) (link-pc link x)) all is.1 ready (link-order link x ∙ order_is) there
    (subst (λ k. AreKnown k (read_by slot)) (sym (link-gained i known is.0)) knows.slot) has.held)
    (slot-passed i slot known is.0 knows)
  where
    slot-at : (site : Site) (order : Order) (bank : ℕ) (known : ℕ → Bool) (place : ℕ) (v : Workspace) (s : State) (slot : Inst) (pc : ℕ) → s.pc ≡ pc → AllFollow → IsInstruction slot → IsReady site order → s.order ≡ order → LiesAt site.program site.method place (instruction_code bank slot pc) → AreKnown known (read_by slot) → HoldsOn bank known v s → Follows site place (place + size (instruction_code bank slot pc)) 1 most_turns (whole_weight order (instruction_code bank slot pc)) (IsDone bank known (written_by slot) v) (stands site place v) (done slot s)
    slot-at site order bank known place v s slot pc there all is ready order_is lies reads h =
        subst (λ p. Follows site place (place + size (instruction_code bank slot p)) 1 most_turns (whole_weight order (instruction_code bank slot p)) (IsDone bank known (written_by slot) v) (stands site place v) (done slot s)) there
        (all slot is site order bank known place v s ready order_is (subst (λ p. LiesAt site.program site.method place (instruction_code bank slot p)) (sym there) lies) is.fields reads h)
unit-follows laws all (units.SlotMissing i) is = λ site order bank known at w x ready order_is lies knows h.
    let link = link_of i in
    branch-follows laws site order bank known at w x h i is knows (fault_code fetch_fault (next_address x.pc) (next_address x.pc)) lies (written_by i) [] (link-gained i known is) (λ s. faulted s fetch_fault s.pc)
    (λ target. tt)
    (λ target place v there has.
    subst (λ pc. Follows site place (place + size (fault_code fetch_fault (next_address x.pc) (next_address x.pc))) 1 most_turns (whole_weight order (fault_code fetch_fault (next_address x.pc) (next_address x.pc))) (IsDone bank (gained (link_written link) known) [] v) (stands site place v) (ends («fault» (record { kind = fetch_fault; pc = (pc + 4) % 2 ^ 32; value = (pc + 4) % 2 ^ 32 })))) (sym (link-pc link x))
    (fault-follows (code-laws laws) site order place fetch_fault (next_address x.pc) (next_address x.pc) v (IsDone bank (gained (link_written link) known) [] v) there))
    (λ likely r above below more. subst (λ k. k r ≡ true) (sym (link-gained i known is)) more)
unit-follows laws all (units.SlotIsBranch i word) is = λ site order bank known at w x ready order_is lies knows h.
    let link = link_of i in
    branch-follows laws site order bank known at w x h i is.0 knows (fault_code branch_in_slot_fault (next_address x.pc) word) lies (written_by i) [] (link-gained i known is.0) (λ s. faulted s branch_in_slot_fault word)
    (λ target. tt)
    (λ target place v there has.
    subst (λ pc. Follows site place (place + size (fault_code branch_in_slot_fault (next_address x.pc) word)) 1 most_turns (whole_weight order (fault_code branch_in_slot_fault (next_address x.pc) word)) (IsDone bank (gained (link_written link) known) [] v) (stands site place v) (ends («fault» (record { kind = branch_in_slot_fault; pc = (pc + 4) % 2 ^ 32; value = word })))) (sym (link-pc link x))
    (fault-follows (code-laws laws) site order place branch_in_slot_fault (next_address x.pc) word v (IsDone bank (gained (link_written link) known) [] v) there))
    (λ likely r above below more. subst (λ k. k r ≡ true) (sym (link-gained i known is.0)) more)

-- a branch whose slot is passed over
pub slot-past : PathLaws → SlotsArePassedOver
slot-past laws i slot site order bank known at w x is lies knows h one =
    branch-past laws site order bank known at w x h i is.0 knows.branch (instruction_code bank slot (next_address x.pc)) lies (written_by i ++ written_by slot) (written_by slot) (slot-gained i slot known is.0) (done slot) (slot-passed i slot known is.0 knows) one
