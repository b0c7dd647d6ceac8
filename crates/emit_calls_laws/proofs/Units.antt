-- The code of a unit holds the guest's state where it calls the system.
use Rattle.std.proofs.Common.{◌≡◌, ℕ, ◌+◌, ◌==◌, Bool, true, false, not, ◌||◌, if◌then◌else◌, List, [], ◌∷◌, Option, Some, None, is_none, inl, inr, refl, ap, subst, sym, ◌∙◌, arith}
use Rattle.std.proofs.lemmas.Bool.{false≢true, true≢false}
use Rattle.run_definition.specs.declared.order.Order.{Order}
use Rattle.run_definition.specs.Answer.{Answer}
use Rattle.run_definition.specs.Turn.{Turn, leaves, asks, exit}
use Rattle.run_definition.specs.Words.{signed_of}
use Rattle.run_definition.specs.declared.call.Call.{Call}
use Rattle.mips_decode.specs.Encoding.{word_of}
use Rattle.mips_definition.specs.Arithmetic.{arithmetic_result, arithmetic_immediate_result}
use Rattle.mips_definition.specs.Effect.{goes_on, faults, fetch_fault, branch_in_slot_fault, read_align_fault, read_unmapped_fault, write_align_fault, write_refused_fault}
use Rattle.mips_definition.specs.Loads.{access_address, concluded, load_aligned, loaded_word, store_aligned, store_allowed, memory_stored}
use Rattle.mips_definition.specs.Traps.{trap_by, trap_holds, trap_immediate_holds}
use Rattle.mips_definition.specs.State.{State, register, with_register}
use Rattle.mips_definition.specs.Step.{call_of, faulted, into_slot, result_effect}
use Rattle.mips_definition.specs.declared.inst.Inst.{Inst}
use Rattle.mips_definition.specs.declared.inst.Inst.TheVariants as inst
use Rattle.mips_definition.specs.declared.names.hi_lo.HiLo.TheVariants.{Hi, Lo}
use Rattle.mips_definition.specs.declared.names.load_name.LoadName.TheVariants.{Lw}
use Rattle.mips_definition.specs.declared.names.store_name.StoreName.TheVariants.{Sw}
use Rattle.delay_slots.specs.declared.unit.Unit.TheVariants as units
use Rattle.delay_slots.specs.Turns.{UnitTurns, done, done_by, last_turn, then_slot}
use Rattle.delay_slots.specs.Units.{is_branch}
use Rattle.block_builder.specs.Registers.{Register, general, special, read_by, read_by_call}
use Rattle.jvm_definition.specs.declared.instruction.Instruction.TheVariants.{CallHost}
use Rattle.jvm_definition.specs.declared.value.Value.{Value}
use Rattle.jvm_definition.specs.declared.value.Value.TheVariants.{Int as int}
use Rattle.jvm_definition.specs.HostMemory.{HostMemory}
use Rattle.jvm_definition.specs.Effect.{Workspace, asks_host, instruction_effect, with_operands}
use Rattle.jvm_definition.specs.Step.{JvmState, after_host, asked_host, frame_placed, host_question}
use Rattle.emit_steps.specs.declared.step.Step.{Step}
use Rattle.emit_steps.specs.declared.step.Step.TheVariants as step
use Rattle.emit_steps.specs.Outcomes.{Outcome, stopped, later, outcome, outcome_from, after_instruction}
use Rattle.emit_steps.specs.Placing.{LiesAt}
use Rattle.emit_steps.specs.Widths.{bytes_before}
use Rattle.emit_layout.specs.FieldNumbers.{readable_field, writable_field}
use Rattle.emit_instructions.specs.Access.{get_register, put_register, push_word, put_field}
use Rattle.emit_instructions.specs.Accessing.{call_code}
use Rattle.emit_instructions.specs.Branching.{transfer_code}
use Rattle.emit_instructions.specs.Faulting.{fault_code}
use Rattle.emit_instructions.specs.Fields.{linked_field}
use Rattle.emit_instructions.specs.Units.{instruction_code, next_address}
use Rattle.emit_paths_laws.specs.Paths.{PathWithin}
use Rattle.emit_simulation_laws.specs.Knowing.{AreKnown, IsKnown, gained, gaining}
use Rattle.emit_simulation_laws.specs.Lawful.{IsLawful, IsTransfer, KnownByBranch, has_own_unit}
use Rattle.emit_simulation_laws.specs.Behind.{SaysGoal}
use Rattle.word_emitter.specs.Pieces.{is_likely}
use Rattle.emit_instructions_laws.proofs.UnitLaws.Fronts.{GoesIn}
use Rattle.emit_simulation_laws.specs.Laws.{PathLaws}
use Rattle.emit_simulation_laws.specs.Holding.{HoldsOn}
use Rattle.emit_simulation_laws.specs.Sites.{Site, stands, turn_in, whole_weight}
use Rattle.emit_simulation_laws.proofs.GuestFollows.Outcomes.{goes}
use Rattle.emit_simulation_laws.proofs.RegisterLaws.Reading.{register-pushed}
use Rattle.emit_instructions_laws.proofs.UnitLaws.Links.{link_state, link_written}
use Rattle.emit_instructions_laws.proofs.UnitLaws.Transfers.{Does, link_of, link-written, transfer-does}
use Rattle.std.specs.List.{sum_by}
use Rattle.std.proofs.lemmas.List.Sums.{sum_by-append}
use Rattle.emit_paths_laws.specs.Classes.{executed}
use Rattle.emit_paths_laws.proofs.Weighing.{weigh-front}
use Rattle.emit_simulation_laws.proofs.GuestFollows.Weights.{weigh-whole}
use Rattle.run_simulation_laws.specs.Trail.{moved}
use Rattle.run_simulation_laws.proofs.Passing.{advanced_add, moved_add}
use Rattle.emit_calls_laws.specs.Calls.{makes_call}
use Rattle.emit_calls_laws.specs.Units.{CodeComesToCall, UnitsHoldAtCalls, last_state}

-- ---- which turns call the system

result-calls-none : (s t : State) (word r : ℕ) (result : Option ℕ) → makes_call (done_by (result_effect s word r result) t) ≡ false
result-calls-none s t word r None = refl
result-calls-none s t word r (Some result) = refl

access-calls-none : (first second : Bool) (a b c d : ℕ) (t s : State) → makes_call (done_by (if first then faults a b else if second then faults c d else goes_on t) s) ≡ false
access-calls-none true second a b c d t s = refl
access-calls-none false true a b c d t s = refl
access-calls-none false false a b c d t s = refl

trap-calls-none : (holds : Bool) (word : ℕ) (s t : State) → makes_call (done_by (trap_by holds word s) t) ≡ false
trap-calls-none true word s t = refl
trap-calls-none false word s t = refl

-- of instructions that are no branch SYSCALL alone
IsSyscall : Inst → Type 0
IsSyscall i = (code : ℕ) × (i ≡ inst.Syscall code)

no-call : (A : Type 0) (x : Turn State) → makes_call x ≡ false → makes_call x ≡ true → A
no-call A x none is = absurd (false≢true (sym none ∙ is))

syscall-alone : (i : Inst) (s : State) → is_branch i ≡ false → makes_call (done i s) ≡ true → IsSyscall i
unfolding IsSyscall
syscall-alone (inst.Arithmetic name rs rt rd) s none is = no-call _ (done (inst.Arithmetic name rs rt rd) s) (result-calls-none s s (word_of (inst.Arithmetic name rs rt rd)) rd (arithmetic_result name (register s rs) (register s rt))) is
syscall-alone (inst.ArithmeticImmediate name rs rt imm) s none is = no-call _ (done (inst.ArithmeticImmediate name rs rt imm) s) (result-calls-none s s (word_of (inst.ArithmeticImmediate name rs rt imm)) rt (arithmetic_immediate_result name (register s rs) imm)) is
syscall-alone (inst.VariableShift name rs rt rd) s none is = absurd (false≢true is)
syscall-alone (inst.Shift name rt rd sa) s none is = absurd (false≢true is)
syscall-alone (inst.JumpRegister rs) s none is = absurd (true≢false none)
syscall-alone (inst.JumpAndLinkRegister rs rd) s none is = absurd (true≢false none)
syscall-alone (inst.Syscall code) s none is = (code, refl)
syscall-alone (inst.Break code) s none is = absurd (false≢true is)
syscall-alone (inst.MoveFrom Hi rd) s none is = absurd (false≢true is)
syscall-alone (inst.MoveFrom Lo rd) s none is = absurd (false≢true is)
syscall-alone (inst.MoveTo Hi rs) s none is = absurd (false≢true is)
syscall-alone (inst.MoveTo Lo rs) s none is = absurd (false≢true is)
syscall-alone (inst.Product name rs rt) s none is = absurd (false≢true is)
syscall-alone (inst.BranchSign name rs imm) s none is = absurd (true≢false none)
syscall-alone (inst.Jump name index) s none is = absurd (true≢false none)
syscall-alone (inst.BranchEqual name rs rt imm) s none is = absurd (true≢false none)
syscall-alone (inst.BranchZero name rs imm) s none is = absurd (true≢false none)
syscall-alone (inst.LogicalImmediate name rs rt imm) s none is = absurd (false≢true is)
syscall-alone (inst.LoadUpper rt imm) s none is = absurd (false≢true is)
syscall-alone (inst.Load name rs rt imm) s none is =
    let a : ℕ = access_address s rs imm in
    let t : State = with_register s rt (loaded_word name s.order s.memory a (register s rt)) in
    no-call _ (done (inst.Load name rs rt imm) s) (access-calls-none (not (load_aligned name a)) (is_none (s.memory.byte a)) read_align_fault a read_unmapped_fault a t s) is
syscall-alone (inst.Store name rs rt imm) s none is =
    let a : ℕ = access_address s rs imm in
    let t : State = record s { memory = memory_stored name s.order s.memory a (register s rt) } in
    no-call _ (done (inst.Store name rs rt imm) s) (access-calls-none (not (store_aligned name a)) (not (store_allowed name s.order s.memory a)) write_align_fault a write_refused_fault a t s) is
syscall-alone (inst.Trap name rs rt code) s none is = no-call _ (done (inst.Trap name rs rt code) s) (trap-calls-none (trap_holds name (register s rs) (register s rt)) (word_of (inst.Trap name rs rt code)) s s) is
syscall-alone (inst.TrapImmediate name rs imm) s none is = no-call _ (done (inst.TrapImmediate name rs imm) s) (trap-calls-none (trap_immediate_holds name (register s rs) imm) (word_of (inst.TrapImmediate name rs imm)) s s) is
syscall-alone (inst.Sync sa) s none is = absurd (false≢true is)
syscall-alone (inst.LoadLinked rs rt imm) s none is =
    let a : ℕ = access_address s rs imm in
    let t : State = record (with_register s rt (loaded_word Lw s.order s.memory a (register s rt))) { load_link = Some a } in
    no-call _ (done (inst.LoadLinked rs rt imm) s) (access-calls-none (not (load_aligned Lw a)) (is_none (s.memory.byte a)) read_align_fault a read_unmapped_fault a t s) is
syscall-alone (inst.StoreConditional rs rt imm) s none is =
    let a : ℕ = access_address s rs imm in
    no-call _ (done (inst.StoreConditional rs rt imm) s) (access-calls-none (not (store_aligned Sw a)) (not (store_allowed Sw s.order s.memory a)) write_align_fault a write_refused_fault a (concluded s rt a) s) is
syscall-alone (inst.Reserved w) s none is = absurd (false≢true is)
syscall-alone (inst.Float w) s none is = absurd (false≢true is)

-- ---- fewer known registers

gained-more : (registers : List Register) (known : ℕ → Bool) (r : ℕ) → known r ≡ true → gained registers known r ≡ true
gained-more [] known r is = is
gained-more (general d ∷ registers) known r is = gained-more registers (gaining known d) r (or-right (d == r) (known r) is)
  where
    or-right : (a b : Bool) → b ≡ true → (a || b) ≡ true
    or-right true b is = refl
    or-right false b is = is
gained-more (special name ∷ registers) known r is = gained-more registers known r is

holds-fewer : {known fewer : ℕ → Bool} (bank : ℕ) (w : Workspace) (s : State) → ((r : ℕ) → fewer r ≡ true → known r ≡ true) → HoldsOn bank known w s → HoldsOn bank fewer w s
holds-fewer bank w s are h = record {
  register_is = λ r above below is. h.register_is r above below (are r is);
  register_word = h.register_word;
  hi_is = h.hi_is;
  hi_word = h.hi_word;
  lo_is = h.lo_is;
  lo_word = h.lo_word;
  pc = h.pc;
  pc_is = h.pc_is;
  link_is = h.link_is;
  readable = h.readable;
  readable_is = h.readable_is;
  writable = h.writable;
  writable_is = h.writable_is;
  memory_held = h.memory_held;
}

-- ---- SYSCALL

asked-calls : (call : Call) (memory : HostMemory) (next : Answer → JvmState) → makes_call (asked_host call memory next) ≡ true
asked-calls call memory next = by_number (call.number == 1)
  where
    by_number : (b : Bool) → makes_call (if b then leaves (host_question call memory) (exit (signed_of call.a0)) else asks (host_question call memory) next) ≡ true
    by_number true = refl
    by_number false = refl

module _ (laws : PathLaws) (site : Site) (order : Order) (bank : ℕ) (known : ℕ → Bool) (at : ℕ) (w : Workspace) (s : State) (lies : LiesAt site.program site.method at (call_code bank)) (reads : AreKnown known read_by_call) (h : HoldsOn bank known w s) where
  abbrev behind : List Step
  behind = put_register bank 2 ∷ push_word 0 ∷ put_field linked_field ∷ []

  abbrev given : List Value
  given = w.fields writable_field ∷ w.fields readable_field ∷ w.operands

  abbrev asking : Workspace
  asking = with_operands w (int (register s 7) ∷ int (register s 6) ∷ int (register s 5) ∷ int (register s 4) ∷ int (register s 2) ∷ given)

  pushes : (r : ℕ) (code : List Step) (operands : List Value) (o : Outcome) → IsKnown known r → outcome site.program site.words code (with_operands w (int (register s r) ∷ operands)) ≡ o → outcome site.program site.words (get_register bank r ∷ code) (with_operands w operands) ≡ later o
  pushes r code operands o is rest = register-pushed site.program site.words bank r known code (with_operands w operands) s h is ∙ ap later rest

  host-effect : instruction_effect site.program site.words CallHost asking ≡ asks_host (call_of s) (Some h.readable) (Some h.writable) w
  host-effect = simp (h.readable_is, h.writable_is, h.memory_held.readable_there, h.memory_held.writable_there) refl

  call-runs : outcome site.program site.words (call_code bank) w ≡ stopped 7 7 asking (asks_host (call_of s) (Some h.readable) (Some h.writable) w)
  call-runs =
      ap (λ o. later (later o))
      (pushes 2 (get_register bank 4 ∷ get_register bank 5 ∷ get_register bank 6 ∷ get_register bank 7 ∷ step.Does CallHost ∷ behind) given _ reads.0
      (pushes 4 (get_register bank 5 ∷ get_register bank 6 ∷ get_register bank 7 ∷ step.Does CallHost ∷ behind) (int (register s 2) ∷ given) _ reads.1.0
      (pushes 5 (get_register bank 6 ∷ get_register bank 7 ∷ step.Does CallHost ∷ behind) (int (register s 4) ∷ int (register s 2) ∷ given) _ reads.1.1.0
      (pushes 6 (get_register bank 7 ∷ step.Does CallHost ∷ behind) (int (register s 5) ∷ int (register s 4) ∷ int (register s 2) ∷ given) _ reads.1.1.1.0
      (pushes 7 (step.Does CallHost ∷ behind) (int (register s 6) ∷ int (register s 5) ∷ int (register s 4) ∷ int (register s 2) ∷ given) _ reads.1.1.1.1.0
      (ap (λ e. after_instruction asking e (outcome_from site.program site.words behind 0)) host-effect))))))

  abbrev place : ℕ
  place = at + bytes_before (call_code bank) 7

  path : PathWithin site.program site.words site.method at 0 (call_code bank) site.others (stands site (at + 0) w) (stopped 7 7 asking (asks_host (call_of s) (Some h.readable) (Some h.writable) w))
  path = goes laws.paths site order at (call_code bank) lies 0 w (stopped 7 7 asking (asks_host (call_of s) (Some h.readable) (Some h.writable) w)) call-runs

  abbrev Comes : ℕ → Type 0
  Comes a = CodeComesToCall site order (call_code bank) bank known s (stands site a w)

  call-comes : Comes at
  call-comes =
      let here : at + 0 ≡ at = omega arith in
      subst Comes here
      (record {
        turns = 7;
        at = stands site place asking;
        comes = path.0.comes;
        weighs = λ weight still. let a = path.0.counts weight still in let b = weigh-front weight 7 (call_code bank) in let c = weigh-whole order weight (call_code bank) in omega (arith, a, b, c);
        calls = ap makes_call path.1.turns ∙ asked-calls (call_of s) (record { heap = w.heap; readable = Some h.readable; writable = Some h.writable }) (λ answer. frame_placed site.method path.1.line.next (after_host (call_of s) (record { heap = w.heap; readable = Some h.readable; writable = Some h.writable }) w answer) site.others);
        held = record { at = place; workspace = asking; is_there = refl; held = h };
      })

-- ---- in a delay slot

module _ (laws : PathLaws) (site : Site) (order : Order) (bank : ℕ) (known : ℕ → Bool) (at : ℕ) (w : Workspace) (x : State) (h : HoldsOn bank known w x) where
  abbrev ComesBy : List Step → UnitTurns → Type 0
  ComesBy code turns = makes_call (last_turn turns) ≡ true → CodeComesToCall site order code bank known (last_state x turns) (stands site at w)

  module _ (i slot : Inst) (is : IsLawful (units.Branch i slot)) (knows : KnownByBranch known i slot) where
    abbrev link : Option ℕ
    link = link_of i

    abbrev slot_code : List Step
    slot_code = instruction_code bank slot (next_address x.pc)

    abbrev code : List Step
    code = transfer_code bank i x.pc slot_code

    abbrev known_there : ℕ → Bool
    known_there = gained (link_written link) known

    -- the link is what the branch writes
    reads-there : AreKnown known_there (read_by slot)
    reads-there = subst (λ registers. AreKnown (gained registers known) (read_by slot)) (sym (link-written i is.0.is_one)) knows.slot

    module _ (goes_in : GoesIn site order bank known link (SaysGoal i x.pc w) at w x code slot_code (done i x)) where
      abbrev in_slot : State
      in_slot = into_slot (link_state link x) goes_in.target

      slot-comes : makes_call (done slot in_slot) ≡ true → CodeComesToCall site order code bank known in_slot (stands site at w)
      unfolding IsSyscall
      slot-comes calls_so =
          let syscall = syscall-alone slot in_slot is.1.is_none calls_so in
          let reached = goes_in.reaches.comes in
          let v = reached.after in
          let lies : LiesAt site.program site.method goes_in.reaches.place (call_code bank) = subst (λ (j : Inst). LiesAt site.program site.method goes_in.reaches.place (instruction_code bank j (next_address x.pc))) syscall.1 goes_in.reaches.lies in
          let reads : AreKnown known_there read_by_call = subst (λ (j : Inst). AreKnown known_there (read_by j)) syscall.1 reads-there in
          let c = call-comes laws site order bank known_there goes_in.reaches.place v in_slot lies reads reached.arrives.held in
          record {
            turns = reached.turns + c.turns;
            at = c.at;
            comes = advanced_add (turn_in site) reached.turns c.turns (stands site at w) (stands site goes_in.reaches.place v) reached.path.comes ∙ c.comes;
            weighs = λ weight still.
                let first = reached.path.counts weight still in
                let next = c.weighs weight still in
                let whole = goes_in.reaches.weighs weight in
                let trail = ap (sum_by (executed site.program weight)) (moved_add (turn_in site) reached.turns c.turns (stands site at w) (stands site goes_in.reaches.place v) reached.path.comes) in
                let sum = sum_by-append (executed site.program weight) (moved (turn_in site) reached.turns (stands site at w)) (moved (turn_in site) c.turns (stands site goes_in.reaches.place v)) in
                let same : whole_weight order slot_code weight ≡ whole_weight order (call_code bank) weight = ap (λ (j : Inst). whole_weight order (instruction_code bank j (next_address x.pc)) weight) syscall.1 in
                omega (arith, first, next, whole, trail, sum, same);
            calls = c.calls;
            held = record { at = c.held.at; workspace = c.held.workspace; is_there = c.held.is_there; held = holds-fewer bank c.held.workspace in_slot (λ r. gained-more (link_written link) known r) c.held.held };
          }

      goes-comes : ComesBy code (then_slot (done i x) (done slot))
      goes-comes = subst (λ (d : Turn State). ComesBy code (then_slot d (done slot))) (sym goes_in.done_is) slot-comes

    by-turn : Does site order bank known link (SaysGoal i x.pc w) at w x code slot_code (is_likely i) (done i x) → ComesBy code (then_slot (done i x) (done slot))
    by-turn (inl goes_in) = goes-comes goes_in
    by-turn (inr passes) = subst (λ (d : Turn State). ComesBy code (then_slot d (done slot))) (sym passes.1.done_is) (λ calls_so. absurd (false≢true calls_so))

    branch-comes : LiesAt site.program site.method at code → ComesBy code (then_slot (done i x) (done slot))
    branch-comes lies = by-turn (transfer-does laws site order bank known w x h at slot_code i is.0 knows.branch lies)

  -- where the slot is missing, or wrong, nothing calls
  fault-comes : (i : Inst) (slot_code : List Step) (second : State → Turn State) → ((s : State) → makes_call (second s) ≡ false) → IsTransfer i → AreKnown known (read_by i) → LiesAt site.program site.method at (transfer_code bank i x.pc slot_code) → ComesBy (transfer_code bank i x.pc slot_code) (then_slot (done i x) second)
  fault-comes i slot_code second none is knows lies = by-turn-alone (transfer-does laws site order bank known w x h at slot_code i is knows lies)
    where
      by-turn-alone : Does site order bank known (link_of i) (SaysGoal i x.pc w) at w x (transfer_code bank i x.pc slot_code) slot_code (is_likely i) (done i x) → ComesBy (transfer_code bank i x.pc slot_code) (then_slot (done i x) second)
      by-turn-alone (inl goes_in) = subst (λ (d : Turn State). ComesBy (transfer_code bank i x.pc slot_code) (then_slot d second)) (sym goes_in.done_is) (λ calls_so. absurd (false≢true (sym (none (into_slot (link_state (link_of i) x) goes_in.target)) ∙ calls_so)))
      by-turn-alone (inr passes) = subst (λ (d : Turn State). ComesBy (transfer_code bank i x.pc slot_code) (then_slot d second)) (sym passes.1.done_is) (λ calls_so. absurd (false≢true calls_so))

pub units-hold : PathLaws → UnitsHoldAtCalls
unfolding IsSyscall
units-hold laws (units.Plain i) site order bank known at w x is lies knows h calls_so =
    let syscall = syscall-alone i x is.0.is_none calls_so in
    absurd (false≢true (sym is.1 ∙ ap has_own_unit syscall.1))
units-hold laws units.Call site order bank known at w x is lies knows h calls_so = call-comes laws site order bank known at w x lies knows h
units-hold laws (units.Trap kind value) site order bank known at w x is lies knows h calls_so = absurd (false≢true calls_so)
units-hold laws (units.Branch i slot) site order bank known at w x is lies knows h calls_so = branch-comes laws site order bank known at w x h i slot is knows lies calls_so
units-hold laws (units.SlotMissing i) site order bank known at w x is lies knows h calls_so =
    fault-comes laws site order bank known at w x h i (fault_code fetch_fault (next_address x.pc) (next_address x.pc)) (λ s. faulted s fetch_fault s.pc) (λ s. refl) is knows lies calls_so
units-hold laws (units.SlotIsBranch i word) site order bank known at w x is lies knows h calls_so =
    fault-comes laws site order bank known at w x h i (fault_code branch_in_slot_fault (next_address x.pc) word) (λ s. faulted s branch_in_slot_fault word) (λ s. refl) is.0 knows lies calls_so
