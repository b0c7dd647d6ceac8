-- What the code of a unit counts.
use Rattle.std.proofs.Common.{◌≡◌, ℕ, ◌≤◌, Bool, true, false, not, if◌then◌else◌, is_none, List, ◌++◌, Some, ◌⊎◌, inl, inr, refl, ap, subst, sym, arith}
use Rattle.run_definition.specs.declared.order.Order.{Order}
use Rattle.run_definition.specs.Turn.{Turn, moves, ends, leaves, asks}
use Rattle.mips_definition.specs.State.{State, with_register, register}
use Rattle.mips_definition.specs.Effect.{faults, goes_on, fetch_fault, read_align_fault, read_unmapped_fault, write_align_fault, write_refused_fault, branch_in_slot_fault}
use Rattle.mips_definition.specs.Step.{into_slot}
use Rattle.mips_definition.specs.Loads.{access_address, load_aligned, loaded_word, store_aligned, store_allowed, memory_stored}
use Rattle.mips_definition.specs.declared.inst.Inst.{Inst}
use Rattle.mips_definition.specs.declared.inst.Inst.TheVariants as inst
use Rattle.mips_definition.specs.declared.names.load_name.LoadName.TheVariants.{Lw}
use Rattle.delay_slots.specs.declared.unit.Unit.{Unit}
use Rattle.delay_slots.specs.declared.unit.Unit.TheVariants as units
use Rattle.delay_slots.specs.Turns.{done, done_by, skips, then_slot, turn_count, last_turn, unit_turns}
use Rattle.jvm_definition.specs.declared.instruction.Instruction.{Instruction}
use Rattle.jvm_definition.specs.Effect.{Workspace}
use Rattle.emit_steps.specs.declared.step.Step.{Step}
use Rattle.emit_steps.specs.Placing.{LiesAt}
use Rattle.emit_instructions.specs.Accessing.{call_code}
use Rattle.emit_instructions.specs.Branching.{transfer_code}
use Rattle.emit_instructions.specs.Faulting.{fault_code}
use Rattle.emit_instructions.specs.Units.{instruction_code, next_address, unit_code}
use Rattle.emit_simulation_laws.specs.Lawful.{IsLawful, KnownByUnit}
use Rattle.emit_paths_laws.specs.Classes.{reads}
use Rattle.emit_simulation_laws.specs.Holding.{HoldsOn}
use Rattle.emit_simulation_laws.specs.Sites.{Site, whole_weight}
use Rattle.emit_simulation_laws.proofs.GuestFollows.Weights.{whole-both}
use Rattle.emit_instructions_laws.specs.Instructions.{IsReady}
use Rattle.emit_instructions_laws.specs.Units.{AllUnitsFollow}
use Rattle.emit_instructions_laws.specs.Past.{SlotsArePassedOver}
use Rattle.emit_instructions_laws.specs.Counting.{Counts, SparesHelpers, words_read_by, unit_reads, ReadsNoneToCall, UnitCounts}
use Rattle.emit_instructions_laws.proofs.UnitCounts.Weights.{quiet-whole, counts-fewer, counts-nothing, quiet-counts}
use Rattle.emit_instructions_laws.proofs.UnitCounts.Helpers.{HelperReads}
use Rattle.emit_instructions_laws.proofs.UnitCounts.Instructions.{system-quiet, instruction-counts}
use Rattle.emit_instructions_laws.proofs.UnitCounts.Transfers.{transfer-slot, transfer-counts}
use Rattle.emit_instructions_laws.proofs.UnitCounts.Ways.{ComesToSlot, GoesPastSlot, goal_of, branch-goes}

-- ---- no word is read where a turn calls the system

fewer-reads : (n : ℕ) (total : (Instruction → ℕ) → ℕ) (turn : Turn State) → total reads ≤ n → ReadsNoneToCall (λ weight. n) turn → ReadsNoneToCall total turn
fewer-reads n total (moves t) few none = tt
fewer-reads n total (ends e) few none = tt
fewer-reads n total (leaves q e) few none = omega (arith, few, none)
fewer-reads n total (asks q next) few none = omega (arith, few, none)

zero-reads : (turn : Turn State) → ReadsNoneToCall (λ weight. 0) turn
zero-reads (moves t) = tt
zero-reads (ends e) = tt
zero-reads (leaves q e) = refl
zero-reads (asks q next) = refl

access-calls-none : (n : ℕ) (first second : Bool) (a b c d : ℕ) (t s : State) → ReadsNoneToCall (λ weight. n) (done_by (if first then faults a b else if second then faults c d else goes_on t) s)
access-calls-none n true second a b c d t s = tt
access-calls-none n false true a b c d t s = tt
access-calls-none n false false a b c d t s = tt

-- an instruction that reads a word calls nothing
done-reads : (i : Inst) (s : State) → ReadsNoneToCall (λ weight. words_read_by i) (done i s)
done-reads (inst.Load name rs rt imm) s =
    let a : ℕ = access_address s rs imm in
    let t : State = with_register s rt (loaded_word name s.order s.memory a (register s rt)) in
    access-calls-none 1 (not (load_aligned name a)) (is_none (s.memory.byte a)) read_align_fault a read_unmapped_fault a t s
done-reads (inst.LoadLinked rs rt imm) s =
    let a : ℕ = access_address s rs imm in
    let t : State = record (with_register s rt (loaded_word Lw s.order s.memory a (register s rt))) { load_link = Some a } in
    access-calls-none 1 (not (load_aligned Lw a)) (is_none (s.memory.byte a)) read_align_fault a read_unmapped_fault a t s
done-reads (inst.Store name rs rt imm) s =
    let a : ℕ = access_address s rs imm in
    let t : State = record s { memory = memory_stored name s.order s.memory a (register s rt) } in
    access-calls-none (words_read_by (inst.Store name rs rt imm)) (not (store_aligned name a)) (not (store_allowed name s.order s.memory a)) write_align_fault a write_refused_fault a t s
done-reads i s = zero-reads (done i s)

-- ---- the law

-- the laws that are needed
pub record CountLaws : Type 1 where
  pub helpers : HelperReads
  pub follow : AllUnitsFollow
  pub past : SlotsArePassedOver

module _ (laws : CountLaws) (site : Site) (order : Order) (bank : ℕ) (known : ℕ → Bool) (at : ℕ) (w : Workspace) (x : State) (is_span : ℕ → Bool) (ready : IsReady site order) (order_is : x.order ≡ order) (h : HoldsOn bank known w x) (spares : SparesHelpers is_span) where
  -- a unit whose code is counted whole
  counted : (unit : Unit) → IsLawful unit → LiesAt site.program site.method at (unit_code bank unit x.pc) → KnownByUnit known unit → Counts is_span (unit_reads unit x) 0 (whole_weight order (unit_code bank unit x.pc)) → ReadsNoneToCall (λ weight. unit_reads unit x) (last_turn (unit_turns unit x)) → UnitCounts site bank known at w x unit is_span
  counted unit is lies knows c none = record {
    total = whole_weight order (unit_code bank unit x.pc);
    counts = c;
    follows = laws.follow unit is site order bank known at w x ready order_is lies knows h;
    asking = fewer-reads (unit_reads unit x) (whole_weight order (unit_code bank unit x.pc)) (last_turn (unit_turns unit x)) c.few_reads none;
  }

  -- a branch with its slot
  module _ (i slot : Inst) (is : IsLawful (units.Branch i slot)) (lies : LiesAt site.program site.method at (unit_code bank (units.Branch i slot) x.pc)) (knows : KnownByUnit known (units.Branch i slot)) where
    abbrev unit : Unit
    unit = units.Branch i slot

    abbrev slot_code : List Step
    slot_code = instruction_code bank slot (next_address x.pc)

    taken-counts : ComesToSlot x (skips i x) (goal_of i x) (done i x) → UnitCounts site bank known at w x unit is_span
    taken-counts comes =
        counted unit is lies knows
        (subst (λ b. Counts is_span (if b then 0 else words_read_by slot) 0 (whole_weight order (unit_code bank unit x.pc))) (sym comes.not_skipped)
        (transfer-counts is_span order (words_read_by slot) bank x.pc i slot_code (instruction-counts laws.helpers is_span spares order bank slot (next_address x.pc))))
        (subst (λ b. ReadsNoneToCall (λ weight. if b then 0 else words_read_by slot) (last_turn (unit_turns unit x))) (sym comes.not_skipped)
        (subst (λ (d : Turn State). ReadsNoneToCall (λ weight. words_read_by slot) (last_turn (then_slot d (done slot)))) (sym comes.last_is)
        (done-reads slot (into_slot comes.linked_state (goal_of i x)))))

    past-counts : GoesPastSlot x (skips i x) (done i x) → UnitCounts site bank known at w x unit is_span
    past-counts passes =
        let one : turn_count (unit_turns unit x) ≡ 1 = ap (λ (d : Turn State). turn_count (then_slot d (done slot))) passes.last_is in
        let p = laws.past i slot site order bank known at w x is lies knows h one in
        let f = transfer-slot bank x.pc i slot_code in
        record {
          total = p.total;
          counts =
              subst (λ b. Counts is_span (if b then 0 else words_read_by slot) 0 p.total) (sym passes.is_skipped)
              (counts-fewer is_span 0 p.total (λ weight. 0)
              (λ weight below.
              let a = p.weighs weight in
              let b : whole_weight order (transfer_code bank i x.pc slot_code) weight ≡ whole_weight order (f.front ++ slot_code) weight = ap (λ code. whole_weight order code weight) f.is in
              let c = whole-both order weight f.front slot_code in
              let d = quiet-whole order weight below f.front f.quiet in
              omega (arith, a, b, c, d))
              (counts-nothing is_span));
          follows = p.follows;
          asking = subst (λ (d : Turn State). ReadsNoneToCall p.total (last_turn (then_slot d (done slot)))) (sym passes.last_is) tt;
        }

    by-way : ComesToSlot x (skips i x) (goal_of i x) (done i x) ⊎ GoesPastSlot x (skips i x) (done i x) → UnitCounts site bank known at w x unit is_span
    by-way (inl comes) = taken-counts comes
    by-way (inr passes) = past-counts passes

    branch-counts : UnitCounts site bank known at w x unit is_span
    branch-counts = by-way (branch-goes i x is.0.is_one)

  pub unit-counts : (unit : Unit) → IsLawful unit → LiesAt site.program site.method at (unit_code bank unit x.pc) → KnownByUnit known unit → UnitCounts site bank known at w x unit is_span
  unit-counts (units.Plain i) is lies knows =
      counted (units.Plain i) is lies knows (instruction-counts laws.helpers is_span spares order bank i x.pc) (done-reads i x)
  unit-counts (units.Branch i slot) is lies knows = branch-counts i slot is lies knows
  unit-counts (units.SlotMissing i) is lies knows =
      let fault = fault_code fetch_fault (next_address x.pc) (next_address x.pc) in
      counted (units.SlotMissing i) is lies knows (transfer-counts is_span order 0 bank x.pc i fault (quiet-counts is_span order fault refl))
      (zero-reads (last_turn (unit_turns (units.SlotMissing i) x)))
  unit-counts (units.SlotIsBranch i word) is lies knows =
      let fault = fault_code branch_in_slot_fault (next_address x.pc) word in
      counted (units.SlotIsBranch i word) is lies knows (transfer-counts is_span order 0 bank x.pc i fault (quiet-counts is_span order fault refl))
      (zero-reads (last_turn (unit_turns (units.SlotIsBranch i word) x)))
  unit-counts units.Call is lies knows =
      counted units.Call is lies knows (quiet-counts is_span order (call_code bank) (system-quiet bank))
      (zero-reads (last_turn (unit_turns units.Call x)))
  unit-counts (units.Trap kind value) is lies knows =
      counted (units.Trap kind value) is lies knows (quiet-counts is_span order (fault_code kind x.pc value) refl) tt
