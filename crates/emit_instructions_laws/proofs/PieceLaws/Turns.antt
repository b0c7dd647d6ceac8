-- Where a Plain unit leads, and which registers a unit leaves as they were.
use Rattle.std.proofs.Common.{◌≡◌, ◌≢◌, ℕ, ◌+◌, ◌%◌, ◌^◌, ◌<◌, ◌==◌, Bool, true, false, not, is_none, if◌then◌else◌, List, [], ◌∷◌, ◌++◌, Option, Some, None, unwrap_or, append-nil, refl, ap, subst, sym, ◌∙◌, arith}
use Rattle.std.specs.Bool.{⊤}
use Rattle.std.specs.List.{AllByRecursion}
use Rattle.std.proofs.lemmas.Bool.{eq-eqb, eqb-false, ne_eqb, or_parts, true≢false}
use Rattle.run_definition.specs.Answer.{Answer}
use Rattle.run_definition.specs.Turn.{Turn, moves, ends, leaves, asks}
use Rattle.mips_definition.specs.Arithmetic.{arithmetic_result, arithmetic_immediate_result}
use Rattle.mips_definition.specs.Effect.{Effect, goes_on, branches, skips_slot, faults, calls, fetch_fault, read_align_fault, read_unmapped_fault, write_align_fault, write_refused_fault, branch_in_slot_fault}
use Rattle.mips_decode.specs.Encoding.{word_of}
use Rattle.mips_definition.specs.Loads.{access_address, concluded, load_aligned, loaded_word, store_aligned, store_allowed, memory_stored}
use Rattle.mips_definition.specs.State.{State, register, with_register}
use Rattle.mips_definition.specs.Step.{effect, faulted, result_effect}
use Rattle.mips_definition.specs.Traps.{trap_by, trap_holds, trap_immediate_holds}
use Rattle.mips_definition.specs.declared.inst.Inst.{Inst}
use Rattle.mips_definition.specs.declared.inst.Inst.TheVariants as inst
use Rattle.mips_definition.specs.declared.names.hi_lo.HiLo.TheVariants.{Hi, Lo}
use Rattle.mips_definition.specs.declared.names.load_name.LoadName.TheVariants.{Lw}
use Rattle.mips_definition.specs.declared.names.store_name.StoreName.TheVariants.{Sw}
use Rattle.mips_decode.proofs.Steps.{Keeps, Keeps-effect}
use Rattle.delay_slots.specs.declared.unit.Unit.{Unit as Word}
use Rattle.delay_slots.specs.declared.unit.Unit.TheVariants as units
use Rattle.delay_slots.specs.Turns.{UnitTurns, one_turn, two_turns, done, done_by, then_slot, unit_turns, last_turn}
use Rattle.delay_slots.specs.Units.{is_branch}
use Rattle.block_builder.specs.Registers.{Register, general, special, written_by, unit_writes}
use Rattle.block_builder.specs.Dependence.{ChangesOnly, KeepsOthers}
use Rattle.block_builder.specs.Laws.{InstructionsChangeWhatTheyWrite}
use Rattle.emit_simulation_laws.specs.Lawful.{has_own_unit, has_register, is_general}

-- ---- a Plain unit goes on to the next word, or faults

-- A state stands at the word behind another's, with no branch pending.
pub record IsNext (x t : State) : Type 0 where
  pub pc : t.pc ≡ (x.pc + 4) % 2 ^ 32
  pub pending : t.pending ≡ None
  pub order : t.order ≡ x.order

-- a turn moves to a state that is as said, or ends the run
abbrev pub GoesOrEnds : (State → Type 0) → Turn State → Type 0
GoesOrEnds P (moves t) = P t
GoesOrEnds P (ends e) = ⊤
GoesOrEnds P (leaves q e) = ⊥
GoesOrEnds P (asks q next) = ⊥

abbrev LeadsNext : State → Turn State → Type 0
LeadsNext x last = GoesOrEnds (IsNext x) last

abbrev IsSimple : Effect → Type 0
IsSimple (goes_on t) = ⊤
IsSimple (faults kind value) = ⊤
IsSimple (branches t target) = ⊥
IsSimple (skips_slot t) = ⊥
IsSimple calls = ⊥

simple-result : (s : State) (word r : ℕ) (result : Option ℕ) → IsSimple (result_effect s word r result)
simple-result s word r None = tt
simple-result s word r (Some result) = tt

simple-tests : (first second : Bool) (a b c d : ℕ) (t : State) → IsSimple (if first then faults a b else if second then faults c d else goes_on t)
simple-tests true second a b c d t = tt
simple-tests false true a b c d t = tt
simple-tests false false a b c d t = tt

simple-trap : (holds : Bool) (word : ℕ) (s : State) → IsSimple (trap_by holds word s)
simple-trap true word s = tt
simple-trap false word s = tt

simple-effect : (i : Inst) (word : ℕ) (s : State) → is_branch i ≡ false → has_own_unit i ≡ false → IsSimple (effect i word s)
simple-effect (inst.Arithmetic name rs rt rd) word s none own = simple-result s word rd (arithmetic_result name (register s rs) (register s rt))
simple-effect (inst.ArithmeticImmediate name rs rt imm) word s none own = simple-result s word rt
    (arithmetic_immediate_result name (register s rs) imm)
simple-effect (inst.VariableShift name rs rt rd) word s none own = tt
simple-effect (inst.Shift name rt rd sa) word s none own = tt
simple-effect (inst.JumpRegister rs) word s none own = absurd (true≢false none)
simple-effect (inst.JumpAndLinkRegister rs rd) word s none own = absurd (true≢false none)
simple-effect (inst.Syscall code) word s none own = absurd (true≢false own)
simple-effect (inst.Break code) word s none own = tt
simple-effect (inst.MoveFrom Hi rd) word s none own = tt
simple-effect (inst.MoveFrom Lo rd) word s none own = tt
simple-effect (inst.MoveTo Hi rs) word s none own = tt
simple-effect (inst.MoveTo Lo rs) word s none own = tt
simple-effect (inst.Product name rs rt) word s none own = tt
simple-effect (inst.BranchSign name rs imm) word s none own = absurd (true≢false none)
simple-effect (inst.Jump name index) word s none own = absurd (true≢false none)
simple-effect (inst.BranchEqual name rs rt imm) word s none own = absurd (true≢false none)
simple-effect (inst.BranchZero name rs imm) word s none own = absurd (true≢false none)
simple-effect (inst.LogicalImmediate name rs rt imm) word s none own = tt
simple-effect (inst.LoadUpper rt imm) word s none own = tt
simple-effect (inst.Load name rs rt imm) word s none own =
    let a : ℕ = access_address s rs imm in
    let t : State = with_register s rt (loaded_word name s.order s.memory a (register s rt)) in
    simple-tests (not (load_aligned name a)) (is_none (s.memory.byte a)) read_align_fault a read_unmapped_fault a t
simple-effect (inst.Store name rs rt imm) word s none own =
    let a : ℕ = access_address s rs imm in
    let t : State = record s { memory = memory_stored name s.order s.memory a (register s rt) } in
    simple-tests (not (store_aligned name a)) (not (store_allowed name s.order s.memory a)) write_align_fault a write_refused_fault a t
simple-effect (inst.Trap name rs rt code) word s none own = simple-trap (trap_holds name (register s rs) (register s rt)) word s
simple-effect (inst.TrapImmediate name rs imm) word s none own = simple-trap (trap_immediate_holds name (register s rs) imm) word s
simple-effect (inst.Sync sa) word s none own = tt
simple-effect (inst.LoadLinked rs rt imm) word s none own =
    let a : ℕ = access_address s rs imm in
    let t : State = record (with_register s rt (loaded_word Lw s.order s.memory a (register s rt))) { load_link = Some a } in
    simple-tests (not (load_aligned Lw a)) (is_none (s.memory.byte a)) read_align_fault a read_unmapped_fault a t
simple-effect (inst.StoreConditional rs rt imm) word s none own =
    let a : ℕ = access_address s rs imm in
    simple-tests (not (store_aligned Sw a)) (not (store_allowed Sw s.order s.memory a)) write_align_fault a write_refused_fault a (concluded s rt a)
simple-effect (inst.Reserved w) word s none own = tt
simple-effect (inst.Float w) word s none own = tt

next-by : (x : State) (e : Effect) → x.pending ≡ None → IsSimple e → Keeps x e → LeadsNext x (done_by e x)
next-by x (goes_on t) free simple kept = record {
  pc = ap (λ (u : State). unwrap_or u.pending ((u.pc + 4) % 2 ^ 32)) kept ∙ ap (λ p. unwrap_or p ((x.pc + 4) % 2 ^ 32)) free;
  pending = refl;
  order = ap (λ (u : State). u.order) kept;
}
next-by x (faults kind value) free simple kept = tt
next-by x (branches t target) free simple kept = absurd simple
next-by x (skips_slot t) free simple kept = absurd simple
next-by x calls free simple kept = absurd simple

plain-next : (i : Inst) (x : State) → x.pending ≡ None → is_branch i ≡ false → has_own_unit i ≡ false → LeadsNext x (done i x)
plain-next i x free none own = next-by x (effect i (word_of i) x) free (simple-effect i (word_of i) x none own) (Keeps-effect i (word_of i) x)

-- ---- registers that are not written

-- each register that a test does not tell holds what it held
abbrev pub LeavesOthers : (ℕ → Bool) → State → State → Type 0
LeavesOthers written s t = (r : ℕ) → 0 < r → r < 32 → written r ≡ false → t.registers r ≡ s.registers r

apart : (changed : List Register) (r : ℕ) → has_register changed r ≡ false → AllByRecursion (λ c. c ≢ general r) changed
apart [] r none = tt
apart (general d ∷ changed) r none =
    let parts = or_parts (d == r) (has_register changed r) none in
    (λ same. eqb-false d r parts.0 (ap of_general same), apart changed r parts.1)
  where
    of_general : Register → ℕ
    of_general (general d) = d
    of_general (special name) = 0
apart (special name ∷ changed) r none =
    (λ same. true≢false (sym (eq-eqb r r refl) ∙ sym (ap (is_general r) same)), apart changed r none)

pub others-left : (changed : List Register) (s t : State) → KeepsOthers changed s t → LeavesOthers (has_register changed) s t
others-left changed s t keeps r positive below none =
    let some : (r == 0) ≡ false = ne_eqb r 0 (λ zero. omega (arith, zero, positive)) in
    ap (λ b. if b then 0 else t.registers r) (sym some)
    ∙ keeps (general r) (apart changed r none)
    ∙ ap (λ b. if b then 0 else s.registers r) some

-- ---- the registers that a unit changes

split : (P : Register → Type 0) (first second : List Register) → AllByRecursion P (first ++ second) → AllByRecursion P first × AllByRecursion P second
split P [] second all = (tt, all)
split P (r ∷ first) second all = let rest = split P first second all.1 in ((all.0, rest.0), rest.1)

keeps-more : (first second : List Register) (s t : State) → KeepsOthers first s t → KeepsOthers (first ++ second) s t
keeps-more first second s t keeps r others = keeps r (split (λ c. c ≢ r) first second others).0

keeps-both : (first second : List Register) (s t u : State) → KeepsOthers first s t → KeepsOthers second t u → KeepsOthers (first ++ second) s u
keeps-both first second s t u a b r others =
    let parts = split (λ c. c ≢ r) first second others in
    b r parts.1 ∙ a r parts.0

changes-both : (first second : List Register) (s t : State) (last : Turn State) → KeepsOthers first s t → ChangesOnly second t last
    → ChangesOnly (first ++ second) s last
changes-both first second s t (moves u) a b = keeps-both first second s t u a b
changes-both first second s t (ends e) a b = tt
changes-both first second s t (leaves q e) a b = tt
changes-both first second s t (asks q next) a b = λ answer. keeps-both first second s t (next answer) a (b answer)

changes-by : (first second : List Register) (s t : State) (p : Option ℕ) (last : Turn State) → KeepsOthers first s t → ChangesOnly second t last
    → ChangesOnly (first ++ second) s (last_turn (elim p as (λ p. UnitTurns) [ None ↦ one_turn (moves t) | Some target ↦ two_turns t last ]))
changes-by first second s t None last a b = keeps-more first second s t a
changes-by first second s t (Some target) last a b = changes-both first second s t last a b

changes-slot : (first second : List Register) (s : State) (turn : Turn State) (slot : State → Turn State) → ChangesOnly first s turn
    → ((t : State) → ChangesOnly second t (slot t)) → ChangesOnly (first ++ second) s (last_turn (then_slot turn slot))
changes-slot first second s (moves t) slot a b = changes-by first second s t t.pending (slot t) a (b t)
changes-slot first second s (ends e) slot a b = tt
changes-slot first second s (leaves q e) slot a b = tt
changes-slot first second s (asks q next) slot a b = λ answer. keeps-more first second s (next answer) (a answer)

-- each state that a turn leads to is as said, whatever the answer
abbrev pub Reaches : (State → Type 0) → Turn State → Type 0
Reaches P (moves t) = P t
Reaches P (ends e) = ⊤
Reaches P (leaves q e) = ⊤
Reaches P (asks q next) = (answer : Answer) → P (next answer)

left-by-turn : (changed : List Register) (s : State) (last : Turn State) → ChangesOnly changed s last
    → Reaches (LeavesOthers (has_register changed) s) last
left-by-turn changed s (moves t) a = others-left changed s t a
left-by-turn changed s (ends e) a = tt
left-by-turn changed s (leaves q e) a = tt
left-by-turn changed s (asks q next) a = λ answer. others-left changed s (next answer) (a answer)

unit-changes : InstructionsChangeWhatTheyWrite → (unit : Word) (x : State) → ChangesOnly (unit_writes unit) x (last_turn (unit_turns unit x))
unit-changes change (units.Plain i) x = change i x
unit-changes change (units.Branch i slot) x = changes-slot (written_by i) (written_by slot) x (done i x) (done slot) (change i x) (change slot)
unit-changes change (units.SlotMissing i) x =
    subst (λ changed. ChangesOnly changed x (last_turn (then_slot (done i x) (λ s. faulted s fetch_fault s.pc)))) (append-nil (written_by i))
    (changes-slot (written_by i) [] x (done i x) (λ s. faulted s fetch_fault s.pc) (change i x) (λ t. tt))
unit-changes change (units.SlotIsBranch i word) x =
    subst (λ changed. ChangesOnly changed x (last_turn (then_slot (done i x) (λ s. faulted s branch_in_slot_fault word)))) (append-nil (written_by i))
    (changes-slot (written_by i) [] x (done i x) (λ s. faulted s branch_in_slot_fault word) (change i x) (λ t. tt))
unit-changes change units.Call x = change (inst.Syscall 0) x
unit-changes change (units.Trap kind value) x = tt

-- A Plain unit leads on to the next word, with the registers as they were that it does not write.
pub record IsPast (written : List Register) (x t : State) : Type 0 where
  pub next : IsNext x t
  pub left : LeavesOthers (has_register written) x t

past-by : (written : List Register) (x : State) (last : Turn State) → LeadsNext x last → Reaches (LeavesOthers (has_register written) x) last
    → GoesOrEnds (IsPast written x) last
past-by written x (moves t) next left = record { next = next; left = left }
past-by written x (ends e) next left = tt
past-by written x (leaves q e) next left = absurd next
past-by written x (asks q after) next left = absurd next

pub plain-past : InstructionsChangeWhatTheyWrite → (i : Inst) (x : State) → x.pending ≡ None → is_branch i ≡ false → has_own_unit i ≡ false
    → GoesOrEnds (IsPast (written_by i) x) (done i x)
plain-past change i x free none own =
    past-by (written_by i) x (done i x) (plain-next i x free none own) (left-by-turn (written_by i) x (done i x) (change i x))

pub unit-leaves : InstructionsChangeWhatTheyWrite → (unit : Word) (x : State)
    → Reaches (LeavesOthers (has_register (unit_writes unit)) x) (last_turn (unit_turns unit x))
unit-leaves change unit x = left-by-turn (unit_writes unit) x (last_turn (unit_turns unit x)) (unit-changes change unit x)
