-- No turn and no run of the guest machine ends in a fault of another kind than the guest's.
use Rattle.std.proofs.Common.{◌≡◌, ℕ, zero, suc, ◌%◌, ◌==◌, not, ◌||◌, Bool, true, false, if◌then◌else◌, Option, Some, None, ap, sym, subst, ◌∙◌, lit≤}
use Rattle.std.specs.Bool.{⊤}
use Rattle.run_definition.specs.Words.{signed_of}
use Rattle.run_definition.specs.Question.{Question}
use Rattle.run_definition.specs.Answer.{Answer}
use Rattle.run_definition.specs.Turn.{Turn, moves, ends, leaves, asks, End, exit, «fault», trap, outcome_of}
use Rattle.run_definition.specs.Run.{Run, run_of}
use Rattle.run_definition.specs.declared.fault.Fault.{Fault}
use Rattle.run_definition.specs.declared.outcome.Outcome.TheVariants.{Faulted}
use Rattle.nv_events.proofs.RunLaws.{given, turned, run_of-suc}
use Rattle.mips_definition.specs.State.{State, register}
use Rattle.mips_definition.specs.Effect.{Effect, goes_on, branches, skips_slot, faults, calls, pc_align_fault, branch_in_slot_fault, read_align_fault, read_unmapped_fault, write_align_fault, write_refused_fault}
use Rattle.mips_definition.specs.Table.{inst}
use Rattle.mips_definition.specs.Arithmetic.{arithmetic_result, arithmetic_immediate_result}
use Rattle.mips_definition.specs.Branches.{taken_or_not, branch_effect, equal_likely, equal_taken, zero_likely, zero_taken, sign_likely, sign_taken, sign_linked}
use Rattle.mips_definition.specs.Loads.{access_address}
use Rattle.mips_definition.specs.Traps.{trap_by, trap_holds, trap_immediate_holds}
use Rattle.mips_definition.specs.Step.{turn, turn_by, effect, result_effect, move_from_effect, move_to_effect, executed, instruction_turn, question_of, after_call, loader_question, after_loader, faulted, into_slot, past_slot}
use Rattle.mips_definition.specs.declared.inst.Inst.{Inst}
use Rattle.mips_definition.specs.declared.inst.Inst.TheVariants as inst
use Rattle.mips_definition.specs.declared.names.hi_lo.HiLo.{HiLo}
use Rattle.mips_definition.specs.declared.names.hi_lo.HiLo.TheVariants.{Hi, Lo}
use Rattle.mips_decode.specs.FaultKinds.{IsGuestKind}

-- ---- what faults so

abbrev EndsSo : End → Type 0
EndsSo (exit status) = ⊤
EndsSo («fault» f) = IsGuestKind f.kind
EndsSo (trap k) = ⊤

abbrev TurnsSo : {S : Type 0} → Turn S → Type 0
TurnsSo (moves t) = ⊤
TurnsSo (ends e) = EndsSo e
TurnsSo (leaves q e) = EndsSo e
TurnsSo (asks q next) = ⊤

abbrev FaultsSo : Effect → Type 0
FaultsSo (goes_on t) = ⊤
FaultsSo (branches t target) = ⊤
FaultsSo (skips_slot t) = ⊤
FaultsSo (faults kind value) = IsGuestKind kind
FaultsSo calls = ⊤

-- ---- runs of any machine that does

end-kind : (e : End) (f : Fault) → EndsSo e → outcome_of e ≡ Faulted f → IsGuestKind f.kind
end-kind (exit status) f so e = absurd (cc)
end-kind («fault» g) f so e = let same : g ≡ f = cc in subst (λ (h : Fault). IsGuestKind h.kind) same so
end-kind (trap k) f so e = absurd (cc)

module _ {S K : Type 0} (turn : S → Turn S) (reply : K → Question → Option (Answer × K)) (well : (s : S) → TurnsSo (turn s)) (f : Fault) where
  abbrev Kinded : Run S K → Type 0
  Kinded r = r.outcome ≡ Faulted f → IsGuestKind f.kind

  given-kind : (got : Option (Answer × K)) (q : Question) (next : Answer → S) (s : S) (k : K) (more : S → K → Run S K) → ((s : S) (k : K) → Kinded (more s k)) → Kinded (given got q next s k more)
  given-kind None q next s k more h e = absurd (cc)
  given-kind (Some got) q next s k more h e = h (next got.0) got.1 e

  turned-kind : (x : Turn S) (s : S) (k : K) (more : S → K → Run S K) → TurnsSo x → ((s : S) (k : K) → Kinded (more s k)) → Kinded (turned reply x s k more)
  turned-kind (moves t) s k more so h e = h t k e
  turned-kind (ends end) s k more so h e = end-kind end f so e
  turned-kind (leaves q end) s k more so h e = end-kind end f so e
  turned-kind (asks q next) s k more so h e = given-kind (reply k q) q next s k more h e

  run-kind : (n : ℕ) (s : S) (k : K) → Kinded (run_of turn reply n s k)
  run-kind zero s k e = absurd (cc)
  run-kind (suc n) s k e =
      turned-kind (turn s) s k (run_of turn reply n) (well s) (run-kind n)
      (ap (λ (r : Run S K). r.outcome) (sym (run_of-suc turn reply n s k)) ∙ e)

-- ---- effects

either-kind : (b : Bool) (e g : Effect) → FaultsSo e → FaultsSo g → FaultsSo (if b then e else g)
either-kind true e g first second = first
either-kind false e g first second = second

result-kind : (s : State) (word r : ℕ) (result : Option ℕ) → FaultsSo (result_effect s word r result)
result-kind s word r None = (lit≤ tt, lit≤ tt)
result-kind s word r (Some result) = tt

move-from-kind : (name : HiLo) (s : State) (rd : ℕ) → FaultsSo (move_from_effect name s rd)
move-from-kind Hi s rd = tt
move-from-kind Lo s rd = tt

move-to-kind : (name : HiLo) (s : State) (rs : ℕ) → FaultsSo (move_to_effect name s rs)
move-to-kind Hi s rs = tt
move-to-kind Lo s rs = tt

branch-kind : (likely taken : Bool) (s t : State) (imm : ℕ) → FaultsSo (branch_effect likely taken s t imm)
branch-kind likely taken s t imm = either-kind (not likely || taken) (branches t (taken_or_not s taken imm)) (skips_slot t) tt tt

-- an access whose alignment is tested before the memory is
access-kind : (misaligned refused : Bool) (first second a : ℕ) (t : State) → IsGuestKind first → IsGuestKind second
    → FaultsSo (if misaligned then faults first a else if refused then faults second a else goes_on t)
access-kind true refused first second a t one two = one
access-kind false true first second a t one two = two
access-kind false false first second a t one two = tt

trap-kind : (holds : Bool) (word : ℕ) (s : State) → FaultsSo (trap_by holds word s)
trap-kind true word s = (lit≤ tt, lit≤ tt)
trap-kind false word s = tt

effect-kind : (i : Inst) (word : ℕ) (s : State) → FaultsSo (effect i word s)
effect-kind (inst.Arithmetic name rs rt rd) word s = result-kind s word rd (arithmetic_result name (register s rs) (register s rt))
effect-kind (inst.VariableShift name rs rt rd) word s = tt
effect-kind (inst.Shift name rt rd sa) word s = tt
effect-kind (inst.JumpRegister rs) word s = tt
effect-kind (inst.JumpAndLinkRegister rs rd) word s = tt
effect-kind (inst.Syscall code) word s = tt
effect-kind (inst.Break code) word s = (lit≤ tt, lit≤ tt)
effect-kind (inst.MoveFrom name rd) word s = move-from-kind name s rd
effect-kind (inst.MoveTo name rs) word s = move-to-kind name s rs
effect-kind (inst.Product name rs rt) word s = tt
effect-kind (inst.BranchSign name rs imm) word s = branch-kind (sign_likely name) (sign_taken name (signed_of (register s rs))) s (sign_linked name s) imm
effect-kind (inst.Jump name index) word s = tt
effect-kind (inst.BranchEqual name rs rt imm) word s = branch-kind (equal_likely name) (equal_taken name (register s rs) (register s rt)) s s imm
effect-kind (inst.BranchZero name rs imm) word s = branch-kind (zero_likely name) (zero_taken name (signed_of (register s rs))) s s imm
effect-kind (inst.ArithmeticImmediate name rs rt imm) word s = result-kind s word rt (arithmetic_immediate_result name (register s rs) imm)
effect-kind (inst.LogicalImmediate name rs rt imm) word s = tt
effect-kind (inst.LoadUpper rt imm) word s = tt
effect-kind (inst.Load name rs rt imm) word s = access-kind _ _ read_align_fault read_unmapped_fault (access_address s rs imm) _ (lit≤ tt, lit≤ tt) (lit≤ tt, lit≤ tt)
effect-kind (inst.Store name rs rt imm) word s = access-kind _ _ write_align_fault write_refused_fault (access_address s rs imm) _ (lit≤ tt, lit≤ tt) (lit≤ tt, lit≤ tt)
effect-kind (inst.Trap name rs rt code) word s = trap-kind (trap_holds name (register s rs) (register s rt)) word s
effect-kind (inst.TrapImmediate name rs imm) word s = trap-kind (trap_immediate_holds name (register s rs) imm) word s
effect-kind (inst.Sync sa) word s = tt
effect-kind (inst.LoadLinked rs rt imm) word s = access-kind _ _ read_align_fault read_unmapped_fault (access_address s rs imm) _ (lit≤ tt, lit≤ tt) (lit≤ tt, lit≤ tt)
effect-kind (inst.StoreConditional rs rt imm) word s = access-kind _ _ write_align_fault write_refused_fault (access_address s rs imm) _ (lit≤ tt, lit≤ tt) (lit≤ tt, lit≤ tt)
effect-kind (inst.Reserved w) word s = (lit≤ tt, lit≤ tt)
effect-kind (inst.Float w) word s = (lit≤ tt, lit≤ tt)

-- ---- turns

call-kind : (s : State) (b : Bool) → TurnsSo (if b then leaves (question_of s) (exit (signed_of (register s 4))) else asks (question_of s) (after_call s))
call-kind s true = tt
call-kind s false = tt

into-kind : (s t : State) (word target : ℕ) (pending : Option ℕ) → TurnsSo (elim pending as (λ (o : Option ℕ). Turn State) [ None ↦ moves (into_slot t target) | Some p ↦ faulted s branch_in_slot_fault word ])
into-kind s t word target None = tt
into-kind s t word target (Some p) = (lit≤ tt, lit≤ tt)

past-kind : (s t : State) (word : ℕ) (pending : Option ℕ) → TurnsSo (elim pending as (λ (o : Option ℕ). Turn State) [ None ↦ moves (past_slot t) | Some p ↦ faulted s branch_in_slot_fault word ])
past-kind s t word None = tt
past-kind s t word (Some p) = (lit≤ tt, lit≤ tt)

done-kind : (e : Effect) (word : ℕ) (s : State) → FaultsSo e → TurnsSo (turn_by e word s)
done-kind (goes_on t) word s so = tt
done-kind (branches t target) word s so = into-kind s t word target s.pending
done-kind (skips_slot t) word s so = past-kind s t word s.pending
done-kind (faults kind value) word s so = so
done-kind calls word s so = call-kind s (register s 2 == 1)

word-kind : (s : State) (word : Option ℕ) → TurnsSo (executed s word)
word-kind s None = (lit≤ tt, lit≤ tt)
word-kind s (Some word) = done-kind (effect (inst word) word s) word s (effect-kind (inst word) word s)

aligned-kind : (s : State) (b : Bool) → TurnsSo (if b then executed s (s.code s.pc) else faulted s pc_align_fault s.pc)
aligned-kind s true = word-kind s (s.code s.pc)
aligned-kind s false = (lit≤ tt, lit≤ tt)

begun-kind : (s : State) (b : Bool) → TurnsSo (if b then instruction_turn s else asks (loader_question s) (after_loader s))
begun-kind s true = aligned-kind s (s.pc % 4 == 0)
begun-kind s false = tt

guest-kind : (s : State) → TurnsSo (turn s)
guest-kind s = begun-kind s s.begun

pub turn-faults : (s : State) (f : Fault) → turn s ≡ ends («fault» f) → IsGuestKind f.kind
turn-faults s f is = subst (λ x. TurnsSo x) is (guest-kind s)

pub run-faults : {K : Type 0} (reply : K → Question → Option (Answer × K)) (n : ℕ) (s : State) (k : K) (f : Fault) → (run_of turn reply n s k).outcome ≡ Faulted f → IsGuestKind f.kind
run-faults reply n s k f = run-kind turn reply guest-kind f n s k
