-- What the guard of each unit comes to.
use Rattle.std.proofs.Common.{◌≡◌, ℕ, ◌+◌, ◌-◌, ◌<◌, ◌≤◌, ◌==◌, pos, int_lt, int_le, ℤ, Bool, not, if◌then◌else◌, List, ◌∷◌, Option, Some, None, refl, ap, ◌∙◌, arith, lit≤}
use Rattle.std.proofs.lemmas.Bool.{ne_eqb}
use Rattle.std.proofs.lemmas.Int.{ints}
use Rattle.run_definition.specs.Words.{signed_of}
use Rattle.run_definition.specs.declared.order.Order.{Order}
use Rattle.mips_definition.specs.State.{State, register}
use Rattle.mips_definition.specs.Branches.{zero_taken, sign_taken}
use Rattle.mips_definition.specs.declared.inst.Inst.{Inst}
use Rattle.mips_definition.specs.declared.inst.Inst.TheVariants as inst
use Rattle.mips_definition.specs.declared.names.branch_equal_name.BranchEqualName.{BranchEqualName}
use Rattle.mips_definition.specs.declared.names.branch_equal_name.BranchEqualName.TheVariants.{Beq, Bne, Beql, Bnel}
use Rattle.mips_definition.specs.declared.names.branch_zero_name.BranchZeroName.{BranchZeroName}
use Rattle.mips_definition.specs.declared.names.branch_zero_name.BranchZeroName.TheVariants.{Blez, Bgtz, Blezl, Bgtzl}
use Rattle.mips_definition.specs.declared.names.branch_sign_name.BranchSignName.{BranchSignName}
use Rattle.mips_definition.specs.declared.names.branch_sign_name.BranchSignName.TheVariants.{Bltz, Bgez, Bltzal, Bgezal, Bltzl, Bgezl, Bltzall, Bgezall}
use Rattle.delay_slots.specs.declared.unit.Unit.{Unit}
use Rattle.delay_slots.specs.declared.unit.Unit.TheVariants.{Plain, Branch, SlotMissing, SlotIsBranch, Call, Trap}
use Rattle.delay_slots.specs.Turns.{skips, unit_turn_count}
use Rattle.block_builder.specs.Registers.{read_by}
use Rattle.jvm_definition.specs.declared.branch_name.BranchName.TheVariants.{Iflt, Ifge, Ifgt, Ifle, IfIcmpeq, IfIcmpne}
use Rattle.jvm_definition.specs.declared.value.Value.{Value}
use Rattle.jvm_definition.specs.declared.value.Value.TheVariants.{Int as int}
use Rattle.jvm_definition.specs.Program.{Program}
use Rattle.jvm_definition.specs.Effect.{Workspace, with_operands, chooses}
use Rattle.emit_steps.specs.Outcomes.{later, outcome}
use Rattle.emit_steps.specs.declared.step.Step.{Step}
use Rattle.emit_steps.specs.Offsets.{CodeOffset}
use Rattle.emit_steps.specs.Placing.{LiesAt}
use Rattle.emit_steps.specs.Widths.{size}
use Rattle.emit_layout.specs.FieldNumbers.{register_field}
use Rattle.emit_instructions.specs.Access.{get_register}
use Rattle.emit_simulation_laws.specs.Knowing.{IsKnown, AreKnown}
use Rattle.emit_simulation_laws.specs.Lawful.{KnownByUnit}
use Rattle.emit_paths_laws.specs.Laws.{CodeIsPath}
use Rattle.emit_simulation_laws.specs.Holding.{HoldsOn, IsLink}
use Rattle.emit_simulation_laws.specs.Sites.{Site, stands, whole_weight}
use Rattle.emit_simulation_laws.specs.Following.{ComesToEnd, ComesToTurn}
use Rattle.emit_simulation_laws.proofs.Signs.{same-signed}
use Rattle.emit_simulation_laws.proofs.GuestFollows.Outcomes.{code-ends-here, code-stops}
use Rattle.emit_simulation_laws.proofs.RegisterLaws.Reading.{register-pushed, known-word}
use Rattle.emit_simulation_laws.proofs.RegisterLaws.Beside.{beside-held}
use Rattle.meter.specs.Guards.{left_field, transfer_guard, guard_code}
use Rattle.meter_laws.specs.Meters.{HasLeft, leaving, spent_fault, with_spent, EndsSpent}
use Rattle.meter_laws.specs.Laws.{StopsSpent, most_turns}
use Rattle.meter_laws.proofs.CountedCode.{Paid, one-paid, one-spent, of-one-paid, of-one-spent, of-two-paid, of-two-spent}

-- ---- what tests of likely branches choose

not-above : (z : ℤ) → not (int_lt (pos 0) z) ≡ int_le z (pos 0)
not-above z = grind (arith, ints)

not-below : (z : ℤ) → not (int_lt z (pos 0)) ≡ int_le (pos 0) z
not-below z = grind (arith, ints)

module _ (program : Program) (words : ℕ) (known : ℕ → Bool) (w : Workspace) (x : State) (held : HoldsOn 0 known w x) (a : ℕ) (has : HasLeft a w) where
  abbrev over : List Value → Workspace
  over operands = with_operands w operands

  one-pushed : (r : ℕ) → IsKnown known r → (code : List Step) → outcome program words (get_register 0 r ∷ code) w ≡ later (outcome program words code (over (int (register x r) ∷ w.operands)))
  one-pushed r is code = register-pushed program words 0 r known code w x held is

  two-pushed : (r s : ℕ) → IsKnown known r → IsKnown known s → (code : List Step)
      → outcome program words (get_register 0 r ∷ get_register 0 s ∷ code) w ≡ later (later (outcome program words code (over (int (register x s) ∷ int (register x r) ∷ w.operands))))
  two-pushed r s is it code =
      one-pushed r is (get_register 0 s ∷ code)
      ∙ ap later (register-pushed program words 0 s known code (over (int (register x r) ∷ w.operands)) x held it)

  abbrev turns_of : Inst → ℕ
  turns_of i = if skips i x then 1 else 2

  -- ---- each is paid where enough is left

  equal-paid : (name : BranchEqualName) (rs rt imm at : ℕ) → AreKnown known (read_by (inst.BranchEqual name rs rt imm)) → turns_of (inst.BranchEqual name rs rt imm) ≤ a
      → Paid program words (transfer_guard (inst.BranchEqual name rs rt imm) at) w (a - turns_of (inst.BranchEqual name rs rt imm))
  equal-paid Beq rs rt imm at reads least = one-paid program words w a has 2 at (lit≤ tt) least
  equal-paid Bne rs rt imm at reads least = one-paid program words w a has 2 at (lit≤ tt) least
  equal-paid Beql rs rt imm at reads least =
      let m = register x rs in
      let n = register x rt in
      let word_s = known-word 0 rs known w x held reads.0 in
      let word_t = known-word 0 rt known w x held reads.1.0 in
      of-two-paid program words w a has IfIcmpeq at (get_register 0 rs) (get_register 0 rt) m n (two-pushed rs rt reads.0 reads.1.0) (m == n)
      (ap (λ t. chooses t (over (int n ∷ int m ∷ w.operands)) w.operands) (same-signed m n word_s word_t)) least
  equal-paid Bnel rs rt imm at reads least =
      let m = register x rs in
      let n = register x rt in
      let word_s = known-word 0 rs known w x held reads.0 in
      let word_t = known-word 0 rt known w x held reads.1.0 in
      of-two-paid program words w a has IfIcmpne at (get_register 0 rs) (get_register 0 rt) m n (two-pushed rs rt reads.0 reads.1.0) (not (m == n))
      (ap (λ t. chooses (not t) (over (int n ∷ int m ∷ w.operands)) w.operands) (same-signed m n word_s word_t)) least

  zero-paid : (name : BranchZeroName) (rs imm at : ℕ) → AreKnown known (read_by (inst.BranchZero name rs imm)) → turns_of (inst.BranchZero name rs imm) ≤ a
      → Paid program words (transfer_guard (inst.BranchZero name rs imm) at) w (a - turns_of (inst.BranchZero name rs imm))
  zero-paid Blez rs imm at reads least = one-paid program words w a has 2 at (lit≤ tt) least
  zero-paid Bgtz rs imm at reads least = one-paid program words w a has 2 at (lit≤ tt) least
  zero-paid Blezl rs imm at reads least =
      let m = register x rs in
      of-one-paid program words w a has Ifle at (get_register 0 rs) m (one-pushed rs reads.0) (zero_taken Blezl (signed_of m))
      (ap (λ t. chooses t (over (int m ∷ w.operands)) w.operands) (not-above (signed_of m))) least
  zero-paid Bgtzl rs imm at reads least =
      let m = register x rs in
      of-one-paid program words w a has Ifgt at (get_register 0 rs) m (one-pushed rs reads.0) (zero_taken Bgtzl (signed_of m)) refl least

  sign-paid : (name : BranchSignName) (rs imm at : ℕ) → AreKnown known (read_by (inst.BranchSign name rs imm)) → turns_of (inst.BranchSign name rs imm) ≤ a
      → Paid program words (transfer_guard (inst.BranchSign name rs imm) at) w (a - turns_of (inst.BranchSign name rs imm))
  sign-paid Bltz rs imm at reads least = one-paid program words w a has 2 at (lit≤ tt) least
  sign-paid Bgez rs imm at reads least = one-paid program words w a has 2 at (lit≤ tt) least
  sign-paid Bltzal rs imm at reads least = one-paid program words w a has 2 at (lit≤ tt) least
  sign-paid Bgezal rs imm at reads least = one-paid program words w a has 2 at (lit≤ tt) least
  sign-paid Bltzl rs imm at reads least =
      let m = register x rs in
      of-one-paid program words w a has Iflt at (get_register 0 rs) m (one-pushed rs reads.0) (sign_taken Bltzl (signed_of m)) refl least
  sign-paid Bgezl rs imm at reads least =
      let m = register x rs in
      of-one-paid program words w a has Ifge at (get_register 0 rs) m (one-pushed rs reads.0) (sign_taken Bgezl (signed_of m))
      (ap (λ t. chooses t (over (int m ∷ w.operands)) w.operands) (not-below (signed_of m))) least
  sign-paid Bltzall rs imm at reads least =
      let m = register x rs in
      of-one-paid program words w a has Iflt at (get_register 0 rs) m (one-pushed rs reads.0) (sign_taken Bltzall (signed_of m)) refl least
  sign-paid Bgezall rs imm at reads least =
      let m = register x rs in
      of-one-paid program words w a has Ifge at (get_register 0 rs) m (one-pushed rs reads.0) (sign_taken Bgezall (signed_of m))
      (ap (λ t. chooses t (over (int m ∷ w.operands)) w.operands) (not-below (signed_of m))) least

  transfer-paid : (i : Inst) (at : ℕ) → AreKnown known (read_by i) → turns_of i ≤ a → Paid program words (transfer_guard i at) w (a - turns_of i)
  transfer-paid (inst.BranchEqual name rs rt imm) at reads least = equal-paid name rs rt imm at reads least
  transfer-paid (inst.BranchZero name rs imm) at reads least = zero-paid name rs imm at reads least
  transfer-paid (inst.BranchSign name rs imm) at reads least = sign-paid name rs imm at reads least
  transfer-paid other at reads least = one-paid program words w a has 2 at (lit≤ tt) least

  pub unit-paid : (unit : Unit) (at : ℕ) → KnownByUnit known unit → unit_turn_count unit x ≤ a → Paid program words (guard_code unit at) w (a - unit_turn_count unit x)
  unit-paid (Plain i) at knows least = one-paid program words w a has 1 at (lit≤ tt) least
  unit-paid (Branch i slot) at knows least = transfer-paid i at knows.branch least
  unit-paid (SlotMissing i) at knows least = transfer-paid i at knows least
  unit-paid (SlotIsBranch i word) at knows least = transfer-paid i at knows least
  unit-paid Call at knows least = one-paid program words w a has 1 at (lit≤ tt) least
  unit-paid (Trap kind value) at knows least = one-paid program words w a has 1 at (lit≤ tt) least

  -- ---- and ends the run where too few are

  equal-spent : (name : BranchEqualName) (rs rt imm at : ℕ) → AreKnown known (read_by (inst.BranchEqual name rs rt imm)) → a < turns_of (inst.BranchEqual name rs rt imm)
      → StopsSpent program words (transfer_guard (inst.BranchEqual name rs rt imm) at) w at
  equal-spent Beq rs rt imm at reads less = one-spent program words w a has 2 at (lit≤ tt) less
  equal-spent Bne rs rt imm at reads less = one-spent program words w a has 2 at (lit≤ tt) less
  equal-spent Beql rs rt imm at reads less =
      let m = register x rs in
      let n = register x rt in
      let word_s = known-word 0 rs known w x held reads.0 in
      let word_t = known-word 0 rt known w x held reads.1.0 in
      of-two-spent program words w a has IfIcmpeq at (get_register 0 rs) (get_register 0 rt) m n (two-pushed rs rt reads.0 reads.1.0) (m == n)
      (ap (λ t. chooses t (over (int n ∷ int m ∷ w.operands)) w.operands) (same-signed m n word_s word_t)) less
  equal-spent Bnel rs rt imm at reads less =
      let m = register x rs in
      let n = register x rt in
      let word_s = known-word 0 rs known w x held reads.0 in
      let word_t = known-word 0 rt known w x held reads.1.0 in
      of-two-spent program words w a has IfIcmpne at (get_register 0 rs) (get_register 0 rt) m n (two-pushed rs rt reads.0 reads.1.0) (not (m == n))
      (ap (λ t. chooses (not t) (over (int n ∷ int m ∷ w.operands)) w.operands) (same-signed m n word_s word_t)) less

  zero-spent : (name : BranchZeroName) (rs imm at : ℕ) → AreKnown known (read_by (inst.BranchZero name rs imm)) → a < turns_of (inst.BranchZero name rs imm)
      → StopsSpent program words (transfer_guard (inst.BranchZero name rs imm) at) w at
  zero-spent Blez rs imm at reads less = one-spent program words w a has 2 at (lit≤ tt) less
  zero-spent Bgtz rs imm at reads less = one-spent program words w a has 2 at (lit≤ tt) less
  zero-spent Blezl rs imm at reads less =
      let m = register x rs in
      of-one-spent program words w a has Ifle at (get_register 0 rs) m (one-pushed rs reads.0) (zero_taken Blezl (signed_of m))
      (ap (λ t. chooses t (over (int m ∷ w.operands)) w.operands) (not-above (signed_of m))) less
  zero-spent Bgtzl rs imm at reads less =
      let m = register x rs in
      of-one-spent program words w a has Ifgt at (get_register 0 rs) m (one-pushed rs reads.0) (zero_taken Bgtzl (signed_of m)) refl less

  sign-spent : (name : BranchSignName) (rs imm at : ℕ) → AreKnown known (read_by (inst.BranchSign name rs imm)) → a < turns_of (inst.BranchSign name rs imm)
      → StopsSpent program words (transfer_guard (inst.BranchSign name rs imm) at) w at
  sign-spent Bltz rs imm at reads less = one-spent program words w a has 2 at (lit≤ tt) less
  sign-spent Bgez rs imm at reads less = one-spent program words w a has 2 at (lit≤ tt) less
  sign-spent Bltzal rs imm at reads less = one-spent program words w a has 2 at (lit≤ tt) less
  sign-spent Bgezal rs imm at reads less = one-spent program words w a has 2 at (lit≤ tt) less
  sign-spent Bltzl rs imm at reads less =
      let m = register x rs in
      of-one-spent program words w a has Iflt at (get_register 0 rs) m (one-pushed rs reads.0) (sign_taken Bltzl (signed_of m)) refl less
  sign-spent Bgezl rs imm at reads less =
      let m = register x rs in
      of-one-spent program words w a has Ifge at (get_register 0 rs) m (one-pushed rs reads.0) (sign_taken Bgezl (signed_of m))
      (ap (λ t. chooses t (over (int m ∷ w.operands)) w.operands) (not-below (signed_of m))) less
  sign-spent Bltzall rs imm at reads less =
      let m = register x rs in
      of-one-spent program words w a has Iflt at (get_register 0 rs) m (one-pushed rs reads.0) (sign_taken Bltzall (signed_of m)) refl less
  sign-spent Bgezall rs imm at reads less =
      let m = register x rs in
      of-one-spent program words w a has Ifge at (get_register 0 rs) m (one-pushed rs reads.0) (sign_taken Bgezall (signed_of m))
      (ap (λ t. chooses t (over (int m ∷ w.operands)) w.operands) (not-below (signed_of m))) less

  transfer-spent : (i : Inst) (at : ℕ) → AreKnown known (read_by i) → a < turns_of i → StopsSpent program words (transfer_guard i at) w at
  transfer-spent (inst.BranchEqual name rs rt imm) at reads less = equal-spent name rs rt imm at reads less
  transfer-spent (inst.BranchZero name rs imm) at reads less = zero-spent name rs imm at reads less
  transfer-spent (inst.BranchSign name rs imm) at reads less = sign-spent name rs imm at reads less
  transfer-spent other at reads less = one-spent program words w a has 2 at (lit≤ tt) less

  pub unit-spent : (unit : Unit) (at : ℕ) → KnownByUnit known unit → a < unit_turn_count unit x → StopsSpent program words (guard_code unit at) w at
  unit-spent (Plain i) at knows less = one-spent program words w a has 1 at (lit≤ tt) less
  unit-spent (Branch i slot) at knows less = transfer-spent i at knows.branch less
  unit-spent (SlotMissing i) at knows less = transfer-spent i at knows less
  unit-spent (SlotIsBranch i word) at knows less = transfer-spent i at knows less
  unit-spent Call at knows less = one-spent program words w a has 1 at (lit≤ tt) less
  unit-spent (Trap kind value) at knows less = one-spent program words w a has 1 at (lit≤ tt) less

-- ---- where the code lies

module _ (is_path : CodeIsPath) (unit : Unit) (site : Site) (order : Order) (known : ℕ → Bool) (at : CodeOffset) (w : Workspace) (x : State) (left : ℕ)
    (lies : LiesAt site.program site.method at (guard_code unit x.pc)) (knows : KnownByUnit known unit) (held : HoldsOn 0 known w x) (has : HasLeft left w) where
  abbrev code : List Step
  code = guard_code unit x.pc

  pub guard-paid : unit_turn_count unit x ≤ left
      → ComesToEnd site at (at + size code) 1 most_turns (whole_weight order code) (λ v. v ≡ leaving (left - unit_turn_count unit x) w) (stands site at w)
  guard-paid least =
      let p = unit-paid site.program site.words known w x held left has unit x.pc knows least in
      code-ends-here is_path site order at code lies 1 most_turns p.turns w (leaving (left - unit_turn_count unit x) w)
      (λ v. v ≡ leaving (left - unit_turn_count unit x) w) p.comes p.some p.in_time refl

  pub guard-spent : left < unit_turn_count unit x
      → ComesToTurn site at (at + size code) 1 most_turns (whole_weight order code) (EndsSpent x.pc) (stands site at w)
  guard-spent less =
      let p = unit-spent site.program site.words known w x held left has unit x.pc knows less in
      code-stops is_path site order at code lies 1 most_turns p.turns p.step w (with_spent w x.pc) (spent_fault x.pc)
      (EndsSpent x.pc) p.comes (omega arith) p.in_time (λ place. refl)

-- ---- the guest's state behind it

still-linked : (w : Workspace) (left : ℕ) (link : Option ℕ) → IsLink w.fields link → IsLink (leaving left w).fields link
still-linked w left None is = is
still-linked w left (Some at) is = is

pub still-held : (bank : ℕ) (known : ℕ → Bool) (w : Workspace) (x : State) (left : ℕ) → HoldsOn bank known w x → HoldsOn bank known (leaving left w) x
still-held bank known w x left h =
    beside-held bank known w x h (leaving left w).fields w.heap x.hi x.lo x.load_link x.memory
    (record {
      registers_kept = λ r some below. ap (λ b. if b then int left else w.fields (register_field r)) (ne_eqb (register_field r) left_field (λ same. omega (arith, same, some, below)));
      pc_kept = refl;
      readable_kept = refl;
      writable_kept = refl;
    })
    h.hi_is h.hi_word h.lo_is h.lo_word (still-linked w left x.load_link h.link_is) h.memory_held
