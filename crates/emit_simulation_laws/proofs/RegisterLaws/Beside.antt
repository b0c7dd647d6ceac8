-- A workspace with other fields and arrays that agree with it where registers are.
use Rattle.std.proofs.Common.{◌≡◌, ◌≢◌, ℕ, ◌==◌, ◌<◌, Bool, if◌then◌else◌, Option, refl, ap, ◌∙◌, arith}
use Rattle.std.proofs.lemmas.Bool.{ne_eqb}
use Rattle.run_definition.specs.Words.{IsWord}
use Rattle.run_definition.specs.Memory.{Memory}
use Rattle.mips_definition.specs.State.{State}
use Rattle.jvm_definition.specs.declared.value.Value.{Value}
use Rattle.jvm_definition.specs.declared.value.Value.TheVariants.{Int as int}
use Rattle.jvm_definition.specs.Values.{Heap}
use Rattle.jvm_definition.specs.Effect.{Workspace}
use Rattle.emit_layout.specs.FieldNumbers.{register_field, hi_field, lo_field, pc_field, readable_field, writable_field}
use Rattle.emit_instructions.specs.Access.{keeps}
use Rattle.emit_instructions.specs.Fields.{link_field, linked_field}
use Rattle.emit_simulation_laws.specs.Match.{HoldsMemory}
use Rattle.emit_simulation_laws.specs.Holding.{HoldsOn, Keeps, KeepsGoal, IsLink}

-- the workspace with other fields and arrays
abbrev pub beside : Workspace → (ℕ → Value) → Heap → Workspace
beside w fields heap = record w { fields = fields; heap = heap }

-- Fields agree with older ones in the registers, in where the guest is, and in the tables of pages.
pub record Agrees (old new : ℕ → Value) : Type 0 where
  pub registers_kept : (r : ℕ) → 0 < r → r < 32 → new (register_field r) ≡ old (register_field r)
  pub pc_kept : new pc_field ≡ old pc_field
  pub readable_kept : new readable_field ≡ old readable_field
  pub writable_kept : new writable_field ≡ old writable_field

-- HI and LO, the link of LL and the memory may be others.
pub beside-held : (bank : ℕ) (known : ℕ → Bool) (w : Workspace) (s : State) (h : HoldsOn bank known w s) (fields : ℕ → Value) (heap : Heap) (hi lo : ℕ) (link : Option ℕ) (memory : Memory) → Agrees w.fields fields → fields hi_field ≡ int hi → IsWord hi → fields lo_field ≡ int lo → IsWord lo → IsLink fields link → HoldsMemory heap h.readable h.writable memory → HoldsOn bank known (beside w fields heap) (record s { hi = hi; lo = lo; load_link = link; memory = memory })
beside-held bank known w s h fields heap hi lo link memory agrees hi_is hi_word lo_is lo_word link_is held = record {
  register_is = λ r more less is. ap (λ v. if keeps bank r then w.locals r else v) (agrees.registers_kept r more less) ∙ h.register_is r more less is;
  register_word = h.register_word;
  hi_is = hi_is;
  hi_word = hi_word;
  lo_is = lo_is;
  lo_word = lo_word;
  pc = h.pc;
  pc_is = agrees.pc_kept ∙ h.pc_is;
  link_is = link_is;
  readable = h.readable;
  readable_is = agrees.readable_kept ∙ h.readable_is;
  writable = h.writable;
  writable_is = agrees.writable_kept ∙ h.writable_is;
  memory_held = held;
}

pub beside-kept : (bank : ℕ) (w : Workspace) (fields : ℕ → Value) (heap : Heap) → Agrees w.fields fields → Keeps bank w (beside w fields heap)
beside-kept bank w fields heap agrees = record { fields_kept = λ r more less is. agrees.registers_kept r more less; operands_kept = refl }

pub beside-goal-kept : (w : Workspace) (fields : ℕ → Value) (heap : Heap) → Agrees w.fields fields → KeepsGoal w (beside w fields heap)
beside-goal-kept w fields heap agrees = record { pc_kept = agrees.pc_kept; goal_kept = refl }

pub kept-twice : (bank : ℕ) (first second third : Workspace) → Keeps bank first second → Keeps bank second third → Keeps bank first third
kept-twice bank first second third a b = record {
  fields_kept = λ r more less is. b.fields_kept r more less is ∙ a.fields_kept r more less is;
  operands_kept = b.operands_kept ∙ a.operands_kept;
}

pub goal-kept-twice : (first second third : Workspace) → KeepsGoal first second → KeepsGoal second third → KeepsGoal first third
goal-kept-twice first second third a b = record { pc_kept = b.pc_kept ∙ a.pc_kept; goal_kept = b.goal_kept ∙ a.goal_kept }

-- ---- fields that agree

-- fields agree that differ at most in HI, LO and the link
pub agree-but : (old new : ℕ → Value) → ((f : ℕ) → f ≢ hi_field → f ≢ lo_field → f ≢ link_field → f ≢ linked_field → new f ≡ old f) → Agrees old new
agree-but old new same = record {
  registers_kept = λ r more less. same (register_field r) (omega arith) (omega arith) (omega arith) (omega arith);
  pc_kept = same pc_field (omega arith) (omega arith) (omega arith) (omega arith);
  readable_kept = same readable_field (omega arith) (omega arith) (omega arith) (omega arith);
  writable_kept = same writable_field (omega arith) (omega arith) (omega arith) (omega arith);
}

pub agree-itself : (fields : ℕ → Value) → Agrees fields fields
agree-itself fields = record { registers_kept = λ r more less. refl; pc_kept = refl; readable_kept = refl; writable_kept = refl }

-- a field that is not the one that is put
pub other-field : (f g : ℕ) (v x : Value) → f ≢ g → (if f == g then v else x) ≡ x
other-field f g v x differ = ap (λ b. if b then v else x) (ne_eqb f g differ)
