-- Moves from and to HI and LO.
use Rattle.std.proofs.Common.{◌≡◌, ℕ, ◌<◌, Bool, ◌⊎◌, inl, inr, List, [], ◌∷◌, refl, arith, lit≤}
use Rattle.std.proofs.lemmas.Grind.{common_steps}
use Rattle.run_definition.specs.Words.{IsWord}
use Rattle.run_definition.specs.Turn.{moves}
use Rattle.mips_definition.specs.State.{State}
use Rattle.mips_definition.specs.Step.{advanced}
use Rattle.mips_definition.specs.declared.inst.Inst.TheVariants as inst
use Rattle.mips_definition.specs.declared.names.hi_lo.HiLo.{HiLo}
use Rattle.mips_definition.specs.declared.names.hi_lo.HiLo.TheVariants.{Hi, Lo}
use Rattle.delay_slots.specs.Turns.{done}
use Rattle.block_builder.specs.Registers.{special, general}
use Rattle.jvm_definition.specs.declared.value.Value.{Value}
use Rattle.jvm_definition.specs.declared.value.Value.TheVariants.{Int as int}
use Rattle.jvm_definition.specs.Effect.{Workspace, with_field}
use Rattle.emit_layout.specs.FieldNumbers.{hi_field, lo_field}
use Rattle.emit_instructions.specs.Access.{get_field, put_field}
use Rattle.emit_instructions.specs.Computing.{hi_lo_field, move_from_code, move_to_code}
use Rattle.emit_simulation_laws.specs.Knowing.{IsKnown}
use Rattle.emit_simulation_laws.specs.Holding.{HoldsOn, Keeps, KeepsGoal}
use Rattle.emit_simulation_laws.specs.Behind.{IsDone}
use Rattle.emit_simulation_laws.proofs.GuestFollows.CodeLaws.{CodeLaws}
use Rattle.emit_instructions_laws.specs.Instructions.{InstructionFollows, most_turns}
use Rattle.emit_instructions_laws.proofs.InstructionLaws.Settings.{Setting, by-setting, Lies, Followed, word_in, word_in-word, register-pushed, field-pushed}
use Rattle.emit_instructions_laws.proofs.InstructionLaws.Combined.{moved-gives}

-- ---- what is read

move-from-done : (laws : CodeLaws) (x : Setting) (name : HiLo) (rd : ℕ) → rd < 32 → Lies x (move_from_code x.bank name rd)
    → Followed x (general rd ∷ []) (move_from_code x.bank name rd) (done (inst.MoveFrom name rd) x.state)
move-from-done laws x Hi rd below lies =
    moved-gives laws x rd below (get_field hi_field) x.state.hi x.state.hi lies (field-pushed x hi_field x.state.hi x.held.hi_is) x.held.hi_word refl
move-from-done laws x Lo rd below lies =
    moved-gives laws x rd below (get_field lo_field) x.state.lo x.state.lo lies (field-pushed x lo_field x.state.lo x.held.lo_is) x.held.lo_word refl

pub move-from-follows : CodeLaws → (name : HiLo) (rd : ℕ) → InstructionFollows (inst.MoveFrom name rd)
move-from-follows laws name rd = by-setting (inst.MoveFrom name rd) (λ x fields lies reads. move-from-done laws x name rd fields.writes.0 lies)

-- ---- what is written

hi-held : (bank n : ℕ) (known : ℕ → Bool) (w : Workspace) (s : State) (operands : List Value) → IsWord n → HoldsOn bank known w s
    → HoldsOn bank known (with_field w hi_field (int n) operands) (record s { hi = n })
hi-held bank n known w s operands word h = grind (arith, common_steps)

lo-held : (bank n : ℕ) (known : ℕ → Bool) (w : Workspace) (s : State) (operands : List Value) → IsWord n → HoldsOn bank known w s
    → HoldsOn bank known (with_field w lo_field (int n) operands) (record s { lo = n })
lo-held bank n known w s operands word h = grind (arith, common_steps)

field-kept : (bank f n : ℕ) (w : Workspace) → (f ≡ hi_field) ⊎ (f ≡ lo_field) → Keeps bank w (with_field w f (int n) w.operands)
field-kept bank f n w is = grind (arith, common_steps)

field-goal-kept : (f n : ℕ) (w : Workspace) → (f ≡ hi_field) ⊎ (f ≡ lo_field) → KeepsGoal w (with_field w f (int n) w.operands)
field-goal-kept f n w is = grind (arith, common_steps)

module _ (laws : CodeLaws) (x : Setting) (rs : ℕ) (is : IsKnown x.known rs) where
  to-field : (name : HiLo) (t : State) → Lies x (move_to_code x.bank name rs)
      → IsDone x.bank x.known (special name ∷ []) x.before (with_field x.before (hi_lo_field name) (int (word_in x rs))
      x.before.operands) (advanced t)
      → Followed x (special name ∷ []) (move_to_code x.bank name rs) (moves (advanced t))
  to-field name t lies arrives =
      laws.end_follows x.site x.order x.at 1 most_turns 2 (move_to_code x.bank name rs) x.before
      (with_field x.before (hi_lo_field name) (int (word_in x rs)) x.before.operands)
      (λ u. IsDone x.bank x.known (special name ∷ []) x.before u (advanced t)) lies
      (register-pushed x rs is (put_field (hi_lo_field name) ∷ []) x.before.operands _ refl) (lit≤ tt) (lit≤ tt) arrives

  move-to-done : (name : HiLo) → Lies x (move_to_code x.bank name rs)
      → Followed x (special name ∷ []) (move_to_code x.bank name rs) (done (inst.MoveTo name rs) x.state)
  move-to-done Hi lies =
      to-field Hi (record x.state { hi = word_in x rs }) lies (record {
        state =
            record {
              held = hi-held x.bank (word_in x rs) x.known x.before x.state x.before.operands (word_in-word x rs is) x.held;
              kept = field-kept x.bank
                  hi_field (word_in x rs) x.before (inl refl);
            };
        goal = field-goal-kept hi_field (word_in x rs) x.before (inl refl);
      })
  move-to-done Lo lies =
      to-field Lo (record x.state { lo = word_in x rs }) lies (record {
        state =
            record {
              held = lo-held x.bank (word_in x rs) x.known x.before x.state x.before.operands (word_in-word x rs is) x.held;
              kept = field-kept x.bank
                  lo_field (word_in x rs) x.before (inr refl);
            };
        goal = field-goal-kept lo_field (word_in x rs) x.before (inr refl);
      })

pub move-to-follows : CodeLaws → (name : HiLo) (rs : ℕ) → InstructionFollows (inst.MoveTo name rs)
move-to-follows laws name rs = by-setting (inst.MoveTo name rs) (λ x fields lies reads. move-to-done laws x rs reads.0 name lies)
