-- The registers in the middle of a piece: before its units, behind each of them, and once they are put back.
use Rattle.std.proofs.Common.{◌≡◌, ℕ, ◌<◌, ◌||◌, true, false, not, if◌then◌else◌, inl, inr, List, [], ◌∷◌, ◌++◌, append-nil, ap, subst, sym, ◌∙◌}
use Rattle.std.specs.List.{flat_map}
use Rattle.std.proofs.lemmas.Bool.{cases_Bool, not_from_false, or_left, or_parts, or_right}
use Rattle.std.proofs.lemmas.List.Concat.{flat_map-append}
use Rattle.std.proofs.lemmas.List.Folds.{list_any-append}
use Rattle.mips_definition.specs.State.{State}
use Rattle.delay_slots.specs.declared.unit.Unit.{Unit as Word}
use Rattle.block_builder.specs.Registers.{unit_writes}
use Rattle.jvm_definition.specs.declared.value.Value.{Value}
use Rattle.jvm_definition.specs.declared.value.Value.TheVariants.{Int as int}
use Rattle.jvm_definition.specs.Effect.{Workspace}
use Rattle.emit_layout.specs.FieldNumbers.{register_field}
use Rattle.emit_instructions.specs.Access.{keeps}
use Rattle.word_emitter.specs.Pieces.{bank_of, is_in, is_needed, is_written}
use Rattle.emit_simulation_laws.specs.Knowing.{gained}
use Rattle.emit_simulation_laws.specs.Lawful.{IsLawful, has_register}
use Rattle.emit_simulation_laws.proofs.PieceSets.{AreLawful, SetLaws, known-behind, written-kept}
use Rattle.emit_simulation_laws.specs.Holding.{HoldsOn}
use Rattle.emit_simulation_laws.specs.Behind.{IsHeld}
use Rattle.emit_instructions_laws.specs.Pieces.{HoldsAll, known_first}
use Rattle.emit_instructions_laws.proofs.PieceLaws.Arriving.{HasBegun, all-in-fields}
use Rattle.emit_instructions_laws.proofs.PieceLaws.Turns.{LeavesOthers}
use Rattle.emit_spans_laws.specs.InPieces.{IsInPiece, known_behind}

pub none-done : (piece : List Word) (x : State) (w v : Workspace) → HoldsAll w x → w.operands ≡ [] → HasBegun piece x w v → IsInPiece piece [] v x
none-done piece x w v h none begun = record {
  held = begun.held;
  unwritten = λ r positive below unwritten.
      ap (λ (fields : ℕ → Value). fields (register_field r)) begun.fields_kept ∙ all-in-fields w x h r positive below;
  no_operands = begun.operands_kept ∙ none;
}

module _ (sets : SetLaws) (piece front : List Word) (unit : Word) (lawful : IsLawful unit) where
  -- a register of which the bank knows nothing is known from the first
  apart-known : (r : ℕ) → keeps (bank_of piece) r ≡ false → known_behind piece (front ++ unit ∷ []) r ≡ true
  apart-known r free =
      sets.gained_is (flat_map unit_writes (front ++ unit ∷ [])) (known_first piece) r
      ∙ or_right (has_register (flat_map unit_writes (front ++ unit ∷ [])) r) (known_first piece r)
      (or_left (not (keeps (bank_of piece) r)) (is_needed piece r) (not_from_false (keeps (bank_of piece) r) free))

  known-more : known_behind piece (front ++ unit ∷ []) ≡ gained (unit_writes unit) (known_behind piece front)
  known-more =
      ap (λ written. gained written (known_first piece))
      (flat_map-append unit_writes front (unit ∷ []) ∙ ap (λ written. flat_map unit_writes front ++ written) (append-nil (unit_writes unit)))
      ∙ sets.gained_joined (flat_map unit_writes front) (unit_writes unit) (known_first piece)

  written-more : (r : ℕ) → is_written (front ++ unit ∷ []) r ≡ (is_written front r || (is_in r (unit_writes unit) || false))
  written-more r = list_any-append (λ u. is_in r (unit_writes u)) front (unit ∷ [])

  pub one-done : (w u : Workspace) (x t : State) → IsInPiece piece front w x → LeavesOthers (has_register (unit_writes unit)) x t
      → IsHeld (bank_of piece) (known_behind piece front) (unit_writes unit) w u t → IsInPiece piece (front ++ unit ∷ []) u t
  one-done w u x t before leaves done = record {
    held = held;
    unwritten = unwritten;
    no_operands = done.kept.operands_kept ∙ before.no_operands;
  }
    where
      held : HoldsOn (bank_of piece) (known_behind piece (front ++ unit ∷ [])) u t
      held = subst (λ known. HoldsOn (bank_of piece) known u t) (sym known-more) done.held

      unwritten : (r : ℕ) → 0 < r → r < 32 → is_written (front ++ unit ∷ []) r ≡ false → u.fields (register_field r) ≡ int (t.registers r)
      unwritten r positive below none =
          let parts = or_parts (is_written front r) (is_in r (unit_writes unit) || false) (sym (written-more r) ∙ none) in
          let own = or_parts (is_in r (unit_writes unit)) false parts.1 in
          elim (cases_Bool (keeps (bank_of piece) r)) [
            | inl kept ↦
                done.kept.fields_kept r positive below kept
                ∙ before.unwritten r positive below parts.0
                ∙ ap int (sym (leaves r positive below
                (sym (sets.is_membership (unit_writes unit) r (sets.writes_numbers unit lawful) positive below) ∙ own.0)))
            | inr free ↦
                sym (ap (λ b. if b then u.locals r else u.fields (register_field r)) free)
                ∙ held.register_is r positive below (apart-known r free)
          ]

-- where all units are done, the registers that they write are in local variables
pub all-done : (sets : SetLaws) (piece : List Word) (u : Workspace) (t : State) → AreLawful piece → IsInPiece piece piece u t
    → (r : ℕ) → 0 < r → r < 32 → is_written piece r ≡ true → u.locals r ≡ int (t.registers r)
all-done sets piece u t lawful inside r positive below written =
    sym (ap (λ b. if b then u.locals r else u.fields (register_field r)) (written-kept sets piece r lawful positive below written))
    ∙ inside.held.register_is r positive below
    (known-behind sets piece (known_first piece) r lawful positive below ∙ or_left (is_written piece r) (known_first piece r) written)
