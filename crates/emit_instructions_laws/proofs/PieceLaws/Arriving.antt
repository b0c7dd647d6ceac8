-- The registers before the code of a piece's units, and behind it.
use Rattle.std.proofs.Common.{◌≡◌, ℕ, ◌+◌, ◌<◌, ◌≤◌, ◌||◌, Bool, true, false, not, if◌then◌else◌, inl, inr, List, [], ◌∷◌, Option, Some, None, refl, ap, subst, sym, ◌∙◌, arith}
use Rattle.std.specs.List.{flat_map}
use Rattle.std.proofs.lemmas.Bool.{cases_Bool, not_from_false, or_left, or_right, true≢false}
use Rattle.mips_definition.specs.State.{State}
use Rattle.delay_slots.specs.declared.unit.Unit.{Unit as Word}
use Rattle.delay_slots.specs.declared.unit.Unit.TheVariants as units
use Rattle.block_builder.specs.Registers.{unit_writes}
use Rattle.jvm_definition.specs.declared.value.Value.{Value}
use Rattle.jvm_definition.specs.declared.value.Value.TheVariants.{Int as int}
use Rattle.jvm_definition.specs.Program.{Program}
use Rattle.jvm_definition.specs.Effect.{Workspace}
use Rattle.emit_layout.specs.FieldNumbers.{register_field, hi_field, lo_field, pc_field, readable_field, writable_field}
use Rattle.emit_instructions.specs.Access.{keeps}
use Rattle.emit_instructions.specs.Fields.{link_field, linked_field}
use Rattle.word_emitter.specs.Pieces.{bank_of, fetched, is_needed, is_written, put_back}
use Rattle.emit_simulation_laws.specs.Knowing.{gained}
use Rattle.emit_simulation_laws.proofs.PieceSets.{AreLawful, SetLaws, known-behind, written-kept}
use Rattle.emit_simulation_laws.specs.Match.{HoldsMemory}
use Rattle.emit_simulation_laws.specs.Holding.{HoldsOn, IsLink, KeepsGoal, reached}
use Rattle.emit_instructions_laws.specs.Pieces.{HoldsAll, PieceArrives, PieceGoal, UnitGoal, known_first}
use Rattle.emit_instructions_laws.proofs.UnitLaws.Reaching.{says-still, says-from}
use Rattle.emit_instructions_laws.proofs.PieceLaws.Fetching.{AreInFields, Fetches, PutsBack, each_code}
use Rattle.emit_instructions_laws.proofs.PieceLaws.Running.{HasRun}
use Rattle.emit_instructions_laws.proofs.PieceLaws.Sets.{none-kept}

-- ---- before the units

-- What a piece needs is fetched.
pub record HasBegun (piece : List Word) (x : State) (before after : Workspace) : Type 0 where
  pub held : HoldsOn (bank_of piece) (known_first piece) after x
  pub fields_kept : after.fields ≡ before.fields
  pub operands_kept : after.operands ≡ before.operands

-- all registers are in their fields
pub all-in-fields : (w : Workspace) (s : State) → HoldsAll w s → AreInFields w.fields s.registers
all-in-fields w s h r positive below =
    sym (ap (λ b. if b then w.locals r else w.fields (register_field r)) (none-kept r)) ∙ h.register_is r positive below refl

same-link : (new old : ℕ → Value) (link : Option ℕ) → new linked_field ≡ old linked_field → new link_field ≡ old link_field → IsLink old link
    → IsLink new link
same-link new old None linked link is = linked ∙ is
same-link new old (Some at) linked link is = (linked ∙ is.0, link ∙ is.1, is.2)

module _ (program : Program) (words : ℕ) (piece : List Word) (w : Workspace) (x : State) (h : HoldsAll w x) where
  pub begun : (f : Fetches program words (is_needed piece) x.registers 1 31 (each_code (is_needed piece) fetched 1 31) w) → HasBegun piece x w f.after
  begun f = record {
    held = record {
      register_is = register;
      register_word = h.register_word;
      hi_is = same hi_field ∙ h.hi_is;
      hi_word = h.hi_word;
      lo_is = same lo_field ∙ h.lo_is;
      lo_word = h.lo_word;
      pc = h.pc;
      pc_is = same pc_field ∙ h.pc_is;
      link_is = same-link f.after.fields w.fields x.load_link (same linked_field) (same link_field) h.link_is;
      readable = h.readable;
      readable_is = same readable_field ∙ h.readable_is;
      writable = h.writable;
      writable_is = same writable_field ∙ h.writable_is;
      memory_held = subst (λ heap. HoldsMemory heap h.readable h.writable x.memory) (sym f.heap_kept) h.memory_held;
    };
    fields_kept = f.fields_kept;
    operands_kept = f.operands_kept;
  }
    where
      same : (g : ℕ) → f.after.fields g ≡ w.fields g
      same g = ap (λ (fields : ℕ → Value). fields g) f.fields_kept

      by-bank : (r : ℕ) (b : Bool) → 0 < r → r < 32 → (b ≡ true → is_needed piece r ≡ true)
          → (if b then f.after.locals r else f.after.fields (register_field r)) ≡ int (x.registers r)
      by-bank r true positive below needed = f.are_there r positive below (needed refl)
      by-bank r false positive below needed = same (register_field r) ∙ all-in-fields w x h r positive below

      in-bank : (b needed : Bool) → (not b || needed) ≡ true → b ≡ true → needed ≡ true
      in-bank true needed known kept = known
      in-bank false needed known kept = absurd (true≢false (sym kept))

      register : (r : ℕ) → 0 < r → r < 32 → known_first piece r ≡ true → reached (bank_of piece) f.after r ≡ int (x.registers r)
      register r positive below known =
          by-bank r (keeps (bank_of piece) r) positive below (in-bank (keeps (bank_of piece) r) (is_needed piece r) known)

-- ---- where registers are put back

module _ (program : Program) (words : ℕ) (piece : List Word) (u : Workspace) (t : State)
    (p : PutsBack program words (is_written piece) t.registers 1 31 (each_code (is_written piece) put_back 1 31) u) where
  -- the other fields stay
  pub put-field : (g : ℕ) → 31 ≤ g → p.after.fields g ≡ u.fields g
  put-field g above = p.fields_kept g (λ r low high passes equal. omega (arith, equal, above, low, high))

  module _ (unwritten : (r : ℕ) → 0 < r → r < 32 → is_written piece r ≡ false → u.fields (register_field r) ≡ int (t.registers r)) where
    put-register : (r : ℕ) → 0 < r → r < 32 → p.after.fields (register_field r) ≡ int (t.registers r)
    put-register r positive below = elim (cases_Bool (is_written piece r)) [
      | inl written ↦ p.are_there r positive below written
      | inr none ↦
          p.fields_kept (register_field r)
          (λ q low high passes equal.
          let alike : q ≡ r = omega (arith, equal, low, positive) in
          true≢false (sym passes ∙ ap (is_written piece) alike ∙ none))
          ∙ unwritten r positive below none
    ]

    -- where those that were not written are in their fields, all are
    pub put-held : (known : ℕ → Bool) → HoldsOn (bank_of piece) known u t → HoldsAll p.after t
    put-held known h = record {
      register_is = λ r positive below known. ap (λ b. if b then p.after.locals r else p.after.fields (register_field r)) (none-kept r) ∙ put-register
          r positive below;
      register_word = h.register_word;
      hi_is = put-field hi_field (omega arith) ∙ h.hi_is;
      hi_word = h.hi_word;
      lo_is = put-field lo_field (omega arith) ∙ h.lo_is;
      lo_word = h.lo_word;
      pc = h.pc;
      pc_is = put-field pc_field (omega arith) ∙ h.pc_is;
      link_is = same-link p.after.fields u.fields t.load_link (put-field linked_field (omega arith)) (put-field link_field (omega arith)) h.link_is;
      readable = h.readable;
      readable_is = put-field readable_field (omega arith) ∙ h.readable_is;
      writable = h.writable;
      writable_is = put-field writable_field (omega arith) ∙ h.writable_is;
      memory_held = subst (λ heap. HoldsMemory heap h.readable h.writable t.memory) (sym p.heap_kept) h.memory_held;
    }

-- ---- behind the units

-- where the operands are kept before the code of units, and those and the goal behind it, the goal is theirs
pub unit-moved : (before v u after : Workspace) (t : State) → v.operands ≡ before.operands → after.operands ≡ u.operands → KeepsGoal u after
    → (unit : Word) (at : ℕ) → UnitGoal unit at v u t → UnitGoal unit at before after t
unit-moved before v u after t first last kept (units.Plain i) at goal = last ∙ goal ∙ first
unit-moved before v u after t first last kept (units.Branch i slot) at goal =
    says-still i at before u after t.pc last kept (says-from i at before v u t.pc first goal)
unit-moved before v u after t first last kept (units.SlotMissing i) at goal =
    says-still i at before u after t.pc last kept (says-from i at before v u t.pc first goal)
unit-moved before v u after t first last kept (units.SlotIsBranch i word) at goal =
    says-still i at before u after t.pc last kept (says-from i at before v u t.pc first goal)
unit-moved before v u after t first last kept units.Call at goal = last ∙ goal ∙ first
unit-moved before v u after t first last kept (units.Trap kind value) at goal = last ∙ goal ∙ first

goal-moved : (before v u after : Workspace) (t : State) → v.operands ≡ before.operands → after.operands ≡ u.operands → KeepsGoal u after
    → (rest : List Word) (unit : Word) (at : ℕ) → PieceGoal (unit ∷ rest) at v u t → PieceGoal (unit ∷ rest) at before after t
goal-moved before v u after t first last kept [] unit at goal = unit-moved before v u after t first last kept unit at goal
goal-moved before v u after t first last kept (next ∷ rest) unit at goal = goal-moved before v u after t first last kept rest next (at + 4) goal

module _ (sets : SetLaws) (program : Program) (words : ℕ) (unit : Word) (rest : List Word) (lawful : AreLawful (unit ∷ rest)) (w v u : Workspace)
    (x t : State) (h : HoldsAll w x) (first : HasBegun (unit ∷ rest) x w v)
    (run : HasRun (bank_of (unit ∷ rest)) (known_first (unit ∷ rest)) (unit ∷ rest) x v u t) where
  abbrev piece : List Word
  piece = unit ∷ rest

  abbrev bank : ℕ
  bank = bank_of piece

  known-there : (r : ℕ) → 0 < r → r < 32 → (is_written piece r || known_first piece r) ≡ true → reached bank u r ≡ int (t.registers r)
  known-there r positive below known =
      run.held.register_is r positive below (known-behind sets piece (known_first piece) r lawful positive below ∙ known)

  -- a register that is written is in its local variable
  pub written-there : (r : ℕ) → 0 < r → r < 32 → is_written piece r ≡ true → u.locals r ≡ int (t.registers r)
  written-there r positive below written =
      sym (ap (λ b. if b then u.locals r else u.fields (register_field r)) (written-kept sets piece r lawful positive below written))
      ∙ known-there r positive below (or_left (is_written piece r) (known_first piece r) written)

  -- another one is in its field
  unwritten-there : (r : ℕ) → 0 < r → r < 32 → is_written piece r ≡ false → u.fields (register_field r) ≡ int (t.registers r)
  unwritten-there r positive below none = elim (cases_Bool (keeps bank r)) [
    | inl kept ↦
        run.fields_kept r positive below kept
        ∙ ap (λ (fields : ℕ → Value). fields (register_field r)) first.fields_kept
        ∙ all-in-fields w x h r positive below
        ∙ ap int (sym (run.left r positive below none))
    | inr free ↦
        sym (ap (λ b. if b then u.locals r else u.fields (register_field r)) free)
        ∙ known-there r positive below (or_right (is_written piece r) (known_first piece r)
        (or_left (not (keeps bank r)) (is_needed piece r) (not_from_false (keeps bank r) free)))
  ]

  pub arrived : (p : PutsBack program words (is_written piece) t.registers 1 31 (each_code (is_written piece) put_back 1 31) u)
      → PieceArrives piece x.pc w p.after t
  arrived p = record {
    held = put-held program words piece u t p unwritten-there (gained (flat_map unit_writes piece) (known_first piece)) run.held;
    goal = goal-moved w v u p.after t first.operands_kept p.operands_kept
        (record {
          pc_kept = put-field program words piece u t p pc_field (omega arith);
          goal_kept = ap (λ (locals : ℕ → Value). locals 0) p.locals_kept;
        })
        rest unit x.pc run.goal;
  }
