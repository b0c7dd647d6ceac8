-- A store that cannot be done ends the run.
use Rattle.std.proofs.Common.{◌≡◌, ℕ, ◌+◌, ◌*◌, ◌/◌, ◌%◌, ◌^◌, ◌==◌, ◌<◌, ◌≤◌, bit_and, Bool, true, false, inl, inr, List, [], ◌∷◌, ◌++◌, refl, ◌∙◌, subst, sym, arith, lit≤, lit<}
use Rattle.std.proofs.lemmas.Bool.{eqb-true, eqb-false}
use Rattle.std.proofs.lemmas.Nat.{and_mask, and_le_l}
use Rattle.run_definition.specs.declared.order.Order.{Order}
use Rattle.run_definition.specs.Memory.{Memory}
use Rattle.run_definition.specs.declared.fault.Fault.{Fault}
use Rattle.mips_definition.specs.Effect.{write_refused_fault, write_align_fault}
use Rattle.jvm_definition.specs.Program.{Program}
use Rattle.jvm_definition.specs.Effect.{Workspace, InstructionEffect, enters}
use Rattle.jvm_definition.specs.declared.value.Value.TheVariants.{Int as int}
use Rattle.emit_steps.specs.declared.step.Step.{Step}
use Rattle.emit_steps.specs.Outcomes.{outcome}
use Rattle.emit_layout.specs.FieldNumbers.{writable_field}
use Rattle.mem_helpers.specs.Parts.{accessed}
use Rattle.mem_helpers.specs.Stores.{write_fault_code, write_fault_number}
use Rattle.mem_helpers.specs.Methods.{helper_code}
use Rattle.emit_simulation_laws.specs.Outcomes.{Faults, CallsFault}
use Rattle.emit_simulation_laws.specs.Helpers.{HasHelpers}
use Rattle.mem_helpers_laws.specs.Storing.{HoldsTables, given_to_store, store_fault_turns}
use Rattle.mem_helpers_laws.proofs.StoreLaws.Stopping.{Stops, stops-within}
use Rattle.mem_helpers_laws.proofs.StoreLaws.Tests.{top-and-low}
use Rattle.mem_helpers_laws.proofs.StoreLaws.Faulting.{unaligned-ends, refused-ends}
use Rattle.mem_helpers_laws.proofs.StoreLaws.Accessing.{begins, Falls, Passes, byte-falls, byte-passes, mask-falls, mask-passes, access-refused, access-unfit, fault-called}
use Rattle.mem_helpers_laws.proofs.StoreLaws.Places.{Missing, missing}

module _ (program : Program) (words value a pc : ℕ) (w : Workspace) where
  -- how the test of an address with this alignment goes
  pub record Tested (bytes bits : ℕ) (aligned : Bool) : Type 0 where
    pub fits : aligned ≡ true → a < 2 ^ 31 → Falls program words value a pc w bytes
    pub high : 2 ^ 31 ≤ a → Passes program words value a pc w bytes
    pub unaligned : aligned ≡ false → Passes program words value a pc w bytes
    pub some_bit : aligned ≡ false → bit_and a bits ≡ 0 → ⊥
    pub no_bit : aligned ≡ true → bit_and a bits ≡ 0

  pub tested-as : (bytes bits : ℕ) (aligned : Bool) → aligned ≡ true → Tested bytes bits aligned → Tested bytes bits true
  tested-as bytes bits aligned is tested = subst (Tested bytes bits) is tested

  module _ (is_word : a < 2 ^ 32) where
    pub byte-tested : Tested 1 0 true
    byte-tested = record {
      fits = λ t low. byte-falls program words value a pc w low;
      high = λ high. byte-passes program words value a pc w is_word high;
      unaligned = λ f. absurd (differ f);
      some_bit = λ f. absurd (differ f);
      no_bit = λ t. no_bits;
    }
      where
        differ : true ≡ false → ⊥
        differ e = cc

        no_bits : bit_and a 0 ≡ 0
        no_bits = and_mask a 0 ∙ omega arith

    -- by a mask, of the top bit and the low bits
    module _ (bytes bits : ℕ) (more : (bytes == 1) ≡ false) (top : bit_and a (0x7FFF_FFFF + bytes) ≡ a / 2 ^ 31 * 2 ^ 31 + a % bytes) (low : bit_and a bits ≡ a % bytes) where
      mask-word : bit_and a (0x7FFF_FFFF + bytes) < 2 ^ 32
      mask-word = omega (arith, and_le_l a (0x7FFF_FFFF + bytes))

      mask-tested : Tested bytes bits (a % bytes == 0)
      mask-tested = record {
        fits = λ t below. mask-falls program words value a pc w bytes more (let e = eqb-true (a % bytes) 0 t in omega (arith, top, e));
        high = λ above. mask-passes program words value a pc w bytes more mask-word (λ e. omega (arith, top, e));
        unaligned = λ f. mask-passes program words value a pc w bytes more mask-word (λ e. eqb-false (a % bytes) 0 f (omega (arith, top, e)));
        some_bit = λ f e. eqb-false (a % bytes) 0 f (sym low ∙ e);
        no_bit = λ t. low ∙ eqb-true (a % bytes) 0 t;
      }

    pub half-tested : Tested 2 1 (a % 2 == 0)
    half-tested = mask-tested 2 1 refl (top-and-low a 1 is_word (lit< tt) (omega arith)) (and_mask a 1)

    pub word-tested : Tested 4 3 (a % 4 == 0)
    word-tested = mask-tested 4 3 refl (top-and-low a 2 is_word (lit< tt) (omega arith)) (and_mask a 2)

  -- ---- the two faults

  module _ (order : Order) (helpers : HasHelpers program order) (bytes bits : ℕ) (aligned : Bool) (tested : Tested bytes bits aligned) (found rest : List Step) where
    abbrev code : List Step
    code = accessed writable_field 1 bytes found (write_fault_code bits ++ rest)

    abbrev calling : InstructionEffect
    calling = enters write_fault_number (int a ∷ int pc ∷ int bits ∷ []) (begins program words value a pc w)

    ends-so : (fault : Fault) (most : ℕ) → most ≤ store_fault_turns → Stops most (outcome program words code (begins program words value a pc w)) calling → Faults program words store_fault_turns (helper_code order 19) (int a ∷ int pc ∷ int bits ∷ []) (begins program words value a pc w) fault → CallsFault program words store_fault_turns (helper_code order) code (given_to_store value a pc) w write_fault_number fault
    ends-so fault most few s ends = record {
      turns = s.turns;
      step = s.step;
      at = s.at;
      arguments = int a ∷ int pc ∷ int bits ∷ [];
      waiting = begins program words value a pc w;
      comes = s.is;
      in_time = let h = s.in_time in omega arith;
      ends = ends;
    }

    called : Stops 3 (outcome program words (write_fault_code bits ++ rest) (begins program words value a pc w)) calling
    called = fault-called program words value a pc w order helpers bits rest

    pub ends-unaligned : aligned ≡ false → a < 2 ^ 32 → CallsFault program words store_fault_turns (helper_code order) code (given_to_store value a pc) w write_fault_number (record { kind = write_align_fault; pc = pc; value = a })
    ends-unaligned not_aligned is_word =
        ends-so (record { kind = write_align_fault; pc = pc; value = a }) 7 (lit≤ tt)
        (access-unfit program words value a pc w bytes 3 found (write_fault_code bits ++ rest) calling (tested.unaligned not_aligned) called)
        (unaligned-ends program words order a pc bits (begins program words value a pc w) (omega (arith, and_le_l a bits)) (tested.some_bit not_aligned))

    module _ (readable writable : ℕ) (memory : Memory) (tables : HoldsTables w readable writable memory) where
      refused-by : aligned ≡ true → a < 2 ^ 32 → Missing w.heap readable writable memory tables.held a → Stops 15 (outcome program words code (begins program words value a pc w)) calling
      refused-by is_aligned is_word (inl past) =
          stops-within (lit≤ tt)
          (access-unfit program words value a pc w bytes 3 found (write_fault_code bits ++ rest) calling (tested.high (omega arith)) called)
      refused-by is_aligned is_word (inr none) =
          access-refused program words value a pc w readable writable memory tables bytes 3 found (write_fault_code bits ++ rest) calling (tested.fits is_aligned (omega (arith, none.0))) none.0 none.1 called

      pub ends-refused : aligned ≡ true → a < 2 ^ 32 → memory.writable a ≡ false → CallsFault program words store_fault_turns (helper_code order) code (given_to_store value a pc) w write_fault_number (record { kind = write_refused_fault; pc = pc; value = a })
      ends-refused is_aligned is_word may_not =
          ends-so (record { kind = write_refused_fault; pc = pc; value = a }) 15 (lit≤ tt)
          (refused-by is_aligned is_word (missing w.heap readable writable memory tables.held a may_not))
          (refused-ends program words order a pc bits (begins program words value a pc w) (tested.no_bit is_aligned))
