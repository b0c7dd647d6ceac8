-- The method that ends the run where a store cannot be done.
use Rattle.std.proofs.Common.{◌≡◌, ℕ, ◌^◌, ◌<◌, bit_and, List, [], ◌∷◌, refl, lit≤}
use Rattle.run_definition.specs.declared.order.Order.{Order}
use Rattle.mips_definition.specs.Effect.{write_refused_fault, write_align_fault}
use Rattle.jvm_definition.specs.declared.value.Value.{Value}
use Rattle.jvm_definition.specs.declared.value.Value.TheVariants.{Int as int}
use Rattle.jvm_definition.specs.Program.{Program}
use Rattle.jvm_definition.specs.Effect.{Workspace, with_operands}
use Rattle.jvm_definition_laws.specs.Stretch.{body_workspace}
use Rattle.mem_helpers.specs.Methods.{helper_code}
use Rattle.emit_simulation_laws.specs.Outcomes.{Faults}
use Rattle.mem_helpers_laws.specs.Storing.{store_fault_turns}
use Rattle.mem_helpers_laws.proofs.StoreLaws.Tests.{zero-is, zero-is_not}

module _ (program : Program) (words : ℕ) (order : Order) (a pc bits : ℕ) (w : Workspace) where
  -- what it is called with
  abbrev pub given_to_fault : List Value
  given_to_fault = int a ∷ int pc ∷ int bits ∷ []

  pub unaligned-ends : bit_and a bits < 2 ^ 32 → (bit_and a bits ≡ 0 → ⊥) → Faults program words store_fault_turns (helper_code order 19) given_to_fault w (record { kind = write_align_fault; pc = pc; value = a })
  unaligned-ends word ne = record {
    turns = 7;
    step = 9;
    at = with_operands (body_workspace given_to_fault w) (int a ∷ int pc ∷ int write_align_fault ∷ []);
    comes = simp (zero-is_not (bit_and a bits) word ne) refl;
    in_time = lit≤ tt;
  }

  pub refused-ends : bit_and a bits ≡ 0 → Faults program words store_fault_turns (helper_code order 19) given_to_fault w (record { kind = write_refused_fault; pc = pc; value = a })
  refused-ends e = record {
    turns = 8;
    step = 9;
    at = with_operands (body_workspace given_to_fault w) (int a ∷ int pc ∷ int write_refused_fault ∷ []);
    comes = simp (zero-is (bit_and a bits) e) refl;
    in_time = lit≤ tt;
  }
