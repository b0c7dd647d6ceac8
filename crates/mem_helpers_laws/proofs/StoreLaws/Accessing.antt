-- The address of a store is tested and its page is found.
use Rattle.std.proofs.Common.{◌≡◌, ℕ, ◌+◌, ◌/◌, ◌^◌, ◌<◌, ◌≤◌, ◌==◌, false, bit_and, List, [], ◌∷◌, ◌++◌, length, Some, None, refl, arith, lit≤, lit<}
use Rattle.std.proofs.lemmas.Bool.{lt-ltb}
use Rattle.run_definition.specs.declared.order.Order.{Order}
use Rattle.run_definition.specs.Memory.{Memory}
use Rattle.jvm_definition.specs.declared.stack_name.StackName.TheVariants.{Pop}
use Rattle.jvm_definition.specs.declared.value.Value.{Value}
use Rattle.jvm_definition.specs.declared.value.Value.TheVariants.{Int as int, Null as null, Array as array}
use Rattle.jvm_definition.specs.Program.{Program}
use Rattle.jvm_definition.specs.Effect.{Workspace, InstructionEffect, with_operands, enters}
use Rattle.jvm_definition_laws.specs.Stretch.{body_workspace}
use Rattle.jvm_definition.specs.declared.instruction.Instruction.TheVariants as instructions
use Rattle.emit_steps.specs.declared.step.Step.{Step}
use Rattle.emit_steps.specs.declared.step.Step.TheVariants.{Does}
use Rattle.emit_steps.specs.Outcomes.{outcome, outcome_from}
use Rattle.emit_layout.specs.FieldNumbers.{page_count, writable_field}
use Rattle.mem_helpers.specs.Parts.{stack, unfit_code, page_code, accessed}
use Rattle.mem_helpers.specs.Stores.{write_fault_code, write_fault_number}
use Rattle.emit_simulation_laws.specs.Helpers.{HasHelpers, IsHelper}
use Rattle.mem_helpers_laws.specs.Storing.{HoldsTables, given_to_store}
use Rattle.mem_helpers_laws.proofs.StoreLaws.Stopping.{Stops, laters, stops-after, stops-beyond, stops-past, stops-within}
use Rattle.mem_helpers_laws.proofs.StoreLaws.Tests.{zero-is, zero-is_not, negative-is, negative-is_not}

module _ (program : Program) (words value a pc : ℕ) (w : Workspace) where
  abbrev pub begins : Workspace
  begins = body_workspace (given_to_store value a pc) w

  -- with these operands
  abbrev pub holding : List Value → Workspace
  holding operands = with_operands begins operands

  -- ---- the test of the address

  -- by the test, it goes on or passes some steps over
  abbrev pub Falls : ℕ → Type 0
  Falls bytes =
      (page found rest : List Step) (over most : ℕ) (e : InstructionEffect) → Stops most (outcome program words (page ++ found ++ rest) begins) e → Stops (4 + most) (outcome program words (unfit_code 1 bytes over ++ page ++ found ++ rest) begins) e

  abbrev pub Passes : ℕ → Type 0
  Passes bytes =
      (page found rest : List Step) (over most : ℕ) (e : InstructionEffect) → Stops most (outcome_from program words (page ++ found ++ rest) over begins) e → Stops (4 + most) (outcome program words (unfit_code 1 bytes over ++ page ++ found ++ rest) begins) e

  pub byte-falls : a < 2 ^ 31 → Falls 1
  byte-falls low page found rest over most e s =
      stops-within (omega arith) (stops-after 2 (simp (negative-is_not a low) refl) s)

  pub byte-passes : a < 2 ^ 32 → 2 ^ 31 ≤ a → Passes 1
  byte-passes word high page found rest over most e s =
      stops-within (omega arith) (stops-after 2 (simp (negative-is a word high) refl) s)

  -- of more than one byte, by a mask
  pub mask-falls : (bytes : ℕ) → (bytes == 1) ≡ false → bit_and a (0x7FFF_FFFF + bytes) ≡ 0 → Falls bytes
  mask-falls bytes more fit page found rest over most e s =
      stops-after 4 (simp (more, zero-is (bit_and a (0x7FFF_FFFF + bytes)) fit) refl) s

  pub mask-passes : (bytes : ℕ) → (bytes == 1) ≡ false → bit_and a (0x7FFF_FFFF + bytes) < 2 ^ 32 → (bit_and a (0x7FFF_FFFF + bytes) ≡ 0 → ⊥) → Passes bytes
  mask-passes bytes more word unfit page found rest over most e s =
      stops-after 4 (simp (more, zero-is_not (bit_and a (0x7FFF_FFFF + bytes)) word unfit) refl) s

  -- ---- the page

  module _ (readable writable : ℕ) (memory : Memory) (tables : HoldsTables w readable writable memory) where
    page-found : a / 4096 < page_count → (p : ℕ) → tables.held.writable_pages (a / 4096) ≡ Some p → (rest : List Step) (over : ℕ) → outcome program words (page_code writable_field 1 over ++ rest) begins ≡ laters 7 (outcome program words rest (holding (array p ∷ [])))
    page-found within p here rest over =
        simp (tables.writable_is, tables.held.writable_there, lt-ltb (a / 4096) page_count within, here) refl

    page-missing : a / 4096 < page_count → tables.held.writable_pages (a / 4096) ≡ None → (rest : List Step) (over : ℕ) → outcome program words (page_code writable_field 1 over ++ rest) begins ≡ laters 7 (outcome_from program words rest over (holding (null ∷ [])))
    page-missing within none rest over =
        simp (tables.writable_is, tables.held.writable_there, lt-ltb (a / 4096) page_count within, none) refl

    -- the page is there
    pub access-done : (bytes most p : ℕ) (found fault : List Step) (e : InstructionEffect) → Falls bytes → a / 4096 < page_count → tables.held.writable_pages (a / 4096) ≡ Some p → Stops most (outcome program words (found ++ stack Pop ∷ fault) (holding (array p ∷ []))) e → Stops (4 + (7 + most)) (outcome program words (accessed writable_field 1 bytes found fault) begins) e
    access-done bytes most p found fault e falls within here s =
        falls (page_code writable_field 1 (length found)) found (stack Pop ∷ fault) (7 + length found + 1) (7 + most) e
        (stops-after 7 (page-found within p here (found ++ stack Pop ∷ fault) (length found)) s)

    -- it is not
    pub access-refused : (bytes most : ℕ) (found fault : List Step) (e : InstructionEffect) → Falls bytes → a / 4096 < page_count → tables.held.writable_pages (a / 4096) ≡ None → Stops most (outcome program words fault begins) e → Stops (4 + (7 + (1 + most))) (outcome program words (accessed writable_field 1 bytes found fault) begins) e
    access-refused bytes most found fault e falls within none s =
        falls (page_code writable_field 1 (length found)) found (stack Pop ∷ fault) (7 + length found + 1) (7 + (1 + most)) e
        (stops-after 7 (page-missing within none (found ++ stack Pop ∷ fault) (length found))
        (stops-past program words (1 + most) found (stack Pop ∷ fault) 0 (length found) (holding (null ∷ [])) e (omega arith)
        (stops-after 1 {o = outcome program words (stack Pop ∷ fault) (holding (null ∷ []))} {p = outcome program words fault begins} refl s)))

  -- the address is unfit
  pub access-unfit : (bytes most : ℕ) (found fault : List Step) (e : InstructionEffect) → Passes bytes → Stops most (outcome program words fault begins) e → Stops (4 + most) (outcome program words (accessed writable_field 1 bytes found fault) begins) e
  access-unfit bytes most found fault e passes s =
      passes (page_code writable_field 1 (length found)) found (stack Pop ∷ fault) (7 + length found + 1) most e
      (stops-past program words most (page_code writable_field 1 (length found)) (found ++ stack Pop ∷ fault) (length found + 1) (7 + length found + 1) begins e (omega arith)
      (stops-past program words most found (stack Pop ∷ fault) 1 (length found + 1) begins e refl
      (stops-beyond most (outcome program words fault begins) e s)))

  -- ---- the call of the method that ends the run

  pub fault-called : (order : Order) → HasHelpers program order → (bits : ℕ) (rest : List Step) → Stops 3 (outcome program words (write_fault_code bits ++ rest) begins) (enters write_fault_number (int a ∷ int pc ∷ int bits ∷ []) begins)
  fault-called order helpers bits rest =
      stops-after 3 {p = outcome program words (Does (instructions.Call write_fault_number) ∷ rest) (holding (int bits ∷ int pc ∷ int a ∷ []))} refl (call-stops (helpers 19 (lit< tt)))
    where
      call-stops : IsHelper program order 19 → Stops 0 (outcome program words (Does (instructions.Call write_fault_number) ∷ rest) (holding (int bits ∷ int pc ∷ int a ∷ []))) (enters write_fault_number (int a ∷ int pc ∷ int bits ∷ []) begins)
      call-stops helper = record {
        turns = 0;
        step = 0;
        at = holding (int bits ∷ int pc ∷ int a ∷ []);
        is = simp (helper.there, helper.parameters_are) refl;
        in_time = lit≤ tt;
      }
