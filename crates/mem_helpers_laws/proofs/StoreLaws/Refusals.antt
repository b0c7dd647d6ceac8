-- The faults of the methods that store.
use Rattle.std.proofs.Common.{◌≡◌, ℕ, ◌^◌, ◌<◌, true, false, List, ◌++◌, refl, ◌∙◌, subst, sym}
use Rattle.run_definition.specs.declared.order.Order.{Order}
use Rattle.run_definition.specs.Memory.{Memory}
use Rattle.run_definition.specs.declared.fault.Fault.{Fault}
use Rattle.mips_definition.specs.Effect.{write_refused_fault, write_align_fault}
use Rattle.mips_definition.specs.Loads.{store_aligned, store_allowed}
use Rattle.mips_definition.specs.declared.names.store_name.StoreName.{StoreName}
use Rattle.mips_definition.specs.declared.names.store_name.StoreName.TheVariants.{Sb, Sh, Swl, Sw, Swr}
use Rattle.jvm_definition.specs.declared.int_shift.IntShift.TheVariants.{Ishl, Iushr}
use Rattle.jvm_definition.specs.Program.{Program}
use Rattle.jvm_definition.specs.Effect.{Workspace}
use Rattle.emit_steps.specs.declared.step.Step.{Step}
use Rattle.emit_layout.specs.FieldNumbers.{writable_field}
use Rattle.emit_instructions.specs.Helpers.{store_helper}
use Rattle.mem_helpers.specs.Parts.{accessed, index_code, backward_code, left_amount, right_amount}
use Rattle.mem_helpers.specs.Stores.{read_code, cleared_code, byte_value_code, set_code, put_word, value_code, half_cleared, half_stored, part_code, returns_nothing, write_fault_code, write_fault_number}
use Rattle.mem_helpers.specs.Methods.{helper_code}
use Rattle.emit_simulation_laws.specs.Outcomes.{CallsFault}
use Rattle.emit_simulation_laws.specs.Helpers.{HasHelpers}
use Rattle.mem_helpers_laws.specs.Storing.{HoldsTables, given_to_store, store_fault_turns, EndsStore}
use Rattle.mem_helpers_laws.proofs.StoreLaws.Ending.{Tested, byte-tested, half-tested, word-tested, ends-unaligned, ends-refused}
use Rattle.mem_helpers_laws.proofs.StoreLaws.Places.{same-word}
use Rattle.mem_helpers_laws.proofs.StoreLaws.Allowed.{allowed-is}

-- what is done with the page that is found
abbrev pub found_code : Order → StoreName → List Step
found_code order Sb = read_code ++ cleared_code 255 (backward_code 3 1) Ishl ++ byte_value_code ++ set_code (backward_code 3 1) Ishl ++ put_word
found_code order Sh = half_cleared ++ half_stored order
found_code order Swl = part_code order Iushr (left_amount order)
found_code order Sw = index_code 1 ++ value_code order ++ put_word
found_code order Swr = part_code order Ishl (right_amount order)

-- how many bytes it is aligned to, and the bits that are then 0
abbrev pub store_bytes : StoreName → ℕ
store_bytes Sb = 1
store_bytes Sh = 2
store_bytes Swl = 1
store_bytes Sw = 4
store_bytes Swr = 1

abbrev pub store_bits : StoreName → ℕ
store_bits Sb = 0
store_bits Sh = 1
store_bits Swl = 0
store_bits Sw = 3
store_bits Swr = 0

-- the code of the fault, and the method's code
abbrev pub fault_code : StoreName → List Step
fault_code name = write_fault_code (store_bits name) ++ returns_nothing

abbrev pub store_method : Order → StoreName → List Step
store_method order name = accessed writable_field 1 (store_bytes name) (found_code order name ++ returns_nothing) (fault_code name)

pub store_method-is : (order : Order) (name : StoreName) → store_method order name ≡ helper_code order (store_helper name)
store_method-is order Sb = refl
store_method-is order Sh = refl
store_method-is order Swl = refl
store_method-is order Sw = refl
store_method-is order Swr = refl

module _ (program : Program) (words pc value a : ℕ) (order : Order) (w : Workspace) (is_word : a < 2 ^ 32) where
  pub store-tested : (name : StoreName) → Tested program words value a pc w (store_bytes name) (store_bits name) (store_aligned name a)
  store-tested Sb = byte-tested program words value a pc w is_word
  store-tested Sh = half-tested program words value a pc w is_word
  store-tested Swl = byte-tested program words value a pc w is_word
  store-tested Sw = word-tested program words value a pc w is_word
  store-tested Swr = byte-tested program words value a pc w is_word

  module _ (helpers : HasHelpers program order) (name : StoreName) where
    -- what holds of the method's code holds of the helper's
    of-helper : (fault : Fault) → CallsFault program words store_fault_turns (helper_code order) (store_method order name) (given_to_store value a pc) w write_fault_number fault → CallsFault program words store_fault_turns (helper_code order) (helper_code order (store_helper name)) (given_to_store value a pc) w write_fault_number fault
    of-helper fault calls =
        subst (λ (code : List Step). CallsFault program words store_fault_turns (helper_code order) code (given_to_store value a pc) w write_fault_number fault) (store_method-is order name) calls

    pub unaligned-store : store_aligned name a ≡ false → EndsStore program words order (store_helper name) (given_to_store value a pc) w write_align_fault pc a
    unaligned-store test =
        of-helper (record { kind = write_align_fault; pc = pc; value = a })
        (ends-unaligned program words value a pc w order helpers (store_bytes name) (store_bits name) (store_aligned name a) (store-tested name) (found_code order name ++ returns_nothing) returns_nothing test is_word)

    module _ (readable writable : ℕ) (memory : Memory) (tables : HoldsTables w readable writable memory) (aligned : store_aligned name a ≡ true) where
      -- a store is allowed where the byte at its address may be written
      allowed-where : store_allowed name order memory a ≡ memory.writable a
      allowed-where = allowed-is name order memory a (same-word w.heap readable writable memory tables.held a) aligned

      pub refused-store : store_allowed name order memory a ≡ false → EndsStore program words order (store_helper name) (given_to_store value a pc) w write_refused_fault pc a
      refused-store refused =
          of-helper (record { kind = write_refused_fault; pc = pc; value = a })
          (ends-refused program words value a pc w order helpers (store_bytes name) (store_bits name) (store_aligned name a) (store-tested name) (found_code order name ++ returns_nothing) returns_nothing readable writable memory tables aligned is_word (sym allowed-where ∙ refused))
