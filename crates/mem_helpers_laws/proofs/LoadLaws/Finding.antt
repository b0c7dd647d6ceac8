-- The page and the word of an address, and the call of the method that ends the run.
use Rattle.std.proofs.Common.{◌≡◌, ℕ, ◌+◌, ◌/◌, ◌%◌, ◌<◌, bit_and, pos, true, false, List, [], ◌∷◌, ◌++◌, Option, Some, None, refl, arith, lit≤}
use Rattle.std.proofs.lemmas.Bool.{lt-ltb}
use Rattle.std.proofs.lemmas.Nat.{and_mask}
use Rattle.run_definition.specs.Words.{signed_of}
use Rattle.run_definition.specs.declared.order.Order.{Order}
use Rattle.mips_definition.specs.Effect.{read_unmapped_fault, read_align_fault}
use Rattle.jvm_definition.specs.declared.stack_name.StackName.TheVariants.{Pop}
use Rattle.jvm_definition.specs.declared.value.Value.{Value}
use Rattle.jvm_definition.specs.declared.value.Value.TheVariants.{Int as int, Null as null, Array as array}
use Rattle.jvm_definition.specs.Program.{Program}
use Rattle.jvm_definition.specs.Values.{Heap, pages}
use Rattle.jvm_definition.specs.Effect.{Workspace, same_integer, enters}
use Rattle.jvm_definition_laws.specs.Stretch.{body_workspace}
use Rattle.emit_steps.specs.declared.step.Step.{Step}
use Rattle.emit_steps.specs.Outcomes.{outcome, outcome_from}
use Rattle.emit_layout.specs.FieldNumbers.{page_count}
use Rattle.mem_helpers.specs.Parts.{page_code, stack}
use Rattle.mem_helpers.specs.Loads.{word_code, read_fault_code, read_fault_number}
use Rattle.mem_helpers.specs.Methods.{read_fault_method}
use Rattle.emit_simulation_laws.specs.Match.{IsPage}
use Rattle.emit_simulation_laws.specs.Outcomes.{Faults}
use Rattle.emit_simulation_laws.specs.Helpers.{IsHelper}
use Rattle.mem_helpers_laws.proofs.LoadLaws.Coming.{Comes, laters}
use Rattle.mem_helpers_laws.proofs.LoadLaws.Widths.{over_all}

module _ (program : Program) (words i a : ℕ) (locals : ℕ → Value) (fields : ℕ → Value) (heap : Heap) (is : locals i ≡ int a) where
  -- the page is pushed, or null, and then that many steps are passed over
  module _ (table t over : ℕ) (rest : List Step) (places : ℕ → Option ℕ) (table_is : fields table ≡ array t) (there : heap.array_at t ≡ Some (pages page_count places)) (within : a / 4096 < page_count) where
    pub page-found : (p : ℕ) → places (a / 4096) ≡ Some p → outcome program words (page_code table i over ++ rest) (over_all locals [] fields heap) ≡ laters 7 (outcome program words rest (over_all locals (array p ∷ []) fields heap))
    page-found p here = simp (is, table_is, there, lt-ltb (a / 4096) page_count within, here) refl

    pub page-missing : places (a / 4096) ≡ None → outcome program words (page_code table i over ++ rest) (over_all locals [] fields heap) ≡ laters 7 (outcome_from program words rest over (over_all locals (null ∷ []) fields heap))
    page-missing none = simp (is, table_is, there, lt-ltb (a / 4096) page_count within, none) refl

  -- the word of a page that is on the stack
  pub word-found : (p : ℕ) (rest : List Step) (page : IsPage heap p) → outcome program words (word_code i ++ rest) (over_all locals (array p ∷ []) fields heap) ≡ laters 6 (outcome program words rest (over_all locals (int (page.words (a / 4 % 1024)) ∷ []) fields heap))
  word-found p rest page =
      let inside : a / 4 % 1024 < 1024 = omega arith in
      simp (is, and_mask (a / 4) 10, page.there, lt-ltb (a / 4 % 1024) 1024 inside)
      (refl {a = laters 6 (outcome program words rest (over_all locals (int (page.words (a / 4 % 1024)) ∷ []) fields heap))})

  -- the call of the method that ends the run
  pub fault-called : (order : Order) (bits pc : ℕ) → IsHelper program order read_fault_number → locals (i + 1) ≡ int pc → Comes (outcome program words (read_fault_code i bits) (over_all locals [] fields heap)) 3 (enters read_fault_number (int a ∷ int pc ∷ int bits ∷ []) (over_all locals [] fields heap))
  fault-called order bits pc helper pc_is = record {
    turns = 3;
    step = 3;
    at = over_all locals (int bits ∷ int pc ∷ int a ∷ []) fields heap;
    is = simp (is, pc_is, helper.there, helper.parameters_are) refl;
    in_time = lit≤ tt;
  }

  -- the same behind what was found instead of a page
  pub fault-called-behind : (order : Order) (bits pc : ℕ) → IsHelper program order read_fault_number → locals (i + 1) ≡ int pc → Comes (outcome program words (stack Pop ∷ read_fault_code i bits) (over_all locals (null ∷ []) fields heap)) 4 (enters read_fault_number (int a ∷ int pc ∷ int bits ∷ []) (over_all locals [] fields heap))
  fault-called-behind order bits pc helper pc_is = record {
    turns = 4;
    step = 4;
    at = over_all locals (int bits ∷ int pc ∷ int a ∷ []) fields heap;
    is = simp (is, pc_is, helper.there, helper.parameters_are) refl;
    in_time = lit≤ tt;
  }

-- ---- the method that ends the run

module _ (program : Program) (words a pc bits : ℕ) (caller : Workspace) where
  abbrev pub ends_in : ℕ → Type 0
  ends_in kind =
      Faults program words 60 read_fault_method (int a ∷ int pc ∷ int bits ∷ []) caller (record { kind = kind; pc = pc; value = a })

  pub ends-unaligned : same_integer (signed_of (bit_and a bits)) (pos 0) ≡ false → ends_in read_align_fault
  ends-unaligned test = record {
    turns = 7;
    step = 9;
    at = over_all (body_workspace (int a ∷ int pc ∷ int bits ∷ []) caller).locals (int a ∷ int pc ∷ int read_align_fault ∷ []) caller.fields caller.heap;
    comes = simp test refl;
    in_time = lit≤ tt;
  }

  pub ends-unmapped : same_integer (signed_of (bit_and a bits)) (pos 0) ≡ true → ends_in read_unmapped_fault
  ends-unmapped test = record {
    turns = 8;
    step = 9;
    at = over_all (body_workspace (int a ∷ int pc ∷ int bits ∷ []) caller).locals (int a ∷ int pc ∷ int read_unmapped_fault ∷ []) caller.fields caller.heap;
    comes = simp test refl;
    in_time = lit≤ tt;
  }
