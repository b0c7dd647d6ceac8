-- Each store that is aligned and allowed is done.
use Rattle.std.proofs.Common.{◌≡◌, ℕ, true, None, ◌∙◌, sym}
use Rattle.run_definition.specs.Words.{IsWord}
use Rattle.run_definition.specs.declared.order.Order.{Order}
use Rattle.run_definition.specs.Memory.{Memory}
use Rattle.mips_definition.specs.Loads.{store_aligned, store_allowed, memory_stored}
use Rattle.mips_definition.specs.declared.names.store_name.StoreName.{StoreName}
use Rattle.mips_definition.specs.declared.names.store_name.StoreName.TheVariants.{Sb, Sh, Swl, Sw, Swr}
use Rattle.jvm_definition.specs.Program.{Program}
use Rattle.jvm_definition.specs.Effect.{Workspace}
use Rattle.emit_instructions.specs.Helpers.{store_helper}
use Rattle.mem_helpers.specs.Methods.{helper_code}
use Rattle.emit_simulation_laws.specs.Outcomes.{Gives}
use Rattle.mem_helpers_laws.specs.Storing.{HoldsTables, LeavesMemory, given_to_store, store_turns}
use Rattle.mem_helpers_laws.proofs.StoreLaws.Places.{same-word}
use Rattle.mem_helpers_laws.proofs.StoreLaws.Allowed.{allowed-is}
use Rattle.mem_helpers_laws.proofs.StoreLaws.Sw.{sw-done}
use Rattle.mem_helpers_laws.proofs.StoreLaws.Sh.{sh-done}
use Rattle.mem_helpers_laws.proofs.StoreLaws.Sb.{sb-done}
use Rattle.mem_helpers_laws.proofs.StoreLaws.PartMethods.{swl-done, swr-done}

module _ (program : Program) (words pc value a readable writable : ℕ) (order : Order) (memory : Memory) (w : Workspace) (value_word : IsWord value) (a_word : IsWord a) (tables : HoldsTables w readable writable memory) where
  -- by its name, where its first byte may be written
  by-name : (name : StoreName) → store_aligned name a ≡ true → memory.writable a ≡ true → Gives program words store_turns (helper_code order (store_helper name)) (given_to_store value a pc) w None (LeavesMemory w readable writable (memory_stored name order memory a value))
  by-name Sb aligned may = sb-done program words pc value a readable writable order memory w a_word tables may
  by-name Sh aligned may = sh-done program words pc value a readable writable order memory w a_word tables aligned may
  by-name Swl aligned may = swl-done program words pc value a readable writable memory w value_word a_word tables may order
  by-name Sw aligned may = sw-done program words pc value a readable writable order memory w value_word a_word tables aligned may
  by-name Swr aligned may = swr-done program words pc value a readable writable memory w value_word a_word tables may order

  pub store-gives : (name : StoreName) → store_aligned name a ≡ true → store_allowed name order memory a ≡ true → Gives program words store_turns (helper_code order (store_helper name)) (given_to_store value a pc) w None (LeavesMemory w readable writable (memory_stored name order memory a value))
  store-gives name aligned allowed =
      by-name name aligned (sym (allowed-is name order memory a (same-word w.heap readable writable memory tables.held a) aligned) ∙ allowed)
