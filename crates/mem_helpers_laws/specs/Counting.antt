-- What the helper methods count.
use Rattle.std.specs.Prelude.{◌≡◌, ℕ, List}
use Rattle.run_definition.specs.declared.order.Order.{Order}
use Rattle.mips_definition.specs.declared.names.load_name.LoadName.{LoadName}
use Rattle.mips_definition.specs.declared.names.product_name.ProductName.{ProductName}
use Rattle.mips_definition.specs.declared.names.store_name.StoreName.{StoreName}
use Rattle.mips_definition.specs.declared.names.store_name.StoreName.TheVariants.{Sw}
use Rattle.emit_steps.specs.declared.step.Step.{Step}
use Rattle.emit_paths_laws.specs.Classes.{reads, chars, switches}
use Rattle.emit_paths_laws.specs.Paths.{weigh}
use Rattle.emit_instructions.specs.Helpers.{load_helper, load_linked_helper, product_helper, store_helper, store_conditional_helper}
use Rattle.mem_helpers.specs.Loads.{read_fault_number}
use Rattle.mem_helpers.specs.Methods.{helper_code}
use Rattle.mem_helpers.specs.Stores.{write_fault_number}

-- code has so many reads of words of arrays, no read of a character and no switch
abbrev pub CountsReads : ℕ → List Step → Type 0
CountsReads n code = (weigh reads code ≡ n) × (weigh chars code ≡ 0) × (weigh switches code ≡ 0)

-- a store of a part of a word reads the word
abbrev pub words_read : StoreName → ℕ
words_read Sw = 0
words_read name = 1

-- A load reads one word of an array, and the method that ends the run reads none.
pub record LoadsRead : Type 0 where
  pub loads : (order : Order) (name : LoadName)
      → CountsReads 1 (helper_code order (load_helper name))
  pub linked : (order : Order) → CountsReads 1 (helper_code order load_linked_helper)
  pub faults : (order : Order) → CountsReads 0 (helper_code order read_fault_number)

-- A store of a part of a word reads one word of an array, and all others, SC, products, quotients
-- and the method that ends the run read none.
pub record StoresRead : Type 0 where
  pub stores : (order : Order) (name : StoreName)
      → CountsReads (words_read name) (helper_code order (store_helper name))
  pub conditional : (order : Order) → CountsReads 0 (helper_code order store_conditional_helper)
  pub products : (order : Order) (name : ProductName)
      → CountsReads 0 (helper_code order (product_helper name))
  pub faults : (order : Order) → CountsReads 0 (helper_code order write_fault_number)
