-- What the helper methods of products and quotients come to.
use Rattle.std.specs.Prelude.{◌≡◌, ◌≢◌, ℕ, List, [], ◌∷◌, None}
use Rattle.run_definition.specs.Words.{IsWord}
use Rattle.run_definition.specs.declared.order.Order.{Order}
use Rattle.mips_definition.specs.Arithmetic.{product_hi, product_lo}
use Rattle.mips_definition.specs.declared.names.product_name.ProductName.{ProductName}
use Rattle.jvm_definition.specs.declared.value.Value.{Value}
use Rattle.jvm_definition.specs.declared.value.Value.TheVariants.{Int as int}
use Rattle.jvm_definition.specs.Program.{Program}
use Rattle.jvm_definition.specs.Values.{Heap}
use Rattle.jvm_definition.specs.Effect.{Workspace}
use Rattle.emit_layout.specs.FieldNumbers.{hi_field, lo_field}
use Rattle.emit_instructions.specs.Helpers.{product_helper}
use Rattle.mem_helpers.specs.Methods.{helper_code}
use Rattle.emit_simulation_laws.specs.Outcomes.{Gives}

-- two words
abbrev pub given_to_product : ℕ → ℕ → List Value
given_to_product a b = int a ∷ int b ∷ []

-- the most instructions of such a method
abbrev pub product_turns : ℕ
product_turns = 24

-- HI and LO hold two words, and nothing else is changed.
pub record LeavesProduct (w : Workspace) (hi lo : ℕ) (fields : ℕ → Value) (heap : Heap)
    : Type 0 where
  pub hi_is : fields hi_field ≡ int hi
  pub lo_is : fields lo_field ≡ int lo
  pub others : (f : ℕ) → f ≢ hi_field → f ≢ lo_field → fields f ≡ w.fields f
  pub heap_is : heap ≡ w.heap

-- ---- the laws

-- a product or a quotient of two words is put into HI and LO, by 0 too, and nothing else is changed
abbrev pub ProductsArePut : Type 0
ProductsArePut =
    (program : Program) (words a b : ℕ) (name : ProductName) (order : Order) (w : Workspace)
    → IsWord a
    → IsWord b
    → Gives program words product_turns (helper_code order (product_helper name))
    (given_to_product a b) w None
    (LeavesProduct w (product_hi name a b) (product_lo name a b))

-- both are words
abbrev pub ProductsAreWords : Type 0
ProductsAreWords =
    (name : ProductName) (a b : ℕ)
    → IsWord a
    → IsWord b
    → IsWord (product_hi name a b) × IsWord (product_lo name a b)
