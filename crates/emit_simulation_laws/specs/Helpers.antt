-- The helper methods as methods of a program.
use Rattle.std.specs.Prelude.{◌≡◌, ℕ, ◌<◌, nat_lt, nat_le, ◌&&◌, ◌||◌, if◌then◌else◌, List, [], ◌∷◌, Some}
use Rattle.run_definition.specs.declared.order.Order.{Order}
use Rattle.jvm_definition.specs.declared.kind.Kind.{Kind}
use Rattle.jvm_definition.specs.declared.kind.Kind.TheVariants.{Int}
use Rattle.jvm_definition.specs.declared.linked_method.LinkedMethod.{LinkedMethod}
use Rattle.jvm_definition.specs.Program.{Program}
use Rattle.emit_steps.specs.Placing.{LiesAt}
use Rattle.mem_helpers.specs.Methods.{helper_code}

abbrev pub helper_count : ℕ
helper_count = 20

-- loads of whole words, half-words and bytes, products, quotients and LL have two ints as parameters, all others three
abbrev pub helper_parameters : ℕ → List Kind
helper_parameters number =
    if nat_lt number 5 || (nat_le 12 number && nat_lt number 17) then Int ∷ Int ∷ []
    else Int ∷ Int ∷ Int ∷ []

-- The method of this number is that helper, for programs of an order of bytes.
pub record IsHelper (program : Program) (order : Order) (number : ℕ) : Type 0 where
  pub method : LinkedMethod
  pub there : program.method number ≡ Some method
  pub parameters_are : method.parameters ≡ helper_parameters number
  pub lies : LiesAt program number 0 (helper_code order number)

-- the first methods of a program are the helpers
abbrev pub HasHelpers : Program → Order → Type 0
HasHelpers program order = (number : ℕ) → number < helper_count → IsHelper program order number
