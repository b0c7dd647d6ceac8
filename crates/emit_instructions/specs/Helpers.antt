-- The methods that help code: their numbers in the program, in the order in which they stand in the main class.
use Rattle.std.specs.Prelude.{ℕ}
use Rattle.mips_definition.specs.declared.names.load_name.LoadName.{LoadName}
use Rattle.mips_definition.specs.declared.names.load_name.LoadName.TheVariants.{Lb, Lh, Lwl, Lw, Lbu, Lhu, Lwr}
use Rattle.mips_definition.specs.declared.names.store_name.StoreName.{StoreName}
use Rattle.mips_definition.specs.declared.names.store_name.StoreName.TheVariants.{Sb, Sh, Swl, Sw, Swr}
use Rattle.mips_definition.specs.declared.names.product_name.ProductName.{ProductName}
use Rattle.mips_definition.specs.declared.names.product_name.ProductName.TheVariants.{Mult, Multu, Div, Divu}

abbrev pub load_helper : LoadName → ℕ
load_helper Lw = 0
load_helper Lh = 1
load_helper Lhu = 2
load_helper Lb = 3
load_helper Lbu = 4
load_helper Lwl = 5
load_helper Lwr = 6

abbrev pub store_helper : StoreName → ℕ
store_helper Sw = 7
store_helper Sh = 8
store_helper Sb = 9
store_helper Swl = 10
store_helper Swr = 11

abbrev pub product_helper : ProductName → ℕ
product_helper Div = 12
product_helper Divu = 13
product_helper Mult = 14
product_helper Multu = 15

abbrev pub load_linked_helper : ℕ
load_linked_helper = 16

abbrev pub store_conditional_helper : ℕ
store_conditional_helper = 17
