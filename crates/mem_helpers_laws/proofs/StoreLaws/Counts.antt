-- What is counted in the methods that store.
use Rattle.std.proofs.Common.{refl}
use Rattle.run_definition.specs.declared.order.Order.{Order}
use Rattle.run_definition.specs.declared.order.Order.TheVariants.{Big, Little}
use Rattle.mips_definition.specs.declared.names.product_name.ProductName.{ProductName}
use Rattle.mips_definition.specs.declared.names.product_name.ProductName.TheVariants.{Mult, Multu, Div, Divu}
use Rattle.mips_definition.specs.declared.names.store_name.StoreName.{StoreName}
use Rattle.mips_definition.specs.declared.names.store_name.StoreName.TheVariants.{Sb, Sh, Swl, Sw, Swr}
use Rattle.emit_instructions.specs.Helpers.{store_helper, product_helper, store_conditional_helper}
use Rattle.mem_helpers.specs.Stores.{write_fault_number}
use Rattle.mem_helpers.specs.Methods.{helper_code}
use Rattle.mem_helpers_laws.specs.Counting.{CountsReads, words_read}

pub store-counts : (order : Order) (name : StoreName) → CountsReads (words_read name) (helper_code order (store_helper name))
store-counts Big Sb = (refl, refl, refl)
store-counts Big Sh = (refl, refl, refl)
store-counts Big Swl = (refl, refl, refl)
store-counts Big Sw = (refl, refl, refl)
store-counts Big Swr = (refl, refl, refl)
store-counts Little Sb = (refl, refl, refl)
store-counts Little Sh = (refl, refl, refl)
store-counts Little Swl = (refl, refl, refl)
store-counts Little Sw = (refl, refl, refl)
store-counts Little Swr = (refl, refl, refl)

pub conditional-counts : (order : Order) → CountsReads 0 (helper_code order store_conditional_helper)
conditional-counts Big = (refl, refl, refl)
conditional-counts Little = (refl, refl, refl)

pub product-counts : (order : Order) (name : ProductName) → CountsReads 0 (helper_code order (product_helper name))
product-counts order Mult = (refl, refl, refl)
product-counts order Multu = (refl, refl, refl)
product-counts order Div = (refl, refl, refl)
product-counts order Divu = (refl, refl, refl)

pub fault-counts : (order : Order) → CountsReads 0 (helper_code order write_fault_number)
fault-counts order = (refl, refl, refl)
