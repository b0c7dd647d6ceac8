-- What the methods that load count, by computation.
use Rattle.std.proofs.Common.{refl}
use Rattle.run_definition.specs.declared.order.Order.{Order}
use Rattle.run_definition.specs.declared.order.Order.TheVariants.{Big, Little}
use Rattle.mips_definition.specs.declared.names.load_name.LoadName.{LoadName}
use Rattle.mips_definition.specs.declared.names.load_name.LoadName.TheVariants.{Lb, Lh, Lwl, Lw, Lbu, Lhu, Lwr}
use Rattle.emit_instructions.specs.Helpers.{load_helper, load_linked_helper}
use Rattle.mem_helpers.specs.Methods.{helper_code}
use Rattle.mem_helpers_laws.specs.Counting.{CountsReads}

pub loads-read : (order : Order) (name : LoadName) → CountsReads 1 (helper_code order (load_helper name))
loads-read order Lb = (refl, refl, refl)
loads-read order Lbu = (refl, refl, refl)
loads-read Big Lh = (refl, refl, refl)
loads-read Little Lh = (refl, refl, refl)
loads-read Big Lhu = (refl, refl, refl)
loads-read Little Lhu = (refl, refl, refl)
loads-read Big Lw = (refl, refl, refl)
loads-read Little Lw = (refl, refl, refl)
loads-read Big Lwl = (refl, refl, refl)
loads-read Little Lwl = (refl, refl, refl)
loads-read Big Lwr = (refl, refl, refl)
loads-read Little Lwr = (refl, refl, refl)

pub linked-reads : (order : Order) → CountsReads 1 (helper_code order load_linked_helper)
linked-reads Big = (refl, refl, refl)
linked-reads Little = (refl, refl, refl)
