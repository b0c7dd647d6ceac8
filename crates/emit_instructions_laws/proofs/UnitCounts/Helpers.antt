-- What the helper methods count, with those that end the run for them.
use Rattle.std.proofs.Common.{◌≡◌, ℕ, ◌<◌, Bool, refl, arith}
use Rattle.run_definition.specs.declared.order.Order.{Order}
use Rattle.run_definition.specs.declared.order.Order.TheVariants.{Big, Little}
use Rattle.mips_definition.specs.declared.names.load_name.LoadName.{LoadName}
use Rattle.mips_definition.specs.declared.names.load_name.LoadName.TheVariants.{Lb, Lh, Lwl, Lw, Lbu, Lhu, Lwr}
use Rattle.mips_definition.specs.declared.names.store_name.StoreName.{StoreName}
use Rattle.mips_definition.specs.declared.names.store_name.StoreName.TheVariants.{Sb, Sh, Swl, Sw, Swr}
use Rattle.mips_definition.specs.declared.names.product_name.ProductName.{ProductName}
use Rattle.mips_definition.specs.declared.names.product_name.ProductName.TheVariants.{Mult, Multu, Div, Divu}
use Rattle.emit_instructions.specs.Helpers.{load_helper, store_helper, product_helper, load_linked_helper, store_conditional_helper}
use Rattle.mem_helpers.specs.Methods.{helper_code}
use Rattle.emit_paths_laws.specs.Paths.{weigh}
use Rattle.emit_simulation_laws.specs.Sites.{helper_weight}
use Rattle.mem_helpers_laws.specs.Counting.{CountsReads, LoadsRead, StoresRead, words_read}
use Rattle.emit_instructions_laws.specs.Counting.{Counts, SparesHelpers}
use Rattle.emit_instructions_laws.proofs.UnitCounts.Weights.{strange, known-entries}

-- ---- the methods that they call are helpers too

abbrev CallsHelpers : Order → ℕ → Type 0
CallsHelpers order h = weigh strange (helper_code order h) ≡ 0

loads-call : (order : Order) (name : LoadName) → CallsHelpers order (load_helper name)
loads-call order Lb = refl
loads-call order Lbu = refl
loads-call Big Lh = refl
loads-call Little Lh = refl
loads-call Big Lhu = refl
loads-call Little Lhu = refl
loads-call Big Lw = refl
loads-call Little Lw = refl
loads-call Big Lwl = refl
loads-call Little Lwl = refl
loads-call Big Lwr = refl
loads-call Little Lwr = refl

linked-calls : (order : Order) → CallsHelpers order load_linked_helper
linked-calls Big = refl
linked-calls Little = refl

stores-call : (order : Order) (name : StoreName) → CallsHelpers order (store_helper name)
stores-call order Sb = refl
stores-call Big Sh = refl
stores-call Little Sh = refl
stores-call Big Swl = refl
stores-call Little Swl = refl
stores-call Big Sw = refl
stores-call Little Sw = refl
stores-call Big Swr = refl
stores-call Little Swr = refl

conditional-calls : (order : Order) → CallsHelpers order store_conditional_helper
conditional-calls Big = refl
conditional-calls Little = refl

products-call : (order : Order) (name : ProductName) → CallsHelpers order (product_helper name)
products-call order Mult = refl
products-call order Multu = refl
products-call order Div = refl
products-call order Divu = refl

-- ---- what they count

-- what helper methods read
pub record HelperReads : Type 0 where
  pub loads : LoadsRead
  pub stores : StoresRead

module _ (helpers : HelperReads) (is_span : ℕ → Bool) (spares : SparesHelpers is_span) (order : Order) where
  helper-counts : (n h : ℕ) → CountsReads n (helper_code order h) → CallsHelpers order h → Counts is_span n 0 (λ weight. helper_weight order weight h)
  helper-counts n h is calls =
      let r = helpers.loads.faults order in
      let w = helpers.stores.faults order in
      let a = known-entries is_span spares (helper_code order h) calls in
      let b = known-entries is_span spares (helper_code order 18) refl in
      let c = known-entries is_span spares (helper_code order 19) refl in
      record {
        few_reads = omega (arith, is.0, r.0, w.0);
        no_chars = omega (arith, is.1, r.1, w.1);
        few_switches = omega (arith, is.2, r.2, w.2);
        few_entries = omega (arith, a, b, c);
      }

  pub load-counts : (name : LoadName) → Counts is_span 1 0 (λ weight. helper_weight order weight (load_helper name))
  load-counts name = helper-counts 1 (load_helper name) (helpers.loads.loads order name) (loads-call order name)

  pub linked-counts : Counts is_span 1 0 (λ weight. helper_weight order weight load_linked_helper)
  linked-counts = helper-counts 1 load_linked_helper (helpers.loads.linked order) (linked-calls order)

  pub store-counts : (name : StoreName) → Counts is_span (words_read name) 0 (λ weight. helper_weight order weight (store_helper name))
  store-counts name = helper-counts (words_read name) (store_helper name) (helpers.stores.stores order name) (stores-call order name)

  pub conditional-counts : Counts is_span 0 0 (λ weight. helper_weight order weight store_conditional_helper)
  conditional-counts = helper-counts 0 store_conditional_helper (helpers.stores.conditional order) (conditional-calls order)

  pub product-counts : (name : ProductName) → Counts is_span 0 0 (λ weight. helper_weight order weight (product_helper name))
  product-counts name = helper-counts 0 (product_helper name) (helpers.stores.products order name) (products-call order name)

-- ---- their numbers

pub load-number : (name : LoadName) → load_helper name < 20
load-number Lb = omega arith
load-number Lh = omega arith
load-number Lwl = omega arith
load-number Lw = omega arith
load-number Lbu = omega arith
load-number Lhu = omega arith
load-number Lwr = omega arith

pub store-number : (name : StoreName) → store_helper name < 20
store-number Sb = omega arith
store-number Sh = omega arith
store-number Swl = omega arith
store-number Sw = omega arith
store-number Swr = omega arith

pub product-number : (name : ProductName) → product_helper name < 20
product-number Mult = omega arith
product-number Multu = omega arith
product-number Div = omega arith
product-number Divu = omega arith
