-- The code of products and quotients.
use Rattle.std.proofs.Common.{◌≡◌, ℕ, ◌<◌, [], ◌∷◌, Option, Some, None, subst, sym, ◌∙◌, refl, arith, lit<, lit≤}
use Rattle.run_definition.specs.Words.{IsWord}
use Rattle.mips_definition.specs.State.{register}
use Rattle.mips_definition.specs.Step.{advanced}
use Rattle.mips_definition.specs.Arithmetic.{product_hi, product_lo}
use Rattle.mips_definition.specs.declared.inst.Inst.TheVariants as inst
use Rattle.mips_definition.specs.declared.names.product_name.ProductName.{ProductName}
use Rattle.mips_definition.specs.declared.names.product_name.ProductName.TheVariants.{Mult, Multu, Div, Divu}
use Rattle.mips_definition.specs.declared.names.hi_lo.HiLo.TheVariants.{Hi, Lo}
use Rattle.block_builder.specs.Registers.{special}
use Rattle.jvm_definition.specs.declared.kind.Kind.TheVariants.{Int}
use Rattle.jvm_definition.specs.declared.value.Value.{Value}
use Rattle.jvm_definition.specs.declared.value.Value.TheVariants.{Int as int}
use Rattle.jvm_definition.specs.Effect.{with_operands}
use Rattle.emit_instructions.specs.Access.{get_register}
use Rattle.emit_instructions.specs.Fields.{link_field, linked_field}
use Rattle.emit_instructions.specs.Helpers.{product_helper}
use Rattle.emit_simulation_laws.specs.Match.{HoldsMemory}
use Rattle.emit_simulation_laws.specs.Helpers.{helper_parameters}
use Rattle.emit_simulation_laws.specs.Holding.{IsLink}
use Rattle.emit_simulation_laws.proofs.RegisterLaws.Reading.{known-word}
use Rattle.emit_simulation_laws.proofs.GuestFollows.CodeLaws.{CodeLaws}
use Rattle.emit_simulation_laws.proofs.RegisterLaws.Beside.{agree-but, beside-held}
use Rattle.mem_helpers_laws.specs.Multiplying.{LeavesProduct, ProductsArePut, ProductsAreWords, given_to_product, product_turns}
use Rattle.emit_instructions_laws.specs.Instructions.{InstructionFollows}
use Rattle.emit_instructions_laws.proofs.AccessLaws.Arranging.{register-brought, register-within, brought-within, enters-with-two}
use Rattle.emit_instructions_laws.proofs.AccessLaws.Called.{returned-follows, nothing-behind}
use Rattle.emit_instructions_laws.proofs.AccessLaws.Orders.{FollowsInItsOrder, in-each-order}

is-helper : (name : ProductName) → product_helper name < 18
is-helper Div = lit< tt
is-helper Divu = lit< tt
is-helper Mult = lit< tt
is-helper Multu = lit< tt

has-two : (name : ProductName) → helper_parameters (product_helper name) ≡ Int ∷ Int ∷ []
has-two Div = refl
has-two Divu = refl
has-two Mult = refl
has-two Multu = refl

link-kept : (link : Option ℕ) (old new : ℕ → Value) → new link_field ≡ old link_field → new linked_field ≡ old linked_field → IsLink old link → IsLink new link
link-kept None old new at_is is link_is = is ∙ link_is
link-kept (Some at) old new at_is is link_is = (is ∙ link_is.0, at_is ∙ link_is.1, link_is.2)

module _ (laws : CodeLaws) (products : ProductsArePut) (product_words : ProductsAreWords) (name : ProductName) (rs rt : ℕ) where
  in-order : FollowsInItsOrder (inst.Product name rs rt)
  in-order site bank known at w s ready lies fields reads h =
      let a = register s rs in
      let b = register s rt in
      let a_word : IsWord (register s rs) = known-word bank rs known w s h reads.0 in
      let b_word : IsWord (register s rt) = known-word bank rt known w s h reads.1.0 in
      let words = product_words name (register s rs) (register s rt) a_word b_word in
      let helper = ready.helpers (product_helper name) (let below = is-helper name in omega (arith, below)) in
      let v = with_operands w (int b ∷ int a ∷ w.operands) in
      returned-follows laws site s.order bank known at w ready (product_helper name) product_turns (get_register bank rs ∷ get_register bank rt ∷ []) [] v (given_to_product a b) (special Hi ∷ special Lo ∷ []) (is-helper name)
      (register-within bank rs (get_register bank rt ∷ []) (register-within bank rt [] refl)) lies
      (brought-within site.program site.words 2 5 (get_register bank rs ∷ get_register bank rt ∷ []) w v (lit≤ tt)
      (register-brought site.program site.words bank known w s h rs 1 (get_register bank rt ∷ []) w.operands v reads.0
      (register-brought site.program site.words bank known w s h rt 0 [] (int a ∷ w.operands) v reads.1.0 (record { turns = 0; comes = refl; in_time = lit≤ tt }))))
      (enters-with-two site.program site.words s.order (product_helper name) helper w w.operands a b (has-two name)) (lit≤ tt)
      None (LeavesProduct w (product_hi name a b) (product_lo name a b)) (advanced (record s { hi = product_hi name a b; lo = product_lo name a b }))
      (products site.program site.words a b name s.order w a_word b_word)
      (λ back leaves.
      let agrees = agree-but w.fields back.fields (λ f no_hi no_lo no_link no_linked. leaves.others f no_hi no_lo) in
      nothing-behind site bank known w back.fields back.heap agrees (record s { hi = product_hi name a b; lo = product_lo name a b })
      (beside-held bank known w s h back.fields back.heap (product_hi name a b) (product_lo name a b) s.load_link s.memory agrees leaves.hi_is words.0 leaves.lo_is words.1
      (link-kept s.load_link w.fields back.fields (leaves.others link_field (omega arith) (omega arith)) (leaves.others linked_field (omega arith) (omega arith)) h.link_is)
      (subst (λ heap. HoldsMemory heap h.readable h.writable s.memory) (sym leaves.heap_is) h.memory_held))
      (special Hi ∷ special Lo ∷ []) refl)

  pub product-follows : InstructionFollows (inst.Product name rs rt)
  product-follows = in-each-order (inst.Product name rs rt) in-order
