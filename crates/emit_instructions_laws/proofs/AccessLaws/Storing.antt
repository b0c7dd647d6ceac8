-- The code of the instructions that store.
use Rattle.std.proofs.Common.{◌≡◌, ℕ, ◌<◌, not, Bool, true, false, if◌then◌else◌, List, [], ◌∷◌, ◌++◌, Option, None, inr, ap, subst, sym, refl, arith, lit<, lit≤}
use Rattle.run_definition.specs.Words.{IsWord}
use Rattle.run_definition.specs.Turn.{moves}
use Rattle.mips_definition.specs.State.{State, register}
use Rattle.mips_definition.specs.Step.{advanced, faulted}
use Rattle.mips_definition.specs.Effect.{faults, goes_on, write_align_fault, write_refused_fault}
use Rattle.mips_definition.specs.Loads.{access_address, store_aligned, store_allowed, store_to, memory_stored}
use Rattle.mips_definition.specs.Targets.{extended_imm}
use Rattle.mips_definition.specs.declared.inst.Inst.TheVariants as inst
use Rattle.mips_definition.specs.declared.names.store_name.StoreName.{StoreName}
use Rattle.mips_definition.specs.declared.names.store_name.StoreName.TheVariants.{Sb, Sh, Swl, Sw, Swr}
use Rattle.delay_slots.specs.Turns.{done_by}
use Rattle.block_builder.specs.Registers.{Register}
use Rattle.jvm_definition.specs.declared.kind.Kind.TheVariants.{Int}
use Rattle.jvm_definition.specs.declared.value.Value.{Value}
use Rattle.jvm_definition.specs.declared.value.Value.TheVariants.{Int as int}
use Rattle.jvm_definition.specs.declared.instruction.Instruction.TheVariants.{Call}
use Rattle.jvm_definition.specs.Values.{Heap}
use Rattle.jvm_definition.specs.Effect.{Workspace, with_operands}
use Rattle.jvm_definition_laws.specs.Stretch.{caller_workspace}
use Rattle.emit_steps.specs.declared.step.Step.{Step}
use Rattle.emit_steps.specs.declared.step.Step.TheVariants.{Does}
use Rattle.emit_steps.specs.Placing.{LiesAt}
use Rattle.emit_instructions.specs.Access.{get_register, push_word}
use Rattle.emit_instructions.specs.Accessing.{address_code}
use Rattle.emit_instructions.specs.Helpers.{store_helper}
use Rattle.mem_helpers.specs.Methods.{helper_code}
use Rattle.emit_simulation_laws.specs.Knowing.{IsKnown}
use Rattle.emit_simulation_laws.specs.Outcomes.{Gives}
use Rattle.emit_simulation_laws.specs.Helpers.{helper_parameters}
use Rattle.emit_simulation_laws.specs.Holding.{HoldsOn}
use Rattle.emit_simulation_laws.proofs.RegisterLaws.Reading.{known-word}
use Rattle.emit_simulation_laws.specs.Sites.{Site}
use Rattle.emit_simulation_laws.specs.Behind.{IsDone}
use Rattle.emit_simulation_laws.proofs.GuestFollows.Ends.{Ends}
use Rattle.emit_simulation_laws.proofs.GuestFollows.CodeLaws.{CodeLaws}
use Rattle.emit_simulation_laws.proofs.RegisterLaws.Beside.{agree-but, agree-itself, beside, beside-held}
use Rattle.mem_helpers_laws.specs.Storing.{FaultyStoresEnd, StoresAreDone, HoldsTables, EndsStore, LeavesMemory, given_to_store, store_turns, store_fault_turns}
use Rattle.emit_instructions_laws.specs.Instructions.{IsReady, InstructionFollows}
use Rattle.emit_instructions_laws.proofs.InstructionLaws.Results.{CodeFollows}
use Rattle.emit_instructions_laws.proofs.AccessLaws.Arranging.{Brings, given_code, address-brought, register-brought, register-within, address-within, enters-with-three}
use Rattle.emit_instructions_laws.proofs.AccessLaws.Called.{returned-follows, faulted-follows, nothing-behind}
use Rattle.emit_instructions_laws.proofs.AccessLaws.Orders.{FollowsInItsOrder, in-each-order, called-last}

-- A word and an address are given to a method that stores, and other code stands behind its call.
module _ (laws : CodeLaws) (site : Site) (bank : ℕ) (known : ℕ → Bool) (at : ℕ) (w : Workspace) (s : State) (ready : IsReady site s.order) (h : HoldsOn bank known w s) (number rs rt imm : ℕ) (is_helper : number < 18) (three : helper_parameters number ≡ Int ∷ Int ∷ Int ∷ []) (is : IsKnown known rs) (it : IsKnown known rt) (back : List Step) (written : List Register) where
  abbrev a : ℕ
  a = access_address s rs imm

  abbrev given : List Value
  given = given_to_store (register s rt) a s.pc

  abbrev front : List Step
  front = get_register bank rt ∷ given_code bank rs (extended_imm imm) s.pc

  abbrev pub storing_code : List Step
  storing_code = front ++ Does (Call number) ∷ back

  abbrev v : Workspace
  v = with_operands w (int s.pc ∷ int a ∷ int (register s rt) ∷ w.operands)

  front-is : Brings site.program site.words 5 front w v
  front-is =
      register-brought site.program site.words bank known w s h rt 4 (given_code bank rs (extended_imm imm) s.pc) w.operands v it
      (address-brought site.program site.words bank known w s h rs (extended_imm imm) s.pc (int (register s rt) ∷ w.operands) is)

  module _ (lies : LiesAt site.program site.method at storing_code) where
    stops-as : (kind : ℕ) → EndsStore site.program site.words s.order number given w kind s.pc a → CodeFollows site s.order bank known at w written storing_code (faulted s kind a)
    stops-as kind stops =
        faulted-follows laws site s.order bank known at w ready number store_fault_turns front back v given written is_helper
        (register-within bank rt (given_code bank rs (extended_imm imm) s.pc) (address-within bank rs (extended_imm imm) s.pc)) lies front-is
        (enters-with-three site.program site.words s.order number (ready.helpers number (omega (arith, is_helper))) w w.operands (register s rt) a s.pc three) (lit≤ tt)
        19 (record { kind = kind; pc = s.pc; value = a }) (inr refl) stops

    pub gives-as : (result : Option Value) (Leaves : (ℕ → Value) → Heap → Type 0) (t : State) → Gives site.program site.words store_turns (helper_code s.order number) given w result Leaves → ((left : Workspace) → Leaves left.fields left.heap → Ends site.program site.words 1 back (caller_workspace result w left) (λ u. IsDone bank known written w u t)) → CodeFollows site s.order bank known at w written storing_code (moves t)
    gives-as result Leaves t =
        returned-follows laws site s.order bank known at w ready number store_turns front back v given written is_helper
        (register-within bank rt (given_code bank rs (extended_imm imm) s.pc) (address-within bank rs (extended_imm imm) s.pc)) lies front-is
        (enters-with-three site.program site.words s.order number (ready.helpers number (omega (arith, is_helper))) w w.operands (register s rt) a s.pc three) (lit≤ tt)
        result Leaves t

    -- by whether the address is aligned and may be stored to
    pub store-follows-by : (aligned allowed : Bool) (t : State) → (aligned ≡ false → EndsStore site.program site.words s.order number given w write_align_fault s.pc a) → (aligned ≡ true → allowed ≡ false → EndsStore site.program site.words s.order number given w write_refused_fault s.pc a) → (aligned ≡ true → allowed ≡ true → CodeFollows site s.order bank known at w written storing_code (moves (advanced t))) → CodeFollows site s.order bank known at w written storing_code (done_by (if not aligned then faults write_align_fault a else if not allowed then faults write_refused_fault a else goes_on t) s)
    store-follows-by false allowed t unaligned refused is_done = stops-as write_align_fault (unaligned refl)
    store-follows-by true false t unaligned refused is_done = stops-as write_refused_fault (refused refl refl)
    store-follows-by true true t unaligned refused is_done = is_done refl refl

-- ---- the laws of the methods that store

pub record StoreLaws : Type 0 where
  pub faulty : FaultyStoresEnd
  pub stores : StoresAreDone

pub tables : (bank : ℕ) (known : ℕ → Bool) (w : Workspace) (s : State) (h : HoldsOn bank known w s) → HoldsTables w h.readable h.writable s.memory
tables bank known w s h = record { readable_is = h.readable_is; writable_is = h.writable_is; held = h.memory_held }

is-helper : (name : StoreName) → store_helper name < 18
is-helper Sb = lit< tt
is-helper Sh = lit< tt
is-helper Swl = lit< tt
is-helper Sw = lit< tt
is-helper Swr = lit< tt

has-three : (name : StoreName) → helper_parameters (store_helper name) ≡ Int ∷ Int ∷ Int ∷ []
has-three Sb = refl
has-three Sh = refl
has-three Swl = refl
has-three Sw = refl
has-three Swr = refl

module _ (laws : CodeLaws) (stores : StoreLaws) (name : StoreName) (rs rt imm : ℕ) where
  split : (site : Site) (bank : ℕ) (known : ℕ → Bool) (at : ℕ) (w : Workspace) (s : State) → IsReady site s.order → HoldsOn bank known w s → IsKnown known rs → IsKnown known rt → LiesAt site.program site.method at (get_register bank rt ∷ (given_code bank rs (extended_imm imm) s.pc ++ Does (Call (store_helper name)) ∷ [])) → CodeFollows site s.order bank known at w [] (get_register bank rt ∷ (given_code bank rs (extended_imm imm) s.pc ++ Does (Call (store_helper name)) ∷ [])) (done_by (store_to name s rt (access_address s rs imm)) s)
  split site bank known at w s ready h is it lies =
      let a = access_address s rs imm in
      let value = register s rt in
      let a_word : IsWord (access_address s rs imm) = omega arith in
      let value_word = known-word bank rt known w s h it in
      let t = record s { memory = memory_stored name s.order s.memory a value } in
      store-follows-by laws site bank known at w s ready h (store_helper name) rs rt imm (is-helper name) (has-three name) is it [] [] lies
      (store_aligned name a) (store_allowed name s.order s.memory a) t
      (λ test. (stores.faulty name).unaligned site.program site.words s.pc value a s.order w ready.helpers a_word test)
      (λ aligned test. (stores.faulty name).refused site.program site.words s.pc value a h.readable h.writable s.order s.memory w ready.helpers a_word (tables bank known w s h) aligned test)
      (λ aligned allowed.
      gives-as laws site bank known at w s ready h (store_helper name) rs rt imm (is-helper name) (has-three name) is it [] [] lies None (LeavesMemory w h.readable h.writable (memory_stored name s.order s.memory a value)) (advanced t)
      (stores.stores site.program site.words s.pc value a h.readable h.writable name s.order s.memory w value_word
      (record { is_word = a_word; held = tables bank known w s h; aligned = aligned; allowed = allowed }))
      (λ back leaves.
      let agrees = agree-but w.fields back.fields (λ f no_hi no_lo no_link no_linked. ap (λ (fields : ℕ → Value). fields f) leaves.0) in
      nothing-behind site bank known w back.fields back.heap agrees t
      (subst (λ fields. HoldsOn bank known (beside w fields back.heap) t) (sym leaves.0)
      (beside-held bank known w s h w.fields back.heap s.hi s.lo s.load_link (memory_stored name s.order s.memory a value) (agree-itself w.fields) h.hi_is h.hi_word h.lo_is h.lo_word h.link_is leaves.1))
      [] refl))

  in-order : FollowsInItsOrder (inst.Store name rs rt imm)
  in-order site bank known at w s ready lies fields reads h =
      subst (λ code. LiesAt site.program site.method at (get_register bank rt ∷ code) → CodeFollows site s.order bank known at w [] (get_register bank rt ∷ code) (done_by (store_to name s rt (access_address s rs imm)) s))
      (called-last (address_code bank rs (extended_imm imm)) (push_word s.pc) (Does (Call (store_helper name))))
      (split site bank known at w s ready h reads.0 reads.1.0) lies

  pub store-follows : InstructionFollows (inst.Store name rs rt imm)
  store-follows = in-each-order (inst.Store name rs rt imm) in-order
