-- The code of SC.
use Rattle.std.proofs.Common.{◌≡◌, ℕ, ◌==◌, ◌<◌, Bool, true, false, if◌then◌else◌, List, [], ◌∷◌, ◌++◌, Option, Some, None, subst, sym, refl, arith, lit<}
use Rattle.std.proofs.lemmas.Bool.{eqb-true, eqb-false}
use Rattle.run_definition.specs.Words.{IsWord}
use Rattle.run_definition.specs.Memory.{Memory}
use Rattle.run_definition.specs.Turn.{moves}
use Rattle.mips_definition.specs.State.{State, register, with_register}
use Rattle.mips_definition.specs.Step.{advanced}
use Rattle.mips_definition.specs.Loads.{access_address, store_aligned, store_allowed, memory_stored, is_linked, concluded, store_conditional_to}
use Rattle.mips_definition.specs.Targets.{extended_imm}
use Rattle.mips_definition.specs.declared.inst.Inst.TheVariants as inst
use Rattle.mips_definition.specs.declared.names.store_name.StoreName.TheVariants.{Sw}
use Rattle.delay_slots.specs.Turns.{done_by}
use Rattle.block_builder.specs.Registers.{general}
use Rattle.jvm_definition.specs.declared.value.Value.{Value}
use Rattle.jvm_definition.specs.declared.value.Value.TheVariants.{Int as int}
use Rattle.jvm_definition.specs.declared.instruction.Instruction.TheVariants.{Call}
use Rattle.jvm_definition.specs.Values.{Heap}
use Rattle.jvm_definition.specs.Effect.{Workspace}
use Rattle.jvm_definition_laws.specs.Stretch.{caller_workspace}
use Rattle.emit_steps.specs.declared.step.Step.{Step}
use Rattle.emit_steps.specs.declared.step.Step.TheVariants.{Does}
use Rattle.emit_steps.specs.Placing.{LiesAt}
use Rattle.emit_instructions.specs.Access.{get_register, put_register, push_word}
use Rattle.emit_instructions.specs.Accessing.{address_code}
use Rattle.emit_instructions.specs.Fields.{linked_field}
use Rattle.emit_instructions.specs.Helpers.{store_conditional_helper}
use Rattle.mem_helpers.specs.Methods.{helper_code}
use Rattle.emit_simulation_laws.specs.Knowing.{IsKnown}
use Rattle.emit_simulation_laws.specs.Match.{HoldsMemory}
use Rattle.emit_simulation_laws.specs.Outcomes.{Gives}
use Rattle.emit_simulation_laws.specs.Holding.{HoldsOn, IsLink}
use Rattle.emit_simulation_laws.proofs.RegisterLaws.Reading.{known-word}
use Rattle.emit_simulation_laws.specs.Sites.{Site}
use Rattle.emit_simulation_laws.specs.Behind.{IsDone}
use Rattle.emit_simulation_laws.proofs.GuestFollows.Ends.{Ends}
use Rattle.emit_simulation_laws.proofs.GuestFollows.CodeLaws.{CodeLaws}
use Rattle.emit_simulation_laws.proofs.RegisterLaws.Beside.{Agrees, agree-but, other-field, beside, beside-held}
use Rattle.mem_helpers_laws.specs.Linking.{ConcludesStore, IsLinked, StoresAreConcluded, unlinked, LeavesStored, LeavesUnlinked}
use Rattle.mem_helpers_laws.specs.Storing.{FaultyConditionalStoresEnd, given_to_store, store_turns}
use Rattle.emit_instructions_laws.specs.Instructions.{IsReady, InstructionFollows}
use Rattle.emit_instructions_laws.proofs.InstructionLaws.Results.{CodeFollows}
use Rattle.emit_instructions_laws.proofs.AccessLaws.Arranging.{given_code}
use Rattle.emit_instructions_laws.proofs.AccessLaws.Called.{put-behind}
use Rattle.emit_instructions_laws.proofs.AccessLaws.Storing.{store-follows-by, gives-as, tables}
use Rattle.emit_instructions_laws.proofs.AccessLaws.Orders.{FollowsInItsOrder, in-each-order, called-before}

-- the laws of the method
pub record ConditionalLaws : Type 0 where
  pub faulty : FaultyConditionalStoresEnd
  pub concluded : StoresAreConcluded

unlinked-agree : (w : Workspace) → Agrees w.fields (unlinked w)
unlinked-agree w = agree-but w.fields (unlinked w) (λ f no_hi no_lo no_link no_linked. other-field f linked_field (int 0) (w.fields f) no_linked)

-- behind the call no address is linked, and a register takes whether the method stored
module _ (site : Site) (bank : ℕ) (known : ℕ → Bool) (w : Workspace) (s : State) (h : HoldsOn bank known w s) (rt : ℕ) (below : rt < 32) where
  concludes : (n : ℕ) (memory : Memory) (back : Workspace) → IsWord n → back.fields ≡ unlinked w → HoldsMemory back.heap h.readable h.writable memory → Ends site.program site.words 1 (put_register bank rt ∷ []) (caller_workspace (Some (int n)) w back) (λ u. IsDone bank known (general rt ∷ []) w u (advanced (record (with_register s rt n) { memory = memory; load_link = None })))
  concludes n memory back n_word fields_are held =
      put-behind site bank known w back.fields back.heap (subst (Agrees w.fields) (sym fields_are) (unlinked-agree w)) (record s { memory = memory; load_link = None })
      (subst (λ fields. HoldsOn bank known (beside w fields back.heap) (record s { memory = memory; load_link = None })) (sym fields_are)
      (beside-held bank known w s h (unlinked w) back.heap s.hi s.lo None memory (unlinked-agree w) h.hi_is h.hi_word h.lo_is h.lo_word refl held))
      rt n below n_word

module _ (laws : CodeLaws) (stores : ConditionalLaws) (rs rt imm : ℕ) where
  module _ (site : Site) (bank : ℕ) (known : ℕ → Bool) (at : ℕ) (w : Workspace) (s : State) (ready : IsReady site s.order) (h : HoldsOn bank known w s) (is : IsKnown known rs) (it : IsKnown known rt) (below : rt < 32) where
    abbrev a : ℕ
    a = access_address s rs imm

    abbrev value : ℕ
    value = register s rt

    abbrev code : List Step
    code = (get_register bank rt ∷ given_code bank rs (extended_imm imm) s.pc) ++ Does (Call store_conditional_helper) ∷ put_register bank rt ∷ []

    a-word : IsWord a
    a-word = omega arith

    module _ (lies : LiesAt site.program site.method at code) (aligned : store_aligned Sw a ≡ true) (allowed : store_allowed Sw s.order s.memory a ≡ true) where
      gives : (n : ℕ) (Leaves : (ℕ → Value) → Heap → Type 0) (memory : Memory) → Gives site.program site.words store_turns (helper_code s.order store_conditional_helper) (given_to_store value a s.pc) w (Some (int n)) Leaves → ((left : Workspace) → Leaves left.fields left.heap → Ends site.program site.words 1 (put_register bank rt ∷ []) (caller_workspace (Some (int n)) w left) (λ u. IsDone bank known (general rt ∷ []) w u (advanced (record (with_register s rt n) { memory = memory; load_link = None })))) → CodeFollows site s.order bank known at w (general rt ∷ []) code (moves (advanced (record (with_register s rt n) { memory = memory; load_link = None })))
      gives n Leaves memory =
          gives-as laws site bank known at w s ready h store_conditional_helper rs rt imm (lit< tt) refl is it (put_register bank rt ∷ []) (general rt ∷ []) lies (Some (int n)) Leaves (advanced (record (with_register s rt n) { memory = memory; load_link = None }))

      conclusion : ConcludesStore site.program site.words s.pc value a h.readable h.writable s.order s.memory w
      conclusion =
          stores.concluded site.program site.words s.pc value a h.readable h.writable s.order s.memory w
          (record { is_word = a-word; held = tables bank known w s h; aligned = aligned; allowed = allowed })

      stays : (left : Workspace) → LeavesUnlinked w left.fields left.heap → Ends site.program site.words 1 (put_register bank rt ∷ []) (caller_workspace (Some (int 0)) w left) (λ u. IsDone bank known (general rt ∷ []) w u (advanced (record (with_register s rt 0) { memory = s.memory; load_link = None })))
      stays left leaves = concludes site bank known w s h rt below 0 s.memory left (lit< tt) leaves.0 (subst (λ heap. HoldsMemory heap h.readable h.writable s.memory) (sym leaves.1) h.memory_held)

      by-address : (linked_at : ℕ) (same : Bool) → IsLinked w linked_at → (linked_at == a) ≡ same → CodeFollows site s.order bank known at w (general rt ∷ []) code (moves (advanced (if same then record (with_register s rt 1) { memory = memory_stored Sw s.order s.memory a value; load_link = None } else record (with_register s rt 0) { load_link = None })))
      by-address linked_at true link e =
          gives 1 (LeavesStored w h.readable h.writable (memory_stored Sw s.order s.memory a value)) (memory_stored Sw s.order s.memory a value)
          (conclusion.linked linked_at (known-word bank rt known w s h it) link (eqb-true linked_at a e))
          (λ left leaves. concludes site bank known w s h rt below 1 (memory_stored Sw s.order s.memory a value) left (lit< tt) leaves.0 leaves.1)
      by-address linked_at false link e =
          gives 0 (LeavesUnlinked w) s.memory
          (conclusion.elsewhere linked_at link (eqb-false linked_at a e))
          stays

      by-link : (link : Option ℕ) → IsLink w.fields link → CodeFollows site s.order bank known at w (general rt ∷ []) code (moves (advanced (if is_linked (record s { load_link = link }) a then record (with_register s rt 1) { memory = memory_stored Sw s.order s.memory a value; load_link = None } else record (with_register s rt 0) { load_link = None })))
      by-link None link_is =
          gives 0 (LeavesUnlinked w) s.memory
          (conclusion.unlinked link_is)
          stays
      by-link (Some linked_at) link_is =
          by-address linked_at (linked_at == a) (record { linked = link_is.0; link_is = link_is.1; is_word = link_is.2 }) refl

    pub split : LiesAt site.program site.method at code → CodeFollows site s.order bank known at w (general rt ∷ []) code (done_by (store_conditional_to s rt a) s)
    split lies =
        store-follows-by laws site bank known at w s ready h store_conditional_helper rs rt imm (lit< tt) refl is it (put_register bank rt ∷ []) (general rt ∷ []) lies
        (store_aligned Sw a) (store_allowed Sw s.order s.memory a) (concluded s rt a)
        (λ test. stores.faulty.unaligned site.program site.words s.pc value a s.order w ready.helpers a-word test)
        (λ aligned test. stores.faulty.refused site.program site.words s.pc value a h.readable h.writable s.order s.memory w ready.helpers a-word (tables bank known w s h) aligned test)
        (λ aligned allowed. by-link lies aligned allowed s.load_link h.link_is)

  in-order : FollowsInItsOrder (inst.StoreConditional rs rt imm)
  in-order site bank known at w s ready lies fields reads h =
      subst (λ code. LiesAt site.program site.method at (get_register bank rt ∷ code) → CodeFollows site s.order bank known at w (general rt ∷ []) (get_register bank rt ∷ code) (done_by (store_conditional_to s rt (access_address s rs imm)) s))
      (called-before (address_code bank rs (extended_imm imm)) (put_register bank rt ∷ []) (push_word s.pc) (Does (Call store_conditional_helper)))
      (split site bank known at w s ready h reads.0 reads.1.0 fields.writes.0) lies

  pub store-conditional-follows : InstructionFollows (inst.StoreConditional rs rt imm)
  store-conditional-follows = in-each-order (inst.StoreConditional rs rt imm) in-order
