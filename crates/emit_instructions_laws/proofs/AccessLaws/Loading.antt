-- The code of the instructions that load.
use Rattle.std.proofs.Common.{◌≡◌, ℕ, ◌<◌, not, Bool, true, false, if◌then◌else◌, List, [], ◌∷◌, ◌++◌, Some, is_none, IsTrue, inl, refl, subst, subst₂, sym, arith, lit<, lit≤}
use Rattle.run_definition.specs.Words.{IsWord}
use Rattle.mips_definition.specs.State.{State, register, with_register}
use Rattle.mips_definition.specs.Effect.{faults, goes_on, read_align_fault, read_unmapped_fault}
use Rattle.mips_definition.specs.Loads.{access_address, load_aligned, load_from, loaded_word}
use Rattle.mips_definition.specs.Step.{advanced, faulted}
use Rattle.mips_definition.specs.Targets.{extended_imm}
use Rattle.mips_definition.specs.declared.inst.Inst.TheVariants as inst
use Rattle.mips_definition.specs.declared.names.load_name.LoadName.{LoadName}
use Rattle.mips_definition.specs.declared.names.load_name.LoadName.TheVariants.{Lb, Lh, Lwl, Lw, Lbu, Lhu, Lwr}
use Rattle.delay_slots.specs.Turns.{done_by}
use Rattle.block_builder.specs.Registers.{general, read_by_load}
use Rattle.jvm_definition.specs.declared.kind.Kind.TheVariants.{Int}
use Rattle.jvm_definition.specs.declared.value.Value.{Value}
use Rattle.jvm_definition.specs.declared.value.Value.TheVariants.{Int as int}
use Rattle.jvm_definition.specs.declared.instruction.Instruction.TheVariants.{Call}
use Rattle.jvm_definition.specs.Effect.{Workspace, enters, instruction_effect, with_operands}
use Rattle.emit_steps.specs.declared.step.Step.{Step}
use Rattle.emit_steps.specs.declared.step.Step.TheVariants.{Does}
use Rattle.emit_steps.specs.Outcomes.{stays_within}
use Rattle.emit_steps.specs.Placing.{LiesAt}
use Rattle.emit_instructions.specs.Access.{get_register, put_register, push_word}
use Rattle.emit_instructions.specs.Accessing.{address_code, access_code, load_code}
use Rattle.emit_instructions.specs.Helpers.{load_helper}
use Rattle.mem_helpers.specs.Methods.{helper_code}
use Rattle.emit_simulation_laws.specs.Knowing.{IsKnown, AreKnown}
use Rattle.emit_simulation_laws.specs.Helpers.{helper_parameters}
use Rattle.emit_simulation_laws.specs.Holding.{HoldsOn}
use Rattle.emit_simulation_laws.proofs.RegisterLaws.Reading.{register-word}
use Rattle.emit_simulation_laws.specs.Sites.{Site}
use Rattle.emit_simulation_laws.proofs.GuestFollows.CodeLaws.{CodeLaws}
use Rattle.emit_simulation_laws.proofs.RegisterLaws.Beside.{Agrees, agree-itself, beside}
use Rattle.mem_helpers_laws.specs.Loading.{LoadsAs, LoadsByName, LoadsAreTheGuests, LoadsWords, FaultsAt, most_of_a_load}
use Rattle.emit_instructions_laws.specs.Instructions.{IsReady, InstructionFollows}
use Rattle.emit_instructions_laws.proofs.InstructionLaws.Results.{CodeFollows}
use Rattle.emit_instructions_laws.proofs.AccessLaws.Arranging.{Brings, brought-within, given_code, address-brought, register-brought, register-within, address-within, enters-with-two, enters-with-three}
use Rattle.emit_instructions_laws.proofs.AccessLaws.Called.{returned-follows, faulted-follows, put-behind}
use Rattle.emit_instructions_laws.proofs.AccessLaws.Orders.{in-each-order, called-before}

-- ---- by the two tests of a load

module _ (laws : CodeLaws) (site : Site) (bank : ℕ) (known : ℕ → Bool) (at : ℕ) (w : Workspace) (s : State) (ready : IsReady site s.order) where
  -- code follows a load by its two tests; where it loads, a register takes the word, and the rest of the state is as said
  abbrev LoadFollows : List Step → (a rt word : ℕ) → State → Bool → Bool → Type 0
  LoadFollows code a rt word t aligned unmapped =
      CodeFollows site s.order bank known at w (general rt ∷ []) code
      (done_by (if not aligned then faults read_align_fault a else if unmapped then faults read_unmapped_fault a else goes_on (with_register t rt word)) s)

  module _ (number rt a word : ℕ) (front : List Step) (v : Workspace) (given : List Value) (is_helper : number < 18) (below : rt < 32) (is_word : IsWord word) (within : IsTrue (stays_within front)) (lies : LiesAt site.program site.method at (front ++ Does (Call number) ∷ put_register bank rt ∷ [])) (front_is : Brings site.program site.words 5 front w v) (calls : instruction_effect site.program site.words (Call number) v ≡ enters number given w) (left : ℕ → Value) (t : State) (agrees : Agrees w.fields left) (held : HoldsOn bank known (beside w left w.heap) t) where
    ends-with : (kind : ℕ) → FaultsAt site.program site.words s.order (helper_code s.order number) given w kind s.pc a → CodeFollows site s.order bank known at w (general rt ∷ []) (front ++ Does (Call number) ∷ put_register bank rt ∷ []) (faulted s kind a)
    ends-with kind stops =
        faulted-follows laws site s.order bank known at w ready number most_of_a_load front (put_register bank rt ∷ []) v given (general rt ∷ []) is_helper within lies front_is calls (lit≤ tt)
        18 (record { kind = kind; pc = s.pc; value = a }) (inl refl) stops

    load-follows-by : (aligned unmapped : Bool) → LoadsAs site.program site.words s.order (helper_code s.order number) given w s.pc a word left aligned unmapped → LoadFollows (front ++ Does (Call number) ∷ put_register bank rt ∷ []) a rt word t aligned unmapped
    load-follows-by false unmapped stops = ends-with read_align_fault stops
    load-follows-by true true stops = ends-with read_unmapped_fault stops
    load-follows-by true false method_gives =
        returned-follows laws site s.order bank known at w ready number most_of_a_load front (put_register bank rt ∷ []) v given (general rt ∷ []) is_helper within lies front_is calls (lit≤ tt)
        (Some (int word)) (λ fields heap. (fields ≡ left) × (heap ≡ w.heap)) (advanced (with_register t rt word)) method_gives
        (λ back leaves. put-behind site bank known w back.fields back.heap (subst (Agrees w.fields) (sym leaves.0) agrees) t
        (subst₂ (λ fields heap. HoldsOn bank known (beside w fields heap) t) (sym leaves.0) (sym leaves.1) held) rt word below is_word)

  module _ (h : HoldsOn bank known w s) (rs rt imm : ℕ) (is : IsKnown known rs) (below : rt < 32) where
    abbrev a : ℕ
    a = access_address s rs imm

    abbrev given_address : List Step
    given_address = given_code bank rs (extended_imm imm) s.pc

    -- the address alone is given
    pub address-load : (number word : ℕ) (left : ℕ → Value) (t : State) (aligned unmapped : Bool) → number < 18 → helper_parameters number ≡ Int ∷ Int ∷ [] → IsWord word → Agrees w.fields left → HoldsOn bank known (beside w left w.heap) t → LoadsAs site.program site.words s.order (helper_code s.order number) (int a ∷ int s.pc ∷ []) w s.pc a word left aligned unmapped → LiesAt site.program site.method at (access_code bank number rs imm s.pc ++ put_register bank rt ∷ []) → LoadFollows (access_code bank number rs imm s.pc ++ put_register bank rt ∷ []) a rt word t aligned unmapped
    address-load number word left t aligned unmapped is_helper two is_word agrees held loads_as =
        let v = with_operands w (int s.pc ∷ int a ∷ w.operands) in
        subst (λ code. LiesAt site.program site.method at code → LoadFollows code a rt word t aligned unmapped)
        (called-before (address_code bank rs (extended_imm imm)) (put_register bank rt ∷ []) (push_word s.pc) (Does (Call number)))
        (λ lies. load-follows-by number rt a word given_address v (int a ∷ int s.pc ∷ []) is_helper below is_word (address-within bank rs (extended_imm imm) s.pc) lies
        (brought-within site.program site.words 4 5 given_address w v (lit≤ tt) (address-brought site.program site.words bank known w s h rs (extended_imm imm) s.pc w.operands is))
        (enters-with-two site.program site.words s.order number (ready.helpers number (omega (arith, is_helper))) w w.operands a s.pc two)
        left t agrees held aligned unmapped loads_as)

    -- LWL and LWR: what the register holds is given first
    pub merging-load : (number word : ℕ) (aligned unmapped : Bool) → number < 18 → helper_parameters number ≡ Int ∷ Int ∷ Int ∷ [] → IsWord word → LoadsAs site.program site.words s.order (helper_code s.order number) (int (register s rt) ∷ int a ∷ int s.pc ∷ []) w s.pc a word w.fields aligned unmapped → IsKnown known rt → LiesAt site.program site.method at (get_register bank rt ∷ (access_code bank number rs imm s.pc ++ put_register bank rt ∷ [])) → LoadFollows (get_register bank rt ∷ (access_code bank number rs imm s.pc ++ put_register bank rt ∷ [])) a rt word s aligned unmapped
    merging-load number word aligned unmapped is_helper three is_word loads_as it =
        let v = with_operands w (int s.pc ∷ int a ∷ int (register s rt) ∷ w.operands) in
        subst (λ code. LiesAt site.program site.method at (get_register bank rt ∷ code) → LoadFollows (get_register bank rt ∷ code) a rt word s aligned unmapped)
        (called-before (address_code bank rs (extended_imm imm)) (put_register bank rt ∷ []) (push_word s.pc) (Does (Call number)))
        (λ lies. load-follows-by number rt a word (get_register bank rt ∷ given_address) v (int (register s rt) ∷ int a ∷ int s.pc ∷ []) is_helper below is_word
        (register-within bank rt given_address (address-within bank rs (extended_imm imm) s.pc)) lies
        (register-brought site.program site.words bank known w s h rt 4 given_address w.operands v it
        (address-brought site.program site.words bank known w s h rs (extended_imm imm) s.pc (int (register s rt) ∷ w.operands) is))
        (enters-with-three site.program site.words s.order number (ready.helpers number (omega (arith, is_helper))) w w.operands (register s rt) a s.pc three)
        w.fields s (agree-itself w.fields) h aligned unmapped loads_as)

-- ---- by the instructions' names

module _ (laws : CodeLaws) (loads : LoadsAreTheGuests) (load_words : LoadsWords) (rs rt imm : ℕ) where
  module _ (site : Site) (bank : ℕ) (known : ℕ → Bool) (at : ℕ) (w : Workspace) (s : State) (ready : IsReady site s.order) (h : HoldsOn bank known w s) (below : rt < 32) where
    abbrev address : ℕ
    address = access_address s rs imm

    abbrev word : LoadName → ℕ
    word name = loaded_word name s.order s.memory address (register s rt)

    law : (name : LoadName) → LoadsByName site.program site.words s.order name s.memory w (register s rt) address s.pc
    law name =
        loads site.program site.words h.readable h.writable (register s rt) address s.pc s.order name s.memory w
        (record { helpers = ready.helpers; readable_is = h.readable_is; held = h.memory_held; is_word = omega arith })
        (register-word bank rt known w s h below)

    is-word : (name : LoadName) → IsWord (word name)
    is-word name = load_words w.heap h.readable h.writable address (register s rt) s.memory s.order name h.memory_held

    plain : (name : LoadName) → load_helper name < 18 → helper_parameters (load_helper name) ≡ Int ∷ Int ∷ [] → LoadsAs site.program site.words s.order (helper_code s.order (load_helper name)) (int address ∷ int s.pc ∷ []) w s.pc address (word name) w.fields (load_aligned name address) (is_none (s.memory.byte address)) → IsKnown known rs → LiesAt site.program site.method at (access_code bank (load_helper name) rs imm s.pc ++ put_register bank rt ∷ []) → CodeFollows site s.order bank known at w (general rt ∷ []) (access_code bank (load_helper name) rs imm s.pc ++ put_register bank rt ∷ []) (done_by (load_from name s rt address) s)
    plain name is_helper two loads_as is =
        address-load laws site bank known at w s ready h rs rt imm is below (load_helper name) (word name) w.fields s (load_aligned name address) (is_none (s.memory.byte address)) is_helper two (is-word name) (agree-itself w.fields) h loads_as

    by-name : (name : LoadName) → AreKnown known (read_by_load name rs rt) → LiesAt site.program site.method at (load_code bank name rs rt imm s.pc) → CodeFollows site s.order bank known at w (general rt ∷ []) (load_code bank name rs rt imm s.pc) (done_by (load_from name s rt address) s)
    by-name Lw reads = plain Lw (lit< tt) refl (law Lw) reads.0
    by-name Lh reads = plain Lh (lit< tt) refl (law Lh) reads.0
    by-name Lhu reads = plain Lhu (lit< tt) refl (law Lhu) reads.0
    by-name Lb reads = plain Lb (lit< tt) refl (law Lb) reads.0
    by-name Lbu reads = plain Lbu (lit< tt) refl (law Lbu) reads.0
    by-name Lwl reads =
        merging-load laws site bank known at w s ready h rs rt imm reads.0 below (load_helper Lwl) (word Lwl) (load_aligned Lwl address) (is_none (s.memory.byte address)) (lit< tt) refl (is-word Lwl) (law Lwl) reads.1.0
    by-name Lwr reads =
        merging-load laws site bank known at w s ready h rs rt imm reads.0 below (load_helper Lwr) (word Lwr) (load_aligned Lwr address) (is_none (s.memory.byte address)) (lit< tt) refl (is-word Lwr) (law Lwr) reads.1.0

  pub load-follows : (name : LoadName) → InstructionFollows (inst.Load name rs rt imm)
  load-follows name =
      in-each-order (inst.Load name rs rt imm)
      (λ site bank known at w s ready lies fields reads h. by-name site bank known at w s ready h fields.writes.0 name reads lies)
