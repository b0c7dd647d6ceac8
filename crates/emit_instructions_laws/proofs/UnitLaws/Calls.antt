-- SYSCALL.
use Rattle.std.proofs.Common.{◌≡◌, ℕ, ◌+◌, ◌==◌, ◌<◌, Bool, true, false, if◌then◌else◌, List, [], ◌∷◌, Some, None, IsTrue, refl, ap, subst, sym, ◌∙◌, arith, lit<, lit≤}
use Rattle.std.proofs.lemmas.Grind.{common_steps}
use Rattle.run_definition.specs.Words.{IsWord, signed_of, wrapped}
use Rattle.nv_words.proofs.WrapLemmas.{wrapped-word}
use Rattle.run_definition.specs.declared.order.Order.{Order}
use Rattle.run_definition.specs.Question.{asked, places_asked}
use Rattle.run_definition.specs.Answer.{Answer, answer_fits, answered}
use Rattle.run_definition.specs.Turn.{Turn, leaves, asks, exit}
use Rattle.mips_definition.specs.Memory.{with_byte}
use Rattle.mips_definition.specs.State.{State, register, with_register}
use Rattle.mips_definition.specs.Step.{call_of, question_of, after_call, called}
use Rattle.block_builder.specs.Registers.{read_by_call, written_by_call}
use Rattle.jvm_definition.specs.declared.instruction.Instruction.TheVariants.{CallHost}
use Rattle.jvm_definition.specs.declared.value.Value.{Value}
use Rattle.jvm_definition.specs.declared.value.Value.TheVariants.{Int as int}
use Rattle.jvm_definition.specs.Values.{Heap}
use Rattle.jvm_definition.specs.HostMemory as host
use Rattle.jvm_definition.specs.HostMemory.{HostMemory}
use Rattle.jvm_definition.specs.Effect.{Workspace, asks_host, instruction_effect, with_operands, workspace_with_heap, with_field}
use Rattle.jvm_definition.specs.Step as machine
use Rattle.jvm_definition.specs.Step.{after_host, host_question, asked_host}
use Rattle.emit_steps.specs.declared.step.Step.{Step}
use Rattle.emit_steps.specs.declared.step.Step.TheVariants.{Does}
use Rattle.emit_steps.specs.Widths.{bytes_before, size}
use Rattle.emit_steps.specs.Outcomes.{Outcome, ended, stopped, later, beyond, outcome, outcome_from, after_instruction}
use Rattle.emit_steps.specs.Placing.{LiesAt}
use Rattle.emit_layout.specs.FieldNumbers.{readable_field, writable_field}
use Rattle.emit_instructions.specs.Access.{get_register, put_register, push_word, put_field}
use Rattle.emit_instructions.specs.Accessing.{call_code}
use Rattle.emit_instructions.specs.Fields.{linked_field}
use Rattle.emit_simulation_laws.specs.Knowing.{IsKnown, gaining, AreKnown}
use Rattle.emit_paths_laws.proofs.Joining.{path-wider}
use Rattle.emit_paths_laws.proofs.Weighing.{bytes-more}
use Rattle.emit_simulation_laws.specs.Match.{HoldsMemory, host_memory}
use Rattle.emit_simulation_laws.proofs.Patches.{HoldsMemory-answered}
use Rattle.emit_simulation_laws.specs.Holding.{HoldsOn, Keeps, KeepsGoal, reached, with_value}
use Rattle.emit_simulation_laws.proofs.RegisterLaws.Reading.{register-pushed}
use Rattle.emit_simulation_laws.proofs.RegisterLaws.Writing.{register-put, register-held, register-kept, register-goal-kept}
use Rattle.emit_simulation_laws.specs.Sites.{Site, stands, whole_weight}
use Rattle.emit_simulation_laws.specs.Following.{ComesToEnd, LastTurn, Follows}
use Rattle.emit_simulation_laws.specs.Behind.{IsDone}
use Rattle.emit_simulation_laws.proofs.GuestFollows.CodeLaws.{CodeLaws}
use Rattle.emit_instructions_laws.specs.Instructions.{most_turns}

-- ---- what is held, with another memory, and without a link

memory-held : (bank : ℕ) (known : ℕ → Bool) (w : Workspace) (s t : State) (heap : Heap) (h : HoldsOn bank known w s) → t ≡ record s { memory = t.memory } → HoldsMemory heap h.readable h.writable t.memory → HoldsOn bank known (workspace_with_heap w w.operands heap) t
memory-held bank known w s t heap h same held =
    subst (λ (u : State). HoldsOn bank known (workspace_with_heap w w.operands heap) u) (sym same)
    (record {
      register_is = h.register_is;
      register_word = h.register_word;
      hi_is = h.hi_is;
      hi_word = h.hi_word;
      lo_is = h.lo_is;
      lo_word = h.lo_word;
      pc = h.pc;
      pc_is = h.pc_is;
      link_is = h.link_is;
      readable = h.readable;
      readable_is = h.readable_is;
      writable = h.writable;
      writable_is = h.writable_is;
      memory_held = held;
    })

reach-beside : (bank r : ℕ) (w : Workspace) (v : Value) (operands : List Value) → 0 < r → r < 32 → reached bank (with_field w linked_field v operands) r ≡ reached bank w r
reach-beside bank r w v operands above below = grind (arith, common_steps)

unlinked-held : (bank : ℕ) (known : ℕ → Bool) (w : Workspace) (s : State) (operands : List Value) → HoldsOn bank known w s → HoldsOn bank known (with_field w linked_field (int 0) operands) (record s { load_link = None })
unlinked-held bank known w s operands h = record {
  register_is = λ r above below is. reach-beside bank r w (int 0) operands above below ∙ h.register_is r above below is;
  register_word = h.register_word;
  hi_is = h.hi_is;
  hi_word = h.hi_word;
  lo_is = h.lo_is;
  lo_word = h.lo_word;
  pc = h.pc;
  pc_is = h.pc_is;
  link_is = refl;
  readable = h.readable;
  readable_is = h.readable_is;
  writable = h.writable;
  writable_is = h.writable_is;
  memory_held = h.memory_held;
}

unlinked-kept : (bank : ℕ) (w : Workspace) → Keeps bank w (with_field w linked_field (int 0) w.operands)
unlinked-kept bank w = grind (arith, common_steps)

module _ (laws : CodeLaws) (site : Site) (order : Order) (bank : ℕ) (known : ℕ → Bool) (at : ℕ) (w : Workspace) (s : State) (lies : LiesAt site.program site.method at (call_code bank)) (reads : AreKnown known read_by_call) (h : HoldsOn bank known w s) where
  abbrev behind : List Step
  behind = put_register bank 2 ∷ push_word 0 ∷ put_field linked_field ∷ []

  abbrev memory : HostMemory
  memory = host_memory w.heap h.readable h.writable

  -- ---- up to the call

  abbrev given : List Value
  given = w.fields writable_field ∷ w.fields readable_field ∷ w.operands

  abbrev asking : Workspace
  asking = with_operands w (int (register s 7) ∷ int (register s 6) ∷ int (register s 5) ∷ int (register s 4) ∷ int (register s 2) ∷ given)

  pushes : (r : ℕ) (code : List Step) (operands : List Value) (o : Outcome) → IsKnown known r → outcome site.program site.words code (with_operands w (int (register s r) ∷ operands)) ≡ o → outcome site.program site.words (get_register bank r ∷ code) (with_operands w operands) ≡ later o
  pushes r code operands o is rest = register-pushed site.program site.words bank r known code (with_operands w operands) s h is ∙ ap later rest

  host-effect : instruction_effect site.program site.words CallHost asking ≡ asks_host (call_of s) (Some h.readable) (Some h.writable) w
  host-effect = simp (h.readable_is, h.writable_is, h.memory_held.readable_there, h.memory_held.writable_there) refl

  call-runs : outcome site.program site.words (call_code bank) w ≡ stopped 7 7 asking (asks_host (call_of s) (Some h.readable) (Some h.writable) w)
  call-runs =
      ap (λ o. later (later o))
      (pushes 2 (get_register bank 4 ∷ get_register bank 5 ∷ get_register bank 6 ∷ get_register bank 7 ∷ Does CallHost ∷ behind) given _ reads.0
      (pushes 4 (get_register bank 5 ∷ get_register bank 6 ∷ get_register bank 7 ∷ Does CallHost ∷ behind) (int (register s 2) ∷ given) _ reads.1.0
      (pushes 5 (get_register bank 6 ∷ get_register bank 7 ∷ Does CallHost ∷ behind) (int (register s 4) ∷ int (register s 2) ∷ given) _ reads.1.1.0
      (pushes 6 (get_register bank 7 ∷ Does CallHost ∷ behind) (int (register s 5) ∷ int (register s 4) ∷ int (register s 2) ∷ given) _ reads.1.1.1.0
      (pushes 7 (Does CallHost ∷ behind) (int (register s 6) ∷ int (register s 5) ∷ int (register s 4) ∷ int (register s 2) ∷ given) _ reads.1.1.1.1.0
      (ap (λ e. after_instruction asking e (outcome_from site.program site.words behind 0)) host-effect))))))

  same-question : host_question (call_of s) memory ≡ question_of s
  same-question = ap (asked (call_of s)) h.memory_held.reads

  -- ---- behind an answer

  module _ (answer : Answer) (fit : IsTrue (answer_fits answer (question_of s))) where
    abbrev value : ℕ
    value = wrapped answer.value

    abbrev heap : Heap
    heap = (answered host.with_host_byte memory (host_question (call_of s) memory) answer.patch).heap

    memory-after : HoldsMemory heap h.readable h.writable (answered with_byte s.memory (question_of s) answer.patch)
    memory-after =
        subst (λ (x : Heap). HoldsMemory x h.readable h.writable (answered with_byte s.memory (question_of s) answer.patch))
        (ap (λ q. (answered host.with_host_byte memory q answer.patch).heap) (sym same-question))
        (HoldsMemory-answered (places_asked (call_of s)).room answer.patch w.heap h.readable h.writable s.memory h.memory_held fit)

    abbrev changed : Workspace
    changed = workspace_with_heap w w.operands heap

    abbrev stored : Workspace
    stored = with_value bank 2 (int value) changed w.operands

    abbrev final : Workspace
    final = with_field stored linked_field (int 0) stored.operands

    behind-runs : outcome_from site.program site.words (call_code bank) 8 (after_host (call_of s) memory w answer) ≡ ended 3 final
    behind-runs =
        ap (λ o. beyond (beyond (beyond (beyond (beyond (beyond (beyond (beyond o))))))))
        (register-put site.program site.words bank 2 value (push_word 0 ∷ put_field linked_field ∷ []) changed w.operands)

    abbrev middle : State
    middle = record s { memory = answered with_byte s.memory (question_of s) answer.patch }

    word : IsWord value
    word = wrapped-word answer.value

    final-held : HoldsOn bank (gaining known 2) final (after_call s answer)
    final-held =
        unlinked-held bank (gaining known 2) stored (with_register middle 2 value) stored.operands
        (register-held bank 2 value known changed middle w.operands (lit< tt) word (memory-held bank known w s middle heap h refl memory-after))

    final-kept : Keeps bank w final
    final-kept =
        let first = register-kept bank 2 value changed in
        let next = unlinked-kept bank stored in
        record {
          fields_kept = λ r above below keeps. next.fields_kept r above below keeps ∙ first.fields_kept r above below keeps;
          operands_kept = next.operands_kept ∙ first.operands_kept;
        }

    final-goal-kept : KeepsGoal w final
    final-goal-kept =
        let first = register-goal-kept bank 2 value changed w.operands (lit< tt) in
        record { pc_kept = first.pc_kept; goal_kept = first.goal_kept }

    comes-on : ComesToEnd site (at + bytes_before (call_code bank) 7 + 1) (at + size (call_code bank)) 0 3 (whole_weight order (call_code bank)) (λ u. IsDone bank known written_by_call w u (after_call s answer)) (stands site (at + bytes_before (call_code bank) 8) (after_host (call_of s) memory w answer))
    comes-on =
        let c = laws.end_follows_from site order at 8 0 3 3 (call_code bank) (after_host (call_of s) memory w answer) final (λ u. IsDone bank known written_by_call w u (after_call s answer)) lies behind-runs (omega arith) (lit≤ tt)
        (record { state = record { held = final-held; kept = final-kept }; goal = final-goal-kept }) in
        let more = bytes-more (call_code bank) 7 (Does CallHost) refl in
        record {
          turns = c.turns;
          after = c.after;
          path = path-wider site.program site.words site.method (at + bytes_before (call_code bank) 8) (at + size (call_code bank)) (at + bytes_before (call_code bank) 7 + 1) (at + size (call_code bank)) c.turns (whole_weight order (call_code bank)) (whole_weight order (call_code bank)) (stands site (at + bytes_before (call_code bank) 8) (after_host (call_of s) memory w answer)) (stands site (at + size (call_code bank)) c.after) (omega (arith, more)) (omega arith) (λ weight still. omega arith) c.path;
          no_sooner = c.no_sooner;
          in_time = c.in_time;
          arrives = c.arrives;
        }

  -- ---- the turn

  abbrev next : Answer → machine.JvmState
  next answer = stands site (at + bytes_before (call_code bank) 8) (after_host (call_of s) memory w answer)

  abbrev Last : Turn State → ℕ → ℕ → Turn machine.JvmState → Type 0
  Last turn = LastTurn site (at + size (call_code bank)) most_turns (whole_weight order (call_code bank)) (IsDone bank known written_by_call w) turn

  asks-alike : (leaving : Bool) → (s.registers 2 == 1) ≡ leaving → Last (if leaving then leaves (question_of s) (exit (signed_of (register s 4))) else asks (question_of s) (after_call s)) 8 (at + bytes_before (call_code bank) 7) (asked_host (call_of s) memory next)
  asks-alike true is =
      subst (Last (leaves (question_of s) (exit (signed_of (register s 4)))) 8 (at + bytes_before (call_code bank) 7))
      (sym (ap (λ b. if b then leaves (host_question (call_of s) memory) (exit (signed_of (register s 4))) else asks (host_question (call_of s) memory) next) is))
      (same-question, refl)
  asks-alike false is =
      subst (Last (asks (question_of s) (after_call s)) 8 (at + bytes_before (call_code bank) 7))
      (sym (ap (λ b. if b then leaves (host_question (call_of s) memory) (exit (signed_of (register s 4))) else asks (host_question (call_of s) memory) next) is))
      (same-question, record { left = 3; in_time = lit≤ tt; comes = λ answer fit. comes-on answer fit })

  by-leaving : (leaving : Bool) → (s.registers 2 == 1) ≡ leaving → Follows site at (at + size (call_code bank)) 1 most_turns (whole_weight order (call_code bank)) (IsDone bank known written_by_call w) (stands site at w) (if leaving then leaves (question_of s) (exit (signed_of (register s 4))) else asks (question_of s) (after_call s))
  by-leaving true is =
      laws.question_follows site order at 1 most_turns 7 7 (call_code bank) w asking w (call_of s) (Some h.readable) (Some h.writable) (Last (leaves (question_of s) (exit (signed_of (register s 4))))) lies call-runs (lit≤ tt) (lit≤ tt) (asks-alike true is)
  by-leaving false is =
      laws.question_follows site order at 1 most_turns 7 7 (call_code bank) w asking w (call_of s) (Some h.readable) (Some h.writable) (Last (asks (question_of s) (after_call s))) lies call-runs (lit≤ tt) (lit≤ tt) (asks-alike false is)

  pub call-follows : Follows site at (at + size (call_code bank)) 1 most_turns (whole_weight order (call_code bank)) (IsDone bank known written_by_call w) (stands site at w) (called s)
  call-follows = by-leaving (s.registers 2 == 1) refl
