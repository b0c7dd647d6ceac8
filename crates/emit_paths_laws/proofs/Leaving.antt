-- A field is changed by writes of it alone.
use Rattle.std.proofs.Common.{◌≡◌, ℕ, zero, suc, ◌+◌, ◌==◌, nat_lt, nat_le, ◌^◌, pos, int_lt, not, Bool, true, false, if◌then◌else◌, List, [], ◌∷◌, length, slice_get, Option, Some, None, refl, ap, subst, sym, ◌∙◌, arith}
use Rattle.std.specs.Bool.{⊤}
use Rattle.std.specs.List.{sum_by}
use Rattle.std.proofs.lemmas.Bool.{eqb-true, eq-eqb}
use Rattle.std.proofs.lemmas.List.Sums.{sum_by-cons}
use Rattle.std.proofs.lemmas.Option.{none-some, same_Some}
use Rattle.run_definition.specs.Words.{signed_of}
use Rattle.run_definition.specs.Question.{Question}
use Rattle.run_definition.specs.Answer.{Answer}
use Rattle.run_definition.specs.Turn.{Turn, moves, ends, leaves, asks, trap, exit}
use Rattle.run_simulation_laws.specs.Trail.{Step, went, stood, if_moves, advanced, moved}
use Rattle.jvm_definition.specs.declared.array_name.ArrayName.TheVariants.{Iaload, Aaload, Iastore, Aastore}
use Rattle.jvm_definition.specs.declared.branch_name.BranchName.TheVariants as branch
use Rattle.jvm_definition.specs.declared.conversion.Conversion.TheVariants.{I2l, L2i, I2b, I2c, I2s}
use Rattle.jvm_definition.specs.declared.return_name.ReturnName.TheVariants as returns
use Rattle.jvm_definition.specs.declared.array_kind.ArrayKind.{ArrayKind}
use Rattle.jvm_definition.specs.declared.kind.Kind.{Kind}
use Rattle.jvm_definition.specs.declared.linked_line.LinkedLine.{LinkedLine}
use Rattle.jvm_definition.specs.declared.linked_method.LinkedMethod.{LinkedMethod}
use Rattle.jvm_definition.specs.declared.instruction.Instruction.{Instruction}
use Rattle.jvm_definition.specs.declared.instruction.Instruction.TheVariants as instructions
use Rattle.jvm_definition.specs.Values as values
use Rattle.jvm_definition.specs.declared.value.Value.{Value}
use Rattle.jvm_definition.specs.declared.value.Value.TheVariants.{Int as int, Long as long, Null as null, Array as array, Text as text}
use Rattle.jvm_definition.specs.Values.{ints, pages, Heap, conforms}
use Rattle.jvm_definition.specs.HostMemory.{HostMemory}
use Rattle.jvm_definition.specs.Program.{Program, linked_line_at, instruction_targets}
use Rattle.jvm_definition.specs.Effect as effects
use Rattle.jvm_definition.specs.Effect.{Workspace, InstructionEffect, goes_on, jumps, enters, gives, asks_host, faults, traps, wrong, frames_trap, instruction_effect, popping, as_int, as_long, popping_int, popping_ints, popping_long, popping_longs, as_array, as_ints, as_pages, as_element, as_text, as_nullness, as_table, arguments, character, pushes_length}
use Rattle.jvm_definition.specs.Step.{JvmState, Frame, frame_placed, jvm_turn, turn_of, jvm_turn_by, jumped, entered_frame, returned_to, host_question, after_host, executed_line, workspace_of}
use Rattle.emit_paths_laws.specs.Classes.{weighed, line_of, puts}
use Rattle.emit_paths_laws.specs.Classes as counts
use Rattle.emit_paths_laws.specs.Paths.{Path}
use Rattle.emit_paths_laws.specs.Fields.{IsLeft}

module _ (f : ℕ) (fields : ℕ → Value) where
  -- ---- what an instruction does to the field

  abbrev Same : Workspace → Type 0
  Same w = w.fields f ≡ fields f

  abbrev Leaves : InstructionEffect → Type 0
  Leaves (goes_on w) = Same w
  Leaves (jumps k w) = Same w
  Leaves (enters m given w) = Same w
  Leaves (gives v w) = Same w
  Leaves (asks_host call readable writable w) = Same w
  Leaves (faults fault) = ⊤
  Leaves (traps k) = ⊤
  Leaves wrong = ⊤

  either : (b : Bool) (first second : InstructionEffect) → Leaves first → Leaves second → Leaves (if b then first else second)
  either true first second h k = h
  either false first second h k = k

  pops : (operands : List Value) (on : Value → List Value → InstructionEffect) → ((v : Value) (rest : List Value) → Leaves (on v rest)) → Leaves (popping operands on)
  pops [] on leaves_on = tt
  pops (v ∷ rest) on leaves_on = leaves_on v rest

  int-taken : (v : Value) (on : ℕ → InstructionEffect) → ((n : ℕ) → Leaves (on n)) → Leaves (as_int v on)
  int-taken (int n) on leaves_on = leaves_on n
  int-taken _ on leaves_on = tt

  long-taken : (v : Value) (on : ℕ → InstructionEffect) → ((n : ℕ) → Leaves (on n)) → Leaves (as_long v on)
  long-taken (long n) on leaves_on = leaves_on n
  long-taken _ on leaves_on = tt

  pops-int : (operands : List Value) (on : ℕ → List Value → InstructionEffect) → ((n : ℕ) (rest : List Value) → Leaves (on n rest)) → Leaves (popping_int operands on)
  pops-int operands on leaves_on =
      pops operands (λ v rest. as_int v (λ n. on n rest)) (λ v rest. int-taken v (λ n. on n rest) (λ n. leaves_on n rest))

  pops-long : (operands : List Value) (on : ℕ → List Value → InstructionEffect) → ((n : ℕ) (rest : List Value) → Leaves (on n rest)) → Leaves (popping_long operands on)
  pops-long operands on leaves_on =
      pops operands (λ v rest. as_long v (λ n. on n rest)) (λ v rest. long-taken v (λ n. on n rest) (λ n. leaves_on n rest))

  pops-ints : (operands : List Value) (on : ℕ → ℕ → List Value → InstructionEffect) → ((a b : ℕ) (rest : List Value) → Leaves (on a b rest)) → Leaves (popping_ints operands on)
  pops-ints operands on leaves_on =
      pops-int operands (λ b rest. popping_int rest (λ a others. on a b others))
      (λ b rest. pops-int rest (λ a others. on a b others) (λ a others. leaves_on a b others))

  pops-longs : (operands : List Value) (on : ℕ → ℕ → List Value → InstructionEffect) → ((a b : ℕ) (rest : List Value) → Leaves (on a b rest)) → Leaves (popping_longs operands on)
  pops-longs operands on leaves_on =
      pops-long operands (λ b rest. popping_long rest (λ a others. on a b others))
      (λ b rest. pops-long rest (λ a others. on a b others) (λ a others. leaves_on a b others))

  array-taken : (heap : Heap) (v : Value) (none : InstructionEffect) (on : ℕ → Option values.Array → InstructionEffect) → Leaves none → ((p : ℕ) (a : Option values.Array) → Leaves (on p a)) → Leaves (as_array heap v none on)
  array-taken heap null none on leaves_none leaves_on = leaves_none
  array-taken heap (array p) none on leaves_none leaves_on = leaves_on p (heap.array_at p)
  array-taken heap _ none on leaves_none leaves_on = tt

  ints-taken : (a : Option values.Array) (on : ℕ → (ℕ → ℕ) → InstructionEffect) → ((size : ℕ) (words : ℕ → ℕ) → Leaves (on size words)) → Leaves (as_ints a on)
  ints-taken (Some (ints size words)) on leaves_on = leaves_on size words
  ints-taken _ on leaves_on = tt

  pages-taken : (a : Option values.Array) (on : ℕ → (ℕ → Option ℕ) → InstructionEffect) → ((size : ℕ) (places : ℕ → Option ℕ) → Leaves (on size places)) → Leaves (as_pages a on)
  pages-taken (Some (pages size places)) on leaves_on = leaves_on size places
  pages-taken _ on leaves_on = tt

  element-taken : (heap : Heap) (v : Value) (on : Option ℕ → InstructionEffect) → ((p : Option ℕ) → Leaves (on p)) → Leaves (as_element heap v on)
  element-taken heap null on leaves_on = leaves_on None
  element-taken heap (array p) on leaves_on = either (values.is_ints (heap.array_at p)) (on (Some p)) wrong (leaves_on (Some p)) tt
  element-taken heap _ on leaves_on = tt

  text-taken : (v : Value) (on : ℕ → ℕ → InstructionEffect) → ((class slot : ℕ) → Leaves (on class slot)) → Leaves (as_text v on)
  text-taken null on leaves_on = tt
  text-taken (text class slot) on leaves_on = leaves_on class slot
  text-taken _ on leaves_on = tt

  nullness-taken : (v : Value) (on : Bool → InstructionEffect) → ((b : Bool) → Leaves (on b)) → Leaves (as_nullness v on)
  nullness-taken null on leaves_on = leaves_on true
  nullness-taken (array p) on leaves_on = leaves_on false
  nullness-taken (text class slot) on leaves_on = leaves_on false
  nullness-taken _ on leaves_on = tt

  table-taken : (heap : Heap) (v : Value) (on : Option ℕ → InstructionEffect) → ((p : Option ℕ) → Leaves (on p)) → Leaves (as_table heap v on)
  table-taken heap null on leaves_on = leaves_on None
  table-taken heap (array p) on leaves_on = either (values.is_pages (heap.array_at p)) (on (Some p)) wrong (leaves_on (Some p)) tt
  table-taken heap _ on leaves_on = tt

  arguments-taken : (heap : Heap) (kinds : List Kind) (operands taken : List Value) (on : List Value → List Value → InstructionEffect) → ((given rest : List Value) → Leaves (on given rest)) → Leaves (arguments heap kinds operands taken on)
  arguments-taken heap [] operands taken on leaves_on = leaves_on taken operands
  arguments-taken heap (k ∷ kinds) [] taken on leaves_on = tt
  arguments-taken heap (k ∷ kinds) (v ∷ operands) taken on leaves_on =
      either (conforms heap k v) (arguments heap kinds operands (v ∷ taken) on) wrong (arguments-taken heap kinds operands (v ∷ taken) on leaves_on) tt

  module _ (w : Workspace) (same : Same w) where
    within-leaves : (i size : ℕ) (e : InstructionEffect) → Leaves e → Leaves (effects.within i size e)
    within-leaves i size e leaves_e = either (nat_lt i size) e (traps effects.index_trap) leaves_e tt

    accesses-leave : (name : _) → Leaves (effects.accesses name w)
    accesses-leave Iaload =
        pops-int w.operands _ (λ i rest. pops rest _ (λ v others. array-taken w.heap v (traps effects.null_trap) _ tt (λ p a. ints-taken a _ (λ size words. within-leaves i size _ same))))
    accesses-leave Aaload =
        pops-int w.operands _ (λ i rest. pops rest _ (λ v others. array-taken w.heap v (traps effects.null_trap) _ tt (λ p a. pages-taken a _ (λ size places. within-leaves i size _ same))))
    accesses-leave Iastore =
        pops-ints w.operands _ (λ i n rest. pops rest _ (λ v others. array-taken w.heap v (traps effects.null_trap) _ tt (λ p a. ints-taken a _ (λ size words. within-leaves i size _ same))))
    accesses-leave Aastore =
        pops w.operands _ (λ u rest. element-taken w.heap u _ (λ element. pops-int rest _ (λ i below. pops below _ (λ v others. array-taken w.heap v (traps effects.null_trap) _ tt (λ p a. pages-taken a _ (λ size places. within-leaves i size _ same))))))

    chooses-leaves : (taken : Bool) (rest : List Value) → Leaves (effects.chooses taken w rest)
    chooses-leaves taken rest = either taken (jumps 0 (effects.with_operands w rest)) (goes_on (effects.with_operands w rest)) same same

    tests-leave : (test : _) → Leaves (effects.tests test w)
    tests-leave test = pops-int w.operands _ (λ n rest. chooses-leaves _ rest)

    compares-leave : (test : _) → Leaves (effects.compares test w)
    compares-leave test = pops-ints w.operands _ (λ a b rest. chooses-leaves _ rest)

    null-tests-leave : (test : Bool → Bool) → Leaves (effects.tests_null test w)
    null-tests-leave test = pops w.operands _ (λ v rest. nullness-taken v _ (λ is_null. chooses-leaves (test is_null) rest))

    branches-leave : (name : _) → Leaves (effects.branches name w)
    branches-leave branch.Ifeq = tests-leave (λ n. effects.same_integer n (pos 0))
    branches-leave branch.Ifne = tests-leave (λ n. not (effects.same_integer n (pos 0)))
    branches-leave branch.Iflt = tests-leave (λ n. int_lt n (pos 0))
    branches-leave branch.Ifge = tests-leave (λ n. not (int_lt n (pos 0)))
    branches-leave branch.Ifgt = tests-leave (λ n. int_lt (pos 0) n)
    branches-leave branch.Ifle = tests-leave (λ n. not (int_lt (pos 0) n))
    branches-leave branch.IfIcmpeq = compares-leave effects.same_integer
    branches-leave branch.IfIcmpne = compares-leave (λ a b. not (effects.same_integer a b))
    branches-leave branch.IfIcmplt = compares-leave int_lt
    branches-leave branch.IfIcmpge = compares-leave (λ a b. not (int_lt a b))
    branches-leave branch.IfIcmpgt = compares-leave (λ a b. int_lt b a)
    branches-leave branch.IfIcmple = compares-leave (λ a b. not (int_lt b a))
    branches-leave branch.Goto = same
    branches-leave branch.Ifnull = null-tests-leave (λ is_null. is_null)
    branches-leave branch.Ifnonnull = null-tests-leave not

    moved-leaves : (operands : Option (List Value)) → Leaves (effects.moved w operands)
    moved-leaves None = tt
    moved-leaves (Some operands) = same

    converts-leave : (name : _) → Leaves (effects.converts name w)
    converts-leave I2l = pops-int w.operands _ (λ n rest. same)
    converts-leave L2i = pops-long w.operands _ (λ n rest. same)
    converts-leave I2b = pops-int w.operands _ (λ n rest. same)
    converts-leave I2c = pops-int w.operands _ (λ n rest. same)
    converts-leave I2s = pops-int w.operands _ (λ n rest. same)

    divides-leave : (b : ℕ) (v : Value) (rest : List Value) → Leaves (effects.divides b v rest w)
    divides-leave b v rest = either (b == 0) (traps effects.divisor_trap) (effects.pushes w v rest) tt same

    characters-leave : (rest : List Value) (c : Option ℕ) → Leaves (character w rest c)
    characters-leave rest None = tt
    characters-leave rest (Some c) = same

    lengths-leave : (rest : List Value) (a : Option values.Array) → Leaves (pushes_length w rest a)
    lengths-leave rest None = tt
    lengths-leave rest (Some a) = same

    calls-leave : (m : ℕ) (method : Option LinkedMethod) → Leaves (effects.calls m method w)
    calls-leave m None = tt
    calls-leave m (Some method) =
        arguments-taken w.heap (effects.last_first method.parameters []) w.operands [] (λ given rest. enters m given (effects.with_operands w rest)) (λ given rest. same)

    host-calls-leave : Leaves (effects.calls_host w)
    host-calls-leave =
        pops-ints w.operands _ (λ a2 a3 rest3. pops-ints rest3 _ (λ a0 a1 rest2. pops-int rest2 _ (λ number rest1. pops rest1 _ (λ writable rest0. table-taken w.heap writable _
        (λ second. pops rest0 _ (λ readable rest. table-taken w.heap readable _ (λ first. same)))))))

    host-faults-leave : Leaves (effects.faults_host w)
    host-faults-leave = pops-ints w.operands _ (λ pc value rest. pops-int rest _ (λ kind others. tt))

    returns-leave : (name : _) → Leaves (effects.returned name w)
    returns-leave returns.Ireturn = pops-int w.operands _ (λ n rest. same)
    returns-leave returns.Return = same

    allocates-leave : (words : ℕ) (kind : ArrayKind) (size : ℕ) (rest : List Value) → Leaves (effects.allocates words kind size rest w)
    allocates-leave words kind size rest =
        let made = goes_on (effects.workspace_with_heap w (array w.heap.used ∷ rest) (values.with_new w.heap (values.new_array kind size))) in
        let full = nat_lt words (w.heap.used + size + 2) in
        either (nat_le (2 ^ 31) size) (traps effects.size_trap) (if full then traps effects.room_trap else made) tt
        (either full (traps effects.room_trap) made tt same)

    -- a write of another field
    put-leaves : (g : ℕ) (kind : Kind) → puts f (instructions.Put g kind) ≡ 0 → Leaves (effects.puts g kind w)
    put-leaves g kind none =
        pops w.operands _ (λ v rest. either (conforms w.heap kind v) (goes_on (effects.with_field w g v rest)) wrong (other (f == g) v refl) tt)
      where
        other : (b : Bool) (v : Value) → (f == g) ≡ b → (if f == g then v else w.fields f) ≡ fields f
        other true v is =
            let e = eqb-true f g is in
            let back : (g == f) ≡ true = eq-eqb g f (sym e) in
            let one : 1 ≡ 0 = sym (ap (λ b. if b then 1 else 0) back) ∙ none in
            absurd (omega (arith, one))
        other false v is = ap (λ b. if b then v else w.fields f) is ∙ same

    pub effect-leaves : (program : Program) (words : ℕ) (i : Instruction) → puts f i ≡ 0 → Leaves (instruction_effect program words i w)
    effect-leaves program words instructions.Nop none = same
    effect-leaves program words (instructions.Push constant) none = same
    effect-leaves program words (instructions.Load kind i) none =
        either (effects.moves_value kind (w.locals i)) (effects.pushes w (w.locals i) w.operands) wrong same tt
    effect-leaves program words (instructions.Store kind i) none =
        pops w.operands _ (λ v rest. either (effects.moves_value kind v) (goes_on (effects.with_local w i v rest)) wrong same tt)
    effect-leaves program words (instructions.Array name) none = accesses-leave name
    effect-leaves program words (instructions.Stack name) none = moved-leaves _
    effect-leaves program words (instructions.IntArithmetic name) none = pops-ints w.operands _ (λ a b rest. same)
    effect-leaves program words (instructions.IntDivision name) none = pops-ints w.operands _ (λ a b rest. divides-leave b _ rest)
    effect-leaves program words (instructions.IntShift name) none = pops-ints w.operands _ (λ a n rest. same)
    effect-leaves program words (instructions.LongArithmetic name) none = pops-longs w.operands _ (λ a b rest. same)
    effect-leaves program words (instructions.LongDivision name) none = pops-longs w.operands _ (λ a b rest. divides-leave b _ rest)
    effect-leaves program words (instructions.LongShift name) none = pops-int w.operands _ (λ n rest. pops-long rest _ (λ a others. same))
    effect-leaves program words (instructions.Increment i by) none = int-taken (w.locals i) _ (λ n. same)
    effect-leaves program words (instructions.Convert name) none = converts-leave name
    effect-leaves program words instructions.LongCompare none = pops-longs w.operands _ (λ a b rest. same)
    effect-leaves program words (instructions.Branch name target) none = branches-leave name
    effect-leaves program words (instructions.TableSwitch s) none = pops-int w.operands _ (λ n rest. same)
    effect-leaves program words (instructions.LookupSwitch s) none = pops-int w.operands _ (λ n rest. same)
    effect-leaves program words (instructions.Get g kind) none = same
    effect-leaves program words (instructions.Put g kind) none = put-leaves g kind none
    effect-leaves program words instructions.Length none = pops w.operands _ (λ v rest. text-taken v _ (λ class slot. same))
    effect-leaves program words instructions.CharAt none =
        pops-int w.operands _ (λ i rest. pops rest _ (λ v others. text-taken v _ (λ class slot. characters-leave others _)))
    effect-leaves program words (instructions.Call m) none = calls-leave m (program.method m)
    effect-leaves program words instructions.CallHost none = host-calls-leave
    effect-leaves program words instructions.FaultHost none = host-faults-leave
    effect-leaves program words (instructions.Return name) none = returns-leave name
    effect-leaves program words (instructions.NewArray kind) none = pops-int w.operands _ (λ size rest. allocates-leave words kind size rest)
    effect-leaves program words instructions.ArrayLength none =
        pops w.operands _ (λ v rest. array-taken w.heap v (traps effects.null_trap) _ tt (λ p a. lengths-leave rest a))
    effect-leaves program words instructions.Wrong none = tt

-- ---- what a turn does

-- the field is left where a turn leads, by each answer where it asks
abbrev pub TurnLeaves : ℕ → JvmState → Turn JvmState → Type 0
TurnLeaves f x (moves y) = IsLeft f x y
TurnLeaves f x (asks question next) = (a : Answer) → IsLeft f x (next a)
TurnLeaves f x _ = ⊤

-- by each answer where it asks, whatever is executed
abbrev pub AnswersLeave : ℕ → JvmState → Turn JvmState → Type 0
AnswersLeave f x (asks question next) = (a : Answer) → IsLeft f x (next a)
AnswersLeave f x _ = ⊤

module _ (f : ℕ) (x : JvmState) where
  turn-either : (b : Bool) (first second : Turn JvmState) → TurnLeaves f x first → TurnLeaves f x second → TurnLeaves f x (if b then first else second)
  turn-either true first second h k = h
  turn-either false first second h k = k

  jumped-leaves : (m : ℕ) (target : Option ℕ) (w : Workspace) (others : List Frame) → w.fields f ≡ x.fields f → TurnLeaves f x (jumped m target w others)
  jumped-leaves m None w others same = tt
  jumped-leaves m (Some target) w others same = same

  returned-leaves : (others : List Frame) (v : Option Value) (w : Workspace) → w.fields f ≡ x.fields f → TurnLeaves f x (returned_to others v w)
  returned-leaves [] v w same = tt
  returned-leaves (frame ∷ others) v w same = same

  by-effect : (e : InstructionEffect) (m : ℕ) (line : LinkedLine) (others : List Frame) → Leaves f x.fields e → TurnLeaves f x (jvm_turn_by e m line others)
  by-effect (goes_on w) m line others same = same
  by-effect (jumps k w) m line others same = jumped-leaves m (slice_get (instruction_targets line.instruction) k) w others same
  by-effect (enters callee given w) m line others same =
      let s = frame_placed m line.next w others in
      turn-either (nat_lt (length s.frames) 64) (moves (record { fields = s.fields; heap = s.heap; frames = entered_frame callee given ∷ s.frames }))
      (ends (trap frames_trap)) same tt
  by-effect (gives v w) m line others same = returned-leaves others v w same
  by-effect (asks_host call readable writable w) m line others same =
      let memory : HostMemory = record { heap = w.heap; readable = readable; writable = writable } in
      turn-either (call.number == 1) (leaves (host_question call memory) (exit (signed_of call.a0)))
      (asks (host_question call memory) (λ answer. frame_placed m line.next (after_host call memory w answer) others)) tt (λ answer. same)
  by-effect (faults fault) m line others same = tt
  by-effect (traps k) m line others same = tt
  by-effect wrong m line others same = tt

  at-line : (program : Program) (words : ℕ) (frame : Frame) (others : List Frame) (line : Option LinkedLine) → weighed (puts f) line ≡ 0 → TurnLeaves f x (executed_line program words x frame others line)
  at-line program words frame others None none = tt
  at-line program words frame others (Some line) none =
      by-effect (instruction_effect program words line.instruction (workspace_of x frame)) frame.method line others
      (effect-leaves f x.fields (workspace_of x frame) refl program words line.instruction none)

  by-frames : (program : Program) (words : ℕ) (frames : List Frame) → weighed (puts f) (line_of program frames) ≡ 0 → TurnLeaves f x (turn_of program words x frames)
  by-frames program words [] none = tt
  by-frames program words (frame ∷ others) none = at-line program words frame others (linked_line_at program frame.method frame.at) none

  pub turn-leaves : (program : Program) (words : ℕ) → counts.executed program (puts f) (stood x) ≡ 0 → TurnLeaves f x (jvm_turn program words x)
  turn-leaves program words none = by-frames program words x.frames none

  -- ---- a call of the system

  answers-leave : (t : Turn JvmState) → TurnLeaves f x t → AnswersLeave f x t
  answers-leave (moves y) left = tt
  answers-leave (ends e) left = tt
  answers-leave (leaves q e) left = tt
  answers-leave (asks q next) left = left

  -- a write is none
  written-answers : (b : Bool) (w : Workspace) (m : ℕ) (line : LinkedLine) (others : List Frame)
      → AnswersLeave f x (jvm_turn_by (if b then goes_on w else wrong) m line others)
  written-answers true w m line others = tt
  written-answers false w m line others = tt

  put-answers : (g : ℕ) (kind : Kind) (w : Workspace) (operands : List Value) (m : ℕ) (line : LinkedLine) (others : List Frame)
      → AnswersLeave f x (jvm_turn_by (popping operands (λ v rest. if conforms w.heap kind v then goes_on (effects.with_field w g v rest) else wrong)) m line others)
  put-answers g kind w [] m line others = tt
  put-answers g kind w (v ∷ rest) m line others = written-answers (conforms w.heap kind v) (effects.with_field w g v rest) m line others

  module _ (program : Program) (words : ℕ) (frame : Frame) (others : List Frame) (line : LinkedLine) where
    abbrev own : Workspace
    own = workspace_of x frame

    quiet-answers : (i : Instruction) → puts f i ≡ 0 → AnswersLeave f x (jvm_turn_by (instruction_effect program words i own) frame.method line others)
    quiet-answers i none =
        let e = instruction_effect program words i own in
        answers-leave (jvm_turn_by e frame.method line others) (by-effect e frame.method line others (effect-leaves f x.fields own refl program words i none))

    instruction-answers : (i : Instruction) → AnswersLeave f x (jvm_turn_by (instruction_effect program words i own) frame.method line others)
    instruction-answers (instructions.Put g kind) = put-answers g kind own own.operands frame.method line others
    instruction-answers i = quiet-answers i refl

  line-answers : (program : Program) (words : ℕ) (frame : Frame) (others : List Frame) (line : Option LinkedLine)
      → AnswersLeave f x (executed_line program words x frame others line)
  line-answers program words frame others None = tt
  line-answers program words frame others (Some line) = instruction-answers program words frame others line line.instruction

  frames-answer : (program : Program) (words : ℕ) (frames : List Frame) → AnswersLeave f x (turn_of program words x frames)
  frames-answer program words [] = tt
  frames-answer program words (frame ∷ others) = line-answers program words frame others (linked_line_at program frame.method frame.at)

  pub turn-answers : (program : Program) (words : ℕ) (q : Question) (next : Answer → JvmState) (a : Answer) → jvm_turn program words x ≡ asks q next
      → IsLeft f x (next a)
  turn-answers program words q next a is = subst (AnswersLeave f x) is (frames-answer program words x.frames) a

-- ---- what turns do that only move

module _ (program : Program) (words f : ℕ) where
  abbrev step : JvmState → Turn JvmState
  step = jvm_turn program words

  abbrev counted : List (Step JvmState) → ℕ
  counted trail = sum_by (counts.executed program (puts f)) trail

  by-turn : (n : ℕ) (x y : JvmState) (t : Turn JvmState) → (counts.executed program (puts f) (stood x) ≡ 0 → TurnLeaves f x t) → ((u : JvmState) → advanced step n u ≡ Some y → counted (moved step n u) ≡ 0 → IsLeft f u y) → if_moves t None (λ u. advanced step n u) ≡ Some y → counted (if_moves t [] (λ u. went x u ∷ moved step n u)) ≡ 0 → IsLeft f x y
  by-turn n x y (moves u) one rest is none =
      let parts = sum_by-cons (counts.executed program (puts f)) (went x u) (moved step n u) in
      rest u is (omega (arith, parts, none)) ∙ one (omega (arith, parts, none))
  by-turn n x y _ one rest is none = absurd (none-some y is)

  pub trail-leaves : (n : ℕ) (x y : JvmState) → advanced step n x ≡ Some y → counted (moved step n x) ≡ 0 → IsLeft f x y
  trail-leaves zero x y is none = ap (λ (s : JvmState). s.fields f) (sym (same_Some x y is))
  trail-leaves (suc n) x y is none = by-turn n x y (step x) (turn-leaves f x program words) (λ u there few. trail-leaves n u y there few) is none

  pub path-leaves : (m low high n : ℕ) (total : (Instruction → ℕ) → ℕ) (x y : JvmState) → Path program words m low high n total x y → total (puts f) ≡ 0 → IsLeft f x y
  path-leaves m low high n total x y path none =
      let few = path.counts (puts f) (λ name t u. refl) in
      trail-leaves n x y path.comes (omega (arith, few, none))
