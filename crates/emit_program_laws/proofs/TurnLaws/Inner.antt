-- What single turns of the classes count: a turn that calls the system, or ends the run in a fault, counts nothing, and none reads a word where
-- no operands are.
use Rattle.std.proofs.Common.{◌≡◌, ℕ, Bool, true, false, if◌then◌else◌, nat_lt, List, [], ◌∷◌, length, slice_get, Option, Some, None, refl, ap, sym, ◌∙◌}
use Rattle.std.proofs.lemmas.Bool.{true≢false}
use Rattle.run_definition.specs.Turn.{Turn, moves, ends, leaves, asks, End, «fault», trap}
use Rattle.jvm_definition.specs.declared.array_name.ArrayName.TheVariants.{Iaload, Aaload, Iastore, Aastore}
use Rattle.jvm_definition.specs.declared.kind.Kind.{Kind}
use Rattle.jvm_definition.specs.declared.linked_line.LinkedLine.{LinkedLine}
use Rattle.jvm_definition.specs.declared.linked_method.LinkedMethod.{LinkedMethod}
use Rattle.jvm_definition.specs.declared.value.Value.{Value}
use Rattle.jvm_definition.specs.declared.value.Value.TheVariants.{Unset as unset, Int as int, Long as long, Null as null, Array as array, Text as text}
use Rattle.jvm_definition.specs.declared.instruction.Instruction.{Instruction}
use Rattle.jvm_definition.specs.declared.instruction.Instruction.TheVariants.{Array, TableSwitch, LookupSwitch, CharAt, Call}
use Rattle.jvm_definition.specs.Values as values
use Rattle.jvm_definition.specs.Values.{ints, pages, Heap, conforms}
use Rattle.jvm_definition.specs.Program.{Program, linked_line_at, instruction_targets}
use Rattle.jvm_definition.specs.Effect.{Workspace, InstructionEffect, goes_on, jumps, enters, gives, asks_host, faults, traps, wrong, instruction_effect, popping, popping_int, as_int, as_array, as_ints, as_text, within, pushes, character, arguments, calls, last_first, with_operands, null_trap, index_trap}
use Rattle.jvm_definition.specs.Step as machine
use Rattle.jvm_definition.specs.Step.{JvmState, Frame, frame_placed, jvm_turn, jvm_turn_by, turn_of, jumped, returned_to, workspace_of}
use Rattle.emit_paths_laws.specs.Classes.{reads, line_of, weighed, executed}
use Rattle.trampoline_laws.specs.Classes.{CodeClass}
use Rattle.emit_program_laws.specs.Counted.{Counted, Reads, Chars, Switches, Entries, weight}

-- ---- effects

-- the system is called, or the run ends in a fault
abbrev pub is_outer : InstructionEffect → Bool
is_outer (asks_host call readable writable w) = true
is_outer (faults f) = true
is_outer _ = false

pub if-inner : (b : Bool) (x y : InstructionEffect) → is_outer x ≡ false → is_outer y ≡ false → is_outer (if b then x else y) ≡ false
if-inner true x y first second = first
if-inner false x y first second = second

popping-inner : (f : Value → List Value → InstructionEffect) → ((v : Value) (rest : List Value) → is_outer (f v rest) ≡ false) → (operands : List Value) → is_outer (popping operands f) ≡ false
popping-inner f inner [] = refl
popping-inner f inner (v ∷ rest) = inner v rest

as-int-inner : (f : ℕ → InstructionEffect) → ((n : ℕ) → is_outer (f n) ≡ false) → (v : Value) → is_outer (as_int v f) ≡ false
as-int-inner f inner unset = refl
as-int-inner f inner (int n) = inner n
as-int-inner f inner (long n) = refl
as-int-inner f inner null = refl
as-int-inner f inner (array p) = refl
as-int-inner f inner (text class slot) = refl

popping-int-inner : (f : ℕ → List Value → InstructionEffect) → ((n : ℕ) (rest : List Value) → is_outer (f n rest) ≡ false) → (operands : List Value) → is_outer (popping_int operands f) ≡ false
popping-int-inner f inner operands =
    popping-inner (λ v rest. as_int v (λ n. f n rest)) (λ v rest. as-int-inner (λ n. f n rest) (λ n. inner n rest) v) operands

as-array-inner : (heap : Heap) (on_null : InstructionEffect) (f : ℕ → Option values.Array → InstructionEffect) → is_outer on_null ≡ false → ((p : ℕ) (a : Option values.Array) → is_outer (f p a) ≡ false) → (v : Value) → is_outer (as_array heap v on_null f) ≡ false
as-array-inner heap on_null f none inner unset = refl
as-array-inner heap on_null f none inner (int n) = refl
as-array-inner heap on_null f none inner (long n) = refl
as-array-inner heap on_null f none inner null = none
as-array-inner heap on_null f none inner (array p) = inner p (heap.array_at p)
as-array-inner heap on_null f none inner (text class slot) = refl

as-ints-inner : (f : ℕ → (ℕ → ℕ) → InstructionEffect) → ((size : ℕ) (words : ℕ → ℕ) → is_outer (f size words) ≡ false) → (a : Option values.Array) → is_outer (as_ints a f) ≡ false
as-ints-inner f inner None = refl
as-ints-inner f inner (Some (ints size words)) = inner size words
as-ints-inner f inner (Some (pages size places)) = refl

as-text-inner : (f : ℕ → ℕ → InstructionEffect) → ((class slot : ℕ) → is_outer (f class slot) ≡ false) → (v : Value) → is_outer (as_text v f) ≡ false
as-text-inner f inner unset = refl
as-text-inner f inner (int n) = refl
as-text-inner f inner (long n) = refl
as-text-inner f inner null = refl
as-text-inner f inner (array p) = refl
as-text-inner f inner (text class slot) = inner class slot

character-inner : (w : Workspace) (rest : List Value) (c : Option ℕ) → is_outer (character w rest c) ≡ false
character-inner w rest None = refl
character-inner w rest (Some c) = refl

arguments-inner : (heap : Heap) (f : List Value → List Value → InstructionEffect) → ((given rest : List Value) → is_outer (f given rest) ≡ false) → (kinds : List Kind) (operands taken : List Value) → is_outer (arguments heap kinds operands taken f) ≡ false
arguments-inner heap f inner [] operands taken = inner taken operands
arguments-inner heap f inner (k ∷ kinds) [] taken = refl
arguments-inner heap f inner (k ∷ kinds) (v ∷ operands) taken =
    if-inner (conforms heap k v) (arguments heap kinds operands (v ∷ taken) f) wrong (arguments-inner heap f inner kinds operands (v ∷ taken)) refl

calls-inner : (m : ℕ) (w : Workspace) (method : Option LinkedMethod) → is_outer (calls m method w) ≡ false
calls-inner m w None = refl
calls-inner m w (Some method) =
    arguments-inner w.heap (λ given rest. enters m given (with_operands w rest)) (λ given rest. refl) (last_first method.parameters []) w.operands []

-- ---- what is counted is no such effect

abbrev reading : Workspace → ℕ → List Value → InstructionEffect
reading w i rest = popping rest (λ v others. as_array w.heap v (traps null_trap) (λ p a. as_ints a (λ size words. within i size (pushes w (int (words i)) others))))

reading-inner : (w : Workspace) (i : ℕ) (rest : List Value) → is_outer (reading w i rest) ≡ false
reading-inner w i rest =
    popping-inner (λ v others. as_array w.heap v (traps null_trap) (λ p a. as_ints a (λ size words. within i size (pushes w (int (words i)) others))))
    (λ v others. as-array-inner w.heap (traps null_trap) (λ p a. as_ints a (λ size words. within i size (pushes w (int (words i)) others))) refl
    (λ p a. as-ints-inner (λ size words. within i size (pushes w (int (words i)) others))
    (λ size words. if-inner (nat_lt i size) (pushes w (int (words i)) others) (traps index_trap) refl refl) a) v) rest

module _ (program : Program) (words : ℕ) (w : Workspace) where
  load-inner : is_outer (instruction_effect program words (Array Iaload) w) ≡ false
  load-inner = popping-int-inner (reading w) (reading-inner w) w.operands

  char-inner : is_outer (instruction_effect program words CharAt w) ≡ false
  char-inner =
      popping-int-inner (λ i rest. popping rest (λ v others. as_text v (λ class slot. character w others (slice_get (program.characters class slot) i))))
      (λ i rest. popping-inner (λ v others. as_text v (λ class slot. character w others (slice_get (program.characters class slot) i)))
      (λ v others. as-text-inner (λ class slot. character w others (slice_get (program.characters class slot) i))
      (λ class slot. character-inner w others (slice_get (program.characters class slot) i)) v) rest) w.operands

  reads-none : (instruction : Instruction) → is_outer (instruction_effect program words instruction w) ≡ true → reads instruction ≡ 0
  reads-none (Array Iaload) outer = absurd (true≢false (sym outer ∙ load-inner))
  reads-none (Array Aaload) outer = refl
  reads-none (Array Iastore) outer = refl
  reads-none (Array Aastore) outer = refl
  reads-none _ outer = refl

  counts-none : (classes : List CodeClass) (i : Counted) (instruction : Instruction) → is_outer (instruction_effect program words instruction w) ≡ true → weight classes i instruction ≡ 0
  counts-none classes Reads instruction outer = reads-none instruction outer
  counts-none classes Chars CharAt outer = absurd (true≢false (sym outer ∙ char-inner))
  counts-none classes Chars _ outer = refl
  counts-none classes Switches (TableSwitch s) outer = absurd (true≢false (sym outer ∙ popping-int-inner _ (λ n rest. refl) w.operands))
  counts-none classes Switches (LookupSwitch s) outer = absurd (true≢false (sym outer ∙ popping-int-inner _ (λ n rest. refl) w.operands))
  counts-none classes Switches _ outer = refl
  counts-none classes Entries (Call m) outer = absurd (true≢false (sym outer ∙ calls-inner m w (program.method m)))
  counts-none classes Entries _ outer = refl

-- ---- turns

abbrev pub is_fault : End → Bool
is_fault («fault» f) = true
is_fault _ = false

-- a turn calls the system, or ends the run in a fault
abbrev pub is_outer_turn : {S : Type 0} → Turn S → Bool
is_outer_turn (moves t) = false
is_outer_turn (ends e) = is_fault e
is_outer_turn (leaves q e) = true
is_outer_turn (asks q next) = true

jumped-inner : (m : ℕ) (target : Option ℕ) (w : Workspace) (others : List Frame) → is_outer_turn (jumped m target w others) ≡ false
jumped-inner m None w others = refl
jumped-inner m (Some target) w others = refl

called-inner : (b : Bool) (y : JvmState) (k : ℕ) → is_outer_turn (if b then moves y else ends (trap k)) ≡ false
called-inner true y k = refl
called-inner false y k = refl

returned-inner : (others : List Frame) (v : Option Value) (w : Workspace) → is_outer_turn (returned_to others v w) ≡ false
returned-inner [] v w = refl
returned-inner (f ∷ others) v w = refl

pub by-outer : (e : InstructionEffect) (m : ℕ) (line : LinkedLine) (others : List Frame) → is_outer_turn (jvm_turn_by e m line others) ≡ true → is_outer e ≡ true
by-outer (goes_on w) m line others outer = absurd (true≢false (sym outer))
by-outer (jumps k w) m line others outer = absurd (true≢false (sym outer ∙ jumped-inner m (slice_get (instruction_targets line.instruction) k) w others))
by-outer (enters callee given w) m line others outer =
    absurd (true≢false (sym outer ∙ called-inner (nat_lt (length (frame_placed m line.next w others).frames) 64) _ _))
by-outer (gives v w) m line others outer = absurd (true≢false (sym outer ∙ returned-inner others v w))
by-outer (asks_host call readable writable w) m line others outer = refl
by-outer (faults f) m line others outer = refl
by-outer (traps k) m line others outer = absurd (true≢false (sym outer))
by-outer wrong m line others outer = absurd (true≢false (sym outer))

module _ (program : Program) (words : ℕ) (classes : List CodeClass) (i : Counted) (s : JvmState) where
  line-none : (f : Frame) (others : List Frame) (line : Option LinkedLine) → is_outer_turn (machine.executed_line program words s f others line) ≡ true → weighed (weight classes i) line ≡ 0
  line-none f others None outer = refl
  line-none f others (Some line) outer =
      counts-none program words (workspace_of s f) classes i line.instruction (by-outer (instruction_effect program words line.instruction (workspace_of s f)) f.method line others outer)

  frames-none : (frames : List Frame) → is_outer_turn (turn_of program words s frames) ≡ true → weighed (weight classes i) (line_of program frames) ≡ 0
  frames-none [] outer = refl
  frames-none (f ∷ others) outer = line-none f others (linked_line_at program f.method f.at) outer

  -- such a turn counts nothing
  pub outer-none : (to : Option JvmState) → is_outer_turn (jvm_turn program words s) ≡ true → executed program (weight classes i) (record { from = s; to = to }) ≡ 0
  outer-none to outer = frames-none s.frames outer

-- ---- the first turn of a unit

module _ (program : Program) (words m at : ℕ) (w : Workspace) (others : List Frame) (none : w.operands ≡ []) (u : JvmState) where
  abbrev own : Frame
  own = record { method = m; at = at; locals = w.locals; operands = w.operands }

  load-wrong : instruction_effect program words (Array Iaload) w ≡ wrong
  load-wrong = ap (λ operands. popping_int operands (reading w)) none

  moving-reads : (instruction : Instruction) (line : LinkedLine) → jvm_turn_by (instruction_effect program words instruction w) m line others ≡ moves u → reads instruction ≡ 0
  moving-reads (Array Iaload) line is =
      let stuck : ends (trap 0) ≡ moves u = sym (ap (λ e. jvm_turn_by e m line others) load-wrong) ∙ is in
      cc
  moving-reads (Array Aaload) line is = refl
  moving-reads (Array Iastore) line is = refl
  moving-reads (Array Aastore) line is = refl
  moving-reads _ line is = refl

  line-reads : (line : Option LinkedLine) → machine.executed_line program words (frame_placed m at w others) own others line ≡ moves u → weighed reads line ≡ 0
  line-reads None is = refl
  line-reads (Some line) is = moving-reads line.instruction line is

  -- a turn that moves reads no word where there are no operands
  pub first-reads : (to : Option JvmState) → jvm_turn program words (frame_placed m at w others) ≡ moves u → executed program reads (record { from = frame_placed m at w others; to = to }) ≡ 0
  first-reads to is = line-reads (linked_line_at program m at) is
