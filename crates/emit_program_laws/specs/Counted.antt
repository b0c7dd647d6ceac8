-- What is counted of a guest and of the classes that follow it, side by side.
use Rattle.std.specs.Prelude.{ℕ, Bool, if◌then◌else◌, List, [], ◌∷◌}
use Rattle.run_simulation_laws.specs.Trail.{Step}
use Rattle.run_simulation_laws.specs.Turns.{Pair, Tally}
use Rattle.mips_definition.specs.State as guest
use Rattle.mips_definition.specs.Step as guest_step
use Rattle.jvm_definition.specs.declared.instruction.Instruction.{Instruction}
use Rattle.jvm_definition.specs.Program.{Program}
use Rattle.jvm_definition.specs.Step.{JvmState, Frame, jvm_turn}
use Rattle.emit_paths_laws.specs.Classes.{reads, chars, switches, entries, executed}
use Rattle.emit_paths_laws.specs.Guest.{crosses, is_partial}
use Rattle.trampoline_laws.specs.Classes.{CodeClass, is_span, counted_spans}

-- reads of words, characters, switches, and entries of spans
pub data Counted : Type 0 where
  Reads : Counted
  Chars : Counted
  Switches : Counted
  Entries : Counted

abbrev pub one_if : Bool → ℕ
one_if b = if b then 1 else 0

-- what an instruction of the classes counts
abbrev pub weight : List CodeClass → Counted → Instruction → ℕ
weight classes Reads = reads
weight classes Chars = chars
weight classes Switches = switches
weight classes Entries = entries (is_span classes)

-- what a step of the guest pays for: a read where it reads a word, and an entry with its switch where it crosses
abbrev pub paid : List CodeClass → Counted → Step guest.State → ℕ
paid classes Reads step = one_if (is_partial step)
paid classes Chars step = 0
paid classes Switches step = one_if (crosses (counted_spans classes) step)
paid classes Entries step = one_if (crosses (counted_spans classes) step)

-- where the first frame's method is no span's, an entry is still to come that was paid for
abbrev pub owed : List CodeClass → List Frame → ℕ
owed classes [] = 1
owed classes (f ∷ others) = if is_span classes f.method then 0 else 1

abbrev pub credit : List CodeClass → Counted → JvmState → ℕ
credit classes Reads x = 0
credit classes Chars x = 0
credit classes Switches x = owed classes x.frames
credit classes Entries x = owed classes x.frames

abbrev pub tally : Program → List CodeClass → Counted → Tally guest.State JvmState
tally program classes i =
    record {
      guest = paid classes i;
      classes = executed program (weight classes i);
      credit = credit classes i;
    }

-- the guest machine and a program over a region of so many words, with the marked states of the guest
abbrev pub pair : Program → ℕ → List CodeClass → (guest.State → Bool)
    → Pair guest.State JvmState Counted
pair program words classes marked =
    record {
      guest = guest_step.turn;
      classes = jvm_turn program words;
      tally = tally program classes;
      marked = marked;
    }
