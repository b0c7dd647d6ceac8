-- A state with one more frame below all others.
use Rattle.std.specs.Prelude.{◌≡◌, [], ◌∷◌, ◌++◌, None}
use Rattle.jvm_definition.specs.Program.{Program, linked_line_at}
use Rattle.jvm_definition.specs.Step.{Frame, JvmState}

abbrev pub above : Frame → JvmState → JvmState
above below s = record {
  fields = s.fields;
  heap = s.heap;
  frames = s.frames ++ below ∷ [];
}

-- it stands where no instruction is, and cannot go on
abbrev pub StandsNowhere : Program → Frame → Type 0
StandsNowhere program below = linked_line_at program below.method below.at ≡ None
