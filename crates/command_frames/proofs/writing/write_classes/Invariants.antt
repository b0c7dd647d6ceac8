use Rattle.std.proofs.Common.{map, take}
use Rattle.command_frames.specs.Frames.{AreWritten, deed_of}
use Rattle.command_frames.proofs.writing.write_classes.Given as goal

abbrev pub invariant-loop-number : goal.invariant-loop-number
invariant-loop-number l = AreWritten (take l.number l.names) (take l.number l.framed) (map deed_of l.files.items)
