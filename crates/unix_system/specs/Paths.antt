-- Paths of the code, seen as texts.
use Rattle.std.specs.Prelude.{◌≤◌, ⊤, length}
use Rattle.run_definition.specs.Question.{AskedText, unreadable, too_long, bytes}
use Rattle.unix_system.specs.declared.path.Path.{Path}
use Rattle.unix_system.specs.declared.path.Path.TheVariants.{Unreadable, TooLong, Is}

abbrev pub text_of : Path → AskedText
text_of Unreadable = unreadable
text_of TooLong = too_long
text_of (Is bs) = bytes bs

-- a path has at most 255 bytes
abbrev pub IsShort : Path → Type 0
IsShort Unreadable = ⊤
IsShort TooLong = ⊤
IsShort (Is bs) = length bs ≤ 255
