-- What words a command has: its name, its form, and whether it may have arguments after `--`.
use Rattle.std.specs.Prelude.{Bool, true, false, if◌then◌else◌, List, [], ◌∷◌, Option, Some, None, codes}
use Rattle.std.specs.List.{list_any, before_first, after_first}
use Rattle.std.specs.Str.{bytes_eq}
use Rattle.nv_values.specs.Names.{Text}
use Rattle.command_forms.specs.Word.{is_end_of_words}
use Rattle.command_forms.specs.Given.{Form, option_words}
use Rattle.command_forms.specs.declared.command_name.CommandName.{CommandName}
use Rattle.command_forms.specs.declared.command_name.CommandName.TheVariants as name

abbrev pub command_name_of : Text → Option CommandName
command_name_of word =
    if bytes_eq word (codes "go") then Some name.Go
    else if bytes_eq word (codes "translate") then Some name.Translate
    else if bytes_eq word (codes "interp") then Some name.Interp
    else if bytes_eq word (codes "run") then Some name.Run
    else if bytes_eq word (codes "verify") then Some name.Verify
    else if bytes_eq word (codes "frames") then Some name.Frames
    else if bytes_eq word (codes "check") then Some name.Check
    else if bytes_eq word (codes "asm") then Some name.Asm
    else if bytes_eq word (codes "list") then Some name.List
    else if bytes_eq word (codes "make") then Some name.Make
    else if bytes_eq word (codes "link") then Some name.Link
    else if bytes_eq word (codes "pipe") then Some name.Pipe
    else None

abbrev pub go_options : List Text
go_options = codes "name" ∷ codes "heap" ∷ codes "stack" ∷ codes "method-bytes" ∷ codes "meter"
    ∷ codes "steps" ∷ codes "disk" ∷ codes "with" ∷ codes "keep" ∷ []

abbrev pub translate_options : List Text
translate_options = codes "name" ∷ codes "heap" ∷ codes "stack" ∷ codes "method-bytes"
    ∷ codes "meter" ∷ []

abbrev pub interp_options : List Text
interp_options = codes "name" ∷ codes "heap" ∷ codes "stack" ∷ codes "steps" ∷ codes "disk"
    ∷ codes "with" ∷ codes "keep" ∷ []

abbrev pub run_options : List Text
run_options = codes "words" ∷ codes "steps" ∷ codes "disk" ∷ codes "with" ∷ codes "keep" ∷ []

abbrev pub pipe_options : List Text
pipe_options = codes "words" ∷ codes "steps" ∷ codes "disk" ∷ codes "pipe" ∷ []

abbrev pub command_form : CommandName → Form
command_form name.Go = record { words = codes "IN" ∷ []; options = go_options }
command_form name.Translate = record { words = codes "IN" ∷ []; options = translate_options }
command_form name.Interp = record { words = codes "IN" ∷ []; options = interp_options }
command_form name.Run = record { words = codes "NAME" ∷ []; options = run_options }
command_form name.Verify = record { words = codes "NAME" ∷ []; options = [] }
command_form name.Frames = record { words = codes "NAME" ∷ []; options = [] }
command_form name.Check = record { words = codes "NAME" ∷ []; options = [] }
command_form name.Asm = record { words = codes "IN" ∷ codes "OUT" ∷ []; options = [] }
command_form name.List = record { words = codes "IN" ∷ []; options = [] }
command_form name.Make = record { words = codes "N" ∷ []; options = codes "method-bytes" ∷ [] }
command_form name.Link = record { words = []; options = codes "entry" ∷ [] }
command_form name.Pipe = record { words = []; options = pipe_options }

-- the plain words of the command repeat, so that its form has none
abbrev pub words_repeat : CommandName → Bool
words_repeat name.Link = true
words_repeat name.Pipe = true
words_repeat other = false

-- the words that the form of a command is read from
abbrev pub formed_words : CommandName → List Text → List Text
formed_words name words = if words_repeat name then option_words false words else words

-- the command may have ARGS
abbrev pub takes_arguments : CommandName → Bool
takes_arguments name.Go = true
takes_arguments name.Interp = true
takes_arguments name.Run = true
takes_arguments name.Translate = false
takes_arguments name.Verify = false
takes_arguments name.Frames = false
takes_arguments name.Check = false
takes_arguments name.Asm = false
takes_arguments name.List = false
takes_arguments name.Make = false
takes_arguments name.Link = false
takes_arguments name.Pipe = false

-- the words before the first `--`, and those after it
abbrev pub before_end : List Text → List Text
before_end words = before_first is_end_of_words words

abbrev pub after_end : List Text → List Text
after_end words = after_first is_end_of_words words

abbrev pub has_end : List Text → Bool
has_end words = list_any is_end_of_words words
