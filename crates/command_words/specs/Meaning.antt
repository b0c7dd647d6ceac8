-- The command that lawful words mean.
use Rattle.std.specs.Prelude.{ℕ, ◌+◌, ◌^◌, ◌-◌, Bool, true, false, not, ◌&&◌, if◌then◌else◌, List, [], ◌∷◌, Option, Some, None, Result, Err, codes, is_some, length, min, option_and_then, option_map}
use Rattle.std.specs.Option.{ok_or, option_map_or}
use Rattle.nv_values.specs.Names.{Text, lawful_name}
use Rattle.nv_values.specs.MeterTurns.{least_meter_turns, most_meter_turns}
use Rattle.nv_values.specs.MethodBytes.{least_method_bytes, most_method_bytes}
use Rattle.nv_values.specs.PipeBytes.{least_pipe_bytes, most_pipe_bytes}
use Rattle.nv_values.specs.RegionWords.{least_region_words, most_region_words}
use Rattle.nv_values.specs.Ranges.{lies_in}
use Rattle.command_forms.specs.Word.{is_plain, waits_for_value}
use Rattle.command_forms.specs.Forms.{after_end, before_end, command_form, formed_words, has_end, command_name_of, takes_arguments}
use Rattle.command_forms.specs.Given.{Form, given_in, value_in, value_place, word_place}
use Rattle.command_words.specs.Values.{are_arguments, is_symbol_name, names_in, number_in, number_or}
use Rattle.command_words.specs.declared.command.Command.{Command}
use Rattle.command_words.specs.declared.command.Command.TheVariants.{Go, Translate, Interp, Run, Verify, Frames, Check, Asm, List as ListIn, Make, Link, Pipe}
use Rattle.command_forms.specs.declared.command_name.CommandName.{CommandName}
use Rattle.command_forms.specs.declared.command_name.CommandName.TheVariants as name
use Rattle.command_words.specs.declared.named.Named.{Named}
use Rattle.command_words.specs.declared.named_class.NamedClass.{NamedClass}
use Rattle.command_words.specs.declared.name_list.NameList.{NameList}
use Rattle.command_words.specs.declared.pages.Pages.{Pages}
use Rattle.command_words.specs.declared.session.Session.{Session}
use Rattle.command_forms.specs.declared.usage.Usage.{Usage}
use Rattle.command_forms.specs.declared.usage.Usage.TheVariants.{NoCommand, NotLawful}

-- the value that the words give to a name
abbrev pub Value : Type 0
Value = Text → Option Text

-- ---- the options: least, most, and what stands where the option is left out

abbrev pub heap_in : Value → Option ℕ
heap_in value = number_or 0 32768 256 (value (codes "heap"))

abbrev pub stack_in : Value → Option ℕ
stack_in value = number_or 1 32768 64 (value (codes "stack"))

abbrev pub method_bytes_in : Value → Option ℕ
method_bytes_in value =
    number_or least_method_bytes most_method_bytes most_method_bytes (value (codes "method-bytes"))

-- A meter stands in place of `--steps`: with both, the words mean nothing.
abbrev pub meter_beside : Bool → Text → Option (Option ℕ)
meter_beside has_steps text = if has_steps then None
    else option_map (λ turns. Some turns) (number_in least_meter_turns most_meter_turns text)

-- how many instructions a meter allows, and None as what is meant where there is no meter
abbrev pub meter_in : Value → Option (Option ℕ)
meter_in value =
    option_map_or (meter_beside (is_some (value (codes "steps")))) (value (codes "meter"))
    (Some None)

-- of a guest's instructions, and of a class machine's
abbrev pub guest_steps : ℕ
guest_steps = 1099511627776

abbrev pub class_steps : ℕ
class_steps = 1125899906842624

abbrev pub steps_in : ℕ → Value → Option ℕ
steps_in most value = number_or 0 most most (value (codes "steps"))

abbrev pub region_words_in : Value → Option ℕ
region_words_in value =
    number_or least_region_words most_region_words 4194304 (value (codes "words"))

abbrev pub disk_in : Value → Option ℕ
disk_in value = number_or 0 65536 1024 (value (codes "disk"))

abbrev pub pipe_bytes_in : Value → Option ℕ
pipe_bytes_in value = number_or least_pipe_bytes most_pipe_bytes 4096 (value (codes "pipe"))

abbrev pub name_in : Value → Option Text
name_in value = option_map_or lawful_name (value (codes "name")) (Some (codes "Main"))

-- ---- the numbers of words, from 0 at the command; a number that no `u32` holds is the greatest

abbrev pub word_number : ℕ → ℕ
word_number place = min (place + 1) (2 ^ 32 - 1)

-- the first plain word
abbrev pub input_in : List Text → Text → Value → Option Named
input_in words name value =
    option_map (λ text. record { word = word_number (word_place false words); text = text })
    (value name)

abbrev pub class_word : List Text → Value → Option NamedClass
class_word words value =
    option_map (λ name. record { word = word_number (word_place false words); name = name })
    (option_and_then lawful_name (value (codes "NAME")))

abbrev pub named : ℕ → Text → Named
named place text = record { word = word_number place; text = text }

-- The plain words where they repeat, given how many words stand before these; `follows` says that the first word is an
-- option's value.
abbrev pub plain_words : Bool → ℕ → List Text → List Named
plain_words follows place [] = []
plain_words true place (word ∷ rest) = plain_words false (place + 1) rest
plain_words false place (word ∷ rest) =
    if is_plain word then named place word ∷ plain_words false (place + 1) rest
    else plain_words (waits_for_value word) (place + 1) rest

-- the names of an option, which no word holds where it is left out
abbrev pub name_list_in : List Text → Text → Value → Option NameList
name_list_in words name value = option_map (λ names. record {
  word = if is_some (value name) then word_number (value_place name words) else 0;
  names = names;
}) (names_in (value name))

-- the ARGS
abbrev pub arguments_in : List Text → Option (List Text)
arguments_in arguments = if are_arguments arguments then Some arguments else None

-- ---- the commands

abbrev pub pages_in : Value → Option Pages
pages_in value = option_and_then (λ heap.
    option_map (λ stack. record { heap = heap; stack = stack }) (stack_in value))
    (heap_in value)

-- how a guest or a class is run
abbrev pub session_in : ℕ → List Text → Value → List Text → Option Session
session_in most words value arguments =
    option_and_then (λ steps. option_and_then (λ disk.
    option_and_then (λ with. option_and_then (λ keep. option_map (λ lawful. record {
      steps = steps;
      disk = disk;
      with = with;
      keep = keep;
      arguments = lawful;
    }) (arguments_in arguments))
    (name_list_in words (codes "keep") value)) (name_list_in words (codes "with") value))
    (disk_in value)) (steps_in most value)

-- the files that are linked
abbrev pub inputs_in : List Named → Option (List Named)
inputs_in inputs = if lies_in 1 256 (length inputs) then Some inputs else None

abbrev pub symbol_name : Text → Option Text
symbol_name text = if is_symbol_name text then Some text else None

-- the class that a word names
abbrev pub class_named : Named → Option NamedClass
class_named named =
    option_map (λ name. record { word = named.word; name = name }) (lawful_name named.text)

-- the classes that all these words name
abbrev pub classes_of : List Named → Option (List NamedClass)
classes_of [] = Some []
classes_of (named ∷ others) =
    option_and_then (λ class. option_map (λ classes. class ∷ classes) (classes_of others))
    (class_named named)

-- the classes of a pipeline
abbrev pub classes_in : List Named → Option (List NamedClass)
classes_in words = if lies_in 2 8 (length words) then classes_of words else None

-- the symbol at which a linked program begins
abbrev pub entry_in : Value → Option Text
entry_in value = option_map_or symbol_name (value (codes "entry")) (Some (codes "__start"))

-- ---- what each command makes of its words

-- what a command makes of its words before `--`, the values that they give, and the words after `--`
abbrev pub Maker : Type 0
Maker = List Text → Value → List Text → Option Command

abbrev pub go_from : Maker
go_from words value arguments =
    option_and_then (λ input. option_and_then (λ name.
    option_and_then (λ pages. option_and_then (λ method_bytes. option_and_then (λ meter.
    option_map (λ session. Go input name pages method_bytes meter session)
    (session_in guest_steps words value arguments)) (meter_in value)) (method_bytes_in value))
    (pages_in value)) (name_in value))
    (input_in words (codes "IN") value)

abbrev pub translate_from : Maker
translate_from words value arguments =
    option_and_then (λ input. option_and_then (λ name. option_and_then (λ pages.
    option_and_then (λ method_bytes.
    option_map (λ meter. Translate input name pages method_bytes meter) (meter_in value))
    (method_bytes_in value)) (pages_in value)) (name_in value)) (input_in words (codes "IN") value)

abbrev pub interp_from : Maker
interp_from words value arguments =
    option_and_then (λ input. option_and_then (λ name. option_and_then (λ pages.
    option_map (λ session. Interp input name pages session)
    (session_in guest_steps words value arguments)) (pages_in value)) (name_in value))
    (input_in words (codes "IN") value)

abbrev pub run_from : Maker
run_from words value arguments =
    option_and_then (λ class. option_and_then (λ region.
    option_map (λ session. Run class region session)
    (session_in class_steps words value arguments)) (region_words_in value)) (class_word words value)

abbrev pub verify_from : Maker
verify_from words value arguments = option_map (λ class. Verify class) (class_word words value)

abbrev pub frames_command : Maker
frames_command words value arguments = option_map (λ class. Frames class) (class_word words value)

abbrev pub check_from : Maker
check_from words value arguments = option_map (λ class. Check class) (class_word words value)

abbrev pub asm_from : Maker
asm_from words value arguments =
    option_and_then (λ input. option_map (λ output. Asm input output) (value (codes "OUT")))
    (input_in words (codes "IN") value)

abbrev pub list_from : Maker
list_from words value arguments =
    option_map (λ input. ListIn input) (input_in words (codes "IN") value)

abbrev pub make_from : Maker
make_from words value arguments =
    option_and_then (λ count. option_map (λ method_bytes. Make count method_bytes)
    (method_bytes_in value))
    (option_and_then (number_in 1 65536) (value (codes "N")))

-- the first plain word is the program's file, and the others are linked
abbrev pub linked_from : Value → List Named → Option Command
linked_from value [] = None
linked_from value (output ∷ inputs) =
    option_and_then (λ files. option_map (λ entry. Link output.text files entry) (entry_in value))
    (inputs_in inputs)

abbrev pub link_from : Maker
link_from words value arguments = linked_from value (plain_words false 0 words)

abbrev pub pipe_from : Maker
pipe_from words value arguments =
    option_and_then (λ classes. option_and_then (λ region. option_and_then (λ steps.
    option_and_then (λ disk. option_map (λ bytes. Pipe classes region steps disk bytes)
    (pipe_bytes_in value)) (disk_in value)) (steps_in class_steps value))
    (region_words_in value)) (classes_in (plain_words false 0 words))

abbrev pub maker_of : CommandName → Maker
maker_of name.Go = go_from
maker_of name.Translate = translate_from
maker_of name.Interp = interp_from
maker_of name.Run = run_from
maker_of name.Verify = verify_from
maker_of name.Frames = frames_command
maker_of name.Check = check_from
maker_of name.Asm = asm_from
maker_of name.List = list_from
maker_of name.Make = make_from
maker_of name.Link = link_from
maker_of name.Pipe = pipe_from

-- ---- all the words

-- What the words before `--` mean with those after it, where those of them that the form is read from break no rule of it.
abbrev pub command_made : Form → Maker → List Text → List Text → List Text → Option Command
command_made form maker words formed arguments =
    if is_some (given_in form formed) then maker words (value_in form formed) arguments else None

-- what the words after COMMAND mean
abbrev pub command_after : CommandName → List Text → Option Command
command_after name words = if has_end words && not (takes_arguments name) then None
    else command_made (command_form name) (maker_of name) (before_end words)
    (formed_words name (before_end words)) (after_end words)

abbrev pub named_command : Option CommandName → List Text → Result Command Usage
named_command None words = Err NoCommand
named_command (Some name) words = ok_or (command_after name words) NotLawful

-- the command that the words mean, or what is wrong with them
abbrev pub command_of : List Text → Result Command Usage
command_of [] = Err NoCommand
command_of (word ∷ words) = named_command (command_name_of word) words
