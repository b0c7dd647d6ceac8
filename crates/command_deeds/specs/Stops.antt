-- How a command ends by what it calls: by refused words, by a system that took an argument or a file
-- no more, or by a failure of the outside.
use Rattle.std.specs.Prelude.{ℕ}
use Rattle.run_definition.specs.declared.io_fault.IoFault.{IoFault}
use Rattle.run_definition.specs.declared.io_fault.IoFault.TheVariants as io
use Rattle.nv_outside.specs.declared.shelf_error.ShelfError.{ShelfError}
use Rattle.nv_outside.specs.declared.shelf_error.ShelfError.TheVariants as shelf
use Rattle.command_forms.specs.declared.usage.Usage.{Usage}
use Rattle.command_forms.specs.declared.usage.Usage.TheVariants.{NoCommand, NotLawful}
use Rattle.command_forms.specs.declared.words_error.WordsError.{WordsError}
use Rattle.command_forms.specs.declared.words_error.WordsError.TheVariants as words
use Rattle.unix_calls.specs.declared.unix_error.UnixError.{UnixError}
use Rattle.unix_calls.specs.declared.unix_error.UnixError.TheVariants as unix
use Rattle.command_deeds.specs.declared.done.Done.TheVariants as done
use Rattle.command_deeds.specs.declared.done.TheConstants.Done.{NO_COMMAND, NOT_LAWFUL}
use Rattle.command_deeds.specs.declared.ending.Ending.{Ending}
use Rattle.command_deeds.specs.declared.ending.Ending.TheVariants.{Refused, Stopped}
use Rattle.command_deeds.specs.declared.stop.Stop.{Stop}
use Rattle.command_deeds.specs.declared.stop.Stop.TheVariants.{ReadFault, WriteFault, ShelfFault, NoMemory}

abbrev pub shelf_stop : ShelfError → Stop
shelf_stop shelf.Failed = ShelfFault
shelf_stop shelf.NoMemory = NoMemory

abbrev pub stop_of : IoFault → Stop
stop_of io.ReadFault = ReadFault
stop_of io.WriteFault = WriteFault

-- the number of what is wrong with the words
abbrev pub usage_number : Usage → ℕ
usage_number NoCommand = NO_COMMAND
usage_number NotLawful = NOT_LAWFUL

-- the words were refused
abbrev pub words_ending : WordsError → Ending
words_ending (words.Usage usage) = Refused (done.Usage (usage_number usage))
words_ending words.NoMemory = Stopped NoMemory

-- an argument or a file was not added
abbrev pub unix_ending : UnixError → Ending
unix_ending (unix.ArgsTooLong n) = Refused (done.ArgsTooLong n)
unix_ending (unix.FilesTooLarge n) = Refused (done.FilesTooLarge n)
unix_ending unix.NoMemory = Stopped NoMemory
