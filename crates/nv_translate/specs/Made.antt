-- How the classes of a translation are made: they are translated code, divided in one way only, and no interpreter.
use Rattle.std.specs.Prelude.{◌≡◌, ℕ, List, [], Option, Some, None}
use Rattle.run_definition.specs.Answer.{next_answer}
use Rattle.nv_values.specs.Names.{Text}
use Rattle.elf_definition.specs.Start.{Source}
use Rattle.unix_definition.specs.Unix.{reply}
use Rattle.class_definition.specs.Linking.{program_of}
use Rattle.translate_program.specs.declared.built.Built.{Built}
use Rattle.translate_program.specs.declared.named_file.NamedFile.{NamedFile}
use Rattle.translate_program.specs.Translation.{IsTranslationBy}
use Rattle.nv_translate.specs.Calls.{HoldsAtCalls}
use Rattle.nv_translate.specs.Counts.{CountsAlike}
use Rattle.nv_translate.specs.Linked.{IsLinkedBy}
use Rattle.nv_translate.specs.Metered.{TranslatedMetered}
use Rattle.nv_translate.specs.Sizes.{AreLeast, AreSized}
use Rattle.nv_translate.specs.Translated.{Translated}
use Rattle.nv_translate.specs.Warm.{IsWarm}

-- What a translation with a meter of so many steps and one without have in common.
pub record MadeBy (meter : Option ℕ) (source : Source) (name : Text) (method_bytes : ℕ)
    (built : Built) : Type 0 where
  -- Its files and its layout are as they should be: the code is divided into classes and spans in one way only.
  pub is : IsTranslationBy meter source name method_bytes built
  -- The files spell classes, in which each field and method is what it was planned to be.
  pub linked : IsLinkedBy meter source name method_bytes built
  -- The method of each span has at most so many bytes of code, and no division into such spans has fewer.
  pub sized : AreSized method_bytes linked.code (program_of linked.classes)
  pub least : AreLeast method_bytes linked.code

-- A translation, with how it is made.
pub record Made (source : Source) (name : Text) (method_bytes : ℕ) (built : Built) : Type 0 where
  pub translated : Translated source name built.files.items
  -- Where its classes call the system, whatever answers, and over the system, fields and arrays hold the program's state but for its registers.
  pub calls : HoldsAtCalls next_answer source (program_of translated.classes)
  pub system_calls : HoldsAtCalls reply source (program_of translated.classes)
  pub by : MadeBy None source name method_bytes built
  -- It reads at most as many words of memory as the program makes accesses for which one is read, no character, and enters spans at most once for
  -- each time that the program goes from one to another, and once more. These are sums over whole runs.
  pub counts : CountsAlike source built.layout (program_of by.linked.classes)
  -- The blocks of the layout are what runs, over local variables.
  pub warm : IsWarm source built.layout (program_of by.linked.classes)

-- A translation with a meter, with how it is made.
pub record MadeMetered (source : Source) (name : Text) (method_bytes turns : ℕ) (built : Built)
    : Type 0 where
  pub translated : TranslatedMetered source name turns built.files.items
  pub by : MadeBy (Some turns) source name method_bytes built
  -- No words run together over local variables: before each of them its turns are taken off the meter.
  pub no_blocks : built.layout.blocks.items ≡ []

-- Files that are so made. The translation need not be at hand itself.
pub record AreMadeFiles (source : Source) (name : Text) (method_bytes : ℕ) (files : List NamedFile)
    : Type 0 where
  pub built : Built
  pub made : Made source name method_bytes built
  pub files_are : built.files.items ≡ files

pub record AreMadeMeteredFiles (source : Source) (name : Text) (method_bytes turns : ℕ)
    (files : List NamedFile) : Type 0 where
  pub built : Built
  pub made : MadeMetered source name method_bytes turns built
  pub files_are : built.files.items ≡ files

-- the same, with a meter or without one
abbrev pub AreMade : Option ℕ → Source → Text → ℕ → List NamedFile → Type 0
AreMade None source name method_bytes files = AreMadeFiles source name method_bytes files
AreMade (Some turns) source name method_bytes files =
    AreMadeMeteredFiles source name method_bytes turns files
