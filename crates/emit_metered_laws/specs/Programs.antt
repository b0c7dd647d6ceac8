-- A guest's program and classes with a meter that are its translation.
use Rattle.std.specs.Prelude.{◌≡◌, ℕ, ◌+◌, ◌*◌, ◌^◌, ◌<◌, ◌≤◌, true, Some}
use Rattle.run_definition.specs.Words.{IsWord}
use Rattle.mips_definition.specs.State as guest
use Rattle.jvm_definition.specs.Step.{JvmState}
use Rattle.emit_program_laws.specs.LoadingCodeLaws.Loaded.{MakersAreNone, MakesMemory, memory_turns}
use Rattle.emit_program_laws.specs.LoadingCodeLaws.Made.{IsProgram}
use Rattle.emit_program_laws.specs.TrampolineLaws.Classes.{is_span}
use Rattle.emit_program_laws.specs.TrampolineLaws.Programs.{IsTranslated}
use Rattle.emit_program_laws.specs.Translated.{TranslatedProgram}
use Rattle.emit_metered_laws.specs.Metering.{RestsByMeter}

-- A guest's program, and a program of classes that is to run as it does for so many turns.
pub record MeteredProgram : Type 0 where
  pub translated : TranslatedProgram
  pub turns : ℕ

-- The program is the translation of the guest's code with a meter, makes its memory, puts so many turns on the meter, and begins as it does.
pub record IsMeteredProgram (p : MeteredProgram) : Type 0 where
  pub code_is : let t = p.translated in
      IsTranslated true t.program t.order t.choose t.missing t.classes t.code
  pub begins : let t = p.translated in
      IsProgram t.program t.own t.apart t.choose t.pages (Some p.turns) t.beginning t.texts
      t.fillers
  pub memory_is : let t = p.translated in
      MakesMemory t.program t.words t.apart t.pages t.texts t.shares t.fillers t.readable
      t.writable t.page_words
  -- no method that makes memory is a span's
  pub makers_are_none : let t = p.translated in
      MakersAreNone (is_span t.classes) t.pages t.fillers
  pub order_is : let t = p.translated in t.beginning.order ≡ t.order
  pub entry_word : IsWord p.translated.beginning.entry
  pub few_turns : p.turns < 2 ^ 31

-- Making the memory and beginning take no more turns than two turns of the guest allow, and so many beside them.
abbrev pub LoadsByMeterWithin : MeteredProgram → ℕ → Type 0
LoadsByMeterWithin p start =
    memory_turns p.translated.shares p.translated.fillers + 25 ≤ start + 2 * 1024

-- where its classes rest, by what is left on the meter
abbrev pub resting : MeteredProgram → ℕ → guest.State → JvmState → Type 0
resting p = let t = p.translated in
    RestsByMeter t.program t.words t.order t.choose t.classes t.code
