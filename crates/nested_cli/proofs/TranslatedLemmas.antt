-- That what `translate` stored runs by its name as the program does.
use Rattle.std.proofs.Common.{◌≡◌, ◌⊎◌, ℕ, true, List, [], ◌∷◌, Option, refl, sym, subst, inl, inr}
use Rattle.std.specs.List.{list_all}
use Rattle.nv_values.specs.Names.{Text}
use Rattle.elf_definition.specs.Start.{Source, image_of}
use Rattle.translate_program.specs.Files.{need}
use Rattle.translate_program.specs.declared.named_file.NamedFile.{NamedFile}
use Rattle.command_words.specs.declared.command.Command.TheVariants as command
use Rattle.command_deeds.specs.Deeds.{DoesAll}
use Rattle.command_deeds.specs.Ends.{Due}
use Rattle.command_deeds.specs.World.{Seen, Takes}
use Rattle.command_deeds.specs.declared.done.Done.TheVariants as done
use Rattle.command_guest.specs.Imaging.{source_of}
use Rattle.command_frames_laws.proofs.LeftLemmas.{is_store, left-behind}
use Rattle.command_translate.specs.Stores.{files_counted, files_stored, translation_line}
use Rattle.command_translate_laws.specs.ByName.{AnswersByName, RunsSo, own_steps}
use Rattle.command_translate_laws.proofs.TranslatedLemmas.{stores-translation}
use Rattle.nested_cli.specs.ByName.{RunsAsProgram, TranslationsRunByName}
use Rattle.nested_cli.specs.Commands.{plan}
use Rattle.nested_cli.proofs.AnsweredLemmas.{Answered, answered, answered-good}

runs-as-program : (meter : Option ℕ) (source : Source) (name : Text) (files : List NamedFile) → RunsSo meter source name files → RunsAsProgram meter source name files
runs-as-program meter source name files runs words moment w v said class room session means r does none =
    by (answered words moment w v said (command.Run class room session) means does none)
  where
    by : (said ≡ done.NoMemory) ⊎ Answered (command.Run class room session) moment w v said
        → (said ≡ done.NoMemory) ⊎ AnswersByName meter (own_steps r) (image_of source).mapped session.steps said
    by (inl stop) = inl stop
    by (inr so) = inr (subst (AnswersByName meter (own_steps r) (image_of source).mapped session.steps) (sym so.said_is)
        (runs class room (plan class.name session moment) w so.due so.answer r so.is_due so.answer_is))

files-store : (files : List NamedFile) → list_all is_store (files_stored files) ≡ true
files-store [] = refl
files-store (file ∷ files) = files-store files

pub translations-run : TranslationsRunByName
translations-run words moment w v t does =
    let so = answered-good words moment w v (command.Translate t.input t.name t.pages t.method_bytes t.meter) t.means does in
    let made =
    stores-translation t.input t.name t.pages t.method_bytes t.meter t.files t.file w so.due so.answer t.files_told t.there so.is_due so.answer_is
    (sym so.said_is) in
    let line : List ℕ = translation_line made.files (need (image_of (source_of t.pages t.file)).mapped) in
    let deeds : DoesAll (files_counted made.files (need (image_of (source_of t.pages t.file)).mapped)).deeds w so.worked =
    subst (λ (d : Due). DoesAll d.deeds w so.worked) made.is so.deeds_done in
    let left = left-behind (files_stored made.files) line t.files w so.worked v.shelf (files-store made.files) t.files_told deeds so.shelf in
    record {
      files = made.files;
      stored = record { left = left.left; left_told = left.left_told; leaves = left.leaves };
      stand = made.stand t.files left.left left.leaves;
      told = subst (λ (s : Seen (List ℕ)). Takes w.out s line) (sym so.out) left.line;
      runs = runs-as-program t.meter (source_of t.pages t.file) t.name made.files made.runs;
    }
