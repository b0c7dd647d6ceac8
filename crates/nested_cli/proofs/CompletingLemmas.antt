-- That `go` is complete.
use Rattle.std.proofs.Common.{◌≡◌, ◌≢◌, ◌⊎◌, ℕ, List, [], Option, Some, None, option_map, Ok, IfOk, refl, sym, ◌∙◌, ap, subst, inl, inr}
use Rattle.std.proofs.lemmas.Option.{same_Some}
use Rattle.nv_outside.specs.Files.{AgreeWith, Files}
use Rattle.run_definition.specs.Run.{Run}
use Rattle.mips_definition.specs.State.{State}
use Rattle.run_definition.specs.declared.outcome.Outcome.{Outcome}
use Rattle.run_definition.specs.declared.outcome.Outcome.TheVariants.{Exited, Faulted, Trapped, Waiting, Going}
use Rattle.nv_values.specs.Names.{Text}
use Rattle.nv_translate.specs.Made.{AreMade}
use Rattle.command_words.specs.declared.command.Command.TheVariants as command
use Rattle.command_words.specs.declared.named.Named.{Named}
use Rattle.command_words.specs.declared.pages.Pages.{Pages}
use Rattle.elf_definition.specs.Area.{area}
use Rattle.elf_definition.specs.Fault.{elf_fault, IsRunsOf}
use Rattle.elf_definition.specs.declared.range.Range.{Range}
use Rattle.elf_definition.specs.ImageFault.{image_fault}
use Rattle.elf_definition.specs.Start.{Source}
use Rattle.jvm_definition.specs.Step.{Loaded}
use Rattle.unix_definition.specs.System.{System}
use Rattle.nv_translate.specs.Translated.{EndsAs}
use Rattle.command_deeds.specs.Checks.{Behind, Check, after_check, file_that_is_named, there, unless_fault}
use Rattle.command_deeds.specs.Ends.{CommandAnswer, Due, says}
use Rattle.command_deeds.specs.Runs.{GivenFile, Plan, answer_of, found_for}
use Rattle.command_deeds.specs.World.{World}
use Rattle.command_deeds.specs.declared.done.Done.{Done}
use Rattle.command_deeds.specs.declared.done.Done.TheVariants as done
use Rattle.command_guest.specs.Imaging.{IsImageChecked, IsImaged, elf_checked, source_of}
use Rattle.command_translate.specs.Go.{IsDueOfGo, IsDueOfTranslated, IsDueOfTranslatedBy, allowed}
use Rattle.command_translate.specs.Metered.{IsDueOfMetered}
use Rattle.command_translate.specs.Stores.{classes_for, program_for}
use Rattle.nested_cli.specs.Commands.{Does, plan}
use Rattle.nested_cli.specs.Laws.{AnswersAs, AnswersFor, GoIsComplete, GoesAhead, NoCountRose}
use Rattle.nested_cli.proofs.AnsweredLemmas.{Answered, answered}

-- ---- the checks pass

file-passes : (w : World) (files : Files) (input : Named) (file : List ℕ) (told : Option Files) → told ≡ Some files → (there-are : Files)
    → AgreeWith told there-are → files input.text ≡ Some file → file_that_is_named there-are input ≡ Ok file
file-passes w files input file told e there-are agree has =
    let same : there-are ≡ files = subst (λ t. AgreeWith t there-are) e agree in
    ap (there input.word input.text) (ap (λ (f : Files). f input.text) same ∙ has)

image-passes : (source : Source) (check : Check Source)
    → ((runs : List Range) → IsRunsOf (area source.file) runs → image_fault source.file runs source.heap source.stack ≡ None)
    → IsImageChecked source check → check ≡ Ok source
image-passes source check fits c = c.is ∙ ap (λ fault. unless_fault fault done.ImageRefused source) (fits c.runs c.are_runs)

source-passes : (pages : Pages) (file : List ℕ) (named : Check (List ℕ)) (check : Check Source) → named ≡ Ok file → elf_fault file ≡ None
    → ((runs : List Range) → IsRunsOf (area file) runs → image_fault file runs pages.heap pages.stack ≡ None)
    → Behind named (IsImaged pages) check → check ≡ Ok (source_of pages file)
source-passes pages file named check e sound fits behind =
    let read : IsImaged pages file check = subst (λ n. Behind n (IsImaged pages) check) e behind in
    let passed : elf_checked (source_of pages file) ≡ Ok (source_of pages file) =
    ap (λ fault. unless_fault fault done.ElfRefused (source_of pages file)) sound in
    image-passes (source_of pages file) check fits (subst (λ c. Behind c IsImageChecked check) passed read)

found-passes : (p : Plan) (source : Source) (files : Files) (given : List GivenFile) (check : Check Source) (found : Check (List GivenFile)) (told : Option Files)
    → told ≡ Some files → (there-are : Files) → AgreeWith told there-are → check ≡ Ok source → found_for p files ≡ Ok given
    → found ≡ after_check check (λ image. found_for p there-are) → found ≡ Ok given
found-passes p source files given check found told e there-are agree passed fit is =
    let same : there-are ≡ files = subst (λ t. AgreeWith t there-are) e agree in
    is ∙ ap (λ c. after_check c (λ image. found_for p there-are)) passed ∙ ap (λ (f : Files). found_for p f) same ∙ fit

-- ---- the answer is that of the run

told-answer : (end : Option Done) (answer : CommandAnswer) → option_map says end ≡ Some answer → end ≡ Some answer.done
told-answer (Some d) answer e = ap (λ (a : CommandAnswer). Some a.done) (same_Some (says d) answer e)
told-answer None answer e = cc

going-or-not : (outcome : Outcome) → (outcome ≡ Going) ⊎ (outcome ≢ Going)
going-or-not (Exited status) = inr (λ e. cc)
going-or-not (Faulted f) = inr (λ e. cc)
going-or-not (Trapped k) = inr (λ e. cc)
going-or-not Waiting = inr (λ e. cc)
going-or-not Going = inl refl

answers-as : (run : ℕ → Run State System) (ran : Run Loaded System) (steps more : ℕ) (said : Done) → answer_of ran.outcome ≡ Some said
    → ((run steps).outcome ≢ Going → EndsAs (run steps) ran) → (ran.outcome ≢ Going → EndsAs ran (run more)) → AnswersAs run steps more said
answers-as run ran steps more said is forth back = record {
  ends = λ over. ap answer_of (sym (forth over).outcome) ∙ is;
  goes_on = λ going. by (going-or-not ran.outcome);
}
  where
    by : (ran.outcome ≡ Going) ⊎ (ran.outcome ≢ Going) → (said ≡ done.Spent) ⊎ (answer_of (run more).outcome ≡ Some said)
    by (inl going) = inl (same_Some said done.Spent (sym is ∙ ap answer_of going))
    by (inr over) = inr (ap answer_of (back over).outcome ∙ is)

translated-answers : (p : Plan) (method_bytes : ℕ) (source : Source) (given : List GivenFile) (bytes : List ℕ) (due : Due) (answer : CommandAnswer)
    → IsDueOfTranslated AreMade p method_bytes source given (Some bytes) due → due.answer ≡ Some answer
    → AnswersAs (program_for p source given (Some bytes) []) p.session.steps (allowed p source) answer.done
translated-answers p method_bytes source given bytes due answer t is =
    let ran = classes_for p source given t.translated.classes (Some bytes) t.pieces (allowed p source) in
    answers-as (program_for p source given (Some bytes) []) ran p.session.steps (allowed p source) answer.done
    (told-answer (answer_of ran.outcome) answer (sym (ap (λ (d : Due). d.answer) t.is) ∙ is)) t.as_program t.as_classes

metered-answers : (p : Plan) (method_bytes turns : ℕ) (source : Source) (given : List GivenFile) (bytes : List ℕ) (due : Due) (answer : CommandAnswer)
    → IsDueOfMetered AreMade p method_bytes turns source given (Some bytes) due → due.answer ≡ Some answer
    → answer_of (program_for p source given (Some bytes) [] turns).outcome ≡ Some answer.done
metered-answers p method_bytes turns source given bytes due answer t is =
    told-answer (answer_of (program_for p source given (Some bytes) [] turns).outcome) answer (sym (ap (λ (d : Due). d.answer) t.is) ∙ is)

-- with a meter or without one
answers-by : (words : List Text) (moment : ℕ) (w : World) (g : GoesAhead words moment w) (meter : Option ℕ) (due : Due) (answer : CommandAnswer)
    → IsDueOfTranslatedBy AreMade meter (plan g.name g.session moment) g.method_bytes (source_of g.pages g.file) g.given (Some g.bytes) due
    → due.answer ≡ Some answer → AnswersFor g meter answer.done
answers-by words moment w g None due answer t is =
    translated-answers (plan g.name g.session moment) g.method_bytes (source_of g.pages g.file) g.given g.bytes due answer t is
answers-by words moment w g (Some turns) due answer t is =
    metered-answers (plan g.name g.session moment) g.method_bytes turns (source_of g.pages g.file) g.given g.bytes due answer t is

work-answers : (words : List Text) (moment : ℕ) (w : World) (g : GoesAhead words moment w) (due : Due) (answer : CommandAnswer)
    → IsDueOfGo AreMade g.input g.pages g.method_bytes g.meter (plan g.name g.session moment) w due → due.answer ≡ Some answer
    → AnswersFor g g.meter answer.done
work-answers words moment w g due answer d is =
    let p : Plan = plan g.name g.session moment in
    let source : Source = source_of g.pages g.file in
    let file : d.file ≡ Ok g.file = d.file_is ∙ file-passes w g.files g.input g.file w.shelf.told g.files_told d.files d.agree g.there in
    let passed : d.source ≡ Ok source = source-passes g.pages g.file d.file d.source file g.is_program g.has_image d.source_is in
    let found : d.found ≡ Ok g.given = found-passes p source g.files g.given d.source d.found w.shelf.told g.files_told d.with_files d.with_agree passed g.fit d.found_is in
    let behind : IfOk d.found (λ given. IsDueOfTranslatedBy AreMade g.meter p g.method_bytes source given w.input.told due) =
    subst (λ (c : Check Source). IfOk c (λ image. IfOk d.found (λ given. IsDueOfTranslatedBy AreMade g.meter p g.method_bytes image given w.input.told due))) passed
    d.done in
    let t : IsDueOfTranslatedBy AreMade g.meter p g.method_bytes source g.given w.input.told due =
    subst (λ (c : Check (List GivenFile)). IfOk c (λ given. IsDueOfTranslatedBy AreMade g.meter p g.method_bytes source given w.input.told due)) found behind in
    answers-by words moment w g g.meter due answer (subst (λ told. IsDueOfTranslatedBy AreMade g.meter p g.method_bytes source g.given told due) g.bytes_told t) is

-- ---- the whole call

abbrev Completes : {words : List Text} {moment : ℕ} {w : World} → GoesAhead words moment w → Done → Type 0
Completes g said = (said ≡ done.NoMemory) ⊎ AnswersFor g g.meter said

go-completes : (words : List Text) (moment : ℕ) (w v : World) (said : Done) (g : GoesAhead words moment w) → Does AreMade words moment w v said
    → NoCountRose w v → Completes g said
go-completes words moment w v said g does none = by (answered words moment w v said _ g.means does none)
  where
    by : (said ≡ done.NoMemory) ⊎ Answered (command.Go g.input g.name g.pages g.method_bytes g.meter g.session) moment w v said → Completes g said
    by (inl stop) = inl stop
    by (inr so) = inr (subst (AnswersFor g g.meter) (sym so.said_is) (work-answers words moment w g so.due so.answer so.is_due so.answer_is))

pub completes : GoIsComplete
completes words moment w v said g does none = go-completes words moment w v said g does none
