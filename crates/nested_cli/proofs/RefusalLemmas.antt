-- That what refuses leaves all as it was.
use Rattle.std.proofs.Common.{◌≡◌, ℕ, Bool, true, false, List, [], ◌∷◌, ◌++◌, Option, Some, None, option_map, Result, Ok, Err, IfErr, IfOk, refl, sym, ◌∙◌, ap, subst, inl, inr}
use Rattle.std.proofs.lemmas.Option.{same_Some}
use Rattle.run_definition.specs.Run.{Run}
use Rattle.run_definition.specs.declared.outcome.Outcome.{Outcome}
use Rattle.run_definition.specs.declared.outcome.Outcome.TheVariants.{Exited, Faulted, Trapped, Waiting, Going}
use Rattle.nv_values.specs.Names.{Text}
use Rattle.nv_translate.specs.Made.{AreMade}
use Rattle.command_words.specs.Meaning.{command_of}
use Rattle.command_words.specs.declared.command.Command.{Command}
use Rattle.command_words.specs.declared.command.Command.TheVariants as command
use Rattle.command_words.specs.declared.named.Named.{Named}
use Rattle.command_words.specs.declared.named_class.NamedClass.{NamedClass}
use Rattle.command_words.specs.declared.pages.Pages.{Pages}
use Rattle.command_forms.specs.declared.usage.Usage.{Usage}
use Rattle.mips_definition.specs.Step.{turn}
use Rattle.unix_definition.specs.System.{System}
use Rattle.unix_pipe_laws.specs.Pipelines.{Pipeline}
use Rattle.unix_pipe_laws.specs.Alone.{run_alone_of}
use Rattle.pipe_net.specs.Histories.{first_run_over}
use Rattle.elf_definition.specs.Start.{Source, image_of}
use Rattle.elf_definition.specs.Loading.{start_of}
use Rattle.jvm_definition.specs.Step.{Loaded, loaded_program, loaded_turn}
use Rattle.class_definition.specs.Linking.{program_of}
use Rattle.command_deeds.proofs.DeedLemmas.{same_then_shelf}
use Rattle.command_deeds.specs.Checks.{Check}
use Rattle.command_deeds.specs.Deeds.{Deed, DoesAll}
use Rattle.command_deeds.specs.Ends.{CommandAnswer, Comes, Due, answers, done_of_stop, final, says}
use Rattle.command_deeds.specs.Line.{answer_line}
use Rattle.command_deeds.specs.Runs.{GivenFile, Plan, answer_of, found_for, run_for, session_run}
use Rattle.command_deeds.specs.World.{SameShelf, Seen, Stays, World}
use Rattle.command_deeds.specs.declared.done.Done.{Done}
use Rattle.command_deeds.specs.declared.done.Done.TheVariants as done
use Rattle.command_deeds.specs.declared.stop.Stop.{Stop}
use Rattle.command_deeds.specs.declared.stop.Stop.TheVariants.{ReadFault, WriteFault, ShelfFault, NoMemory}
use Rattle.command_guest.specs.Assembly.{IsDueOfAsm, assembled}
use Rattle.command_guest.specs.Classes as classes
use Rattle.command_guest.specs.Interp.{IsDueOfInterp}
use Rattle.command_guest.specs.Listing.{IsDueOfList, listed}
use Rattle.command_frames.specs.Frames as frames
use Rattle.command_link.specs.Linking.{linked_and_told}
use Rattle.command_pipe.specs.Pipe.{IsDueOfPipe, each, ended_so, of_stages, piped, pipeline_for}
use Rattle.command_pipe.specs.declared.launch.PipeLaunch.{PipeLaunch}
use Rattle.command_translate.specs.Go.{IsDueOfGo, IsDueOfTranslated, IsDueOfTranslatedBy, allowed}
use Rattle.command_translate.specs.Make.{IsDueOfMake, told}
use Rattle.command_translate.specs.Metered.{IsDueOfMetered}
use Rattle.command_translate.specs.Stores.{classes_for, program_for}
use Rattle.command_translate.specs.Translate.{IsDueOfImageBy, IsDueOfTranslate}
use Rattle.nested_cli.specs.Commands.{Does, IsDueOf, loads_files, plan, pipe_launch}
use Rattle.nested_cli.specs.Laws.{RefusalsLeaveAll, is_refusal}
use Rattle.nested_cli.specs.Usage.{Misuses}
use Rattle.nested_cli.proofs.CheckLemmas.{checked, checked-twice, not-told, passing}

-- ---- answers that refuse nothing

stop-accepts : (stop : Stop) → is_refusal (done_of_stop stop) ≡ false
stop-accepts ReadFault = refl
stop-accepts WriteFault = refl
stop-accepts ShelfFault = refl
stop-accepts NoMemory = refl

says-accepts : (d : Done) (answer : CommandAnswer) → is_refusal d ≡ false → Some (says d) ≡ Some answer → is_refusal answer.done ≡ false
says-accepts d answer none e = ap (λ (a : CommandAnswer). is_refusal a.done) (sym (same_Some (says d) answer e)) ∙ none

run-accepts : (outcome : Outcome) (answer : CommandAnswer) → option_map says (answer_of outcome) ≡ Some answer → is_refusal answer.done ≡ false
run-accepts (Exited status) answer e = says-accepts (done.Exited status) answer refl e
run-accepts (Faulted f) answer e = says-accepts (done.Faulted f) answer refl e
run-accepts (Trapped k) answer e = says-accepts (done.Trapped k) answer refl e
run-accepts Waiting answer e = cc
run-accepts Going answer e = says-accepts done.Spent answer refl e

-- ---- what is due where an answer refuses

-- a refusal has no deeds
abbrev pub LeavesAll : Due → Type 0
LeavesAll due = (answer : CommandAnswer) → due.answer ≡ Some answer → is_refusal answer.done ≡ true → due.deeds ≡ []

refusing : (due : Due) (answer : CommandAnswer) → due ≡ answers answer → LeavesAll due
refusing due answer is other e h = ap (λ (d : Due). d.deeds) is

not-both : {A : Type 0} (b : Bool) → b ≡ false → b ≡ true → A
not-both b one other =
    let both : false ≡ true = sym one ∙ other in
    cc

accepting : (due : Due) (d : Done) → due.answer ≡ Some (says d) → is_refusal d ≡ false → LeavesAll due
accepting due d is none answer e h = not-both (is_refusal answer.done) (says-accepts d answer none (sym is ∙ e)) h

running : (due : Due) (outcome : Outcome) → due.answer ≡ option_map says (answer_of outcome) → LeavesAll due
running due outcome is answer e h = not-both (is_refusal answer.done) (run-accepts outcome answer (sym is ∙ e)) h

translated : (plan : Plan) (method_bytes : ℕ) (due : Due) (input : Option (List ℕ)) (source : Source) (given : List GivenFile)
    → IsDueOfTranslated AreMade plan method_bytes source given input due → LeavesAll due
translated plan method_bytes due input source given t =
    running due (classes_for plan source given t.translated.classes input t.pieces (allowed plan source)).outcome (ap (λ (d : Due). d.answer) t.is)

metered : (plan : Plan) (method_bytes turns : ℕ) (due : Due) (input : Option (List ℕ)) (source : Source) (given : List GivenFile)
    → IsDueOfMetered AreMade plan method_bytes turns source given input due → LeavesAll due
metered plan method_bytes turns due input source given t =
    running due (program_for plan source given input t.pieces turns).outcome (ap (λ (d : Due). d.answer) t.is)

translated-by : (meter : Option ℕ) (plan : Plan) (method_bytes : ℕ) (due : Due) (input : Option (List ℕ)) (source : Source) (given : List GivenFile)
    → IsDueOfTranslatedBy AreMade meter plan method_bytes source given input due → LeavesAll due
translated-by None plan method_bytes due input source given t = translated plan method_bytes due input source given t
translated-by (Some turns) plan method_bytes due input source given t = metered plan method_bytes turns due input source given t

-- a translation is stored and counted, with a meter or without one
imaged : (meter : Option ℕ) (name : Text) (method_bytes : ℕ) (due : Due) (source : Source) → IsDueOfImageBy AreMade meter source name method_bytes due → LeavesAll due
imaged None name method_bytes due source t = accepting due done.Good (ap (λ (e : Due). e.answer) t.is) refl
imaged (Some turns) name method_bytes due source t = accepting due done.Good (ap (λ (e : Due). e.answer) t.is) refl

due-answer : (due other : Due) → due ≡ other → due.answer ≡ other.answer
due-answer due other is = ap (λ (d : Due). d.answer) is

-- ---- command by command

go-leaves : (input : Named) (pages : Pages) (method_bytes : ℕ) (meter : Option ℕ) (plan : Plan) (w : World) (due : Due)
    → IsDueOfGo AreMade input pages method_bytes meter plan w due → LeavesAll due
go-leaves input pages method_bytes meter plan w due d =
    checked-twice (LeavesAll due) (λ image given. IsDueOfTranslatedBy AreMade meter plan method_bytes image given w.input.told due) due d.source d.found
    (λ image. found_for plan d.with_files) (refusing due) d.found_is d.refused d.done (translated-by meter plan method_bytes due w.input.told)

interp-leaves : (input : Named) (pages : Pages) (plan : Plan) (w : World) (due : Due) → IsDueOfInterp input pages plan w due → LeavesAll due
interp-leaves input pages plan w due d =
    checked-twice (LeavesAll due) (λ image given. due ≡ session_run turn (start_of (image_of image)) plan given w.input.told d.pieces) due d.source d.found
    (λ image. found_for plan d.with_files) (refusing due) d.found_is d.refused d.done
    (λ image given is. running due (run_for plan.session.steps turn (start_of (image_of image)) plan given w.input.told d.pieces).outcome
    (due-answer due (session_run turn (start_of (image_of image)) plan given w.input.told d.pieces) is))

run-leaves : (class : NamedClass) (words : ℕ) (plan : Plan) (w : World) (due : Due) → classes.IsDueOfRun class words plan w due → LeavesAll due
run-leaves class words plan w due d =
    checked-twice (LeavesAll due) (λ accepted given. due ≡ session_run loaded_turn (loaded_program (program_of accepted) words) plan given w.input.told d.pieces)
    due d.classes d.found (λ accepted. found_for plan d.with_files) (refusing due) d.found_is d.refused d.done
    (λ accepted given is. running due
    (run_for plan.session.steps loaded_turn (loaded_program (program_of accepted) words) plan given w.input.told d.pieces).outcome
    (due-answer due (session_run loaded_turn (loaded_program (program_of accepted) words) plan given w.input.told d.pieces) is))

good : (due other : Due) → other.answer ≡ Some (says done.Good) → due ≡ other → LeavesAll due
good due other answer is = accepting due done.Good (due-answer due other is ∙ answer) refl

-- where a check passed, all is good
checked-good : {A : Type 0} (due : Due) (other : A → Due) (check : Check A) → ((a : A) → (other a).answer ≡ Some (says done.Good))
    → IfErr check (λ answer. due ≡ answers answer) → IfOk check (λ a. due ≡ other a) → LeavesAll due
checked-good due other check answer refused done =
    checked (LeavesAll due) due check (refusing due) refused (passing (λ a. due ≡ other a) (λ a. LeavesAll due) check (λ a is. good due (other a) (answer a) is) done)

translate-leaves : (input : Named) (name : Text) (pages : Pages) (method_bytes : ℕ) (meter : Option ℕ) (w : World) (due : Due)
    → IsDueOfTranslate AreMade input name pages method_bytes meter w due → LeavesAll due
translate-leaves input name pages method_bytes meter w due d =
    checked (LeavesAll due) due d.source (refusing due) d.refused (passing (λ image. IsDueOfImageBy AreMade meter image name method_bytes due) (λ image. LeavesAll due)
    d.source (imaged meter name method_bytes due) d.done)

-- where all stages of a pipeline ended
staged : (due : Due) (line : Pipeline Loaded) (run : ℕ → Run Loaded System) → due ≡ of_stages line run → LeavesAll due
staged due line run is =
    accepting due (done.Piped (ended_so (each (λ i. (run i).outcome) line.count))) (due-answer due (of_stages line run) is) refl

pipe-leaves : (stages : List NamedClass) (launch : PipeLaunch) (w : World) (due : Due) → IsDueOfPipe stages launch w due → LeavesAll due
pipe-leaves stages launch w due d =
    checked (LeavesAll due) due d.sets (refusing due) d.refused
    (passing (λ sets. due ≡ piped launch stages sets w.input.told d.pieces) (λ sets. LeavesAll due) d.sets
    (λ sets is.
    let p : Pipeline Loaded = pipeline_for launch stages sets w.input.told in
    staged due p (run_alone_of p (first_run_over p w.input.told d.pieces)) is) d.done)

leaves : (c : Command) (moment : ℕ) (w : World) (due : Due) → IsDueOf AreMade c moment w due → LeavesAll due
leaves (command.Go input name pages method_bytes meter session) moment w due d =
    go-leaves input pages method_bytes meter (plan name session moment) w due d
leaves (command.Translate input name pages method_bytes meter) moment w due d = translate-leaves input name pages method_bytes meter w due d
leaves (command.Interp input name pages session) moment w due d = interp-leaves input pages (plan name session moment) w due d
leaves (command.Asm input output) moment w due d = checked-good due (assembled output) d.program (λ bytes. refl) d.refused d.done
leaves (command.List input) moment w due d =
    checked-good due (λ image. listed (image_of image).code d.runs) d.source (λ image. refl) d.refused d.done
leaves (command.Run class words session) moment w due d = run-leaves class words (plan class.name session moment) w due d
leaves (command.Verify class) moment w due d = checked-good due classes.classes_counted d.classes (λ accepted. refl) d.refused d.done
leaves (command.Frames class) moment w due d = checked-good due frames.stored_and_counted d.deeds (λ stored. refl) d.refused d.done
leaves (command.Check class) moment w due d = checked-good due classes.classes_counted d.classes (λ accepted. refl) d.refused d.done
leaves (command.Pipe stages words steps disk pipe) moment w due d =
    pipe-leaves stages (pipe_launch words steps disk pipe moment) w due d
leaves (command.Link output inputs entry) moment w due d = checked-good due (linked_and_told output) d.program (λ bytes. refl) d.refused d.done
leaves (command.Make count method_bytes) moment w due d = good due (told count d.status d.status) refl d.done

-- ---- the work, and the line behind it

work-stays : (c : Command) (moment : ℕ) (w u : World) (end : Result CommandAnswer Stop) → Comes (loads_files c) (IsDueOf AreMade c moment) w u end
    → is_refusal (final end).done ≡ true → Stays w u
work-stays c moment w u (Err stop) comes h = not-both (is_refusal (done_of_stop stop)) (stop-accepts stop) h
work-stays c moment w u (Ok answer) (inl early) h = absurd early
work-stays c moment w u (Ok answer) (inr work) h =
    let none : work.0.deeds ≡ [] = leaves c moment w work.0 work.1 answer work.2.0 h in
    subst (λ deeds. DoesAll deeds w u) none work.2.2

misuse-stays : (misuse : Usage) (w u : World) (end : Result CommandAnswer Stop) → Misuses misuse w u end → Stays w u
misuse-stays misuse w u end misused = misused.0

pub refusals-leave : RefusalsLeaveAll
refusals-leave words moment w v said does refusal = by (command_of words) refl
  where
    no-fault : said ≡ done.WriteFault → ⊥
    no-fault e =
        let both : false ≡ true = sym (ap is_refusal e) ∙ refusal in
        cc

    is : said ≡ (final does.end).done
    is = not-told (answer_line (final does.end).name (final does.end).done) does.worked.err v.err (final does.end).done said no-fault does.line.3

    stayed : Stays w does.worked → SameShelf w.shelf v.shelf × (v.input ≡ w.input) × (v.out ≡ w.out)
    stayed stays = (same_then_shelf w.shelf does.worked.shelf v.shelf stays.0 does.line.0, does.line.1 ∙ stays.1.0, does.line.2 ∙ stays.1.1)

    by : (meant : Result Command Usage) → command_of words ≡ meant → SameShelf w.shelf v.shelf × (v.input ≡ w.input) × (v.out ≡ w.out)
    by (Ok c) e = stayed (work-stays c moment w does.worked does.end (does.due c e) (ap is_refusal (sym is) ∙ refusal))
    by (Err misuse) e = stayed (misuse-stays misuse w does.worked does.end (does.usage misuse e))
