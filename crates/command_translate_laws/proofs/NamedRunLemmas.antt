-- That what `translate` stored runs by its name as the program does.
use Rattle.std.proofs.Common.{◌≡◌, ◌≢◌, ◌⊎◌, ◌<◌, ◌≤◌, ◌∙◌, ℕ, List, Option, Some, None, option_map, Ok, Err, IfOk, sym, ap, subst, inl, inr, arith}
use Rattle.std.proofs.lemmas.Bool.{cases_lt}
use Rattle.std.proofs.lemmas.Option.{same_Some}
use Rattle.nv_outside.specs.Files.{AgreeWith, Files}
use Rattle.run_definition.specs.Run.{Run}
use Rattle.run_definition.specs.declared.outcome.Outcome.{Outcome}
use Rattle.run_definition.specs.declared.outcome.Outcome.TheVariants.{Going}
use Rattle.run_simulation_laws.specs.Meter.{IsMetered}
use Rattle.nv_events.proofs.RunLaws.{run_of-ended}
use Rattle.nv_values.specs.Names.{Text}
use Rattle.mips_definition.specs.State.{State}
use Rattle.elf_definition.specs.Start.{Source, image_of}
use Rattle.unix_definition.specs.System.{System}
use Rattle.unix_definition.specs.Unix.{reply, system_start}
use Rattle.emit_metered_laws.specs.Metering.{spent}
use Rattle.jvm_definition.specs.Step.{Loaded, loaded_program, loaded_turn}
use Rattle.class_definition.specs.declared.class.Class.{Class}
use Rattle.class_definition.specs.declared.link_fault.LinkFault.{LinkFault}
use Rattle.class_definition.specs.LinkFault.{link_fault}
use Rattle.class_definition.specs.Linking.{Accepted, program_of}
use Rattle.class_sets.specs.ClassSets.{class_set}
use Rattle.class_sets.specs.declared.loaded.Loaded.TheVariants.{Classes}
use Rattle.translate_program.specs.Files.{allow, meter_allow, need}
use Rattle.translate_program.specs.declared.named_file.NamedFile.{NamedFile}
use Rattle.nv_translate.specs.Metered.{EndsByItsMeter, RunsByItsMeter}
use Rattle.nv_translate.specs.Translated.{EndsAlike, HoldClasses, Translated, classes_run, guest_run}
use Rattle.command_words.specs.declared.named_class.NamedClass.{NamedClass}
use Rattle.command_deeds.specs.Checks.{Behind, Check, after_check, unless_fault}
use Rattle.command_deeds.specs.Ends.{CommandAnswer, Due, says}
use Rattle.command_deeds.specs.Runs.{GivenFile, Plan, answer_of, arguments_of, found_for, session_run}
use Rattle.command_deeds.specs.World.{World}
use Rattle.command_deeds.specs.declared.done.Done.{Done}
use Rattle.command_deeds.specs.declared.done.Done.TheVariants as done
use Rattle.command_guest.specs.Classes.{IsDueOfRun, IsTypeChecked, link_checked, set_loaded, set_named}
use Rattle.command_translate.proofs.MeterLemmas.{going_or_not}
use Rattle.command_translate_laws.specs.ByName.{AnswersByMeter, AnswersWithin, RunsByName, RunsSo}

told-answer : (end : Option Done) (answer : CommandAnswer) → option_map says end ≡ Some answer → end ≡ Some answer.done
told-answer (Some d) answer e = ap (λ (a : CommandAnswer). Some a.done) (same_Some (says d) answer e)
told-answer None answer e = cc

-- ---- a set of classes that are accepted comes to run

linked-passes : (classes : List Class) (fault : Option LinkFault) → fault ≡ None → unless_fault fault done.LinkRefused classes ≡ Ok classes
linked-passes classes fault none = ap (λ f. unless_fault f done.LinkRefused classes) none

typed-passes : (classes : List Class) (check : Check (List Class)) → Accepted classes → IsTypeChecked classes check → check ≡ Ok classes
typed-passes classes (Ok typed) accepted h = ap (λ c. Ok c) h.0
typed-passes classes (Err answer) accepted h =
    let typed = accepted.typed _ h.1.method h.1.method_is in
    absurd (h.1.fails.fails typed.0 (typed.1 h.0.at))

module _ (class : NamedClass) (room : ℕ) (p : Plan) (w : World) (due : Due) (files : Files) (classes : List Class) (given : List GivenFile) (bytes : List ℕ)
    (told : w.shelf.told ≡ Some files) (loaded : class_set files class.name ≡ Classes classes) (accepted : Accepted classes)
    (fit : found_for p files ≡ Ok given) (input : w.input.told ≡ Some bytes) (d : IsDueOfRun class room p w due) where
  set-passes : d.set ≡ Ok classes
  set-passes =
      let same : d.files ≡ files = subst (λ t. AgreeWith t d.files) told d.agree in
      d.set_is ∙ ap (λ fs. set_named fs class) same ∙ ap (set_loaded class) loaded

  classes-pass : d.classes ≡ Ok classes
  classes-pass =
      let linked : d.linked ≡ Ok classes =
      d.linked_is ∙ ap (λ s. after_check s link_checked) set-passes ∙ linked-passes classes (link_fault classes) accepted.links in
      typed-passes classes d.classes accepted (subst (λ l. Behind l IsTypeChecked d.classes) linked d.classes_are)

  found-passes : d.found ≡ Ok given
  found-passes =
      let same : d.with_files ≡ files = subst (λ t. AgreeWith t d.with_files) told d.with_agree in
      d.found_is ∙ ap (λ c. after_check c (λ ok. found_for p d.with_files)) classes-pass ∙ ap (found_for p) same ∙ fit

  -- they run over what input has
  run-is : due ≡ session_run loaded_turn (loaded_program (program_of classes) room) p given (Some bytes) d.pieces
  run-is =
      let Run : List Class → List GivenFile → Option (List ℕ) → Type 0 =
      λ cs gs i. due ≡ session_run loaded_turn (loaded_program (program_of cs) room) p gs i d.pieces in
      let behind : IfOk d.found (λ gs. Run classes gs w.input.told) =
      subst (λ (c : Check (List Class)). IfOk c (λ cs. IfOk d.found (λ gs. Run cs gs w.input.told))) classes-pass d.done in
      let run : Run classes given w.input.told = subst (λ (c : Check (List GivenFile)). IfOk c (λ gs. Run classes gs w.input.told)) found-passes behind in
      subst (Run classes given) input run

  pub run-told : (answer : CommandAnswer) → due.answer ≡ Some answer
      → answer_of (classes_run classes room (system_start p.session.disk p.moment given (arguments_of p) bytes) p.session.steps).outcome ≡ Some answer.done
  run-told answer is =
      told-answer (answer_of (classes_run classes room (system_start p.session.disk p.moment given (arguments_of p) bytes) p.session.steps).outcome) answer
      (sym (ap (λ (x : Due). x.answer) run-is) ∙ is)

-- ---- its answer is that of the program

spent-told : (outcome : Outcome) (said : Done) → outcome ≡ Going → answer_of outcome ≡ Some said → said ≡ done.Spent
spent-told outcome said going is = same_Some said done.Spent (sym is ∙ ap answer_of going)

module _ (source : Source) (classes : List Class) (room most : ℕ) (system : System) (said : Done) (enough : need (image_of source).mapped ≤ room)
    (is : answer_of (classes_run classes room system most).outcome ≡ Some said) where
  -- where the classes are over within fewer instructions, it is their end
  ended-sooner : (fewer : ℕ) → fewer ≤ most → (classes_run classes room system fewer).outcome ≢ Going
      → answer_of (classes_run classes room system fewer).outcome ≡ Some said
  ended-sooner fewer less over =
      sym (ap (λ (r : Run Loaded System). answer_of r.outcome)
      (run_of-ended loaded_turn reply fewer most (loaded_program (program_of classes) room) system less over)) ∙ is

  -- and where they are over, it is so within more
  ended-later : (more : ℕ) → most ≤ more → (classes_run classes room system most).outcome ≢ Going
      → answer_of (classes_run classes room system more).outcome ≡ Some said
  ended-later more less over =
      ap (λ (r : Run Loaded System). answer_of r.outcome)
      (run_of-ended loaded_turn reply most more (loaded_program (program_of classes) room) system less over)
      ∙ is

  -- ---- without a meter

  pub answers-within : EndsAlike source classes → AnswersWithin (guest_run source system) (image_of source).mapped most said
  answers-within ends = record {
    ends = λ steps fits over.
        let alike = ends.forth system room steps enough over in
        ap answer_of (sym alike.outcome)
        ∙ ended-sooner (allow (image_of source).mapped steps) fits (λ going. over (sym alike.outcome ∙ going));
    only = by (going_or_not (classes_run classes room system most).outcome);
  }
    where
      by : ((classes_run classes room system most).outcome ≡ Going) ⊎ ((classes_run classes room system most).outcome ≢ Going)
          → (said ≡ done.Spent) ⊎ (answer_of (guest_run source system most).outcome ≡ Some said)
      by (inl going) = inl (spent-told (classes_run classes room system most).outcome said going is)
      by (inr over) = inr (ap answer_of (ends.back system room most enough over).outcome ∙ is)

  -- ---- with a meter

  by-meter : {T : Type 0} (run : Run State System) (ran : Run T System) → IsMetered spent run ran → answer_of ran.outcome ≡ Some said → AnswersByMeter run said
  by-meter run ran m so = record {
    over = λ over. ap answer_of (sym (m.over over)) ∙ so;
    goes_on = λ going. ap answer_of (sym (m.goes going)) ∙ so;
  }

  pub answers-by-meter : (turns : ℕ) → EndsByItsMeter source turns classes
      → AnswersByMeter (guest_run source system turns) said ⊎ ((said ≡ done.Spent) × (most < meter_allow (image_of source).mapped turns))
  answers-by-meter turns ends = by (cases_lt most (meter_allow (image_of source).mapped turns))
    where
      allowed : ℕ
      allowed = meter_allow (image_of source).mapped turns

      fewer : most < allowed → ((classes_run classes room system most).outcome ≡ Going) ⊎ ((classes_run classes room system most).outcome ≢ Going)
          → AnswersByMeter (guest_run source system turns) said ⊎ ((said ≡ done.Spent) × (most < allowed))
      fewer less (inl going) = inr (spent-told (classes_run classes room system most).outcome said going is, less)
      fewer less (inr over) =
          inl (by-meter (guest_run source system turns) (classes_run classes room system allowed)
          (ends.metered system room allowed enough (omega arith)) (ended-later allowed (omega arith) over))

      by : (most < allowed) ⊎ (allowed ≤ most) → AnswersByMeter (guest_run source system turns) said ⊎ ((said ≡ done.Spent) × (most < allowed))
      by (inl less) = fewer less (going_or_not (classes_run classes room system most).outcome)
      by (inr fits) =
          inl (by-meter (guest_run source system turns) (classes_run classes room system most) (ends.metered system room most enough fits) is)

-- ---- `run` by the name

module _ (source : Source) (name : Text) (files : List NamedFile) (class : NamedClass) (room : ℕ) (p : Plan) (w : World) (due : Due) (answer : CommandAnswer)
    (r : RunsByName source name files class room p w) where
  abbrev system : System
  system = system_start p.session.disk p.moment r.given (arguments_of p) r.bytes

  name-told : (classes : List Class) → HoldClasses name files classes → IsDueOfRun class room p w due → due.answer ≡ Some answer
      → answer_of (classes_run classes room system p.session.steps).outcome ≡ Some answer.done
  name-told classes held d is =
      run-told class room p w due r.files classes r.given r.bytes r.files_told
      (subst (λ n. class_set r.files n ≡ Classes classes) (sym r.named) (held.stored r.files r.stand)) held.accepted r.fit r.bytes_told d answer is

pub runs-within : (source : Source) (name : Text) (files : List NamedFile) → Translated source name files → RunsSo None source name files
runs-within source name files t class room p w due answer r d is =
    answers-within source t.classes room p.session.steps (system source name files class room p w due answer r) answer.done r.enough
    (name-told source name files class room p w due answer r t.classes t.held d is) t.ends

pub runs-by-meter : (source : Source) (name : Text) (turns : ℕ) (files : List NamedFile) → RunsByItsMeter source name turns files
    → RunsSo (Some turns) source name files
runs-by-meter source name turns files t class room p w due answer r d is =
    answers-by-meter source t.classes room p.session.steps (system source name files class room p w due answer r) answer.done r.enough
    (name-told source name files class room p w due answer r t.classes t.held d is) turns t.ends
