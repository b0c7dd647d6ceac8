-- What is due of each command, by what its stages came to.
use Rattle.std.proofs.Common.{◌≡◌, List, [], ℕ, Ok, Err, refl}
use Rattle.std.specs.Prelude.{IfErr, IfOk}
use Rattle.nv_outside.specs.Files.{AgreeWith, Files, SameFiles}
use Rattle.nv_outside.proofs.FilesLemmas.{agree_before}
use Rattle.command_words.specs.declared.named.Named.{Named}
use Rattle.command_words.specs.declared.named_class.NamedClass.{NamedClass}
use Rattle.command_words.specs.declared.pages.Pages.{Pages}
use Rattle.elf_definition.specs.Area.{area}
use Rattle.elf_definition.specs.Fault.{IsRunsOf}
use Rattle.elf_definition.specs.declared.range.Range.{Range}
use Rattle.elf_definition.specs.Start.{Source, image_of}
use Rattle.mips_definition.specs.Step.{turn}
use Rattle.elf_definition.specs.Loading.{start_of}
use Rattle.jvm_definition.specs.Step.{loaded_program, loaded_turn}
use Rattle.class_definition.specs.declared.class.Class.{Class}
use Rattle.class_definition.specs.Linking.{program_of}
use Rattle.command_deeds.specs.Checks.{Behind, Check, after_check, file_that_is_named}
use Rattle.command_deeds.specs.Ends.{CommandAnswer, Due, answers}
use Rattle.command_deeds.specs.Runs.{IsDueOfPlay, Plan}
use Rattle.command_deeds.specs.World.{Seen, World, world}
use Rattle.command_guest.specs.Assembly.{IsAssembledTo, IsDueOfAsm, assembled, text_checked}
use Rattle.command_guest.specs.Classes.{IsAcceptedSet, IsDueOfRun, IsDueOfVerify, classes_counted, link_checked, set_named}
use Rattle.command_guest.specs.Imaging.{IsImagedFrom}
use Rattle.command_guest.specs.declared.imaging.TheConstants.{DEFAULT_PAGES}
use Rattle.command_guest.specs.Interp.{IsDueOfInterp}
use Rattle.command_guest.specs.Listing.{IsDueOfList, listed}

-- ---- `interp`

pub interp_refused : (input : Named) (pages : Pages) (plan : Plan) (w : World) (files : Files) (answer : CommandAnswer) → AgreeWith w.shelf.told files
    → IsImagedFrom input pages files (Err answer) → IsDueOfInterp input pages plan w (answers answer)
interp_refused input pages plan w files answer agree h = record {
  files = files;
  agree = agree;
  with_files = files;
  with_agree = agree;
  file = file_that_is_named files input;
  file_is = refl;
  source = Err answer;
  source_is = h;
  found = Err answer;
  found_is = refl;
  pieces = [];
  refused = refl;
  done = tt;
}

pub interp_due : (input : Named) (pages : Pages) (plan : Plan) (w : World) (now : Seen Files) (files : Files) (image : Source) (due : Due)
    → SameFiles w.shelf.told now.told → AgreeWith w.shelf.told files → IsImagedFrom input pages files (Ok image)
    → IsDueOfPlay turn (start_of (image_of image)) plan (world now w.input w.out w.err) due → IsDueOfInterp input pages plan w due
interp_due input pages plan w now files image due same agree h play = record {
  files = files;
  agree = agree;
  with_files = play.files;
  with_agree = agree_before w.shelf.told now.told play.files same play.agree;
  file = file_that_is_named files input;
  file_is = refl;
  source = Ok image;
  source_is = h;
  found = play.found;
  found_is = play.found_is;
  pieces = play.pieces;
  refused = play.refused;
  done = play.done;
}

-- ---- `list`

pub list_refused : (input : Named) (w : World) (files : Files) (answer : CommandAnswer) → AgreeWith w.shelf.told files
    → IsImagedFrom input DEFAULT_PAGES files (Err answer) → IsDueOfList input w (answers answer)
list_refused input w files answer agree h = record {
  files = files;
  agree = agree;
  file = file_that_is_named files input;
  file_is = refl;
  source = Err answer;
  source_is = h;
  runs = [];
  are_runs = tt;
  refused = refl;
  done = tt;
}

pub list_due : (input : Named) (w : World) (files : Files) (image : Source) (runs : List Range) (due : Due) → AgreeWith w.shelf.told files
    → IsImagedFrom input DEFAULT_PAGES files (Ok image) → IsRunsOf (area image.file) runs → due ≡ listed (image_of image).code runs
    → IsDueOfList input w due
list_due input w files image runs due agree h are is = record {
  files = files;
  agree = agree;
  file = file_that_is_named files input;
  file_is = refl;
  source = Ok image;
  source_is = h;
  runs = runs;
  are_runs = are;
  refused = tt;
  done = is;
}

-- ---- `asm`

-- the checks of a text and its program, by the name of its file
abbrev pub IsProgramFrom : Named → Files → Check (List ℕ) → Type 0
IsProgramFrom input files check = Behind (after_check (file_that_is_named files input) text_checked) IsAssembledTo check

pub asm_due : (input : Named) (output : List ℕ) (w : World) (files : Files) (program : Check (List ℕ)) (due : Due) → AgreeWith w.shelf.told files
    → IsProgramFrom input files program → IfErr program (λ answer. due ≡ answers answer) → IfOk program (λ bytes. due ≡ assembled output bytes)
    → IsDueOfAsm input output w due
asm_due input output w files program due agree h refused done = record {
  files = files;
  agree = agree;
  file = file_that_is_named files input;
  file_is = refl;
  text = after_check (file_that_is_named files input) text_checked;
  text_is = refl;
  program = program;
  program_is = h;
  refused = refused;
  done = done;
}

-- ---- `verify`

pub verify_due : (class : NamedClass) (w : World) (files : Files) (classes : Check (List Class)) (due : Due) → AgreeWith w.shelf.told files
    → IsAcceptedSet class files classes → IfErr classes (λ answer. due ≡ answers answer) → IfOk classes (λ accepted. due ≡ classes_counted accepted)
    → IsDueOfVerify class w due
verify_due class w files classes due agree h refused done = record {
  files = files;
  agree = agree;
  set = set_named files class;
  set_is = refl;
  linked = after_check (set_named files class) link_checked;
  linked_is = refl;
  classes = classes;
  classes_are = h;
  refused = refused;
  done = done;
}

-- ---- `run`

pub run_refused : (class : NamedClass) (words : ℕ) (plan : Plan) (w : World) (files : Files) (answer : CommandAnswer) → AgreeWith w.shelf.told files
    → IsAcceptedSet class files (Err answer) → IsDueOfRun class words plan w (answers answer)
run_refused class words plan w files answer agree h = record {
  files = files;
  agree = agree;
  with_files = files;
  with_agree = agree;
  set = set_named files class;
  set_is = refl;
  linked = after_check (set_named files class) link_checked;
  linked_is = refl;
  classes = Err answer;
  classes_are = h;
  found = Err answer;
  found_is = refl;
  pieces = [];
  refused = refl;
  done = tt;
}

pub run_due : (class : NamedClass) (words : ℕ) (plan : Plan) (w : World) (now : Seen Files) (files : Files) (classes : List Class) (due : Due)
    → SameFiles w.shelf.told now.told → AgreeWith w.shelf.told files → IsAcceptedSet class files (Ok classes)
    → IsDueOfPlay loaded_turn (loaded_program (program_of classes) words) plan (world now w.input w.out w.err) due → IsDueOfRun class words plan w due
run_due class words plan w now files classes due same agree h play = record {
  files = files;
  agree = agree;
  with_files = play.files;
  with_agree = agree_before w.shelf.told now.told play.files same play.agree;
  set = set_named files class;
  set_is = refl;
  linked = after_check (set_named files class) link_checked;
  linked_is = refl;
  classes = Ok classes;
  classes_are = h;
  found = play.found;
  found_is = play.found_is;
  pieces = play.pieces;
  refused = play.refused;
  done = play.done;
}
