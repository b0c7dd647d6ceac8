-- Objects and their program, stage by stage.
use Rattle.std.proofs.Common.{◌≡◌, true, ℕ, List, Option, Some, None, Result, Ok, Err, ap, inr, refl, sym, subst}
use Rattle.std.specs.Prelude.{IfErr, IfOk}
use Rattle.std.specs.List.{position}
use Rattle.nv_values.specs.Names.{Text}
use Rattle.command_words.specs.declared.named.Named.{Named}
use Rattle.elf_definition.specs.declared.obj_fault.ObjFault.{ObjFault}
use Rattle.obj_reader.specs.Fault.{IsAnswer}
use Rattle.obj_reader.specs.Files.{is_long_file}
use Rattle.obj_reader.specs.declared.obj_error.ObjError.{ObjError}
use Rattle.obj_reader.specs.declared.obj_error.ObjError.TheVariants.{Refused}
use Rattle.obj_linker.specs.Link.{IsLinked, objects_fault}
use Rattle.command_deeds.specs.declared.done.Done.TheVariants.{ObjRefused}
use Rattle.command_deeds.proofs.DeedLemmas.{gives_ends, gives_then, makes_gives}
use Rattle.command_deeds.specs.Checks.{Behind, Check, after_check, unless_fault}
use Rattle.command_deeds.specs.Ends.{CommandAnswer, Comes, Due, GivesEnd, MakesEnd, Over, Works, answers, says}
use Rattle.command_deeds.specs.World.{OnlyShelf, World}
use Rattle.command_deeds.specs.declared.stop.Stop.{Stop}
use Rattle.command_link.specs.Linking.{IsDueOfLink, IsLinkedTo, IsProgramOf, linked_and_told, objects_checked, sound_objects, object_too_large}
use Rattle.command_link.specs.Loading.{AreLoaded}

-- ---- some objects

-- by the first that is too large, and by the first check that they fail
abbrev checked : Text → Option ℕ → List (List ℕ) → Check (List ℕ) → Type 0
checked entry long objects check =
    Behind (after_check (unless_fault long (λ object. ObjRefused (object_too_large object)) objects) (sound_objects entry)) (IsLinkedTo entry) check

abbrev sound : Text → Option ObjFault → List (List ℕ) → Check (List ℕ) → Type 0
sound entry fault objects check = Behind (unless_fault fault ObjRefused objects) (IsLinkedTo entry) check

pub is_too_large : (entry : Text) (objects : List (List ℕ)) (object : ℕ) (fault : ObjFault) → position is_long_file objects ≡ Some object → fault ≡ object_too_large object
    → IsProgramOf entry objects (Err (says (ObjRefused fault)))
is_too_large entry objects object fault h is =
    subst (λ long. checked entry long objects (Err (says (ObjRefused fault)))) (sym h) (ap (λ f. Err (says (ObjRefused f))) is)

fits : (entry : Text) (objects : List (List ℕ)) (check : Check (List ℕ)) → position is_long_file objects ≡ None → sound entry (objects_fault objects entry) objects check
    → IsProgramOf entry objects check
fits entry objects check h s = subst (λ long. checked entry long objects check) (sym h) s

pub faulty : (entry : Text) (objects : List (List ℕ)) (f : ObjFault) (error : ObjError) → position is_long_file objects ≡ None → error ≡ Refused f
    → IsAnswer (objects_fault objects entry) error → IsProgramOf entry objects (Err (says (ObjRefused f)))
faulty entry objects f error h is answer =
    let fault : objects_fault objects entry ≡ Some f = subst (IsAnswer (objects_fault objects entry)) is answer in
    fits entry objects (Err (says (ObjRefused f))) h
    (subst (λ found. sound entry found objects (Err (says (ObjRefused f)))) (sym fault) refl)

pub program_of : (entry : Text) (objects : List (List ℕ)) (program : List ℕ) → position is_long_file objects ≡ None → objects_fault objects entry ≡ None
    → IsLinked objects entry program → IsProgramOf entry objects (Ok program)
program_of entry objects program h none is =
    fits entry objects (Ok program) h (subst (λ found. sound entry found objects (Ok program)) (sym none) is)

-- ---- the objects of names

link_due : (output : Text) (inputs : List Named) (entry : Text) (w : World) (objects : Check (List (List ℕ))) (program : Check (List ℕ)) (due : Due)
    → AreLoaded w.shelf.told inputs objects → Behind (after_check objects (objects_checked entry)) (IsLinkedTo entry) program
    → IfErr program (λ answer. due ≡ answers answer) → IfOk program (λ bytes. due ≡ linked_and_told output bytes) → IsDueOfLink output inputs entry w due
link_due output inputs entry w objects program due are h refused done = record {
  objects = objects;
  are_loaded = are;
  sound = after_check objects (objects_checked entry);
  sound_is = refl;
  program = program;
  program_is = h;
  refused = refused;
  done = done;
}

-- one is not there
pub link_lacks : (output : Text) (inputs : List Named) (entry : Text) (w v : World) (end : Result CommandAnswer Stop)
    → GivesEnd (λ files answer. AreLoaded w.shelf.told inputs (Err answer)) w.shelf v.shelf end → OnlyShelf w v
    → Comes true (IsDueOfLink output inputs entry) w v end
link_lacks output inputs entry w v end gives only =
    gives_ends (IsDueOfLink output inputs entry) (λ files answer. AreLoaded w.shelf.told inputs (Err answer)) w v end gives only
    (λ files answer agree h. link_due output inputs entry w (Err answer) (Err answer) (answers answer) h refl refl tt)

-- their program was made, and worked on
pub link_comes : (output : Text) (inputs : List Named) (entry : Text) (objects slice : List (List ℕ)) (program : List ℕ) (w u v : World)
    (end : Result CommandAnswer Stop) → slice ≡ objects → Over (λ files. AreLoaded w.shelf.told inputs (Ok objects)) w.shelf u.shelf → OnlyShelf w u
    → IsProgramOf entry slice (Ok program) → Works (linked_and_told output program) u v end → Comes true (IsDueOfLink output inputs entry) w v end
link_comes output inputs entry objects slice program w u v end same gives only made works =
    gives_then (IsDueOfLink output inputs entry) (λ x due. due ≡ linked_and_told output program) (λ files. AreLoaded w.shelf.told inputs (Ok objects)) w u v end
    gives only (λ files due agree found h. link_due output inputs entry w (Ok objects) (Ok program) due found
    (subst (λ o. IsProgramOf entry o (Ok program)) same made) tt h) (inr (linked_and_told output program, refl, works))

-- they were refused
pub link_refuses : (output : Text) (inputs : List Named) (entry : Text) (objects slice : List (List ℕ)) (w u : World) (end : Result CommandAnswer Stop)
    → slice ≡ objects → Over (λ files. AreLoaded w.shelf.told inputs (Ok objects)) w.shelf u.shelf → OnlyShelf w u
    → MakesEnd (λ answer. IsProgramOf entry slice (Err answer)) end → Comes true (IsDueOfLink output inputs entry) w u end
link_refuses output inputs entry objects slice w u end same gives only makes =
    gives_ends (IsDueOfLink output inputs entry) (λ files answer. AreLoaded w.shelf.told inputs (Ok objects) × IsProgramOf entry objects (Err answer)) w u end
    (makes_gives (λ files. AreLoaded w.shelf.told inputs (Ok objects)) (λ answer. IsProgramOf entry slice (Err answer))
    (λ files answer. AreLoaded w.shelf.told inputs (Ok objects) × IsProgramOf entry objects (Err answer)) w.shelf u.shelf end gives
    (λ files answer found h. (found, subst (λ o. IsProgramOf entry o (Err answer)) same h)) makes) only
    (λ files answer agree h. link_due output inputs entry w (Ok objects) (Err answer) (answers answer) h.0 h.1 refl tt)
