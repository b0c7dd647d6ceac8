-- The checks of a set of classes, stage by stage.
use Rattle.std.proofs.Common.{◌≡◌, ◌∙◌, ℕ, List, Option, Some, None, Result, Ok, Err, refl, sym, ap, subst}
use Rattle.nv_outside.specs.Files.{Files, SameFiles}
use Rattle.class_definition.specs.declared.link_fault.LinkFault.{LinkFault}
use Rattle.command_words.specs.declared.named_class.NamedClass.{NamedClass}
use Rattle.jvm_definition.specs.Typing.{AllTyped}
use Rattle.class_definition.specs.declared.class.Class.{Class}
use Rattle.class_definition.specs.LinkFault.{link_fault}
use Rattle.class_definition.specs.Linking.{program_of}
use Rattle.jvm_link.specs.declared.linked.Linked.{Linked}
use Rattle.class_sets.specs.ClassSets.{IsLoaded, class_set}
use Rattle.class_sets.specs.declared.loaded.Loaded.{Loaded}
use Rattle.class_sets.specs.declared.loaded.Loaded.TheVariants.{Classes}
use Rattle.jvm_type_inference.proofs.Unique.{AllTyped-from_least}
use Rattle.type_verifier.specs.declared.verified.Verified.{Verified}
use Rattle.command_deeds.proofs.DeedLemmas.{makes_as, makes_over}
use Rattle.command_deeds.specs.Checks.{Behind, Check, unless_fault}
use Rattle.command_deeds.specs.Ends.{Gives, Makes, says}
use Rattle.command_deeds.specs.World.{Seen}
use Rattle.command_deeds.specs.declared.done.Done.TheVariants.{LinkRefused}
use Rattle.command_deeds.specs.declared.ending.Ending.{Ending}
use Rattle.command_guest.specs.Classes.{IsAccepted, IsAcceptedLoaded, IsAcceptedSet, IsTypeChecked, classes_of}

-- verified classes are typed
pub type_checked : (classes : List Class) (v : Verified) → v.linked.classes ≡ classes → IsTypeChecked classes (Ok v.linked.classes)
type_checked classes v is =
    (is, subst (λ cs. AllTyped (program_of cs)) is (AllTyped-from_least (program_of v.linked.classes) v.typed))

-- classes that do not link
pub link_refused : (classes : List Class) (fault : LinkFault) → link_fault classes ≡ Some fault → IsAccepted classes (Err (says (LinkRefused fault)))
link_refused classes fault e =
    subst (λ found. Behind (unless_fault found LinkRefused classes) IsTypeChecked (Err (says (LinkRefused fault)))) (sym e) refl

-- classes that link, and were verified or not
pub linked_makes : (classes : List Class) (linked : Linked) (result : Result Verified Ending) → linked.classes ≡ classes
    → Makes (λ check. IsTypeChecked linked.classes (classes_of check)) result → Makes (λ check. IsAccepted classes (classes_of check)) result
linked_makes classes linked result is makes =
    makes_as (λ check. IsTypeChecked linked.classes (classes_of check)) (λ check. IsAccepted classes (classes_of check)) result
    (λ check h. subst (λ cs. IsAccepted cs (classes_of check)) is
    (subst (λ found. Behind (unless_fault found LinkRefused linked.classes) IsTypeChecked (classes_of check)) (sym linked.faultless) h)) makes

-- the classes of a set that was loaded
pub classes_make : (named : NamedClass) (set : Loaded) (classes these : List Class) (result : Result Verified Ending) → set ≡ Classes classes → these ≡ classes
    → Makes (λ check. IsAccepted these (classes_of check)) result → Makes (λ check. IsAcceptedLoaded named set (classes_of check)) result
classes_make named set classes these result is same makes =
    makes_as (λ check. IsAccepted these (classes_of check)) (λ check. IsAcceptedLoaded named set (classes_of check)) result
    (λ check h. subst (λ s. IsAcceptedLoaded named s (classes_of check)) (sym is) (subst (λ cs. IsAccepted cs (classes_of check)) same h)) makes

-- a set that was loaded is that of its name
pub set_gives : (named : NamedClass) (text : List ℕ) (shelf now : Seen Files) (set : Loaded) (result : Result Verified Ending) → text ≡ named.name
    → IsLoaded shelf.told text set → SameFiles shelf.told now.told → now.faults ≡ shelf.faults
    → Makes (λ check. IsAcceptedLoaded named set (classes_of check)) result
    → Gives (λ files check. IsAcceptedSet named files (classes_of check)) shelf now result
set_gives named text shelf now set result is l same sound makes =
    makes_over (λ files. set ≡ class_set files named.name) (λ check. IsAcceptedLoaded named set (classes_of check))
    (λ files check. IsAcceptedSet named files (classes_of check)) shelf now result
    (record { files = l.files; agree = l.agree; same = (same, sound); is = l.is ∙ ap (class_set l.files) is })
    (λ files check e h. subst (λ s. IsAcceptedLoaded named s (classes_of check)) e h) makes
