-- From classes that were loaded to such with tables of frames.
use Rattle.std.proofs.Common.{◌≡◌, List, Some, Result, Ok, Err, Vec, refl, sym, subst}
use Rattle.std.specs.declared.alloc.Global.{Global}
use Rattle.class_definition.specs.declared.link_fault.LinkFault.{LinkFault}
use Rattle.class_definition.specs.declared.class.Class.{Class}
use Rattle.class_definition.specs.declared.framed_class.FramedClass.{FramedClass}
use Rattle.class_definition.specs.LinkFault.{link_fault}
use Rattle.jvm_link.specs.declared.linked.Linked.{Linked}
use Rattle.class_sets.specs.declared.loaded.Loaded.{Loaded}
use Rattle.class_sets.specs.declared.loaded.Loaded.TheVariants.{Classes}
use Rattle.command_words.specs.declared.named_class.NamedClass.{NamedClass}
use Rattle.command_deeds.specs.declared.done.Done.TheVariants.{LinkRefused}
use Rattle.command_deeds.specs.declared.ending.Ending.{Ending}
use Rattle.command_deeds.specs.declared.stop.Stop.{Stop}
use Rattle.command_deeds.specs.Checks.{unless_fault}
use Rattle.command_deeds.specs.Ends.{CommandAnswer, Makes, MakesEnd, says}
use Rattle.command_deeds.proofs.DeedLemmas.{makes_as, makes_end_as}
use Rattle.command_guest.specs.Classes.{IsTypeChecked, link_checked}
use Rattle.command_frames.specs.Frames.{IsFramedBehind, IsFramedLoaded, IsFramedTo, framed_of}

abbrev pub MadeFramed : Type 0
MadeFramed = Result (Vec FramedClass Global) Ending

-- classes that are not typed
pub untyped-refused : (classes : List Class) (end : Result CommandAnswer Stop) → MakesEnd (λ answer. IsTypeChecked classes (Err answer)) end → MakesEnd (λ answer. IsFramedBehind (Ok classes) (Err answer)) end
untyped-refused classes end makes =
    makes_end_as (λ answer. IsTypeChecked classes (Err answer)) (λ answer. IsFramedBehind (Ok classes) (Err answer)) end
    (λ answer h. record { typed = Err answer; typed_is = h; framed = refl }) makes

-- typed classes get tables, or why they get none
pub typed-makes : (classes typed : List Class) (result : MadeFramed) → IsTypeChecked classes (Ok typed) → Makes (λ check. IsFramedTo typed (framed_of check)) result → Makes (λ check. IsFramedBehind (Ok classes) (framed_of check)) result
typed-makes classes typed result is makes =
    makes_as (λ check. IsFramedTo typed (framed_of check)) (λ check. IsFramedBehind (Ok classes) (framed_of check)) result
    (λ check h. record { typed = Ok typed; typed_is = is; framed = h }) makes

-- classes that link
pub linked-makes : (classes : List Class) (linked : Linked) (result : MadeFramed) → linked.classes ≡ classes → Makes (λ check. IsFramedBehind (Ok linked.classes) (framed_of check)) result → Makes (λ check. IsFramedBehind (link_checked classes) (framed_of check)) result
linked-makes classes linked result is makes =
    makes_as (λ check. IsFramedBehind (Ok linked.classes) (framed_of check)) (λ check. IsFramedBehind (link_checked classes) (framed_of check)) result
    (λ check h. subst (λ cs. IsFramedBehind (link_checked cs) (framed_of check)) is
    (subst (λ found. IsFramedBehind (unless_fault found LinkRefused linked.classes) (framed_of check)) (sym linked.faultless) h)) makes

-- classes that do not link
pub link-refused : (classes : List Class) (fault : LinkFault) → link_fault classes ≡ Some fault → IsFramedBehind (link_checked classes) (Err (says (LinkRefused fault)))
link-refused classes fault e =
    subst (λ found. IsFramedBehind (unless_fault found LinkRefused classes) (Err (says (LinkRefused fault)))) (sym e) refl

-- the classes of a set that was loaded
pub loaded-makes : (named : NamedClass) (set : Loaded) (classes these : List Class) (result : MadeFramed) → set ≡ Classes classes → these ≡ classes → Makes (λ check. IsFramedBehind (link_checked these) (framed_of check)) result → Makes (λ check. IsFramedLoaded named set (framed_of check)) result
loaded-makes named set classes these result is same makes =
    makes_as (λ check. IsFramedBehind (link_checked these) (framed_of check)) (λ check. IsFramedLoaded named set (framed_of check)) result
    (λ check h. subst (λ s. IsFramedLoaded named s (framed_of check)) (sym is) (subst (λ cs. IsFramedBehind (link_checked cs) (framed_of check)) same h)) makes
