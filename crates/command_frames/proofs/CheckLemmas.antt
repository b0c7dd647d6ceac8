-- From a set of classes of version 51.0 to what its tables come to, stage by stage.
use Rattle.std.proofs.Common.{◌≡◌, ◌∙◌, ℕ, List, Option, Some, None, Result, Ok, Err, length, refl, sym, ap, subst}
use Rattle.std.specs.Prelude.{IfErr, IfOk}
use Rattle.nv_outside.specs.Files.{AgreeWith, Files, SameFiles}
use Rattle.class_definition.specs.declared.link_fault.LinkFault.{LinkFault}
use Rattle.class_definition.specs.declared.class.Class.{Class}
use Rattle.class_definition.specs.LinkFault.{link_fault}
use Rattle.jvm_link.specs.declared.linked.Linked.{Linked}
use Rattle.frame_maps.specs.Checked.{HaveTables}
use Rattle.class_sets.specs.NamedSets.{IsNamedSet, named_set}
use Rattle.class_sets.specs.NamedKept.{AreKept}
use Rattle.class_sets.specs.declared.members.Members.{Members}
use Rattle.class_sets.specs.declared.named_set.NamedSet.{NamedSet}
use Rattle.class_sets.specs.declared.named_set.NamedSet.TheVariants.{Classes}
use Rattle.class_sets.specs.declared.version.Version.{Version}
use Rattle.class_sets.specs.declared.version.Version.TheVariants.{V51}
use Rattle.class_sets.proofs.KeptLaws.{lists-kept, list-kept}
use Rattle.command_words.specs.declared.named_class.NamedClass.{NamedClass}
use Rattle.command_deeds.proofs.DeedLemmas.{makes_as, makes_over}
use Rattle.command_deeds.specs.Checks.{Behind, Check, after_check, unless_fault}
use Rattle.command_deeds.specs.Ends.{Due, Gives, Makes, answers, says}
use Rattle.command_deeds.specs.World.{Seen, World}
use Rattle.command_deeds.specs.declared.done.Done.TheVariants.{LinkRefused}
use Rattle.command_deeds.specs.declared.ending.Ending.{Ending}
use Rattle.command_guest.specs.Classes.{classes_counted}
use Rattle.command_frames.specs.Check.{IsCheckedFrom, IsCheckedLoaded, IsDueOfCheck, IsFrameChecked, IsLinkChecked, IsTableChecked, classes_of, members_link, named_members}

-- a list of tables for each class, and in it one for each method
pub tables-kept : (m : Members) (classes : List Class) (tables : List (List (List ℕ))) → AreKept V51 m → classes ≡ m.classes → tables ≡ m.tables → HaveTables classes tables
tables-kept m classes tables kept same are =
    subst (λ cs. HaveTables cs tables) (sym same) (subst (HaveTables m.classes) (sym are) (record {
      lists = lists-kept m kept;
      each = λ k c is. list-kept m kept k c is;
    }))

-- classes that do not link
pub link-refused : (m : Members) (classes : List Class) (fault : LinkFault) → classes ≡ m.classes → link_fault classes ≡ Some fault → IsLinkChecked m (Err (says (LinkRefused fault)))
link-refused m classes fault same e =
    subst (λ found. Behind (unless_fault found LinkRefused m) IsTableChecked (Err (says (LinkRefused fault)))) (sym (ap link_fault (sym same) ∙ e)) refl

-- classes that link, and were checked or not
pub linked-makes : (m : Members) (tables : List (List (List ℕ))) (linked : Linked) (result : Result Linked Ending) → linked.classes ≡ m.classes → tables ≡ m.tables → Makes (λ check. IsFrameChecked linked.classes tables (classes_of check)) result → Makes (λ check. IsLinkChecked m (classes_of check)) result
linked-makes m tables linked result same are makes =
    makes_as (λ check. IsFrameChecked linked.classes tables (classes_of check)) (λ check. IsLinkChecked m (classes_of check)) result
    (λ check h.
    let none : link_fault m.classes ≡ None = ap link_fault (sym same) ∙ linked.faultless in
    subst (λ found. Behind (unless_fault found LinkRefused m) IsTableChecked (classes_of check)) (sym none)
    (subst (λ cs. IsFrameChecked cs m.tables (classes_of check)) same (subst (λ ts. IsFrameChecked linked.classes ts (classes_of check)) are h))) makes

-- the classes of a set that was loaded
pub members-make : (named : NamedClass) (set : NamedSet) (m : Members) (result : Result Linked Ending) → set ≡ Classes m → Makes (λ check. IsLinkChecked m (classes_of check)) result → Makes (λ check. IsCheckedLoaded named set (classes_of check)) result
members-make named set m result is makes =
    makes_as (λ check. IsLinkChecked m (classes_of check)) (λ check. IsCheckedLoaded named set (classes_of check)) result
    (λ check h. subst (λ s. IsCheckedLoaded named s (classes_of check)) (sym is) h) makes

-- a stage behind a set that was loaded is one behind that of its name
pub set-gives : {A : Type 0} (IsMade : NamedSet → Check A → Type 0) (version : Version) (named : NamedClass) (text : List ℕ) (shelf now : Seen Files) (set : NamedSet) (result : Result A Ending) → text ≡ named.name → IsNamedSet version shelf.told text set → SameFiles shelf.told now.told → now.faults ≡ shelf.faults → Makes (IsMade set) result → Gives (λ files check. IsMade (named_set version files named.name) check) shelf now result
set-gives IsMade version named text shelf now set result is l same sound makes =
    makes_over (λ files. set ≡ named_set version files named.name) (IsMade set) (λ files check. IsMade (named_set version files named.name) check) shelf now result
    (record { files = l.files; agree = l.agree; same = (same, sound); is = l.is ∙ ap (named_set version l.files) is })
    (λ files check e h. subst (λ s. IsMade s check) e h) makes

pub check-due : (class : NamedClass) (w : World) (files : Files) (classes : Check (List Class)) (due : Due) → AgreeWith w.shelf.told files → IsCheckedFrom class files classes → IfErr classes (λ answer. due ≡ answers answer) → IfOk classes (λ checked. due ≡ classes_counted checked) → IsDueOfCheck class w due
check-due class w files classes due agree h refused done = record {
  files = files;
  agree = agree;
  set = named_members files class;
  set_is = refl;
  linked = after_check (named_members files class) members_link;
  linked_is = refl;
  classes = classes;
  classes_are = h;
  refused = refused;
  done = done;
}
