-- What `frames` and `check` are to do with a set, one behind the other.
use Rattle.std.proofs.Common.{◌≡◌, ◌∙◌, ℕ, inl, inr, List, [], ◌∷◌, Some, Ok, Err, codes, length, refl, sym, ap, ap₂, subst}
use Rattle.std.specs.Prelude.{IfErr, IfOk, decimal}
use Rattle.std.proofs.lemmas.Option.{same_Some}
use Rattle.std.proofs.lemmas.Slice.Zip.{AllZip-long}
use Rattle.nv_outside.specs.Files.{AgreeWith, Files}
use Rattle.class_definition.specs.declared.class.Class.{Class}
use Rattle.class_definition.specs.Linking.{linked_methods}
use Rattle.stackmap_laws.specs.Framed.{AreFramed}
use Rattle.stackmap_laws.proofs.ClassLaws.{AllFit}
use Rattle.stackmap_laws.proofs.FramedLaws.{like, zipped}
use Rattle.stackmap_laws.proofs.ProgramLaws.{AreLinked}
use Rattle.stackmap_maker.proofs.TableSteps.{framed-count}
use Rattle.class_sets.specs.ClassSets.{class_set}
use Rattle.class_sets.specs.NamedSets.{named_set}
use Rattle.class_sets.specs.Plain.{loaded_names, loaded_of}
use Rattle.class_sets.specs.declared.loaded.Loaded.TheVariants as loaded
use Rattle.class_sets.specs.declared.version.Version.TheVariants.{V48}
use Rattle.class_sets.proofs.PlainLaws.{plain-set}
use Rattle.command_words.specs.declared.named_class.NamedClass.{NamedClass}
use Rattle.command_deeds.specs.Checks.{Behind, Check, after_check}
use Rattle.command_deeds.specs.Deeds.{Deed, prints}
use Rattle.command_deeds.specs.Ends.{CommandAnswer, Due, answers, says}
use Rattle.command_deeds.specs.Line.{pieces_joined}
use Rattle.command_deeds.specs.World.{World}
use Rattle.command_deeds.specs.declared.done.Done.TheVariants.{Good}
use Rattle.command_guest.specs.Classes.{IsTypeChecked, classes_counted, link_checked, set_loaded}
use Rattle.command_frames.specs.Check.{IsCheckedFrom, IsTableChecked, members_link, named_members}
use Rattle.command_frames.specs.Frames.{AreFilesOf, AreWrittenTo, IsDueOfFrames, stored_and_counted}
use Rattle.command_frames_laws.specs.Counted.{IsCounted, StandIn, StoresSet}
use Rattle.command_frames_laws.specs.StoredSets.{AreStored, HoldBytes}
use Rattle.command_frames_laws.proofs.RefusingLemmas.{frames-refuses}
use Rattle.command_frames_laws.proofs.StoredLemmas.{IsOfMembers, PassesWith, are-framed, fit, have-stored, left-stored, of-members, passes-with}

-- ---- `frames`

-- the files of its set
frames-files : (class : NamedClass) (w : World) (due : Due) (files : Files) (deeds : List Deed) (d : IsDueOfFrames class w due) → d.files ≡ files → d.deeds ≡ Ok deeds → AreFilesOf class files (Ok deeds)
frames-files class w due files deeds d agreed is = subst (λ fs. AreFilesOf class fs (Ok deeds)) agreed (record {
  classes = d.classes;
  accepted =
      subst (λ l. Behind (after_check (set_loaded class l) link_checked) IsTypeChecked d.classes) (sym (plain-set d.files class.name))
      (subst (λ l. Behind l IsTypeChecked d.classes) (d.linked_is ∙ ap (λ s. after_check s link_checked) d.set_is) d.classes_are);
  framed = d.framed;
  framed_is = d.framed_is;
  written = subst (Behind d.framed (AreWrittenTo (loaded_names (named_set V48 d.files class.name)))) is d.deeds_are;
})

-- the set of these files
stores-set : (class : NamedClass) (w : World) (due : Due) (files : Files) (deeds : List Deed) → AreFilesOf class files (Ok deeds) → due ≡ stored_and_counted deeds → StoresSet class files due
stores-set class w due files deeds are is =
    let o = of-members class (named_set V48 files class.name) deeds are in
    record {
      classes = o.members.classes;
      loaded = sym (plain-set files class.name) ∙ ap loaded_of o.is;
      deeds = deeds;
      are = are;
      is = is;
    }

pub frames-stores : (class : NamedClass) (files : Files) (w : World) (due : Due) → w.shelf.told ≡ Some files → (answer : CommandAnswer) → IsDueOfFrames class w due → due.answer ≡ Some answer → answer.done ≡ Good → StoresSet class files due
frames-stores class files w due told said d is-said good = by d.deeds refl d.refused d.done
  where
    linked : d.linked ≡ after_check (set_loaded class (class_set d.files class.name)) link_checked
    linked = d.linked_is ∙ ap (λ s. after_check s link_checked) d.set_is

    refused : (answer : CommandAnswer) → d.deeds ≡ Err answer → due ≡ answers answer → ⊥
    refused answer is so =
        frames-refuses class (class_set d.files class.name) _ d.classes d.framed d.deeds
        (subst (λ l. Behind l IsTypeChecked d.classes) linked d.classes_are) d.framed_is d.deeds_are answer is
        (ap (λ (a : CommandAnswer). a.done) (same_Some answer said (sym (ap (λ (x : Due). x.answer) so) ∙ is-said)) ∙ good)

    by : (deeds : Check (List Deed)) → d.deeds ≡ deeds → IfErr deeds (λ answer. due ≡ answers answer) → IfOk deeds (λ stored. due ≡ stored_and_counted stored) → StoresSet class files due
    by (Ok deeds) is none so =
        stores-set class w due files deeds (frames-files class w due files deeds d (subst (λ t. AgreeWith t d.files) told d.agree) is) so
    by (Err answer) is so none = absurd (refused answer is so)

-- ---- as many classes and methods

counted-same : (cs ds : List Class) → length ds ≡ length cs → length (linked_methods ds) ≡ length (linked_methods cs) → classes_counted ds ≡ classes_counted cs
counted-same cs ds classes methods =
    ap₂ (λ (c m : ℕ). record {
      deeds = prints (pieces_joined (codes "classes " ∷ decimal c ∷ codes " methods " ∷ decimal m ∷ codes "\n" ∷ [])) ∷ [];
      answer = Some (says Good);
    }) classes methods

framed-counted : (cs ds : List Class) → AllFit cs → AreFramed cs ds → classes_counted ds ≡ classes_counted cs
framed-counted cs ds kept are =
    counted-same cs ds (framed-count cs 0 cs ds are)
    (AllZip-long (AreLinked cs ds (like cs ds kept are)) (linked_methods cs) (linked_methods ds) (zipped cs ds kept are))

-- ---- `check`

check-counts : (class : NamedClass) (files : Files) (classes : List Class) → PassesWith class files classes → IsCounted class files classes
check-counts class files classes p w due told d =
    let agreed : d.files ≡ files = subst (λ t. AgreeWith t d.files) told d.agree in
    let linked : d.linked ≡ after_check (named_members files class) members_link =
    d.linked_is ∙ ap (λ s. after_check s members_link) (d.set_is ∙ ap (λ fs. named_members fs class) agreed) in
    let checked : IsCheckedFrom class files d.classes = subst (λ l. Behind l IsTableChecked d.classes) linked d.classes_are in
    subst (λ c. IfOk c (λ accepted. due ≡ classes_counted accepted)) (p.only d.classes checked) d.done

stored-counts : (class : NamedClass) (files later : Files) (deeds : List Deed) (bytes : HoldBytes files) (o : IsOfMembers (named_set V48 files class.name) deeds) → AreStored files o.members o.stored.stored later → IsCounted class later o.members.classes
stored-counts class files later deeds bytes o s w due told d =
    check-counts class later _ (passes-with class files later deeds bytes o s) w due told d
    ∙ framed-counted o.members.classes _ (fit class files later deeds bytes o) (are-framed class files later deeds bytes o)

stand-stored : (class : NamedClass) (files later : Files) (deeds : List Deed) (bytes : HoldBytes files) (o : IsOfMembers (named_set V48 files class.name) deeds) → StandIn files deeds later → AreStored files o.members o.stored.stored later
stand-stored class files later deeds bytes o (inl leave) = left-stored class files later deeds bytes o leave
stand-stored class files later deeds bytes o (inr have) = have-stored class files later deeds bytes o have

pub later-counts : (class : NamedClass) (files later : Files) (due : Due) (s : StoresSet class files due) → HoldBytes files → StandIn files s.deeds later → IsCounted class later s.classes
later-counts class files later due s bytes stand =
    let o = of-members class (named_set V48 files class.name) s.deeds s.are in
    let same : o.members.classes ≡ s.classes = by (sym (ap loaded_of o.is) ∙ plain-set files class.name ∙ s.loaded) in
    subst (IsCounted class later) same (stored-counts class files later s.deeds bytes o (stand-stored class files later s.deeds bytes o stand))
  where
    by : {cs ds : List Class} → loaded.Classes cs ≡ loaded.Classes ds → cs ≡ ds
    by e = cc
