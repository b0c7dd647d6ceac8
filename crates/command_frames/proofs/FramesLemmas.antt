-- From a set of classes to its files with tables of frames, stage by stage.
use Rattle.std.proofs.Common.{◌≡◌, ◌∙◌, ℕ, suc, true, List, [], ◌∷◌, Option, Some, None, Result, Ok, Err, length, map, refl, sym, ap, subst, inr}
use Rattle.std.specs.Prelude.{IfErr, IfOk}
use Rattle.std.proofs.lemmas.List.{length-map}
use Rattle.nv_outside.specs.Files.{AgreeWith, Files}
use Rattle.class_definition.specs.declared.link_fault.LinkFault.{LinkFault}
use Rattle.class_definition.specs.declared.class.Class.{Class}
use Rattle.class_definition.specs.declared.framed_class.FramedClass.{FramedClass}
use Rattle.class_definition.specs.LinkFault.{link_fault}
use Rattle.stackmap_laws.specs.Framed.{AreFramedFrom}
use Rattle.stackmap_maker.specs.Refusals.{class_without_tables}
use Rattle.class_sets.specs.declared.loaded.Loaded.{Loaded}
use Rattle.class_sets.specs.declared.loaded.Loaded.TheVariants as loaded
use Rattle.class_sets.specs.NamedSets.{IsNamedSet, named_set}
use Rattle.class_sets.specs.Plain.{loaded_of, loaded_names}
use Rattle.class_sets.specs.NamedKept.{IsKeptSet}
use Rattle.class_sets.specs.declared.named_set.NamedSet.{NamedSet}
use Rattle.class_sets.specs.declared.named_set.NamedSet.TheVariants.{NoFile, Faulty, Classes}
use Rattle.class_sets.specs.declared.version.Version.TheVariants.{V48}
use Rattle.class_sets.proofs.PlainLaws.{plain-set}
use Rattle.command_words.specs.declared.named_class.NamedClass.{NamedClass}
use Rattle.command_deeds.specs.declared.done.Done.TheVariants.{LinkRefused}
use Rattle.command_deeds.specs.Checks.{Behind, Check, after_check, unless_fault}
use Rattle.command_deeds.specs.Deeds.{Deed}
use Rattle.command_deeds.specs.Ends.{CommandAnswer, Comes, Due, MakesEnd, Over, Works, answers}
use Rattle.command_deeds.specs.World.{OnlyShelf, World}
use Rattle.command_deeds.specs.declared.stop.Stop.{Stop}
use Rattle.command_deeds.proofs.DeedLemmas.{gives_then, makes_end_as}
use Rattle.command_guest.specs.Classes.{IsAcceptedLoaded, IsTypeChecked, link_checked, set_loaded, set_named}
use Rattle.command_frames.specs.Frames.{AreFilesOfSet, AreFilesOf, AreWritten, IsDueOfFrames, IsFramedBehind, IsFramedLoaded, IsFramedTo, stored_and_counted}

-- ---- the set

abbrev same-ok : {A E : Type 0} (x : Result A E) → Type 0
same-ok (Ok a) = Unit {0}
same-ok (Err e) = ⊥

ok-err : {A E : Type 0} (a : A) (e : E) → Ok a ≡ Err e → ⊥
ok-err a e is = subst same-ok is tt

-- classes that were accepted are those of the set
linked-same : (cs vs : List Class) (fault : Option LinkFault) → Behind (unless_fault fault LinkRefused cs) IsTypeChecked (Ok vs) → vs ≡ cs
linked-same cs vs None h = h.0
linked-same cs vs (Some fault) h = absurd (ok-err vs _ h)

pub names-count : (named : NamedClass) (set : NamedSet) (vs : List Class) → IsKeptSet V48 set → IsAcceptedLoaded named (loaded_of set) (Ok vs) → length (loaded_names set) ≡ length vs
names-count named NoFile vs kept h = absurd (ok-err vs _ h)
names-count named (Faulty number fault) vs kept h = absurd (ok-err vs _ h)
names-count named (Classes m) vs kept h = kept.named ∙ ap length (sym (linked-same m.classes vs (link_fault m.classes) h))

framed-as-many : (cs : List Class) (number : ℕ) (xs ys : List Class) → AreFramedFrom cs number xs ys → length ys ≡ length xs
framed-as-many cs number [] [] f = refl
framed-as-many cs number [] (y ∷ ys) f = absurd f
framed-as-many cs number (x ∷ xs) [] f = absurd f
framed-as-many cs number (x ∷ xs) (y ∷ ys) f = ap suc (framed-as-many cs (suc number) xs ys f.1)

-- as many names as classes with tables
pub names-as-many : (named : NamedClass) (set : NamedSet) (plain : Loaded) (vs : List Class) (names slice : List (List ℕ)) (framed : List FramedClass) → plain ≡ loaded_of set → IsKeptSet V48 set → IsAcceptedLoaded named plain (Ok vs) → names ≡ loaded_names set → slice ≡ names → IsFramedTo vs (Ok framed) → length slice ≡ length framed
names-as-many named set plain vs names slice framed is kept accepted names-are same f =
    ap length (same ∙ names-are)
    ∙ (names-count named set vs kept (subst (λ l. IsAcceptedLoaded named l (Ok vs)) is accepted)
    ∙ (sym (framed-as-many vs 0 vs (map class_without_tables framed) f.0.are) ∙ length-map framed class_without_tables))

-- ---- stages that refused, or passed

behind-verified : (linked : Check (List Class)) (check : Check (List FramedClass)) → IsFramedBehind linked check → (classes : Check (List Class)) × Behind linked IsTypeChecked classes × Behind classes IsFramedTo check
behind-verified (Ok cs) check h = (h.typed, h.typed_is, h.framed)
behind-verified (Err answer) check h = (Err answer, refl, h)

typed-framed : (linked typed : Check (List Class)) (framed : List FramedClass) → Behind linked IsTypeChecked typed → Behind typed IsFramedTo (Ok framed) → (cs : List Class) × Behind linked IsTypeChecked (Ok cs) × IsFramedTo cs (Ok framed)
typed-framed linked (Ok cs) framed t f = (cs, t, f)
typed-framed linked (Err answer) framed t f = absurd (ok-err framed answer f)

-- the classes that got tables were accepted
pub loaded-framed : (named : NamedClass) (plain : Loaded) (framed : List FramedClass) → IsFramedLoaded named plain (Ok framed) → (cs : List Class) × IsAcceptedLoaded named plain (Ok cs) × IsFramedTo cs (Ok framed)
loaded-framed named plain framed h =
    let linked = after_check (set_loaded named plain) link_checked in
    let b = behind-verified linked (Ok framed) h in
    typed-framed linked b.0 framed b.1 b.2

pub tables-refused : (named : NamedClass) (set : NamedSet) (plain : Loaded) (end : Result CommandAnswer Stop) → plain ≡ loaded_of set → MakesEnd (λ answer. IsFramedLoaded named plain (Err answer)) end → MakesEnd (λ answer. AreFilesOfSet named set (Err answer)) end
tables-refused named set plain end is makes =
    makes_end_as (λ answer. IsFramedLoaded named plain (Err answer)) (λ answer. AreFilesOfSet named set (Err answer)) end
    (λ answer h.
    let b = behind-verified (after_check (set_loaded named plain) link_checked) (Err answer) h in
    record {
      classes = b.0;
      accepted = subst (λ l. IsAcceptedLoaded named l b.0) is b.1;
      framed = Err answer;
      framed_is = b.2;
      written = refl;
    }) makes

pub all-written : (named : NamedClass) (set : NamedSet) (plain : Loaded) (cs : List Class) (framed : List FramedClass) (names : List (List ℕ)) (deeds : List Deed) → plain ≡ loaded_of set → IsAcceptedLoaded named plain (Ok cs) → IsFramedTo cs (Ok framed) → names ≡ loaded_names set → AreWritten names framed deeds → AreFilesOfSet named set (Ok deeds)
all-written named set plain cs framed names deeds is accepted f names-are w = record {
  classes = Ok cs;
  accepted = subst (λ l. IsAcceptedLoaded named l (Ok cs)) is accepted;
  framed = Ok framed;
  framed_is = f;
  written = subst (λ ns. AreWritten ns framed deeds) names-are w;
}

-- ---- the command

pub frames-due : (class : NamedClass) (w : World) (files : Files) (deeds : Check (List Deed)) (due : Due) → AgreeWith w.shelf.told files → AreFilesOf class files deeds → IfErr deeds (λ answer. due ≡ answers answer) → IfOk deeds (λ stored. due ≡ stored_and_counted stored) → IsDueOfFrames class w due
frames-due class w files deeds due agree h refused done = record {
  files = files;
  agree = agree;
  set = set_named files class;
  set_is = refl;
  linked = after_check (set_named files class) link_checked;
  linked_is = refl;
  classes = h.classes;
  classes_are = subst (λ l. Behind (after_check (set_loaded class l) link_checked) IsTypeChecked h.classes) (plain-set files class.name) h.accepted;
  framed = h.framed;
  framed_is = h.framed_is;
  deeds = deeds;
  deeds_are = h.written;
  refused = refused;
  done = done;
}

pub frames-come : (class : NamedClass) (deeds : List Deed) (w u v : World) (end : Result CommandAnswer Stop) → Over (λ files. AreFilesOf class files (Ok deeds)) w.shelf u.shelf → OnlyShelf w u → Works (stored_and_counted deeds) u v end → Comes true (IsDueOfFrames class) w v end
frames-come class deeds w u v end gives only works =
    gives_then (IsDueOfFrames class) (λ x due. due ≡ stored_and_counted deeds) (λ files. AreFilesOf class files (Ok deeds)) w u v end gives only
    (λ files due agree h later. frames-due class w files (Ok deeds) due agree h tt later) (inr (stored_and_counted deeds, refl, works))
