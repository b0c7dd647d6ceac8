-- The set of the files that `frames` stored passes `check`.
use Rattle.std.proofs.Common.{◌≡◌, ◌∙◌, ℕ, suc, ◌+◌, inl, inr, List, [], ◌∷◌, length, map, Option, Some, None, Result, Ok, Err, refl, sym, ap, subst, arith}
use Rattle.std.specs.Prelude.{All, flat_map, slice_index_or}
use Rattle.std.specs.List.{AllByRecursion, AllZip}
use Rattle.std.proofs.lemmas.List.{length-map}
use Rattle.std.proofs.lemmas.List.Elements.{recursion_from_All}
use Rattle.std.proofs.lemmas.Option.{none-some, same_Some}
use Rattle.nv_outside.specs.Files.{Files}
use Rattle.class_definition.specs.declared.link_fault.LinkFault.{LinkFault}
use Rattle.class_definition.specs.declared.entry.Entry.{Entry}
use Rattle.class_definition.specs.declared.class.Class.{Class}
use Rattle.jvm_definition.specs.declared.linked_method.LinkedMethod.{LinkedMethod}
use Rattle.jvm_definition.specs.Program.{Program}
use Rattle.class_definition.specs.Linking.{linked_method, program_of}
use Rattle.class_definition.specs.declared.framed_class.FramedClass.{FramedClass}
use Rattle.class_definition.specs.FramedClassFile.{SpellsFramed}
use Rattle.class_definition.specs.LinkFault.{link_fault}
use Rattle.type_verifier.specs.Typings.{listed_frames}
use Rattle.frame_maps.specs.Checked.{AreTyped, Fails, IsCheckRefusal, IsTyped}
use Rattle.frame_maps.specs.Framed.{Framed}
use Rattle.frame_maps.specs.declared.frame_error.FrameError.{FrameError}
use Rattle.frame_maps.specs.declared.frame_error.FrameError.TheVariants.{Refused, TooLarge, NoMemory}
use Rattle.class_names.specs.Kept.{IsClass}
use Rattle.stackmap_laws.proofs.ClassLaws.{AllFit}
use Rattle.stackmap_laws.specs.Framed.{AreFramed}
use Rattle.stackmap_laws.proofs.FramedLaws.{are-typed, fit-of-all, framed-links, get-of, place-from}
use Rattle.stackmap_maker.specs.Refusals.{AreWithTables, class_without_tables, tables_of}
use Rattle.class_sets.specs.ClassSets.{names_asked}
use Rattle.class_sets.specs.NamedSets.{named_set}
use Rattle.class_sets.specs.declared.members.Members.{Members}
use Rattle.class_sets.specs.declared.named_set.NamedSet.{NamedSet}
use Rattle.class_sets.specs.declared.named_set.NamedSet.TheVariants.{NoFile, Faulty, Classes}
use Rattle.class_sets.specs.declared.version.Version.TheVariants.{V48, V51}
use Rattle.class_sets.proofs.KeptLaws.{classes-kept}
use Rattle.command_frames_laws.specs.StoredSets.{AllSet, AreStored, HoldBytes, IsFile, framed_members}
use Rattle.command_frames_laws.proofs.AloneLaws.{stored-alone}
use Rattle.command_frames_laws.proofs.ApartLaws.{set-stored}
use Rattle.command_frames_laws.proofs.ReadLaws.{members-kept}
use Rattle.command_frames_laws.proofs.SetLaws.{stored-loaded}
use Rattle.command_words.specs.declared.named_class.NamedClass.{NamedClass}
use Rattle.command_deeds.specs.Checks.{Behind, Check, unless_fault}
use Rattle.command_deeds.specs.Deeds.{Deed}
use Rattle.command_deeds.specs.Ends.{CommandAnswer}
use Rattle.command_deeds.specs.declared.done.Done.TheVariants.{LinkRefused}
use Rattle.command_guest.specs.Classes.{IsTypeChecked}
use Rattle.command_frames.specs.Check.{IsCheckedFrom, IsCheckedLoaded, IsFrameChecked, IsTableChecked}
use Rattle.command_frames.specs.Frames.{AreFilesOf, AreFilesOfSet, AreWrittenTo, IsFramedTo, all_stored}
use Rattle.command_frames_laws.specs.Stored.{HasOwnNames, HaveStored, IsStoredIn, Leave, Passes}
use Rattle.command_frames.specs.Told.{IsTold}
use Rattle.stackmap_maker.proofs.TableSteps.{framed-count}

abbrev is-ok : {A E : Type 0} (x : Result A E) → Type 0
is-ok (Ok a) = Unit {0}
is-ok (Err e) = ⊥

ok-err : {A E : Type 0} (a : A) (e : E) → Ok a ≡ Err e → ⊥
ok-err a e is = subst is-ok is tt

-- ---- classes that are typed by their tables are at no fault

typed-fails : (program : Program) (entries : List Entry) (method : LinkedMethod) (table : List ℕ) (kind : ℕ) → IsTyped program entries method table → Fails program entries method table kind → ⊥
typed-fails program entries method table kind t (inl f) = none-some t.listed (sym f.1 ∙ t.is)
typed-fails program entries method table kind t (inr f) =
    f.1.fails (subst (λ listed. Framed program method (listed_frames listed)) (same_Some t.listed f.1.listed (sym t.is ∙ f.1.is)) t.framed)

not-told : (cs : List Class) (tables : List (List (List ℕ))) (error : FrameError) (answer : CommandAnswer) → AreTyped cs tables → IsCheckRefusal cs tables error → IsTold error answer → ⊥
not-told cs tables (Refused fault) answer typed h told =
    let m = get-of h.class.methods fault.method h.within in
    let method = linked_method cs (0 + fault.class) h.class m.0 in
    let place = place-from cs 0 cs fault.class h.class fault.method m.0 h.class_is m.1 in
    typed-fails (program_of cs) h.class.pool method _ fault.kind (typed fault.class h.class h.class_is fault.method h.within method place) (h.fails method place)
not-told cs tables (TooLarge class bytes) answer typed h told = h
not-told cs tables NoMemory answer typed h told = told

only-passed : (cs : List Class) (tables : List (List (List ℕ))) (check : Check (List Class)) → AreTyped cs tables → IsFrameChecked cs tables check → check ≡ Ok cs
only-passed cs tables (Ok checked) typed h = ap (λ x. Ok x) h.0
only-passed cs tables (Err answer) typed h = absurd (not-told cs tables h.0 answer typed h.1 h.2)

-- ---- a set that passes

members-pass : (class : NamedClass) (m : Members) (fault : Option LinkFault) → fault ≡ None → AreTyped m.classes m.tables → (check : Check (List Class)) → Behind (unless_fault fault LinkRefused m) IsTableChecked check → check ≡ Ok m.classes
members-pass class m None none typed check h = only-passed m.classes m.tables check typed h
members-pass class m (Some fault) none typed check h = absurd (none-some fault (sym none))

-- the set of a class passes with these classes, and there is no other result
pub record PassesWith (class : NamedClass) (files : Files) (classes : List Class) : Type 0 where
  pub passed : IsCheckedFrom class files (Ok classes)
  pub only : (check : Check (List Class)) → IsCheckedFrom class files check → check ≡ Ok classes

set-passes : (class : NamedClass) (files : Files) (m : Members) → named_set V51 files class.name ≡ Classes m → link_fault m.classes ≡ None → AreTyped m.classes m.tables → PassesWith class files m.classes
set-passes class files m is linked typed = record {
  passed = subst (λ set. IsCheckedLoaded class set (Ok m.classes)) (sym is)
      (subst (λ fault. Behind (unless_fault fault LinkRefused m) IsTableChecked (Ok m.classes)) (sym linked) (refl, typed));
  only = λ check h.
      members-pass class m (link_fault m.classes) linked typed check (subst (λ set. IsCheckedLoaded class set check) is h);
}

some-passes : (class : NamedClass) (files : Files) (classes : List Class) → PassesWith class files classes → Passes class files
some-passes class files classes p = record { classes = classes; passed = p.passed; only = p.only }

-- ---- what was stored

-- the classes of a set with their tables, and their files
pub record IsStoredSet (m : Members) (deeds : List Deed) : Type 0 where
  pub linked : link_fault m.classes ≡ None
  pub framed : List FramedClass
  pub with_tables : AreWithTables m.classes framed
  pub stored : List (List ℕ)
  pub spelled : AllZip SpellsFramed stored framed
  pub are : deeds ≡ all_stored m.names stored

-- a stage that refused stores nothing
refused-stores : (names : List (List ℕ)) (answer : CommandAnswer) (framed : Check (List FramedClass)) (deeds : List Deed) → framed ≡ Err answer → Behind framed (AreWrittenTo names) (Ok deeds) → ⊥
refused-stores names answer (Ok framed) deeds is h = ok-err framed answer is
refused-stores names answer (Err other) deeds is h = ok-err deeds other h

refused-frames : (names : List (List ℕ)) (answer : CommandAnswer) (classes : Check (List Class)) (framed : Check (List FramedClass)) (deeds : List Deed) → classes ≡ Err answer → Behind classes IsFramedTo framed → Behind framed (AreWrittenTo names) (Ok deeds) → ⊥
refused-frames names answer (Ok classes) framed deeds is f h = ok-err classes answer is
refused-frames names answer (Err other) framed deeds is f h = refused-stores names other framed deeds f h

module _ (m : Members) (deeds : List Deed) where
  framed-stored : (cs : List Class) → cs ≡ m.classes → link_fault m.classes ≡ None → (framed : Check (List FramedClass)) → IsFramedTo cs framed → Behind framed (AreWrittenTo m.names) (Ok deeds) → IsStoredSet m deeds
  framed-stored cs same linked (Ok framed) f h = record {
    linked = linked;
    framed = framed;
    with_tables = subst (λ xs. AreWithTables xs framed) same f.0;
    stored = h.files;
    spelled = h.spelled;
    are = h.are;
  }
  framed-stored cs same linked (Err answer) f h = absurd (ok-err deeds answer h)

  typed-stored : (classes : Check (List Class)) (framed : Check (List FramedClass)) → link_fault m.classes ≡ None → IsTypeChecked m.classes classes → Behind classes IsFramedTo framed → Behind framed (AreWrittenTo m.names) (Ok deeds) → IsStoredSet m deeds
  typed-stored (Ok cs) framed linked t f h = framed-stored cs t.0 linked framed f h
  typed-stored (Err answer) framed linked t f h = absurd (refused-stores m.names answer framed deeds f h)

  linked-stored : (fault : Option LinkFault) → link_fault m.classes ≡ fault → (classes : Check (List Class)) (framed : Check (List FramedClass)) → Behind (unless_fault fault LinkRefused m.classes) IsTypeChecked classes → Behind classes IsFramedTo framed → Behind framed (AreWrittenTo m.names) (Ok deeds) → IsStoredSet m deeds
  linked-stored None is classes framed t f h = typed-stored classes framed is t f h
  linked-stored (Some fault) is classes framed t f h = absurd (refused-frames m.names _ classes framed deeds t f h)

-- what was loaded is a set
pub record IsOfMembers (set : NamedSet) (deeds : List Deed) : Type 0 where
  pub members : Members
  pub is : set ≡ Classes members
  pub stored : IsStoredSet members deeds

pub of-members : (class : NamedClass) (set : NamedSet) (deeds : List Deed) → AreFilesOfSet class set (Ok deeds) → IsOfMembers set deeds
of-members class NoFile deeds h = absurd (refused-frames [] _ h.classes h.framed deeds h.accepted h.framed_is h.written)
of-members class (Faulty number fault) deeds h = absurd (refused-frames [] _ h.classes h.framed deeds h.accepted h.framed_is h.written)
of-members class (Classes m) deeds h = record {
  members = m;
  is = refl;
  stored = linked-stored m deeds (link_fault m.classes) refl h.classes h.framed h.accepted h.framed_is h.written;
}

-- the files of a set that was stored
files-held : (later : Files) (names stored : List (List ℕ)) → length stored ≡ length names → AllByRecursion (IsStoredIn later) (all_stored names stored) → AllZip (IsFile later) names stored
files-held later [] [] same held = tt
files-held later [] (bytes ∷ stored) same held = absurd cc
files-held later (name ∷ names) [] same held = absurd cc
files-held later (name ∷ names) (bytes ∷ stored) same held = (held.0, files-held later names stored (omega (arith, same)) held.1)

files-set : (before after : Files) (names stored : List (List ℕ)) → length stored ≡ length names → Leave before (all_stored names stored) after → AllSet before names stored after
files-set before after [] [] same leave = leave
files-set before after [] (bytes ∷ stored) same leave = absurd cc
files-set before after (name ∷ names) [] same leave = absurd cc
files-set before after (name ∷ names) (bytes ∷ stored) same leave = (leave.0, leave.1, files-set leave.0 after names stored (omega (arith, same)) leave.2)

spelled-length : (stored : List (List ℕ)) (framed : List FramedClass) → AllZip SpellsFramed stored framed → length stored ≡ length framed
spelled-length [] [] z = refl
spelled-length [] (f ∷ framed) z = absurd z
spelled-length (bytes ∷ stored) [] z = absurd z
spelled-length (bytes ∷ stored) (f ∷ framed) z = ap suc (spelled-length stored framed z.1)

module _ (class : NamedClass) (files later : Files) (deeds : List Deed) (bytes : HoldBytes files) (o : IsOfMembers (named_set V48 files class.name) deeds) where
  as-many : length o.stored.stored ≡ length o.members.names
  as-many =
      let kept = members-kept V48 files class.name o.members bytes o.is in
      let framed = o.stored.framed in
      spelled-length o.stored.stored framed o.stored.spelled
      ∙ (sym (length-map framed class_without_tables)
      ∙ (framed-count o.members.classes 0 o.members.classes (map class_without_tables framed) o.stored.with_tables.are ∙ sym kept.named))

  held : All (IsStoredIn later) deeds → AllZip (IsFile later) o.members.names o.stored.stored
  held h =
      files-held later o.members.names o.stored.stored as-many
      (recursion_from_All (IsStoredIn later) (all_stored o.members.names o.stored.stored) (subst (All (IsStoredIn later)) o.stored.are h))

  kept : All IsClass o.members.classes
  kept = classes-kept V48 o.members (members-kept V48 files class.name o.members bytes o.is)

  pub fit : AllFit o.members.classes
  fit = fit-of-all o.members.classes kept

  -- the classes with tables
  abbrev pub with-tables : List Class
  with-tables = map class_without_tables o.stored.framed

  pub are-framed : AreFramed o.members.classes with-tables
  are-framed = o.stored.with_tables.are

  pub passes-with : AreStored files o.members o.stored.stored later → PassesWith class later with-tables
  passes-with s =
      let framed = o.stored.framed in
      set-passes class later (framed_members o.members.names framed)
      (stored-loaded files later class.name o.members framed o.stored.stored o.is kept are-framed o.stored.spelled s)
      (framed-links o.members.classes with-tables fit are-framed o.stored.linked)
      (are-typed o.members.classes with-tables fit are-framed (map tables_of framed) o.stored.with_tables.tabled)

  pub left-stored : Leave files deeds later → AreStored files o.members o.stored.stored later
  left-stored leave =
      set-stored V48 files later class.name o.members o.stored.stored o.is
      (files-set files later o.members.names o.stored.stored as-many (subst (λ ds. Leave files ds later) o.stored.are leave))

  pub have-stored : HaveStored files deeds later → AreStored files o.members o.stored.stored later
  have-stored h =
      let asked = flat_map names_asked o.members.classes in
      record {
        held = held h.stored;
        others = λ k name less. h.others (slice_index_or asked k name);
      }

  passes : AreStored files o.members o.stored.stored later → Passes class later
  passes s = some-passes class later with-tables (passes-with s)

  alone : HasOwnNames (named_set V48 files class.name) → All (IsStoredIn later) deeds → Passes class later
  alone own stored =
      passes (stored-alone V48 files later class.name o.members o.stored.stored o.is o.stored.linked (subst HasOwnNames o.is own) (held stored))

pub left-passes : (class : NamedClass) (files later : Files) (deeds : List Deed) → HoldBytes files → AreFilesOf class files (Ok deeds) → Leave files deeds later → Passes class later
left-passes class files later deeds bytes h leave =
    let o = of-members class (named_set V48 files class.name) deeds h in
    passes class files later deeds bytes o (left-stored class files later deeds bytes o leave)

pub later-passes : (class : NamedClass) (files later : Files) (deeds : List Deed) → HoldBytes files → AreFilesOf class files (Ok deeds) → HaveStored files deeds later → Passes class later
later-passes class files later deeds bytes h stored =
    let o = of-members class (named_set V48 files class.name) deeds h in
    passes class files later deeds bytes o (have-stored class files later deeds bytes o stored)

pub alone-passes : (class : NamedClass) (files later : Files) (deeds : List Deed) → HoldBytes files → AreFilesOf class files (Ok deeds) → HasOwnNames (named_set V48 files class.name) → All (IsStoredIn later) deeds → Passes class later
alone-passes class files later deeds bytes h own stored = alone class files later deeds bytes (of-members class (named_set V48 files class.name) deeds h) own stored
