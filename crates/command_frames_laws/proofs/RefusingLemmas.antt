-- Checks that refuse: none of their answers is that all is good.
use Rattle.std.proofs.Common.{◌≡◌, ◌≢◌, ℕ, Option, Some, None, List, Ok, Err, refl, sym, ap, subst}
use Rattle.class_definition.specs.declared.class.Class.{Class}
use Rattle.class_definition.specs.declared.framed_class.FramedClass.{FramedClass}
use Rattle.class_definition.specs.LinkFault.{link_fault}
use Rattle.class_sets.specs.ClassSets.{file_of}
use Rattle.class_sets.specs.declared.loaded.Loaded.{Loaded}
use Rattle.class_sets.specs.declared.loaded.Loaded.TheVariants.{NoFile, Faulty, Classes}
use Rattle.frame_maps.specs.declared.frame_error.FrameError.{FrameError}
use Rattle.frame_maps.specs.declared.frame_error.FrameError.TheVariants.{Refused, TooLarge, NoMemory}
use Rattle.command_words.specs.declared.named_class.NamedClass.{NamedClass}
use Rattle.command_deeds.specs.Checks.{Behind, Check, after_check, unless_fault}
use Rattle.command_deeds.specs.Deeds.{Deed}
use Rattle.command_deeds.specs.Ends.{CommandAnswer, lacks, says}
use Rattle.command_deeds.specs.declared.done.Done.{Done}
use Rattle.command_deeds.specs.declared.done.Done.TheVariants as done
use Rattle.command_guest.specs.Classes.{IsTypeChecked, link_checked, set_loaded}
use Rattle.command_frames.specs.Frames.{AreWrittenTo, IsFramedTo}
use Rattle.command_frames.specs.Told.{IsTold}

-- an answer that refuses
abbrev pub Refuses : CommandAnswer → Type 0
Refuses answer = answer.done ≢ done.Good

-- the answer of a check that refused
pub refuses-as : {A : Type 0} (check : Check A) (said answer : CommandAnswer) → Refuses said → check ≡ Err said → check ≡ Err answer → Refuses answer
refuses-as check said answer refuses is same =
    let one : said ≡ answer = cc in
    subst Refuses one refuses

pub not-passed : {A : Type 0} (a : A) (answer : CommandAnswer) → Ok a ≡ Err answer → Refuses answer
not-passed a answer same = cc

-- every answer with which a check may refuse does so
abbrev pub RefusesSo : {A : Type 0} → Check A → Type 0
RefusesSo check = (answer : CommandAnswer) → check ≡ Err answer → Refuses answer

pub fault-refuses : {A F : Type 0} (fault : Option F) (refusal : F → Done) (value : A) → ((f : F) → refusal f ≢ done.Good) → RefusesSo (unless_fault fault refusal value)
fault-refuses None refusal value each answer is = not-passed value answer is
fault-refuses (Some f) refusal value each answer is = refuses-as (Err (says (refusal f))) (says (refusal f)) answer (each f) refl is

pub behind-refuses : {A B : Type 0} (check : Check A) (IsChecked : A → Check B → Type 0) (answer : CommandAnswer) → RefusesSo check → ((a : A) → IsChecked a (Err answer) → Refuses answer) → Behind check IsChecked (Err answer) → Refuses answer
behind-refuses (Ok a) IsChecked answer first later h = later a h
behind-refuses (Err other) IsChecked answer first later h =
    let one : other ≡ answer = cc in
    first answer (ap (λ x. Err x) one)

pub after-refuses : {A B : Type 0} (check : Check A) (next : A → Check B) → RefusesSo check → ((a : A) → RefusesSo (next a)) → RefusesSo (after_check check next)
after-refuses (Ok a) next first later answer is = later a answer is
after-refuses (Err other) next first later answer is = refuses-as (Err other) other answer (first other refl) refl is

-- ---- sets of classes

set-refuses : (class : NamedClass) (set : Loaded) → RefusesSo (set_loaded class set)
set-refuses class NoFile answer is = refuses-as (set_loaded class NoFile) (lacks class.word (file_of class.name)) answer (λ e. cc) refl is
set-refuses class (Faulty number fault) answer is = refuses-as (set_loaded class (Faulty number fault)) (says (done.ClassRefused number fault.kind fault.at)) answer (λ e. cc) refl is
set-refuses class (Classes classes) answer is = not-passed classes answer is

linked-refuses : (class : NamedClass) (set : Loaded) → RefusesSo (after_check (set_loaded class set) link_checked)
linked-refuses class set =
    after-refuses (set_loaded class set) link_checked (set-refuses class set)
    (λ classes. fault-refuses (link_fault classes) done.LinkRefused classes (λ f e. cc))

told-refuses : (error : FrameError) (answer : CommandAnswer) → IsTold error answer → Refuses answer
told-refuses (Refused fault) answer is = subst Refuses (sym is) (λ e. cc)
told-refuses (TooLarge class bytes) answer is = subst Refuses (sym is) (λ e. cc)
told-refuses NoMemory answer is = absurd is

typed-refuses : (class : NamedClass) (set : Loaded) (typed : Check (List Class)) → Behind (after_check (set_loaded class set) link_checked) IsTypeChecked typed → RefusesSo typed
typed-refuses class set typed h answer is =
    behind-refuses (after_check (set_loaded class set) link_checked) IsTypeChecked answer (linked-refuses class set)
    (λ classes at. subst Refuses (sym at.2) (λ e. cc))
    (subst (Behind (after_check (set_loaded class set) link_checked) IsTypeChecked) is h)

framed-refuses : (typed : Check (List Class)) (framed : Check (List FramedClass)) → RefusesSo typed → Behind typed IsFramedTo framed → RefusesSo framed
framed-refuses typed framed before h answer is =
    behind-refuses typed IsFramedTo answer before (λ classes at. told-refuses at.0 answer at.2) (subst (Behind typed IsFramedTo) is h)

written-refuses : (names : List (List ℕ)) (framed : Check (List FramedClass)) (deeds : Check (List Deed)) → RefusesSo framed → Behind framed (AreWrittenTo names) deeds → RefusesSo deeds
written-refuses names framed deeds before h answer is =
    behind-refuses framed (AreWrittenTo names) answer before (λ classes at. absurd at) (subst (Behind framed (AreWrittenTo names)) is h)

-- those of `frames`
pub frames-refuses : (class : NamedClass) (set : Loaded) (names : List (List ℕ)) (typed : Check (List Class)) (framed : Check (List FramedClass)) (deeds : Check (List Deed)) → Behind (after_check (set_loaded class set) link_checked) IsTypeChecked typed → Behind typed IsFramedTo framed → Behind framed (AreWrittenTo names) deeds → RefusesSo deeds
frames-refuses class set names typed framed deeds t f h =
    written-refuses names framed deeds (framed-refuses typed framed (typed-refuses class set typed t) f) h
