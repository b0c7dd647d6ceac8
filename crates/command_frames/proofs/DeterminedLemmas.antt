-- What is due of `frames` is determined by the files.
use Rattle.std.proofs.Common.{◌≡◌, ℕ, zero, suc, ◌+◌, ◌<◌, List, [], ◌∷◌, length, Option, Some, Ok, Err, refl, sym, ap, subst, ◌∙◌, arith}
use Rattle.std.specs.Prelude.{slice_get, IfErr, IfOk}
use Rattle.std.specs.List.{AllZip}
use Rattle.std.proofs.lemmas.Option.{same_Some, none-some}
use Rattle.nv_outside.specs.Files.{AgreeWith, Files}
use Rattle.class_definition.specs.declared.class.Class.{Class}
use Rattle.class_definition.specs.declared.framed_class.FramedClass.{FramedClass}
use Rattle.class_definition.specs.declared.verify_fault.VerifyFault.{VerifyFault}
use Rattle.class_definition.specs.FramedClassFile.{SpellsFramed}
use Rattle.class_definition.specs.Linking.{program_of}
use Rattle.class_sets.specs.NamedSets.{named_set}
use Rattle.class_sets.specs.Plain.{loaded_names}
use Rattle.class_sets.specs.declared.version.Version.TheVariants.{V48}
use Rattle.jvm_definition.specs.declared.linked_method.LinkedMethod.{LinkedMethod}
use Rattle.jvm_definition.specs.Program.{Program}
use Rattle.jvm_definition.specs.Typing.{Typed}
use Rattle.jvm_type_inference.specs.Verdict.{FailsAt}
use Rattle.type_verifier.specs.Refusal.{IsAtFault, methods_before}
use Rattle.frame_maps.specs.declared.frame_error.FrameError.{FrameError}
use Rattle.frame_maps.specs.declared.frame_error.FrameError.TheVariants.{Refused, TooLarge, NoMemory}
use Rattle.stackmap_maker.proofs.DeterminedLaws.{neither, with-tables-same, refusals-same, made-or-refused}
use Rattle.command_words.specs.declared.named_class.NamedClass.{NamedClass}
use Rattle.command_deeds.specs.Checks.{Behind, Check, after_check}
use Rattle.command_deeds.specs.declared.done.Done.TheVariants.{VerifyRefused}
use Rattle.command_deeds.specs.Deeds.{Deed}
use Rattle.command_deeds.specs.Ends.{CommandAnswer, Due, answers, says}
use Rattle.command_deeds.specs.World.{World}
use Rattle.command_guest.specs.Classes.{IsTypeChecked, link_checked, set_named}
use Rattle.command_frames.specs.Frames.{AreWrittenTo, IsDueOfFrames, IsFramedTo, all_stored, stored_and_counted}
use Rattle.command_frames.specs.Told.{IsTold}

-- ---- checks

-- a check that is determined is so behind another one
behind-same : {A B : Type 0} (first : Check A) (IsChecked : A → Check B → Type 0) (one two : Check B) → ((value : A) → IsChecked value one → IsChecked value two → one ≡ two) → Behind first IsChecked one → Behind first IsChecked two → one ≡ two
behind-same (Ok value) IsChecked one two same a b = same value a b
behind-same (Err answer) IsChecked one two same a b = a ∙ sym b

-- ---- the first method that is not typed

record IsSamePlace (c d m n : ℕ) : Type 0 where
  class : c ≡ d
  method : m ≡ n

-- a number is that of one method of one class
place-same : (classes : List Class) (c d m n : ℕ) (x y : Class) → slice_get classes c ≡ Some x → slice_get classes d ≡ Some y → m < length x.methods → n < length y.methods → methods_before classes c + m ≡ methods_before classes d + n → IsSamePlace c d m n
place-same [] c d m n x y p q less more e = absurd (none-some x p)
place-same (z ∷ classes) zero zero m n x y p q less more e = record { class = refl; method = omega (arith, e) }
place-same (z ∷ classes) zero (suc d) m n x y p q less more e = absurd (omega (arith, e, less, ap (λ (k : Class). length k.methods) (same_Some z x p)))
place-same (z ∷ classes) (suc c) zero m n x y p q less more e = absurd (omega (arith, e, more, ap (λ (k : Class). length k.methods) (same_Some z y q)))
place-same (z ∷ classes) (suc c) (suc d) m n x y p q less more e =
    let s = place-same classes c d m n x y p q less more (omega (arith, e)) in
    record { class = ap suc s.class; method = s.method }

typed-or-fails : (program : Program) (method : LinkedMethod) (at : ℕ) → Typed program method → FailsAt program method at → ⊥
typed-or-fails program method at t f = f.fails t.0 (t.1 at)

fails-same : (program : Program) (method : LinkedMethod) (n m : ℕ) → FailsAt program method n → FailsAt program method m → n ≡ m
fails-same program method n m a b =
    neither n m
    (λ less. let t = b.before n less in a.fails t.0 t.1)
    (λ less. let t = a.before m less in b.fails t.0 t.1)

fault-same : (classes : List Class) (f g : VerifyFault) → IsAtFault classes f → IsAtFault classes g → f ≡ g
fault-same classes f g a b =
    let program = program_of classes in
    let number : methods_before classes f.class + f.method ≡ methods_before classes g.class + g.method = neither _ _
    (λ less. typed-or-fails program a.method f.at (b.earlier _ a.method less a.method_is) a.fails)
    (λ less. typed-or-fails program b.method g.at (a.earlier _ b.method less b.method_is) b.fails) in
    let place = place-same classes f.class g.class f.method g.method a.class b.class a.class_is b.class_is a.within b.within number in
    let method : a.method ≡ b.method = same_Some a.method b.method (sym a.method_is ∙ (ap program.method number ∙ b.method_is)) in
    let at : f.at ≡ g.at = fails-same program b.method f.at g.at (subst (λ m. FailsAt (program_of classes) m f.at) method a.fails) b.fails in
    λ i. record { class = place.class i; method = place.method i; at = at i }

-- not all are typed where one is at fault
typed-or-fault : (classes : List Class) (f : VerifyFault) → ((m : ℕ) (method : LinkedMethod) → (program_of classes).method m ≡ Some method → Typed (program_of classes) method) → IsAtFault classes f → ⊥
typed-or-fault classes f typed a = typed-or-fails (program_of classes) a.method f.at (typed _ a.method a.method_is) a.fails

checked-same : (classes : List Class) (one two : Check (List Class)) → IsTypeChecked classes one → IsTypeChecked classes two → one ≡ two
checked-same classes (Ok x) (Ok y) a b = ap (λ (z : List Class). Ok z) (a.0 ∙ sym b.0)
checked-same classes (Ok x) (Err y) a b = absurd (typed-or-fault classes b.0 a.1 b.1)
checked-same classes (Err x) (Ok y) a b = absurd (typed-or-fault classes a.0 b.1 a.1)
checked-same classes (Err x) (Err y) a b =
    ap (λ (z : CommandAnswer). Err z) (a.2 ∙ (ap (λ f. says (VerifyRefused f)) (fault-same classes a.0 b.0 a.1 b.1) ∙ sym b.2))

-- ---- tables

told-some : (error : FrameError) (answer : CommandAnswer) → IsTold error answer → error ≡ NoMemory → ⊥
told-some error answer told e = subst (λ r. IsTold r answer) e told

told-same : (error : FrameError) (one two : CommandAnswer) → IsTold error one → IsTold error two → one ≡ two
told-same (Refused fault) one two a b = a ∙ sym b
told-same (TooLarge class bytes) one two a b = a ∙ sym b
told-same NoMemory one two a b = absurd a

framed-to-same : (classes : List Class) (one two : Check (List FramedClass)) → IsFramedTo classes one → IsFramedTo classes two → one ≡ two
framed-to-same classes (Ok x) (Ok y) a b = ap (λ (z : List FramedClass). Ok z) (with-tables-same classes x y a.0 b.0)
framed-to-same classes (Ok x) (Err y) a b = absurd (told-some b.0 y b.2 (made-or-refused classes x b.0 a.0 a.1 b.1))
framed-to-same classes (Err x) (Ok y) a b = absurd (told-some a.0 x a.2 (made-or-refused classes y a.0 b.0 b.1 a.1))
framed-to-same classes (Err x) (Err y) a b =
    let error = refusals-same classes a.0 b.0 a.1 b.1 (told-some a.0 x a.2) (told-some b.0 y b.2) in
    ap (λ (z : CommandAnswer). Err z) (told-same b.0 x y (subst (λ r. IsTold r x) error a.2) b.2)

-- ---- files

files-same : (framed : List FramedClass) (first second : List (List ℕ)) → AllZip SpellsFramed first framed → AllZip SpellsFramed second framed → first ≡ second
files-same [] [] [] a b = refl
files-same [] [] (y ∷ second) a b = absurd b
files-same [] (x ∷ first) second a b = absurd a
files-same (f ∷ framed) [] second a b = absurd a
files-same (f ∷ framed) (x ∷ first) [] a b = absurd b
files-same (f ∷ framed) (x ∷ first) (y ∷ second) a b =
    let here : x ≡ y = a.0.spelled ∙ sym b.0.spelled in
    let others = files-same framed first second a.1 b.1 in
    λ i. here i ∷ others i

written-same : (names : List (List ℕ)) (framed : List FramedClass) (one two : Check (List Deed)) → AreWrittenTo names framed one → AreWrittenTo names framed two → one ≡ two
written-same names framed (Ok x) (Ok y) a b =
    ap (λ (z : List Deed). Ok z) (a.are ∙ (ap (all_stored names) (files-same framed a.files b.files a.spelled b.spelled) ∙ sym b.are))
written-same names framed (Ok x) (Err y) a b = absurd b
written-same names framed (Err x) two a b = absurd a

-- ---- the command

agreed : (told : Option Files) (files agree : Files) → told ≡ Some files → AgreeWith told agree → agree ≡ files
agreed told files agree e a = subst (λ t. AgreeWith t agree) e a

due-same : (deeds : Check (List Deed)) (first second : Due) → IfErr deeds (λ answer. first ≡ answers answer) → IfOk deeds (λ stored. first ≡ stored_and_counted stored) → IfErr deeds (λ answer. second ≡ answers answer) → IfOk deeds (λ stored. second ≡ stored_and_counted stored) → first ≡ second
due-same (Ok stored) first second a b c d = b ∙ sym d
due-same (Err answer) first second a b c d = a ∙ sym c

pub frames-determined : (class : NamedClass) (w : World) (files : Files) (first second : Due) → w.shelf.told ≡ Some files → IsDueOfFrames class w first → IsDueOfFrames class w second → first ≡ second
frames-determined class w files first second told a b =
    let all : a.files ≡ b.files = agreed w.shelf.told files a.files told a.agree ∙ sym (agreed w.shelf.told files b.files told b.agree) in
    let set : a.set ≡ b.set = a.set_is ∙ (ap (λ fs. set_named fs class) all ∙ sym b.set_is) in
    let linked : a.linked ≡ b.linked = a.linked_is ∙ (ap (λ s. after_check s link_checked) set ∙ sym b.linked_is) in
    let classes : a.classes ≡ b.classes = behind-same b.linked IsTypeChecked a.classes b.classes (λ v x y. checked-same v a.classes b.classes x y)
    (subst (λ l. Behind l IsTypeChecked a.classes) linked a.classes_are) b.classes_are in
    let framed : a.framed ≡ b.framed = behind-same b.classes IsFramedTo a.framed b.framed (λ v x y. framed-to-same v a.framed b.framed x y)
    (subst (λ c. Behind c IsFramedTo a.framed) classes a.framed_is) b.framed_is in
    let names : loaded_names (named_set V48 a.files class.name) ≡ loaded_names (named_set V48 b.files class.name) = ap (λ fs. loaded_names (named_set V48 fs class.name)) all in
    let written = subst (λ ns. Behind b.framed (AreWrittenTo ns) a.deeds) names (subst (λ f. Behind f (AreWrittenTo (loaded_names (named_set V48 a.files class.name))) a.deeds) framed a.deeds_are) in
    let own = loaded_names (named_set V48 b.files class.name) in
    let deeds : a.deeds ≡ b.deeds = behind-same b.framed (AreWrittenTo own) a.deeds b.deeds (λ v x y. written-same own v a.deeds b.deeds x y) written b.deeds_are in
    due-same b.deeds first second
    (subst (λ d. IfErr d (λ answer. first ≡ answers answer)) deeds a.refused) (subst (λ d. IfOk d (λ stored. first ≡ stored_and_counted stored)) deeds a.done)
    b.refused b.done
