-- A set grows by the classes of names that wait, when these ask for nothing new.
use Rattle.std.proofs.Common.{◌≡◌, ℕ, zero, suc, ◌≤◌, false, List, [], ◌∷◌, ◌++◌, length, Some, Ok, refl, sym, ap, ◌∙◌, append_assoc, append-nil, slice_get, arith}
use Rattle.std.specs.List.{AllZip}
use Rattle.nv_outside.specs.Files.{Files}
use Rattle.class_definition.specs.declared.class.Class.{Class}
use Rattle.class_sets.specs.declared.loaded.Loaded.TheVariants.{Classes}
use Rattle.class_sets.specs.ClassSets.{file_of, is_among, names_asked, class_in_bytes, set_of_classes, grown, class_set}
use Rattle.class_sets.specs.Waiting.{fresh}
use Rattle.class_sets.proofs.WaitingLemmas.{fresh-head, next-first, next-none, grown-zero, grown-none, grown-class, grown-once}

abbrev Names : Type 0
Names = List (List ℕ)

-- a file has the class of a name
pub record GivesClass (files : Files) (name : List ℕ) (c : Class) : Type 0 where
  pub bytes : List ℕ
  pub file_is : files (file_of name) ≡ Some bytes
  pub class_is : class_in_bytes bytes ≡ Ok c

-- one turn: the first of the names that wait
one-grown : (files : Files) (n : ℕ) (done : List Class) (asked : Names) (name : List ℕ) (waiting : Names) (c : Class)
    → is_among asked name ≡ false → GivesClass files name c
    → grown files (suc n) done asked (name ∷ waiting) ≡ grown files n (done ++ c ∷ []) (asked ++ name ∷ []) (waiting ++ names_asked c)
one-grown files n done asked name waiting c new gives =
    grown-class files n done asked (name ∷ waiting) (record { bytes = gives.bytes; asked = asked ++ name ∷ []; waiting = waiting }) c
    (next-first files asked name waiting (Some gives.bytes) new gives.file_is) gives.class_is

ended : (files : Files) (n : ℕ) (done : List Class) (asked : Names) → grown files n done asked [] ≡ set_of_classes done
ended files zero done asked = grown-zero files done asked []
ended files (suc n) done asked = grown-none files n done asked [] (next-none files asked)

-- All names that there are were asked for or wait.
all-grown : (files : Files) (all : Names) (n : ℕ) (done : List Class) (asked waiting : Names) (classes : List Class)
    → AllZip (GivesClass files) waiting classes → length waiting ≤ n → asked ++ waiting ≡ all → fresh asked waiting ≡ waiting
    → ((k : ℕ) (c : Class) → slice_get classes k ≡ Some c → fresh all (names_asked c) ≡ [])
    → grown files n done asked waiting ≡ set_of_classes (done ++ classes)
all-grown files all n done asked [] [] gives few split once nothing = ended files n done asked ∙ ap set_of_classes (sym (append-nil done))
all-grown files all n done asked [] (c ∷ classes) gives few split once nothing = absurd gives
all-grown files all n done asked (name ∷ waiting) [] gives few split once nothing = absurd gives
all-grown files all zero done asked (name ∷ waiting) (c ∷ classes) gives few split once nothing = absurd (omega (arith, few))
all-grown files all (suc n) done asked (name ∷ waiting) (c ∷ classes) gives few split once nothing =
    let first = fresh-head asked name waiting once in
    let more : Names = asked ++ name ∷ [] in
    let later : List Class = done ++ c ∷ [] in
    let joined : more ++ waiting ≡ all = append_assoc asked (name ∷ []) waiting ∙ split in
    let none : fresh (more ++ waiting) (names_asked c) ≡ [] = ap (λ known. fresh known (names_asked c)) joined ∙ nothing 0 c refl in
    one-grown files n done asked name waiting c first.0 gives.0
    ∙ sym (grown-once files n later more waiting (names_asked c) first.1)
    ∙ ap (λ ns. grown files n later more (waiting ++ ns)) none
    ∙ ap (grown files n later more) (append-nil waiting)
    ∙ all-grown files all n later more waiting classes gives.1 (omega (arith, few)) joined first.1 (λ k d at. nothing (suc k) d at)
    ∙ ap set_of_classes (append_assoc done (c ∷ []) classes)

-- The set of a name whose class asks for some others, which ask for nothing new.
pub set-grown : (files : Files) (name : List ℕ) (others : Names) (main : Class) (classes : List Class) → GivesClass files name main
    → AllZip (GivesClass files) others classes → length others ≤ 1024 → fresh (name ∷ []) others ≡ others → fresh (name ∷ []) (names_asked main) ≡ others
    → ((k : ℕ) (c : Class) → slice_get classes k ≡ Some c → fresh (name ∷ others) (names_asked c) ≡ []) → class_set files name ≡ Classes (main ∷ classes)
set-grown files name others main classes first gives few once asks nothing =
    one-grown files 1024 [] [] name [] main refl first
    ∙ sym (grown-once files 1024 (main ∷ []) (name ∷ []) [] (names_asked main) refl)
    ∙ ap (grown files 1024 (main ∷ []) (name ∷ [])) asks
    ∙ all-grown files (name ∷ others) 1024 (main ∷ []) (name ∷ []) others classes gives few refl once nothing
