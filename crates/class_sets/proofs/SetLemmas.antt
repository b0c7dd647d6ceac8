-- How a set goes on, and how files follow one another.
use Rattle.std.proofs.Common.{◌≡◌, ◌∙◌, ℕ, suc, ◌+◌, ◌-◌, ◌<◌, ◌≤◌, List, [], ◌∷◌, ◌++◌, length, Option, Some, None, option_map, Result, Ok, Err, Vec, Global, IfOk, length-append, sym, ap, subst, arith}
use Rattle.std.specs.List.{All}
use Rattle.std.proofs.lemmas.List.Elements.{All-push, All-same}
use Rattle.nv_outside.specs.Files.{Files}
use Rattle.class_definition.specs.declared.class_fault.ClassFault.{ClassFault}
use Rattle.class_definition.specs.declared.class.Class.{Class}
use Rattle.class_names.specs.Kept.{IsClass}
use Rattle.class_sets.specs.declared.loaded.Loaded.{Loaded}
use Rattle.class_sets.specs.declared.loaded.Loaded.TheVariants.{Faulty}
use Rattle.class_sets.specs.ClassSets.{names_asked, class_in_bytes, next, set_of_classes, grown}
use Rattle.class_sets.specs.Kept.{IsKeptSet}
use Rattle.class_sets.specs.Waiting.{fresh, Queue, IsOnce, file_found}
use Rattle.class_sets.proofs.WaitingLemmas.{grown-zero, grown-none, grown-fault, grown-class, grown-once}

-- ---- a set that goes on

pub kept_set : (classes : List Class) → All IsClass classes → IsKeptSet (set_of_classes classes)
kept_set [] kept = tt
kept_set (c ∷ classes) kept = kept

pub kept_loaded : (loaded : Loaded) (classes : List Class) → loaded ≡ set_of_classes classes → All IsClass classes → IsKeptSet loaded
kept_loaded loaded classes is kept = subst IsKeptSet (sym is) (kept_set classes kept)

one_more : (k : ℕ) → k < 1025 → 1025 - k ≡ suc (1025 - (k + 1))
one_more k lt = omega arith

-- the set at a number, whose end is the whole set
abbrev pub SetIs : Files → ℕ → List Class → Queue → Loaded → Type 0
SetIs files k classes q all = grown files (1025 - k) classes q.asked q.waiting ≡ all

turn : (files : Files) (k : ℕ) (classes : List Class) (q : Queue) (all : Loaded) → k < 1025 → SetIs files k classes q all → grown files (suc (1025 - (k + 1))) classes q.asked q.waiting ≡ all
turn files k classes q all lt is = ap (λ n. grown files n classes q.asked q.waiting) (sym (one_more k lt)) ∙ is

pub set_ends : (files : Files) (k : ℕ) (classes : List Class) (q : Queue) (all : Loaded) → k < 1025 → SetIs files k classes q all → next files q.asked q.waiting ≡ None → set_of_classes classes ≡ all
set_ends files k classes q all lt is none = sym (grown-none files (1025 - (k + 1)) classes q.asked q.waiting none) ∙ turn files k classes q all lt is

pub set_full : (files : Files) (k : ℕ) (classes : List Class) (q : Queue) (all : Loaded) → 1025 ≤ k → SetIs files k classes q all → set_of_classes classes ≡ all
set_full files k classes q all le is =
    let e : 0 ≡ 1025 - k = omega arith in
    sym (grown-zero files classes q.asked q.waiting) ∙ ap (λ n. grown files n classes q.asked q.waiting) e ∙ is

pub set_faulty : (files : Files) (k : ℕ) (classes : List Class) (q new : Queue) (bytes : Vec ℕ Global) (fault : ClassFault) (all : Loaded) → k < 1025 → length classes ≡ k → SetIs files k classes q all → next files q.asked q.waiting ≡ Some (file_found new bytes) → class_in_bytes bytes.items ≡ Err fault → Faulty k fault ≡ all
set_faulty files k classes q new bytes fault all lt numbered is found read =
    ap (λ n. Faulty n fault) (sym numbered)
    ∙ sym (grown-fault files (1025 - (k + 1)) classes q.asked q.waiting (file_found new bytes) fault found read)
    ∙ turn files k classes q all lt is

pub set_grows : (files : Files) (k : ℕ) (classes more : List Class) (q mid new : Queue) (bytes : Vec ℕ Global) (c : Class) (all : Loaded) → k < 1025 → SetIs files k classes q all → next files q.asked q.waiting ≡ Some (file_found mid bytes) → class_in_bytes bytes.items ≡ Ok c → IsOnce mid → new.asked ≡ mid.asked → new.waiting ≡ mid.waiting ++ fresh (mid.asked ++ mid.waiting) (names_asked c) → more ≡ classes ++ c ∷ [] → SetIs files (k + 1) more new all
set_grows files k classes more q mid new bytes c all lt is found read once asked waiting more_is =
    ap (λ cs. grown files n cs new.asked new.waiting) more_is
    ∙ ap (λ a. grown files n (classes ++ c ∷ []) a new.waiting) asked
    ∙ ap (λ w. grown files n (classes ++ c ∷ []) mid.asked w) waiting
    ∙ grown-once files n (classes ++ c ∷ []) mid.asked mid.waiting (names_asked c) once
    ∙ sym (grown-class files n classes q.asked q.waiting (file_found mid bytes) c found read)
    ∙ turn files k classes q all lt is
  where
    n : ℕ
    n = 1025 - (k + 1)

-- ---- a class more

pub one_class_more : (classes more : List Class) (c : Class) (k : ℕ) → length classes ≡ k → more ≡ classes ++ c ∷ [] → length more ≡ k + 1
one_class_more classes more c k numbered is = ap length is ∙ omega (arith, length-append classes (c ∷ []))

pub kept_more : (classes more : List Class) (c : Class) (read : Result Class ClassFault) → All IsClass classes → IfOk read IsClass → read ≡ Ok c → more ≡ classes ++ c ∷ [] → All IsClass more
kept_more classes more c read kept class_kept is more_is = All-same IsClass more (classes ++ c ∷ []) more_is (All-push IsClass classes c kept (subst (λ r. IfOk r IsClass) is class_kept))
