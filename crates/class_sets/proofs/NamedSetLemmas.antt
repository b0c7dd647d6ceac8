-- How a set goes on, and does not depend on names that wait twice, or that were asked for.
use Rattle.std.proofs.Common.{◌≡◌, ◌∙◌, ℕ, zero, suc, false, ◌+◌, ◌-◌, ◌<◌, ◌≤◌, List, [], ◌∷◌, ◌++◌, length, Option, Some, None, option_map, Result, Ok, Err, Vec, Global, IfOk, length-append, refl, sym, ap, subst, arith}
use Rattle.std.specs.List.{AllZip}
use Rattle.std.proofs.lemmas.Bool.{false≢true}
use Rattle.nv_outside.specs.Faults.{CountsFailure}
use Rattle.nv_outside.specs.Files.{AgreeWith, Files}
use Rattle.nv_outside.proofs.FilesLemmas.{told_agree, told_or}
use Rattle.class_definition.specs.declared.class_fault.ClassFault.{ClassFault}
use Rattle.class_definition.specs.declared.class.Class.{Class}
use Rattle.class_definition.specs.declared.framed_class.FramedClass.{FramedClass}
use Rattle.class_names.proofs.PlaceLemmas.{AllZip-append}
use Rattle.class_sets.specs.ClassSets.{Found, names_asked, next}
use Rattle.class_sets.specs.Waiting.{fresh, last_of, Queue, IsOnce, file_found, GivesOver, SameFilesOf}
use Rattle.class_sets.proofs.WaitingLemmas.{refreshed, next-fresh, fresh-append, fresh-fresh, fresh-more}
use Rattle.class_sets.specs.declared.members.Members.{Members}
use Rattle.class_sets.specs.declared.named_set.NamedSet.{NamedSet}
use Rattle.class_sets.specs.declared.named_set.NamedSet.TheVariants.{NoFile, Faulty, Classes}
use Rattle.class_sets.specs.declared.version.Version.{Version}
use Rattle.class_sets.specs.NamedSets.{named_class_in, members_of, no_members, with_member, set_with, named_set_of, with_named_class, with_found, named_grown, named_set, IsNamedSet}
use Rattle.class_sets.specs.NamedKept.{IsKept, IsKeptWith, AreKept, IsKeptSet}

abbrev Names : Type 0
Names = List (List ℕ)

-- ---- a turn

grown-fresh : (v : Version) (files : Files) (n : ℕ) (m : Members) (asked ns : Names) → named_grown v files n m asked (fresh asked ns) ≡ named_grown v files n m asked ns
unfolding named_grown
grown-fresh v files zero m asked ns = refl
grown-fresh v files (suc n) m asked ns =
    ap (with_found (named_set_of m) after) (next-fresh files asked ns) ∙ by (λ x names ms. grown-fresh v files n x names ms) (next files asked ns)
  where
    after : Found → NamedSet
    after found = with_named_class (length m.classes) (λ c. named_grown v files n (with_member m (last_of found.asked) c) found.asked (found.waiting ++ names_asked c.class)) (named_class_in v found.bytes)

    Same : Type 0
    Same = (x : Members) (names ms : Names) → named_grown v files n x names (fresh names ms) ≡ named_grown v files n x names ms

    same : Same → (f : Found) (read : Result FramedClass ClassFault) → with_named_class (length m.classes) (λ c. named_grown v files n (with_member m (last_of f.asked) c) f.asked (fresh f.asked f.waiting ++ names_asked c.class)) read ≡ with_named_class (length m.classes) (λ c. named_grown v files n (with_member m (last_of f.asked) c) f.asked (f.waiting ++ names_asked c.class)) read
    same others f (Err fault) = refl
    same others f (Ok c) =
        sym (others (with_member m (last_of f.asked) c) f.asked (fresh f.asked f.waiting ++ names_asked c.class))
        ∙ ap (named_grown v files n (with_member m (last_of f.asked) c) f.asked) (fresh-more f.asked f.waiting (names_asked c.class))
        ∙ others (with_member m (last_of f.asked) c) f.asked (f.waiting ++ names_asked c.class)

    by : Same → (found : Option Found) → with_found (named_set_of m) after (option_map refreshed found) ≡ with_found (named_set_of m) after found
    by others None = refl
    by others (Some f) = same others f (named_class_in v f.bytes)

-- names that are there already need not wait again
grown-once : (v : Version) (files : Files) (n : ℕ) (m : Members) (asked waiting names : Names) → fresh asked waiting ≡ waiting → named_grown v files n m asked (waiting ++ fresh (asked ++ waiting) names) ≡ named_grown v files n m asked (waiting ++ names)
grown-once v files n m asked waiting names once =
    sym (grown-fresh v files n m asked (waiting ++ fresh (asked ++ waiting) names))
    ∙ ap (named_grown v files n m asked) same
    ∙ grown-fresh v files n m asked (waiting ++ names)
  where
    split : (ms : Names) → fresh asked (waiting ++ ms) ≡ waiting ++ fresh (asked ++ waiting) ms
    split ms = fresh-append asked waiting ms ∙ ap (λ l. l ++ fresh (asked ++ l) ms) once

    same : fresh asked (waiting ++ fresh (asked ++ waiting) names) ≡ fresh asked (waiting ++ names)
    same = split (fresh (asked ++ waiting) names) ∙ ap (λ l. waiting ++ l) (fresh-fresh (asked ++ waiting) names) ∙ sym (split names)

grown-zero : (v : Version) (files : Files) (m : Members) (asked waiting : Names) → named_grown v files 0 m asked waiting ≡ named_set_of m
unfolding named_grown
grown-zero v files m asked waiting = refl

grown-none : (v : Version) (files : Files) (n : ℕ) (m : Members) (asked waiting : Names) → next files asked waiting ≡ None → named_grown v files (suc n) m asked waiting ≡ named_set_of m
unfolding named_grown
grown-none v files n m asked waiting none = rw none refl

grown-fault : (v : Version) (files : Files) (n : ℕ) (m : Members) (asked waiting : Names) (found : Found) (fault : ClassFault) → next files asked waiting ≡ Some found → named_class_in v found.bytes ≡ Err fault → named_grown v files (suc n) m asked waiting ≡ Faulty (length m.classes) fault
unfolding named_grown
grown-fault v files n m asked waiting found fault some read = rw (some, read) refl

grown-class : (v : Version) (files : Files) (n : ℕ) (m : Members) (asked waiting : Names) (found : Found) (c : FramedClass) → next files asked waiting ≡ Some found → named_class_in v found.bytes ≡ Ok c → named_grown v files (suc n) m asked waiting ≡ named_grown v files n (with_member m (last_of found.asked) c) found.asked (found.waiting ++ names_asked c.class)
unfolding named_grown
grown-class v files n m asked waiting found c some read = rw (some, read) refl

-- ---- the set at a number, whose end is the whole set

abbrev pub SetIs : Version → Files → ℕ → Members → Queue → NamedSet → Type 0
SetIs v files k m q all = named_grown v files (1025 - k) m q.asked q.waiting ≡ all

one_more : (k : ℕ) → k < 1025 → 1025 - k ≡ suc (1025 - (k + 1))
one_more k lt = omega arith

turn : (v : Version) (files : Files) (k : ℕ) (m : Members) (q : Queue) (all : NamedSet) → k < 1025 → SetIs v files k m q all → named_grown v files (suc (1025 - (k + 1))) m q.asked q.waiting ≡ all
turn v files k m q all lt is = ap (λ n. named_grown v files n m q.asked q.waiting) (sym (one_more k lt)) ∙ is

set_ends : (v : Version) (files : Files) (k : ℕ) (m : Members) (q : Queue) (all : NamedSet) → k < 1025 → SetIs v files k m q all → next files q.asked q.waiting ≡ None → named_set_of m ≡ all
set_ends v files k m q all lt is none = sym (grown-none v files (1025 - (k + 1)) m q.asked q.waiting none) ∙ turn v files k m q all lt is

set_full : (v : Version) (files : Files) (k : ℕ) (m : Members) (q : Queue) (all : NamedSet) → 1025 ≤ k → SetIs v files k m q all → named_set_of m ≡ all
set_full v files k m q all le is =
    let e : 0 ≡ 1025 - k = omega arith in
    sym (grown-zero v files m q.asked q.waiting) ∙ ap (λ n. named_grown v files n m q.asked q.waiting) e ∙ is

set_faulty : (v : Version) (files : Files) (k : ℕ) (m : Members) (q new : Queue) (bytes : Vec ℕ Global) (fault : ClassFault) (all : NamedSet) → k < 1025 → length m.classes ≡ k → SetIs v files k m q all → next files q.asked q.waiting ≡ Some (file_found new bytes) → named_class_in v bytes.items ≡ Err fault → Faulty k fault ≡ all
set_faulty v files k m q new bytes fault all lt numbered is found read =
    ap (λ n. Faulty n fault) (sym numbered)
    ∙ sym (grown-fault v files (1025 - (k + 1)) m q.asked q.waiting (file_found new bytes) fault found read)
    ∙ turn v files k m q all lt is

set_grows : (v : Version) (files : Files) (k : ℕ) (m more : Members) (q mid new : Queue) (bytes : Vec ℕ Global) (c : FramedClass) (all : NamedSet) → k < 1025 → SetIs v files k m q all → next files q.asked q.waiting ≡ Some (file_found mid bytes) → named_class_in v bytes.items ≡ Ok c → IsOnce mid → new.asked ≡ mid.asked → new.waiting ≡ mid.waiting ++ fresh (mid.asked ++ mid.waiting) (names_asked c.class) → more ≡ with_member m (last_of mid.asked) c → SetIs v files (k + 1) more new all
set_grows v files k m more q mid new bytes c all lt is found read once asked waiting more_is =
    ap (λ x. named_grown v files n x new.asked new.waiting) more_is
    ∙ ap (λ a. named_grown v files n (with_member m (last_of mid.asked) c) a new.waiting) asked
    ∙ ap (λ w. named_grown v files n (with_member m (last_of mid.asked) c) mid.asked w) waiting
    ∙ grown-once v files n (with_member m (last_of mid.asked) c) mid.asked mid.waiting (names_asked c.class) once
    ∙ sym (grown-class v files n m q.asked q.waiting (file_found mid bytes) c found read)
    ∙ turn v files k m q all lt is
  where
    n : ℕ
    n = 1025 - (k + 1)

-- ---- the set so far

-- over every map that has what was found it goes on to the whole set
pub record GoesOn (v : Version) (told : Option Files) (name : List ℕ) (k : ℕ) (m : Members) (q : Queue) : Type 0 where
  pub found : Files
  pub agree : AgreeWith told found
  pub goes : (files : Files) → SameFilesOf q.asked found files → SetIs v files k m q (named_set v files name)

pub begins : (v : Version) (told : Option Files) (name : List ℕ) (m : Members) (q : Queue) → m ≡ no_members → q.asked ≡ [] → q.waiting ≡ name ∷ [] → GoesOn v told name 0 m q
begins v told name m q none asked waiting = record {
  found = told_or told (λ other. None);
  agree = told_agree told (λ other. None);
  goes = λ files same. ap (λ x. named_grown v files 1025 x q.asked q.waiting) none ∙ ap (λ a. named_grown v files 1025 no_members a q.waiting) asked
      ∙ ap (named_grown v files 1025 no_members []) waiting;
}

-- no name that waits has a file
pub loads_all : (v : Version) (told : Option Files) (name : List ℕ) (k : ℕ) (m : Members) (q mid : Queue) (set : NamedSet) → k < 1025 → (s : GoesOn v told name k m q) → GivesOver told s.found q None mid → set ≡ named_set_of m → IsNamedSet v told name set
loads_all v told name k m q mid set lt s given is = record {
  files = given.after;
  agree = given.agree;
  is = is ∙ set_ends v given.after k m q (named_set v given.after name) lt (s.goes given.after (given.had given.after (λ n among. refl)))
      (given.gives given.after (λ n among. refl));
}

-- there are as many classes as there may be
pub loads_full : (v : Version) (told : Option Files) (name : List ℕ) (k : ℕ) (m : Members) (q : Queue) (set : NamedSet) → 1025 ≤ k → GoesOn v told name k m q → set ≡ named_set_of m → IsNamedSet v told name set
loads_full v told name k m q set le s is = record {
  files = s.found;
  agree = s.agree;
  is = is ∙ set_full v s.found k m q (named_set v s.found name) le (s.goes s.found (λ n among. refl));
}

-- a file spells no class
pub loads_faulty : (v : Version) (told : Option Files) (name : List ℕ) (k : ℕ) (m : Members) (q mid : Queue) (bytes : Vec ℕ Global) (fault : ClassFault) → k < 1025 → length m.classes ≡ k → (s : GoesOn v told name k m q) → GivesOver told s.found q (Some bytes) mid → named_class_in v bytes.items ≡ Err fault → IsNamedSet v told name (Faulty k fault)
loads_faulty v told name k m q mid bytes fault lt numbered s given read = record {
  files = given.after;
  agree = given.agree;
  is = set_faulty v given.after k m q mid bytes fault (named_set v given.after name) lt numbered
      (s.goes given.after (given.had given.after (λ n among. refl))) (given.gives given.after (λ n among. refl)) read;
}

-- it spells one
pub goes_more : (v : Version) (told : Option Files) (name : List ℕ) (k : ℕ) (m more : Members) (q mid new : Queue) (bytes : Vec ℕ Global) (c : FramedClass) → k < 1025 → (s : GoesOn v told name k m q) → GivesOver told s.found q (Some bytes) mid → named_class_in v bytes.items ≡ Ok c → IsOnce mid → new.asked ≡ mid.asked → new.waiting ≡ mid.waiting ++ fresh (mid.asked ++ mid.waiting) (names_asked c.class) → more ≡ with_member m (last_of mid.asked) c → GoesOn v told name (k + 1) more new
goes_more v told name k m more q mid new bytes c lt s given read once asked waiting more_is = record {
  found = given.after;
  agree = given.agree;
  goes = λ files has.
      let same : SameFilesOf mid.asked given.after files = subst (λ a. SameFilesOf a given.after files) asked has in
      set_grows v files k m more q mid new bytes c (named_set v files name) lt (s.goes files (given.had files same))
      (given.gives files same) read once asked waiting more_is;
}

-- ---- a class more

pub members_more : (names names' : Names) (classes classes' : List Class) (tables tables' : List (List (List ℕ))) (name : List ℕ) (c : FramedClass) → names' ≡ names ++ name ∷ [] → classes' ≡ classes ++ c.class ∷ [] → tables' ≡ tables ++ c.tables ∷ [] → members_of names' classes' tables' ≡ with_member (members_of names classes tables) name c
members_more names names' classes classes' tables tables' name c e f g = λ i. members_of (e i) (f i) (g i)

pub one_class_more : (classes more : List Class) (c : Class) (k : ℕ) → length classes ≡ k → more ≡ classes ++ c ∷ [] → length more ≡ k + 1
one_class_more classes more c k numbered is = ap length is ∙ omega (arith, length-append classes (c ∷ []))

pub kept_none : (v : Version) (m : Members) → m ≡ no_members → AreKept v m
kept_none v m none = subst (AreKept v) (sym none) (record { named = refl; classes = tt })

pub kept_more : (v : Version) (m more : Members) (name : List ℕ) (c : FramedClass) (read : Result FramedClass ClassFault) → AreKept v m → IfOk read (IsKept v) → read ≡ Ok c → more ≡ with_member m name c → AreKept v more
kept_more v m more name c read kept class_kept is more_is =
    subst (AreKept v) (sym more_is) (record {
      named = length-append m.names (name ∷ []) ∙ (ap (λ n. n + 1) kept.named ∙ sym (length-append m.classes (c.class ∷ [])));
      classes = AllZip-append (IsKeptWith v) m.classes (c.class ∷ []) m.tables (c.tables ∷ []) kept.classes (subst (λ r. IfOk r (IsKept v)) is class_kept, tt);
    })

kept_with : (v : Version) (m : Members) (classes : List Class) → AreKept v m → IsKeptSet v (set_with m classes)
kept_with v m [] kept = tt
kept_with v m (c ∷ classes) kept = kept

pub kept_set : (v : Version) (m : Members) (set : NamedSet) → set ≡ named_set_of m → AreKept v m → IsKeptSet v set
kept_set v m set is kept = subst (IsKeptSet v) (sym is) (kept_with v m m.classes kept)

-- ---- counts

-- nothing failed
pub counts-none : (before now : ℕ) → now ≡ before → CountsFailure false before now
counts-none before now e = record { never_falls = omega (arith, e); rises = λ t. absurd (false≢true t); stays = λ x. e }
