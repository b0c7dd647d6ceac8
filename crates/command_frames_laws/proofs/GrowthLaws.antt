-- How a set grows, and how the same set grows from the files in which it is stored.
use Rattle.std.proofs.Common.{◌≡◌, ◌∙◌, ℕ, zero, suc, ◌<◌, ◌⊎◌, inl, inr, List, [], ◌∷◌, ◌++◌, length, map, Option, Some, None, Result, Ok, Err, refl, sym, ap, subst, arith, length-append, append_assoc, append-nil}
use Rattle.std.specs.Prelude.{flat_map}
use Rattle.std.specs.List.{AllZip}
use Rattle.std.proofs.lemmas.List.Elements.{recursion_from_All}
use Rattle.nv_outside.specs.Files.{Files}
use Rattle.class_definition.specs.declared.class_fault.ClassFault.{ClassFault}
use Rattle.class_definition.specs.declared.class.Class.{Class}
use Rattle.class_definition.specs.declared.framed_class.FramedClass.{FramedClass}
use Rattle.class_definition.specs.FramedClassFile.{SpellsFramed}
use Rattle.class_sets.specs.ClassSets.{Found, file_of, names_asked, next}
use Rattle.class_sets.specs.Waiting.{last_of}
use Rattle.class_sets.proofs.WaitingLemmas.{next-first}
use Rattle.class_sets.proofs.WaitingLemmas as waiting_lemmas
use Rattle.class_sets.specs.declared.members.Members.{Members}
use Rattle.class_sets.specs.declared.named_set.NamedSet.{NamedSet}
use Rattle.class_sets.specs.declared.named_set.NamedSet.TheVariants.{NoFile, Faulty, Classes}
use Rattle.class_sets.specs.declared.version.Version.{Version}
use Rattle.class_sets.specs.declared.version.Version.TheVariants.{V48, V51}
use Rattle.class_sets.specs.NamedSets.{named_class_in, named_grown, members_of, named_set, no_members, named_set_of, set_with, with_named_class, with_found, with_member}
use Rattle.class_sets.proofs.ReadLemmas.{framed_ok}
use Rattle.stackmap_maker.specs.Refusals.{class_without_tables, tables_of}
use Rattle.command_frames_laws.specs.StoredSets.{AreStored, GetsNone, IsFile, framed_members}
use Rattle.command_frames_laws.proofs.AskedLaws.{AsksSame}
use Rattle.command_frames_laws.proofs.NextLaws.{AllOf, Names, holding, next-none, next-rest, next-same}

-- ---- what a set is

abbrev members-in : Members → NamedSet → Members
members-in other NoFile = other
members-in other (Faulty number fault) = other
members-in other (Classes m) = m

pub same-members : (m all : Members) → Classes m ≡ Classes all → all ≡ m
same-members m all e = sym (ap (members-in m) e)

abbrev is-classes : NamedSet → Type 0
is-classes NoFile = ⊥
is-classes (Faulty number fault) = ⊥
is-classes (Classes m) = Unit {0}

no-file : (all : Members) → NoFile ≡ Classes all → ⊥
no-file all e = subst is-classes (sym e) tt

pub no-fault : (number : ℕ) (fault : ClassFault) (all : Members) → Faulty number fault ≡ Classes all → ⊥
no-fault number fault all e = subst is-classes (sym e) tt

-- a set that ends has the classes so far, and they are some
pub ended : (m all : Members) (cs : List Class) → set_with m cs ≡ Classes all → (all ≡ m) × (0 < length cs)
ended m all [] e = absurd (no-file all e)
ended m all (c ∷ cs) e = (same-members m all e, omega arith)

ends : (m : Members) (cs : List Class) → 0 < length cs → set_with m cs ≡ Classes m
ends m [] some = absurd (omega (arith, some))
ends m (c ∷ cs) some = refl

-- ---- one turn

pub grown-none : (v : Version) (files : Files) (n : ℕ) (m : Members) (asked waiting : Names) → next files asked waiting ≡ None → named_grown v files (suc n) m asked waiting ≡ named_set_of m
unfolding named_grown
grown-none v files n m asked waiting none = rw none refl

grown-class : (v : Version) (files : Files) (n : ℕ) (m : Members) (asked waiting : Names) (found : Found) (c : FramedClass) → next files asked waiting ≡ Some found → named_class_in v found.bytes ≡ Ok c → named_grown v files (suc n) m asked waiting ≡ named_grown v files n (with_member m (last_of found.asked) c) found.asked (found.waiting ++ names_asked c.class)
unfolding named_grown
grown-class v files n m asked waiting found c some read = rw (some, read) refl

-- a set that grows: it ends, or goes on with a class
pub record GoesWith (v : Version) (files : Files) (n : ℕ) (m : Members) (asked waiting : Names) (all : Members) : Type 0 where
  pub found : Found
  pub is : next files asked waiting ≡ Some found
  pub class : FramedClass
  pub read : named_class_in v found.bytes ≡ Ok class
  pub grows : named_grown v files n (with_member m (last_of found.asked) class) found.asked (found.waiting ++ names_asked class.class) ≡ Classes all

abbrev pub Turn : Version → Files → ℕ → Members → Names → Names → Members → Type 0
Turn v files n m asked waiting all =
    ((next files asked waiting ≡ None) × (named_set_of m ≡ Classes all)) ⊎ GoesWith v files n m asked waiting all

pub turn : (v : Version) (files : Files) (n : ℕ) (m all : Members) (asked waiting : Names) → named_grown v files (suc n) m asked waiting ≡ Classes all → Turn v files n m asked waiting all
unfolding named_grown
turn v files n m all asked waiting e = by-found (next files asked waiting) refl e
  where
    by-class : (found : Found) → next files asked waiting ≡ Some found → (read : Result FramedClass ClassFault) → named_class_in v found.bytes ≡ read → with_named_class (length m.classes) (λ c. named_grown v files n (with_member m (last_of found.asked) c) found.asked (found.waiting ++ names_asked c.class)) read ≡ Classes all → Turn v files n m asked waiting all
    by-class found is (Ok c) read h = inr (record { found = found; is = is; class = c; read = read; grows = h })
    by-class found is (Err fault) read h = absurd (no-fault (length m.classes) fault all h)

    by-found : (o : Option Found) → next files asked waiting ≡ o → with_found (named_set_of m) (λ found. with_named_class (length m.classes) (λ c. named_grown v files n (with_member m (last_of found.asked) c) found.asked (found.waiting ++ names_asked c.class)) (named_class_in v found.bytes)) o ≡ Classes all → Turn v files n m asked waiting all
    by-found None is h = inl (is, h)
    by-found (Some found) is h = by-class found is (named_class_in v found.bytes) refl h

-- ---- the same set from other files

all-front : (P : List ℕ → Type 0) (ns ms : Names) → AllOf P (ns ++ ms) → AllOf P ns
all-front P [] ms all = tt
all-front P (n ∷ ns) ms all = (all.0, all-front P ns ms all.1)

all-behind : (P : List ℕ → Type 0) (ns ms : Names) → AllOf P (ns ++ ms) → AllOf P ms
all-behind P [] ms all = all
all-behind P (n ∷ ns) ms all = all-behind P ns ms all.1

pub all-join : (P : List ℕ → Type 0) (ns ms : Names) → AllOf P ns → AllOf P ms → AllOf P (ns ++ ms)
all-join P [] ms first second = second
all-join P (n ∷ ns) ms first second = (first.0, all-join P ns ms first.1 second)

-- members, and behind them classes with their tables
abbrev joined : Members → Names → List FramedClass → Members
joined x names framed = members_of (x.names ++ names) (x.classes ++ map class_without_tables framed) (x.tables ++ map tables_of framed)

module _ (files later : Files) where
  abbrev Stay : Names → Type 0
  Stay names = AllOf (GetsNone files later) names

  -- what a set grows by, and how as many members grow by the same with tables
  pub record Again (n : ℕ) (m : Members) (asked waiting : Names) (all : Members) : Type 0 where
    pub names : Names
    pub classes : List Class
    pub names_are : all.names ≡ m.names ++ names
    pub classes_are : all.classes ≡ m.classes ++ classes
    pub again : (x : Members) (stored : Names) (framed : List FramedClass) → length x.classes ≡ length m.classes → Stay waiting → Stay (flat_map names_asked classes) → AllZip (IsFile later) names stored → AllZip SpellsFramed stored framed → AllZip AsksSame classes framed → named_grown V51 later n x asked waiting ≡ Classes (joined x names framed)

  again-ends : (x : Members) (stored : Names) (framed : List FramedClass) → 0 < length x.classes → AllZip (IsFile later) [] stored → AllZip SpellsFramed stored framed → named_set_of x ≡ Classes (joined x [] framed)
  again-ends x [] [] some held spelled =
      ends x x.classes some ∙ (λ i. Classes (members_of (sym (append-nil x.names) i) (sym (append-nil x.classes) i) (sym (append-nil x.tables) i)))
  again-ends x [] (f ∷ framed) some held spelled = absurd spelled
  again-ends x (s ∷ stored) framed some held spelled = absurd held

  again-none : (n : ℕ) (m all : Members) (asked waiting : Names) → ((x : Members) → Stay waiting → named_grown V51 later n x asked waiting ≡ named_set_of x) → named_set_of m ≡ Classes all → Again n m asked waiting all
  again-none n m all asked waiting stops is =
      let e = ended m all m.classes is in
      record {
        names = [];
        classes = [];
        names_are = ap (λ (y : Members). y.names) e.0 ∙ sym (append-nil m.names);
        classes_are = ap (λ (y : Members). y.classes) e.0 ∙ sym (append-nil m.classes);
        again = λ x stored framed long waits others held spelled same.
            stops x waits ∙ again-ends x stored framed (omega (arith, long, e.1)) held spelled;
      }

  module _ (n : ℕ) (m all : Members) (asked waiting : Names) (g : GoesWith V48 files n m asked waiting all)
      (r : Again n (with_member m (last_of g.found.asked) g.class) g.found.asked (g.found.waiting ++ names_asked g.class.class) all) where
    step : (x : Members) (stored : Names) (framed : List FramedClass) → length x.classes ≡ length m.classes → Stay waiting → Stay (names_asked g.class.class ++ flat_map names_asked r.classes) → AllZip (IsFile later) (last_of g.found.asked ∷ r.names) stored → AllZip SpellsFramed stored framed → AllZip AsksSame (g.class.class ∷ r.classes) framed → named_grown V51 later (suc n) x asked waiting ≡ Classes (joined x (last_of g.found.asked ∷ r.names) framed)
    step x [] framed long waits others held spelled same = absurd held
    step x (bytes ∷ stored) [] long waits others held spelled same = absurd spelled
    step x (bytes ∷ stored) (f ∷ framed) long waits others held spelled same =
        let name = last_of g.found.asked in
        let P = GetsNone files later in
        let own = names_asked g.class.class in
        let more = flat_map names_asked r.classes in
        let longer : length (x.classes ++ f.class ∷ []) ≡ length (m.classes ++ g.class.class ∷ []) = omega (arith, long, length-append x.classes (f.class ∷ []), length-append m.classes (g.class.class ∷ [])) in
        let waits-more = all-join P g.found.waiting own (next-rest P files asked waiting g.found waits g.is) (all-front P own more others) in
        grown-class V51 later n x asked waiting (holding g.found bytes) f (next-same files later asked waiting g.found bytes waits held.0 g.is) (sym (framed_ok bytes f spelled.0))
        ∙ (ap (λ ns. named_grown V51 later n (with_member x name f) g.found.asked (g.found.waiting ++ ns)) same.0
        ∙ (r.again (with_member x name f) stored framed longer waits-more (all-behind P own more others) held.1 spelled.1 same.1
        ∙ (λ i. Classes (members_of (append_assoc x.names (name ∷ []) r.names i) (append_assoc x.classes (f.class ∷ []) (map class_without_tables framed) i) (append_assoc x.tables (f.tables ∷ []) (map tables_of framed) i)))))

    again-more : Again (suc n) m asked waiting all
    again-more = record {
      names = last_of g.found.asked ∷ r.names;
      classes = g.class.class ∷ r.classes;
      names_are = r.names_are ∙ append_assoc m.names (last_of g.found.asked ∷ []) r.names;
      classes_are = r.classes_are ∙ append_assoc m.classes (g.class.class ∷ []) r.classes;
      again = step;
    }

  again-zero : (m all : Members) (asked waiting : Names) → named_grown V48 files zero m asked waiting ≡ Classes all → Again zero m asked waiting all
  unfolding named_grown
  again-zero m all asked waiting e = again-none zero m all asked waiting (λ x waits. refl) e

  goes-again : (n : ℕ) (m all : Members) (asked waiting : Names) → named_grown V48 files n m asked waiting ≡ Classes all → Again n m asked waiting all
  goes-again zero m all asked waiting e = again-zero m all asked waiting e
  goes-again (suc n) m all asked waiting e = by-turn (λ x a w h. goes-again n x all a w h) (turn V48 files n m all asked waiting e)
    where
      by-turn : ((x : Members) (a w : Names) → named_grown V48 files n x a w ≡ Classes all → Again n x a w all) → Turn V48 files n m asked waiting all → Again (suc n) m asked waiting all
      by-turn others (inl none) =
          again-none (suc n) m all asked waiting (λ x waits. grown-none V51 later n x asked waiting (next-none files later asked waiting waits none.0)) none.1
      by-turn others (inr g) =
          again-more n m all asked waiting g (others (with_member m (last_of g.found.asked) g.class) g.found.asked (g.found.waiting ++ names_asked g.class.class) g.grows)

-- ---- from the first name

-- the first name has a file
first-there : (v : Version) (files : Files) (n : ℕ) (name : List ℕ) (all : Members) → named_grown v files (suc n) no_members [] (name ∷ []) ≡ Classes all → files (file_of name) ≡ None → ⊥
first-there v files n name all e none =
    no-file all (sym (grown-none v files n no_members [] (name ∷ []) (next-first files [] name [] None refl none ∙ waiting_lemmas.next-none files (name ∷ []))) ∙ e)

pub same-set : (files later : Files) (name : List ℕ) (members : Members) (framed : List FramedClass) (stored : Names) → named_set V48 files name ≡ Classes members → AllZip AsksSame members.classes framed → AllZip SpellsFramed stored framed → AreStored files members stored later → named_set V51 later name ≡ Classes (framed_members members.names framed)
same-set files later name members framed stored is same spelled s =
    let r = goes-again files later 1025 no_members members [] (name ∷ []) is in
    let P = GetsNone files later in
    let waits : AllOf P (name ∷ []) = ((λ none. absurd (first-there V48 files 1024 name members is none)), tt) in
    let others = recursion_from_All P (flat_map names_asked members.classes) s.others in
    r.again no_members stored framed refl waits (subst (λ cs. AllOf P (flat_map names_asked cs)) r.classes_are others)
    (subst (λ ns. AllZip (IsFile later) ns stored) r.names_are s.held) spelled (subst (λ cs. AllZip AsksSame cs framed) r.classes_are same)
    ∙ ap (λ ns. Classes (framed_members ns framed)) (sym r.names_are)
