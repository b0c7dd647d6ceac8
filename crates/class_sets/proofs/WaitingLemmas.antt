-- A set does not depend on names that wait twice, or that were asked for.
use Rattle.std.proofs.Common.{◌≡◌, ℕ, zero, suc, ◌≤◌, Bool, true, false, cond, List, [], ◌∷◌, ◌++◌, length, Option, Some, None, option_map, Result, Ok, Err, refl, sym, ap, ◌∙◌, append_assoc, append-nil, arith}
use Rattle.nv_outside.specs.Files.{Files}
use Rattle.class_definition.specs.declared.class_fault.ClassFault.{ClassFault}
use Rattle.class_definition.specs.declared.class.Class.{Class}
use Rattle.class_sets.specs.declared.loaded.Loaded.{Loaded}
use Rattle.class_sets.specs.declared.loaded.Loaded.TheVariants.{Faulty}
use Rattle.class_sets.specs.ClassSets.{file_of, is_among, names_asked, class_in_bytes, Found, found_or, next, set_of_classes, with_class, with_file, grown}
use Rattle.class_sets.specs.Waiting.{fresh}

abbrev Names : Type 0
Names = List (List ℕ)

-- ---- fresh names

pub fresh-append : (known ns ms : Names) → fresh known (ns ++ ms) ≡ fresh known ns ++ fresh (known ++ fresh known ns) ms
fresh-append known [] ms = ap (λ k. fresh k ms) (sym (append-nil known))
fresh-append known (n ∷ ns) ms = by (fresh-append known ns ms) (fresh-append (known ++ n ∷ []) ns ms) (is_among known n)
  where
    more : Names
    more = known ++ n ∷ []

    by : fresh known (ns ++ ms) ≡ fresh known ns ++ fresh (known ++ fresh known ns) ms
        → fresh more (ns ++ ms) ≡ fresh more ns ++ fresh (more ++ fresh more ns) ms
        → (b : Bool) → cond b (fresh known (ns ++ ms)) (n ∷ fresh more (ns ++ ms)) ≡ cond b (fresh known ns) (n ∷ fresh more ns) ++ fresh (known ++ cond b (fresh known ns) (n ∷ fresh more ns)) ms
    by old new true = old
    by old new false = ap (λ l. n ∷ l) (new ∙ ap (λ k. fresh more ns ++ fresh k ms) (append_assoc known (n ∷ []) (fresh more ns)))

pub fresh-fresh : (known ns : Names) → fresh known (fresh known ns) ≡ fresh known ns
fresh-fresh known [] = refl
fresh-fresh known (n ∷ ns) = by (fresh-fresh known ns) (fresh-fresh (known ++ n ∷ []) ns) (is_among known n) refl
  where
    more : Names
    more = known ++ n ∷ []

    by : fresh known (fresh known ns) ≡ fresh known ns → fresh more (fresh more ns) ≡ fresh more ns
        → (b : Bool) → is_among known n ≡ b → fresh known (cond b (fresh known ns) (n ∷ fresh more ns)) ≡ cond b (fresh known ns) (n ∷ fresh more ns)
    by old new true e = old
    by old new false e = rw e (ap (λ l. n ∷ l) new)

length-fresh : (known ns : Names) → length (fresh known ns) ≤ length ns
length-fresh known [] = omega arith
length-fresh known (n ∷ ns) = by (length-fresh known ns) (length-fresh (known ++ n ∷ []) ns) (is_among known n)
  where
    by : length (fresh known ns) ≤ length ns → length (fresh (known ++ n ∷ []) ns) ≤ length ns
        → (b : Bool) → length (cond b (fresh known ns) (n ∷ fresh (known ++ n ∷ []) ns)) ≤ length (n ∷ ns)
    by old new true = omega arith
    by old new false = omega arith

-- the first of names that wait once was not asked for, and the others wait once behind it
pub fresh-head : (known : Names) (n : List ℕ) (ns : Names) → fresh known (n ∷ ns) ≡ n ∷ ns → (is_among known n ≡ false) × (fresh (known ++ n ∷ []) ns ≡ ns)
fresh-head known n ns = by (is_among known n)
  where
    by : (b : Bool) → cond b (fresh known ns) (n ∷ fresh (known ++ n ∷ []) ns) ≡ n ∷ ns → (b ≡ false) × (fresh (known ++ n ∷ []) ns ≡ ns)
    by true e = let long : length (fresh known ns) ≡ suc (length ns) = ap length e in absurd (omega (arith, length-fresh known ns))
    by false e = (refl, cc)

-- ---- the next file

abbrev pub refreshed : Found → Found
refreshed f = record f { waiting = fresh f.asked f.waiting }

pub next-fresh : (files : Files) (asked ns : Names) → next files asked (fresh asked ns) ≡ option_map refreshed (next files asked ns)
unfolding next
next-fresh files asked [] = refl
next-fresh files asked (n ∷ ns) = by (next-fresh files asked ns) (next-fresh files (asked ++ n ∷ []) ns) (is_among asked n) refl
  where
    more : Names
    more = asked ++ n ∷ []

    found : next files more (fresh more ns) ≡ option_map refreshed (next files more ns)
        → (file : Option (List ℕ)) → found_or file more (fresh more ns) (next files more (fresh more ns)) ≡ option_map refreshed (found_or file more ns (next files more ns))
    found new None = new
    found new (Some bytes) = refl

    by : next files asked (fresh asked ns) ≡ option_map refreshed (next files asked ns)
        → next files more (fresh more ns) ≡ option_map refreshed (next files more ns)
        → (b : Bool) → is_among asked n ≡ b → next files asked (cond b (fresh asked ns) (n ∷ fresh more ns)) ≡ option_map refreshed (cond b (next files asked ns) (found_or (files (file_of n)) more ns (next files more ns)))
    by old new true e = old
    by old new false e = rw e (found new (files (file_of n)))

-- ---- the set

pub fresh-more : (asked ns ms : Names) → fresh asked (fresh asked ns ++ ms) ≡ fresh asked (ns ++ ms)
fresh-more asked ns ms =
    fresh-append asked (fresh asked ns) ms ∙ ap (λ l. l ++ fresh (asked ++ l) ms) (fresh-fresh asked ns) ∙ sym (fresh-append asked ns ms)

grown-fresh : (files : Files) (n : ℕ) (classes : List Class) (asked ns : Names) → grown files n classes asked (fresh asked ns) ≡ grown files n classes asked ns
unfolding grown
grown-fresh files zero classes asked ns = refl
grown-fresh files (suc n) classes asked ns =
    ap (with_file (set_of_classes classes) after) (next-fresh files asked ns) ∙ by (λ cs names ms. grown-fresh files n cs names ms) (next files asked ns)
  where
    after : Found → Loaded
    after found = with_class (length classes) (λ c. grown files n (classes ++ c ∷ []) found.asked (found.waiting ++ names_asked c)) (class_in_bytes found.bytes)

    Same : Type 0
    Same = (cs : List Class) (names ms : Names) → grown files n cs names (fresh names ms) ≡ grown files n cs names ms

    same : Same → (f : Found) (read : Result Class ClassFault) → with_class (length classes) (λ c. grown files n (classes ++ c ∷ []) f.asked (fresh f.asked f.waiting ++ names_asked c)) read ≡ with_class (length classes) (λ c. grown files n (classes ++ c ∷ []) f.asked (f.waiting ++ names_asked c)) read
    same others f (Err fault) = refl
    same others f (Ok c) =
        sym (others (classes ++ c ∷ []) f.asked (fresh f.asked f.waiting ++ names_asked c))
        ∙ ap (grown files n (classes ++ c ∷ []) f.asked) (fresh-more f.asked f.waiting (names_asked c))
        ∙ others (classes ++ c ∷ []) f.asked (f.waiting ++ names_asked c)

    by : Same → (found : Option Found) → with_file (set_of_classes classes) after (option_map refreshed found) ≡ with_file (set_of_classes classes) after found
    by others None = refl
    by others (Some f) = same others f (class_in_bytes f.bytes)

-- names that are there already need not wait again
pub grown-once : (files : Files) (n : ℕ) (classes : List Class) (asked waiting names : Names) → fresh asked waiting ≡ waiting → grown files n classes asked (waiting ++ fresh (asked ++ waiting) names) ≡ grown files n classes asked (waiting ++ names)
grown-once files n classes asked waiting names once =
    sym (grown-fresh files n classes asked (waiting ++ fresh (asked ++ waiting) names))
    ∙ ap (grown files n classes asked) same
    ∙ grown-fresh files n classes asked (waiting ++ names)
  where
    split : (ms : Names) → fresh asked (waiting ++ ms) ≡ waiting ++ fresh (asked ++ waiting) ms
    split ms = fresh-append asked waiting ms ∙ ap (λ l. l ++ fresh (asked ++ l) ms) once

    same : fresh asked (waiting ++ fresh (asked ++ waiting) names) ≡ fresh asked (waiting ++ names)
    same = split (fresh (asked ++ waiting) names) ∙ ap (λ l. waiting ++ l) (fresh-fresh (asked ++ waiting) names) ∙ sym (split names)

-- ---- a turn

pub next-first : (files : Files) (asked : Names) (n : List ℕ) (ns : Names) (file : Option (List ℕ)) → is_among asked n ≡ false → files (file_of n) ≡ file → next files asked (n ∷ ns) ≡ found_or file (asked ++ n ∷ []) ns (next files (asked ++ n ∷ []) ns)
unfolding next
next-first files asked n ns file new is = rw (new, is) refl

pub next-none : (files : Files) (asked : Names) → next files asked [] ≡ None
unfolding next
next-none files asked = refl

pub grown-zero : (files : Files) (classes : List Class) (asked waiting : Names) → grown files 0 classes asked waiting ≡ set_of_classes classes
unfolding grown
grown-zero files classes asked waiting = refl

pub grown-none : (files : Files) (n : ℕ) (classes : List Class) (asked waiting : Names) → next files asked waiting ≡ None → grown files (suc n) classes asked waiting ≡ set_of_classes classes
unfolding grown
grown-none files n classes asked waiting none = rw none refl

pub grown-fault : (files : Files) (n : ℕ) (classes : List Class) (asked waiting : Names) (found : Found) (fault : ClassFault) → next files asked waiting ≡ Some found → class_in_bytes found.bytes ≡ Err fault → grown files (suc n) classes asked waiting ≡ Faulty (length classes) fault
unfolding grown
grown-fault files n classes asked waiting found fault some read = rw (some, read) refl

pub grown-class : (files : Files) (n : ℕ) (classes : List Class) (asked waiting : Names) (found : Found) (c : Class) → next files asked waiting ≡ Some found → class_in_bytes found.bytes ≡ Ok c → grown files (suc n) classes asked waiting ≡ grown files n (classes ++ c ∷ []) found.asked (found.waiting ++ names_asked c)
unfolding grown
grown-class files n classes asked waiting found c some read = rw (some, read) refl
