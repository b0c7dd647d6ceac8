-- The names that a class asks for, by what its pool names.
use Rattle.std.proofs.Common.{◌≡◌, ℕ, zero, suc, ◌||◌, Bool, true, false, cond, List, [], ◌∷◌, ◌++◌, Some, ◌⊎◌, inl, inr, refl, sym, ap, subst, ◌∙◌, slice_get}
use Rattle.std.specs.Prelude.{not, filter, flat_map, option_to_list}
use Rattle.std.specs.List.{list_any, list_all, IsDistinct, AllByRecursion}
use Rattle.std.specs.Option.{option_and_then}
use Rattle.std.proofs.lemmas.Bool.{and_parts, or_cases, or_left, or_right, or_from, true≢false}
use Rattle.std.proofs.lemmas.List.Elements.{filter-append}
use Rattle.std.proofs.lemmas.List.Folds.{list_any-append}
use Rattle.std.proofs.lemmas.Map.Keys.{IsDistinct-head, IsDistinct-tail}
use Rattle.std.proofs.lemmas.Slice.Eq.{bytes_eq-Decides}
use Rattle.class_definition.specs.declared.entry.Entry.{Entry}
use Rattle.class_definition.specs.NameGrammar.{same_text, is_array_name}
use Rattle.class_definition.specs.PoolEntries.{class_entry_name}
use Rattle.class_definition.specs.PoolChecks.{text_at}
use Rattle.class_definition.specs.declared.class.Class.{Class}
use Rattle.class_definition.specs.MemberNames.{is_known}
use Rattle.class_names.proofs.NumberLemmas.{same_text-refl}
use Rattle.emit_classes.specs.Sound.{IsPool}
use Rattle.emit_classes.specs.Mentioned as mentioned
use Rattle.emit_classes.specs.Mentioned.{Mention, OfClass, OfMember, Mentions, classes_among, once}
use Rattle.emit_classes.proofs.MentionedClasses.{classes-asked, mentions-classes}
use Rattle.class_sets.specs.ClassSets.{has_file, names_asked, is_among}
use Rattle.class_sets.specs.Waiting.{fresh}

abbrev Names : Type 0
Names = List (List ℕ)

text-exact : (x y : List ℕ) → same_text x y ≡ true → x ≡ y
text-exact x y is = (bytes_eq-Decides x y).0 is

-- ---- new names among those that have files

abbrev pub asked_of : Names → Names → Names
asked_of known names = fresh known (filter has_file names)

among-more : (known : Names) (x y : List ℕ) → is_among known y ≡ true → is_among (known ++ x ∷ []) y ≡ true
among-more known x y is =
    list_any-append (same_text y) known (x ∷ []) ∙ or_left (list_any (same_text y) known) (list_any (same_text y) (x ∷ [])) is

among-last : (known : Names) (x y : List ℕ) → y ≡ x → is_among (known ++ x ∷ []) y ≡ true
among-last known x y same =
    list_any-append (same_text y) known (x ∷ [])
    ∙ or_right (list_any (same_text y) known) (list_any (same_text y) (x ∷ []))
    (or_left (same_text y x) false (subst (λ z. same_text y z ≡ true) same (same_text-refl y)))

-- one name at the front, by whether it has a file and whether it is known
drops-without : (known names : Names) (x : List ℕ) → has_file x ≡ false → asked_of known (x ∷ names) ≡ asked_of known names
drops-without known names x without = ap (λ b. fresh known (cond b (x ∷ filter has_file names) (filter has_file names))) without

keeps-with : (known names : Names) (x : List ℕ) → has_file x ≡ true
    → asked_of known (x ∷ names) ≡ cond (is_among known x) (asked_of known names) (x ∷ asked_of (known ++ x ∷ []) names)
keeps-with known names x with_file = ap (λ b. fresh known (cond b (x ∷ filter has_file names) (filter has_file names))) with_file

drops-known : (known names : Names) (x : List ℕ) → has_file x ≡ true → is_among known x ≡ true → asked_of known (x ∷ names) ≡ asked_of known names
drops-known known names x with_file is =
    keeps-with known names x with_file ∙ ap (λ b. cond b (asked_of known names) (x ∷ asked_of (known ++ x ∷ []) names)) is

keeps-new : (known names : Names) (x : List ℕ) → has_file x ≡ true → is_among known x ≡ false
    → asked_of known (x ∷ names) ≡ x ∷ asked_of (known ++ x ∷ []) names
keeps-new known names x with_file is =
    keeps-with known names x with_file ∙ ap (λ b. cond b (asked_of known names) (x ∷ asked_of (known ++ x ∷ []) names)) is

-- a name that is known, whether or not it has a file
pub known-dropped : (known names : Names) (x : List ℕ) → is_among known x ≡ true → asked_of known (x ∷ names) ≡ asked_of known names
known-dropped known names x is = by (has_file x) refl
  where
    by : (h : Bool) → has_file x ≡ h → asked_of known (x ∷ names) ≡ asked_of known names
    by false without = drops-without known names x without
    by true with_file = drops-known known names x with_file is

-- those with files among some names are known
abbrev Within : Names → Names → Type 0
Within before known = (y : List ℕ) → is_among before y ≡ true → has_file y ≡ true → is_among known y ≡ true

last-of : (before : Names) (x y : List ℕ) → is_among (before ++ x ∷ []) y ≡ true → (is_among before y ≡ true) ⊎ (y ≡ x)
last-of before x y is = elim (or_cases (list_any (same_text y) before) (list_any (same_text y) (x ∷ [])) (sym (list_any-append (same_text y) before (x ∷ [])) ∙ is)) [
  | inl front ↦ inl front
  | inr behind ↦ elim (or_cases (same_text y x) false behind) [ inl same ↦ inr (text-exact y x same) | inr never ↦ absurd cc ]
]

within-more : (before known : Names) (x : List ℕ) → Within before known → (has_file x ≡ true → is_among known x ≡ true) → Within (before ++ x ∷ []) known
within-more before known x within one y is with_file = elim (last-of before x y is) [
  | inl front ↦ within y front with_file
  | inr same ↦ subst (λ z. is_among known z ≡ true) (sym same) (one (subst (λ z. has_file z ≡ true) same with_file))
]

within-both : (before known : Names) (x : List ℕ) → Within before known → Within (before ++ x ∷ []) (known ++ x ∷ [])
within-both before known x within y is with_file = elim (last-of before x y is) [
  | inl front ↦ among-more known x y (within y front with_file)
  | inr same ↦ among-last known x y same
]

-- names that stand twice do not matter
asked-once : (before known names : Names) → Within before known → asked_of known (mentioned.fresh same_text before names) ≡ asked_of known names
unfolding mentioned.fresh
asked-once before known [] within = refl
asked-once before known (x ∷ names) within =
    let again = asked-once before known names within in
    by (λ k. asked-once (before ++ x ∷ []) k names) again (is_among before x) (has_file x) (is_among known x) refl refl refl
  where
    more : Names
    more = before ++ x ∷ []

    rest : Names
    rest = mentioned.fresh same_text more names

    by : ((k : Names) → Within more k → asked_of k rest ≡ asked_of k names)
        → asked_of known (mentioned.fresh same_text before names) ≡ asked_of known names
        → (b h k : Bool) → is_among before x ≡ b → has_file x ≡ h → is_among known x ≡ k
        → asked_of known (cond b (mentioned.fresh same_text before names) (x ∷ rest)) ≡ asked_of known (x ∷ names)
    by later again true true k is with_file there = again ∙ sym (drops-known known names x with_file (within x is with_file))
    by later again true false k is without there = again ∙ sym (drops-without known names x without)
    by later again false false k is without there =
        drops-without known rest x without
        ∙ later known (within-more before known x within (λ with_file. absurd (true≢false (sym with_file ∙ without))))
        ∙ sym (drops-without known names x without)
    by later again false true true is with_file there =
        drops-known known rest x with_file there ∙ later known (within-more before known x within (λ h. there))
        ∙ sym (drops-known known names x with_file there)
    by later again false true false is with_file there =
        keeps-new known rest x with_file there
        ∙ ap (λ ns. x ∷ ns) (later (known ++ x ∷ []) (within-both before known x within))
        ∙ sym (keeps-new known names x with_file there)

same-asked : (known xs ys : Names) → once same_text xs ≡ once same_text ys → asked_of known xs ≡ asked_of known ys
same-asked known xs ys same =
    sym (asked-once [] known xs (λ y is. absurd cc)) ∙ ap (asked_of known) same ∙ asked-once [] known ys (λ y is. absurd cc)

-- ---- by what a pool names

filter-joined : (f : Entry → Names) (es : List Entry) → flat_map (λ e. filter has_file (f e)) es ≡ filter has_file (flat_map f es)
filter-joined f [] = refl
filter-joined f (e ∷ es) =
    ap (λ ns. filter has_file (f e) ++ ns) (filter-joined f es) ∙ sym (filter-append has_file (f e) (flat_map f es))

pub names-asked : (c : Class) (ms : List Mention) → IsPool c.pool → Mentions c.pool ms → (known : Names)
    → fresh known (names_asked c) ≡ asked_of known (classes_among ms)
names-asked c ms sound are known =
    ap (fresh known) (filter-joined (λ e. option_to_list (option_and_then (text_at c.pool) (class_entry_name e))) c.pool)
    ∙ ap (asked_of known) (classes-asked c.pool sound)
    ∙ same-asked known (classes_among (mentioned.mentioned c.pool)) (classes_among ms) (mentions-classes c.pool ms are)

-- ---- what asks for nothing new

-- a class without a file or with a known name, or a member
abbrev pub is_old : Names → Mention → Bool
is_old known (OfClass name) = not (has_file name) || is_among known name
is_old known (OfMember kind r) = true

pub old-known : (known : Names) (name : List ℕ) → is_among known name ≡ true → is_old known (OfClass name) ≡ true
old-known known name is = or_right (not (has_file name)) (is_among known name) is

pub nothing-asked : (known : Names) (xs : List Mention) → list_all (is_old known) xs ≡ true → asked_of known (classes_among xs) ≡ []
nothing-asked known [] all = refl
nothing-asked known (OfMember kind r ∷ xs) all = nothing-asked known xs all
nothing-asked known (OfClass name ∷ xs) all =
    let p = and_parts (is_old known (OfClass name)) (list_all (is_old known) xs) all in
    one (has_file name) (is_among known name) refl refl p.0 ∙ nothing-asked known xs p.1
  where
    one : (h k : Bool) → has_file name ≡ h → is_among known name ≡ k → (not h || k) ≡ true
        → asked_of known (name ∷ classes_among xs) ≡ asked_of known (classes_among xs)
    one false k without there is = drops-without known (classes_among xs) name without
    one true true with_file there is = drops-known known (classes_among xs) name with_file there
    one true false with_file there is = absurd cc

-- ---- names that all differ

-- none of some names is among others
abbrev pub AreApart : Names → Names → Type 0
AreApart known names = AllByRecursion (λ y. is_among known y ≡ false) names

apart-more : (known : Names) (x : List ℕ) (names : Names) → AreApart known names → AllByRecursion (λ y. same_text x y ≡ false) names
    → AreApart (known ++ x ∷ []) names
apart-more known x [] apart differ = tt
apart-more known x (y ∷ names) apart differ =
    let other : same_text y x ≡ false = flipped y x differ.0 in (
      list_any-append (same_text y) known (x ∷ [])
          ∙ or_from (list_any (same_text y) known) (list_any (same_text y) (x ∷ [])) apart.0 (or_from (same_text y x) false other refl),
      apart-more known x names apart.1 differ.1,
    )
  where
    flipped : (a b : List ℕ) → same_text b a ≡ false → same_text a b ≡ false
    flipped a b is = by (same_text a b) refl
      where
        by : (t : Bool) → same_text a b ≡ t → t ≡ false
        by false e = refl
        by true e = absurd (true≢false (sym (subst (λ z. same_text z a ≡ true) (text-exact a b e) (same_text-refl a)) ∙ is))

pub distinct-fresh : (known names : Names) → AreApart known names → IsDistinct same_text names → fresh known names ≡ names
unfolding IsDistinct
distinct-fresh known [] apart distinct = refl
distinct-fresh known (x ∷ names) apart distinct =
    ap (λ b. cond b (fresh known names) (x ∷ fresh (known ++ x ∷ []) names)) apart.0
    ∙ ap (λ ns. x ∷ ns) (distinct-fresh (known ++ x ∷ []) names (apart-more known x names apart.1 distinct.0) distinct.1)

pub distinct-behind : (name : List ℕ) (names : Names) → IsDistinct same_text (name ∷ names) → fresh (name ∷ []) names ≡ names
distinct-behind name names distinct =
    distinct-fresh (name ∷ []) names (apart-more [] name names (none-apart names) (IsDistinct-head same_text name names distinct))
    (IsDistinct-tail same_text name names distinct)
  where
    none-apart : (ns : Names) → AreApart [] ns
    none-apart [] = tt
    none-apart (n ∷ ns) = (refl, none-apart ns)

-- all of them have files
pub files-kept : (names : Names) → AllByRecursion (λ x. is_known x ≡ false) names → list_all (λ x. not (is_array_name x)) names ≡ true
    → filter has_file names ≡ names
files-kept [] unknown single = refl
files-kept (x ∷ names) unknown single =
    let p = and_parts (not (is_array_name x)) (list_all (λ y. not (is_array_name y)) names) single in
    let with_file : has_file x ≡ true = ap (λ b. not (is_array_name x || b)) unknown.0 ∙ no-more (is_array_name x) p.0 in
    ap (λ b. cond b (x ∷ filter has_file names) (filter has_file names)) with_file ∙ ap (λ ns. x ∷ ns) (files-kept names unknown.1 p.1)
  where
    no-more : (b : Bool) → not b ≡ true → not (b || false) ≡ true
    no-more true is = is
    no-more false is = refl

pub among-there : (names : Names) (k : ℕ) (x : List ℕ) → slice_get names k ≡ Some x → is_among names x ≡ true
among-there [] k x e = absurd cc
among-there (y ∷ names) zero x e =
    let one : x ≡ y = cc in
    or_left (same_text x y) (is_among names x) (subst (λ z. same_text x z ≡ true) one (same_text-refl x))
among-there (y ∷ names) (suc k) x e = or_right (same_text x y) (is_among names x) (among-there names k x e)
