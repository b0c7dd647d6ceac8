-- The names of a set are apart from each other, so that each of its files can be set.
use Rattle.std.proofs.Common.{◌≡◌, ◌≢◌, ◌∙◌, ℕ, Bool, true, false, cond, ◌||◌, List, [], ◌∷◌, ◌++◌, codes, Option, Some, None, refl, sym, ap, subst}
use Rattle.std.specs.Prelude.{flat_map}
use Rattle.std.specs.List.{AllZip}
use Rattle.std.proofs.lemmas.Bool.{or_left, or_right, true≢false}
use Rattle.std.proofs.lemmas.List.{append_cancel_right}
use Rattle.std.proofs.lemmas.List.Elements.{All-from_recursion}
use Rattle.std.proofs.lemmas.List.Folds.{list_any-append}
use Rattle.std.proofs.lemmas.Option.{same_Some, none-some}
use Rattle.nv_outside.specs.Files.{Files}
use Rattle.class_definition.specs.NameGrammar.{same_text}
use Rattle.class_names.proofs.NumberLemmas.{same_text-refl}
use Rattle.class_sets.specs.ClassSets.{Found, file_of, found_or, is_among, names_asked, next}
use Rattle.class_sets.specs.Waiting.{last_of}
use Rattle.class_sets.specs.declared.members.Members.{Members}
use Rattle.class_sets.specs.declared.named_set.NamedSet.TheVariants.{Classes}
use Rattle.class_sets.specs.declared.version.Version.{Version}
use Rattle.class_sets.specs.NamedSets.{named_set, no_members}
use Rattle.command_frames_laws.specs.StoredSets.{AllSet, AreStored, GetsNone, IsFile}
use Rattle.command_frames_laws.proofs.NextLaws.{AllOf, Names, found-with, last-push}
use Rattle.command_frames_laws.proofs.ReadLaws.{HasFile, holds-grown, members-have-files, push}

-- ---- the name of a file that was found is new

abbrev IsAmong : Names → List ℕ → Type 0
IsAmong names name = is_among names name ≡ true

record IsNewName (asked : Names) (found : Found) : Type 0 where
  new : is_among asked (last_of found.asked) ≡ false
  kept : (name : List ℕ) → IsAmong asked name → IsAmong found.asked name
  own : IsAmong found.asked (last_of found.asked)

among-more : (asked : Names) (name other : List ℕ) → IsAmong asked other → IsAmong (asked ++ name ∷ []) other
among-more asked name other among =
    list_any-append (same_text other) asked (name ∷ []) ∙ or_left (is_among asked other) (same_text other name || false) among

among-last : (asked : Names) (name : List ℕ) → IsAmong (asked ++ name ∷ []) name
among-last asked name =
    list_any-append (same_text name) asked (name ∷ [])
    ∙ or_right (is_among asked name) (same_text name name || false) (or_left (same_text name name) false (same_text-refl name))

not-before : (asked : Names) (name other : List ℕ) → is_among (asked ++ name ∷ []) other ≡ false → is_among asked other ≡ false
not-before asked name other new = by-test (is_among asked other) refl
  where
    by-test : (b : Bool) → is_among asked other ≡ b → b ≡ false
    by-test false is = refl
    by-test true is = absurd (true≢false (sym (among-more asked name other is) ∙ new))

next-new : (files : Files) (asked ns : Names) (found : Found) → next files asked ns ≡ Some found → IsNewName asked found
unfolding next
next-new files asked [] found e = absurd (none-some found e)
next-new files asked (n ∷ ns) found e = by-asked (next-new files asked ns found) (next-new files more ns found) (is_among asked n) refl e
  where
    more : Names
    more = asked ++ n ∷ []

    just : is_among asked n ≡ false → (bytes : List ℕ) → IsNewName asked (found-with bytes more ns)
    just is bytes = record {
      new = ap (is_among asked) (last-push asked n) ∙ is;
      kept = λ name among. among-more asked n name among;
      own = ap (is_among more) (last-push asked n) ∙ among-last asked n;
    }

    by-file : is_among asked n ≡ false → (next files more ns ≡ Some found → IsNewName more found) → (file : Option (List ℕ)) → found_or file more ns (next files more ns) ≡ Some found → IsNewName asked found
    by-file is others None h =
        let r = others h in
        record { new = not-before asked n (last_of found.asked) r.new; kept = λ name among. r.kept name (among-more asked n name among); own = r.own }
    by-file is others (Some bytes) h = subst (IsNewName asked) (same_Some (found-with bytes more ns) found h) (just is bytes)

    by-asked : (next files asked ns ≡ Some found → IsNewName asked found) → (next files more ns ≡ Some found → IsNewName more found) → (b : Bool) → is_among asked n ≡ b → cond b (next files asked ns) (found_or (files (file_of n)) more ns (next files more ns)) ≡ Some found → IsNewName asked found
    by-asked same others true is h = same h
    by-asked same others false is h = by-file is others (files (file_of n)) h

-- ---- names that are apart

-- none of some names is this one
abbrev AreOther : List ℕ → Names → Type 0
AreOther name names = AllOf (λ other. other ≢ name) names

abbrev AreApart : Names → Type 0
AreApart [] = Unit {0}
AreApart (n ∷ names) = AreOther n names × AreApart names

apart-push : (names : Names) (name : List ℕ) → AreApart names → AllOf (λ other. name ≢ other) names → AreApart (names ++ name ∷ [])
apart-push [] name apart new = (tt, tt)
apart-push (n ∷ names) name apart new = (push (λ other. other ≢ n) names name apart.0 new.0, apart-push names name apart.1 new.1)

all-map : (P Q : List ℕ → Type 0) → ((n : List ℕ) → P n → Q n) → (names : Names) → AllOf P names → AllOf Q names
all-map P Q each [] all = tt
all-map P Q each (n ∷ names) all = (each n all.0, all-map P Q each names all.1)

record AreNew (names asked : Names) : Type 0 where
  apart : AreApart names
  among : AllOf (IsAmong asked) names

one-more : (names asked : Names) (found : Found) → IsNewName asked found → AreNew names asked → AreNew (names ++ last_of found.asked ∷ []) found.asked
one-more names asked found r are = record {
  apart = apart-push names (last_of found.asked) are.apart
      (all-map (IsAmong asked) (λ other. last_of found.asked ≢ other)
      (λ other among same. true≢false (sym among ∙ ap (is_among asked) (sym same) ∙ r.new)) names are.among);
  among = push (IsAmong found.asked) names (last_of found.asked) (all-map (IsAmong asked) (IsAmong found.asked) r.kept names are.among) r.own;
}

names-apart : (v : Version) (files : Files) (name : List ℕ) (members : Members) → named_set v files name ≡ Classes members → AreApart members.names
names-apart v files name members is =
    let r = holds-grown v files (λ m asked. AreNew m.names asked) (λ n m all asked waiting g are. one-more m.names asked g.found (next-new files asked waiting g.found g.is) are)
    1025 no_members members [] (name ∷ []) is (record { apart = tt; among = tt }) in
    r.1.apart

-- ---- files that are set

-- a file of another name stays
other-stays : (before after : Files) (names stored : Names) (name : List ℕ) → AreOther name names → AllSet before names stored after → after (file_of name) ≡ before (file_of name)
other-stays before after [] [] name others set = set (file_of name)
other-stays before after [] (bytes ∷ stored) name others set = absurd set
other-stays before after (n ∷ names) [] name others set = absurd set
other-stays before after (n ∷ names) (bytes ∷ stored) name others set =
    other-stays set.0 after names stored name others.1 set.2
    ∙ set.1.1 (file_of name) (λ same. others.0 (sym (append_cancel_right name n (codes ".class") same)))

all-held : (before after : Files) (names stored : Names) → AreApart names → AllSet before names stored after → AllZip (IsFile after) names stored
all-held before after [] [] apart set = tt
all-held before after [] (bytes ∷ stored) apart set = absurd set
all-held before after (n ∷ names) [] apart set = absurd set
all-held before after (n ∷ names) (bytes ∷ stored) apart set =
    (other-stays set.0 after names stored n apart.0 set.2 ∙ set.1.0, all-held set.0 after names stored apart.1 set.2)

-- a class without a file is none of those that have one
are-other : (files : Files) (name : List ℕ) (names : Names) → files (file_of name) ≡ None → AllOf (HasFile files) names → AreOther name names
are-other files name names none have =
    all-map (HasFile files) (λ other. other ≢ name) (λ other file same. none-some file.0 (sym none ∙ (ap (λ n. files (file_of n)) (sym same) ∙ file.1))) names have

all-from : (P : List ℕ → Type 0) → ((n : List ℕ) → P n) → (names : Names) → AllOf P names
all-from P each [] = tt
all-from P each (n ∷ names) = (each n, all-from P each names)

pub set-stored : (v : Version) (files later : Files) (name : List ℕ) (members : Members) (stored : Names) → named_set v files name ≡ Classes members → AllSet files members.names stored later → AreStored files members stored later
set-stored v files later name members stored is set =
    let have = members-have-files v files name members is in
    let asked = flat_map names_asked members.classes in
    record {
      held = all-held files later members.names stored (names-apart v files name members is) set;
      others = All-from_recursion (GetsNone files later) asked
          (all-from (GetsNone files later) (λ n none. other-stays files later members.names stored n (are-other files n members.names none have) set ∙ none) asked);
    }
