-- The files that were found, as names are asked for one after the other.
use Rattle.std.proofs.Common.{◌≡◌, ◌≢◌, ◌∙◌, ℕ, ◌+◌, ◌<◌, ◌≤◌, true, false, List, [], ◌∷◌, ◌++◌, length, take, drop, Option, Some, None, option_map, Result, Ok, Err, Vec, Global, String, string_bytes, codes, refl, sym, ap, subst}
use Rattle.std.specs.Prelude.{◌||◌, slice_get, is_some}
use Rattle.std.specs.List.{list_any}
use Rattle.std.proofs.lemmas.Bool.{or_left, or_right, true≢false}
use Rattle.std.proofs.lemmas.List.{append_cancel_right}
use Rattle.std.proofs.lemmas.List.Folds.{list_any-append}
use Rattle.std.proofs.lemmas.Slice.Eq.{bytes_eq-Decides}
use Rattle.class_definition.specs.declared.class_fault.ClassFault.{ClassFault}
use Rattle.nv_outside.specs.Files.{AgreeWith, Files, Finds, SameFiles}
use Rattle.nv_outside.proofs.FilesLemmas.{agree_found, files_with, told_agree, told_or, with-other, with-same}
use Rattle.class_definition.specs.NameGrammar.{same_text}
use Rattle.class_definition.specs.declared.class.Class.{Class}
use Rattle.class_sets.specs.declared.loaded.Loaded.{Loaded}
use Rattle.class_sets.specs.declared.loaded.Loaded.TheVariants.{Faulty}
use Rattle.class_sets.specs.ClassSets.{IsLoaded, class_in_bytes, class_set, file_of, found_or, grown, is_among, names_asked, next, set_of_classes}
use Rattle.class_sets.specs.Waiting.{GivesOver, IsOnce, Queue, SameFilesOf, file_found, fresh, queue, texts}
use Rattle.class_sets.proofs.QueueLemmas.{asked_all, asked_more, found_none, found_some, once_more, splits, text_at}
use Rattle.class_sets.proofs.SetLemmas.{SetIs, set_ends, set_faulty, set_full, set_grows}

-- files are as they are
pub same_still : (files : Option Files) → SameFiles files files
same_still None = tt
same_still (Some f) = λ name. refl

-- ---- one file more

among_more : (asked : List (List ℕ)) (name other : List ℕ) → is_among asked other ≡ true → is_among (asked ++ name ∷ []) other ≡ true
among_more asked name other among =
    list_any-append (same_text other) asked (name ∷ []) ∙ or_left (is_among asked other) (same_text other name || false) among

among_last : (asked : List (List ℕ)) (name : List ℕ) → is_among (asked ++ name ∷ []) name ≡ true
among_last asked name =
    let own : same_text name name ≡ true = (bytes_eq-Decides name name).1 refl in
    list_any-append (same_text name) asked (name ∷ [])
    ∙ or_right (is_among asked name) (same_text name name || false) (or_left (same_text name name) false own)

other_file : (asked : List (List ℕ)) (name other : List ℕ) → is_among asked name ≡ false → is_among asked other ≡ true → file_of other ≢ file_of name
other_file asked name other new among same =
    let e : other ≡ name = append_cancel_right other name (codes ".class") same in
    true≢false (sym among ∙ ap (is_among asked) e ∙ new)

-- a map that has what was found now has what was found before
before_asked : (found files : Files) (asked : List (List ℕ)) (name : List ℕ) (file : Option (List ℕ)) → is_among asked name ≡ false
    → SameFilesOf (asked ++ name ∷ []) (files_with found (file_of name) file) files → SameFilesOf asked found files
before_asked found files asked name file new same = λ other among.
    same other (among_more asked name other among) ∙ with-other found (file_of name) file (file_of other) (other_file asked name other new among)

just_asked : (found files : Files) (asked : List (List ℕ)) (name : List ℕ) (file : Option (List ℕ))
    → SameFilesOf (asked ++ name ∷ []) (files_with found (file_of name) file) files → files (file_of name) ≡ file
just_asked found files asked name file same = same name (among_last asked name) ∙ with-same found (file_of name) file

-- ---- names that are skipped

-- The names up to those that wait in a queue have no file, in every map that has what was found.
pub record SkipsTo (told : Option Files) (before : Files) (old q : Queue) : Type 0 where
  pub after : Files
  pub agree : AgreeWith told after
  pub had : (files : Files) → SameFilesOf q.asked after files → SameFilesOf old.asked before files
  pub skips : (files : Files) → SameFilesOf q.asked after files → next files old.asked old.waiting ≡ next files q.asked q.waiting

pub skips_none : (told : Option Files) (before : Files) (q : Queue) → AgreeWith told before → SkipsTo told before q q
skips_none told before q agree = record { after = before; agree = agree; had = λ files same. same; skips = λ files same. refl }

-- one more of them was asked for
pub record AskedOver (told : Option Files) (before : Files) (old q : Queue) (found : Option (Vec ℕ Global)) : Type 0 where
  pub after : Files
  pub agree : AgreeWith told after
  pub had : (files : Files) → SameFilesOf q.asked after files → SameFilesOf old.asked before files
  pub asks : (files : Files) → SameFilesOf q.asked after files
      → next files old.asked old.waiting ≡ found_or (option_map (λ v. v.items) found) q.asked q.waiting (next files q.asked q.waiting)

pub asked_over : (told now : Option Files) (before : Files) (old : Queue) (names : List (String Global)) (i : ℕ) (name : String Global) (text : List ℕ)
    (found : Option (Vec ℕ Global)) → SameFiles told now → Finds now (file_of text) found → text ≡ string_bytes name → slice_get names i ≡ Some name
    → IsOnce (queue i (texts names)) → SkipsTo told before old (queue i (texts names))
    → AskedOver told before old (queue (i + 1) (texts names)) found
asked_over told now before old names i name text found same finds text_is at once s = record {
  after = after;
  agree = agree_found told now s.after (file_of own) found s.agree same (subst (λ t. Finds now (file_of t) found) text_is finds);
  had = λ files has. s.had files (narrow files has);
  asks = λ files has. s.skips files (narrow files has)
      ∙ asked_more files (texts names) i own file (text_at names i name at) once (here files has);
}
  where
    own : List ℕ
    own = string_bytes name

    file : Option (List ℕ)
    file = option_map (λ v. v.items) found

    after : Files
    after = files_with s.after (file_of own) file

    widen : (files : Files) → SameFilesOf (take (i + 1) (texts names)) after files → SameFilesOf (take i (texts names) ++ own ∷ []) after files
    widen files has = subst (λ l. SameFilesOf l after files) (splits (texts names) i own (text_at names i name at)).front has

    narrow : (files : Files) → SameFilesOf (take (i + 1) (texts names)) after files → SameFilesOf (take i (texts names)) s.after files
    narrow files has =
        before_asked s.after files (take i (texts names)) own file (once_more (texts names) i own (text_at names i name at) once).0 (widen files has)

    here : (files : Files) → SameFilesOf (take (i + 1) (texts names)) after files → files (file_of own) ≡ file
    here files has = just_asked s.after files (take i (texts names)) own file (widen files has)

-- it has a file
pub gives_some : (told : Option Files) (before : Files) (old q : Queue) (found : Option (Vec ℕ Global)) → is_some found ≡ true
    → AskedOver told before old q found → GivesOver told before old found q
gives_some told before old q found some a = record {
  after = a.after;
  agree = a.agree;
  had = a.had;
  gives = λ files has. a.asks files has ∙ found_some q found (next files q.asked q.waiting) some;
}

-- it has none
pub skips_more : (told : Option Files) (before : Files) (old q : Queue) (found : Option (Vec ℕ Global)) → is_some found ≡ false
    → AskedOver told before old q found → SkipsTo told before old q
skips_more told before old q found none a = record {
  after = a.after;
  agree = a.agree;
  had = a.had;
  skips = λ files has. a.asks files has ∙ found_none q.asked q.waiting found (next files q.asked q.waiting) none;
}

-- all were asked for
pub gives_none : (told : Option Files) (before : Files) (old : Queue) (names : List (String Global)) (i : ℕ) → length names ≤ i
    → SkipsTo told before old (queue i (texts names)) → GivesOver told before old None (queue i (texts names))
gives_none told before old names i all s = record {
  after = s.after;
  agree = s.agree;
  had = s.had;
  gives = λ files has. s.skips files has ∙ asked_all files names i all;
}

-- ---- the set

-- The set so far: over every map that has what was found it goes on to the whole set.
pub record GoesOn (told : Option Files) (name : List ℕ) (k : ℕ) (classes : List Class) (q : Queue) : Type 0 where
  pub found : Files
  pub agree : AgreeWith told found
  pub goes : (files : Files) → SameFilesOf q.asked found files → SetIs files k classes q (class_set files name)

pub begins : (told : Option Files) (name : List ℕ) (classes : List Class) (q : Queue) → classes ≡ [] → q.asked ≡ [] → q.waiting ≡ name ∷ []
    → GoesOn told name 0 classes q
begins told name classes q none asked waiting = record {
  found = told_or told (λ other. None);
  agree = told_agree told (λ other. None);
  goes = λ files same. ap (λ cs. grown files 1025 cs q.asked q.waiting) none ∙ ap (λ a. grown files 1025 [] a q.waiting) asked
      ∙ ap (grown files 1025 [] []) waiting;
}

-- no name that waits has a file
pub loads_all : (told : Option Files) (name : List ℕ) (k : ℕ) (classes : List Class) (q mid : Queue) (loaded : Loaded) → k < 1025
    → (s : GoesOn told name k classes q) → GivesOver told s.found q None mid → loaded ≡ set_of_classes classes → IsLoaded told name loaded
loads_all told name k classes q mid loaded lt s given is = record {
  files = given.after;
  agree = given.agree;
  is = is ∙ set_ends given.after k classes q (class_set given.after name) lt (s.goes given.after (given.had given.after (λ n among. refl)))
      (given.gives given.after (λ n among. refl));
}

-- there are as many classes as there may be
pub loads_full : (told : Option Files) (name : List ℕ) (k : ℕ) (classes : List Class) (q : Queue) (loaded : Loaded) → 1025 ≤ k
    → GoesOn told name k classes q → loaded ≡ set_of_classes classes → IsLoaded told name loaded
loads_full told name k classes q loaded le s is = record {
  files = s.found;
  agree = s.agree;
  is = is ∙ set_full s.found k classes q (class_set s.found name) le (s.goes s.found (λ n among. refl));
}

-- a file spells no class
pub loads_faulty : (told : Option Files) (name : List ℕ) (k : ℕ) (classes : List Class) (q mid : Queue) (bytes : Vec ℕ Global) (fault : ClassFault)
    → k < 1025 → length classes ≡ k → (s : GoesOn told name k classes q) → GivesOver told s.found q (Some bytes) mid
    → class_in_bytes bytes.items ≡ Err fault → IsLoaded told name (Faulty k fault)
loads_faulty told name k classes q mid bytes fault lt numbered s given read = record {
  files = given.after;
  agree = given.agree;
  is = set_faulty given.after k classes q mid bytes fault (class_set given.after name) lt numbered
      (s.goes given.after (given.had given.after (λ n among. refl))) (given.gives given.after (λ n among. refl)) read;
}

-- it spells one
pub goes_more : (told : Option Files) (name : List ℕ) (k : ℕ) (classes more : List Class) (q mid new : Queue) (bytes : Vec ℕ Global) (c : Class)
    → k < 1025 → (s : GoesOn told name k classes q) → GivesOver told s.found q (Some bytes) mid → class_in_bytes bytes.items ≡ Ok c → IsOnce mid
    → new.asked ≡ mid.asked → new.waiting ≡ mid.waiting ++ fresh (mid.asked ++ mid.waiting) (names_asked c) → more ≡ classes ++ c ∷ []
    → GoesOn told name (k + 1) more new
goes_more told name k classes more q mid new bytes c lt s given read once asked waiting more_is = record {
  found = given.after;
  agree = given.agree;
  goes = λ files has.
      let same : SameFilesOf mid.asked given.after files = subst (λ a. SameFilesOf a given.after files) asked has in
      set_grows files k classes more q mid new bytes c (class_set files name) lt (s.goes files (given.had files same))
      (given.gives files same) read once asked waiting more_is;
}
