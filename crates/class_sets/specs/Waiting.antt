-- Names that were asked for and that wait, each once.
use Rattle.std.specs.Prelude.{◌≡◌, ℕ, nat_eq, true, if◌then◌else◌, List, [], ◌∷◌, ◌++◌, map, take, drop, String, string_bytes, Vec, Option, option_map}
use Rattle.std.specs.List.{list_any}
use Rattle.std.specs.declared.alloc.Global.{Global}
use Rattle.nv_outside.specs.Files.{AgreeWith, Files, SameFiles}
use Rattle.class_definition.specs.declared.entry.Entry.{Entry}
use Rattle.class_definition.specs.declared.entry.Entry.TheVariants.{ClassName}
use Rattle.class_sets.specs.ClassSets.{asked_in, file_of, is_among, Found, next}

-- those of names that are none of some, nor of those before them
abbrev pub fresh : List (List ℕ) → List (List ℕ) → List (List ℕ)
fresh known [] = []
fresh known (name ∷ names) = if is_among known name then fresh known names
    else name ∷ fresh (known ++ name ∷ []) names

-- the names that were asked for, and those that wait
pub record Queue : Type 0 where
  pub asked : List (List ℕ)
  pub waiting : List (List ℕ)

abbrev pub texts : List (String Global) → List (List ℕ)
texts names = map string_bytes names

-- so many of some names were asked for
abbrev pub queue : ℕ → List (List ℕ) → Queue
queue n names = record { asked = take n names; waiting = drop n names }

-- the last of names: of those that were asked for, the one by which a file was found
abbrev pub last_of : List (List ℕ) → List ℕ
last_of [] = []
last_of (name ∷ []) = name
last_of (name ∷ other ∷ names) = last_of (other ∷ names)

-- no name that waits was asked for, or waits twice
abbrev pub IsOnce : Queue → Type 0
IsOnce q = fresh q.asked q.waiting ≡ q.waiting

-- a queue gives a file, and is another then
abbrev pub file_found : Queue → Vec ℕ Global → Found
file_found q bytes = record { bytes = bytes.items; asked = q.asked; waiting = q.waiting }

-- what classes named by the texts in these slots ask for is there already
abbrev pub AreAsked : List Entry → List ℕ → Queue → Type 0
AreAsked pool slots q = (slot : ℕ) → list_any (nat_eq slot) slots ≡ true
    → fresh (q.asked ++ q.waiting) (asked_in pool (ClassName slot)) ≡ []

-- two maps have the same files of some classes
abbrev pub SameFilesOf : List (List ℕ) → Files → Files → Type 0
SameFilesOf names before after =
    (name : List ℕ) → is_among names name ≡ true → after (file_of name) ≡ before (file_of name)

-- What a queue gave, where these files were found before: more are now, and every map that has them
-- gives the same.
pub record GivesOver (told : Option Files) (before : Files) (old : Queue)
    (found : Option (Vec ℕ Global)) (new : Queue) : Type 0 where
  pub after : Files
  pub agree : AgreeWith told after
  pub had : (files : Files) → SameFilesOf new.asked after files → SameFilesOf old.asked before files
  pub gives : (files : Files) → SameFilesOf new.asked after files
      → next files old.asked old.waiting ≡ option_map (file_found new) found

abbrev pub GivesFile : Option Files → Queue → Option (Vec ℕ Global) → Queue → Type 0
GivesFile now old found new = (told : Option Files) (before : Files) → SameFiles told now
    → AgreeWith told before → GivesOver told before old found new
