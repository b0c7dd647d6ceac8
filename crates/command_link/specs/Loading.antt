-- Files that words name, loaded one after the other.
use Rattle.std.specs.Prelude.{◌≡◌, ℕ, List, [], ◌∷◌, Option, Ok, Vec}
use Rattle.std.specs.declared.alloc.Global.{Global}
use Rattle.nv_outside.specs.Files.{AgreeWith, Files}
use Rattle.obj_reader.specs.Files.{files_of}
use Rattle.command_words.specs.declared.named.Named.{Named}
use Rattle.command_deeds.specs.Checks.{Behind, Check, after_check, file_that_is_named, shown}

-- the bytes of files that were loaded
abbrev pub files_in : Check (Vec (Vec ℕ Global) Global) → Check (List (List ℕ))
files_in check = shown (λ (v : Vec (Vec ℕ Global) Global). files_of v.items) check

-- a file that is there, before what others come to
abbrev pub IsWithOtherFiles : (Check (List (List ℕ)) → Type 0) → List ℕ → Check (List (List ℕ)) → Type 0
IsWithOtherFiles AreOthers file check = (others : Check (List (List ℕ))) × AreOthers others
    × (check ≡ after_check others (λ rest. Ok (file ∷ rest)))

-- The files of these names, or the answer of the first that is not there. Each load finds some files,
-- which agree with those that are told: where none are told, two loads may find different ones.
abbrev pub AreLoaded : Option Files → List Named → Check (List (List ℕ)) → Type 0
AreLoaded told [] check = check ≡ Ok []
AreLoaded told (name ∷ names) check = (files : Files) × AgreeWith told files
    × Behind (file_that_is_named files name) (IsWithOtherFiles (AreLoaded told names)) check
