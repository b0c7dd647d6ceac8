-- Files that are stored one after the other, and work behind them.
use Rattle.std.proofs.Common.{◌≡◌, ℕ, ◌+◌, ◌<◌, List, [], ◌∷◌, ◌++◌, length, map, take, drop, get_or, Result, Ok, Err, refl, sym, ap, ◌∙◌, subst, inl}
use Rattle.std.proofs.lemmas.List.{map-append, map_more, take-append-drop}
use Rattle.nv_outside.specs.Files.{Files}
use Rattle.translate_program.specs.declared.named_file.NamedFile.{NamedFile}
use Rattle.command_deeds.proofs.DeedLemmas.{all_then_stops, all_then_works, stays, stops_before, works_more}
use Rattle.command_deeds.specs.Deeds.{DoesAll, StopsIn, prepares}
use Rattle.command_deeds.specs.Ends.{CommandAnswer, Due, ShelfDoes, WorksOn}
use Rattle.command_deeds.specs.World.{Seen, World}
use Rattle.command_deeds.specs.declared.stop.Stop.{Stop}
use Rattle.command_deeds.specs.declared.stop.Stop.TheVariants.{NoMemory}
use Rattle.command_deeds.proofs.ReadyLemmas.{shelf_does_then, shelf_stops_before}
use Rattle.command_translate.specs.Stores.{IsDueBehind, after_stores, file_stored, files_stored}

-- ---- the files

-- another file is stored behind those before it
pub store_more : (files : List NamedFile) (i : ℕ) (file : NamedFile) (a b c : Seen Files) (done : Unit {0}) (r : Result (Unit {0}) Stop)
    → i < length files → file ≡ get_or files i file → ShelfDoes (files_stored (take i files)) a b (Ok done) → ShelfDoes (file_stored file ∷ []) b c r
    → ShelfDoes (files_stored (take (i + 1) files)) a c r
store_more files i file a b c done r within is before now =
    let next : files_stored (take (i + 1) files) ≡ files_stored (take i files) ++ file_stored file ∷ [] =
    map_more file_stored files i file within ∙ ap (λ f. files_stored (take i files) ++ file_stored f ∷ []) (sym is) in
    subst (λ ds. ShelfDoes ds a c r) (sym next) (shelf_does_then (files_stored (take i files)) (file_stored file ∷ []) a b c done r before now)

-- a store that was stopped stops all
pub store_stops : (files : List NamedFile) (k : ℕ) (a b : Seen Files) (stop : Stop) → ShelfDoes (files_stored (take k files)) a b (Err stop)
    → ShelfDoes (files_stored files) a b (Err stop)
store_stops files k a b stop p =
    subst (λ ds. ShelfDoes ds a b (Err stop)) (sym (map-append file_stored (take k files) (drop k files))
    ∙ ap (map file_stored) (take-append-drop k files))
    (shelf_stops_before (files_stored (take k files)) (files_stored (drop k files)) a b stop p)

-- ---- work behind them

-- all files are stored, and then it goes on
pub works_behind : (files : List NamedFile) (IsDue : World → Due → Type 0) (w u v : World) (end : Result CommandAnswer Stop) → DoesAll (files_stored files) w u
    → WorksOn IsDue u v end → ((due : Due) → IsDue u due → IsDue w due)
    → WorksOn (λ x. IsDueBehind files (IsDue x)) w v end
works_behind files IsDue w u v end p q here = (
  after_stores files q.0,
  (q.0, here q.0 q.1, refl),
  all_then_works (files_stored files) (prepares ∷ q.0.deeds) q.0.answer w u v end p (works_more prepares q.0.deeds q.0.answer u u v end (stays u) q.2),
)

-- all are stored, and memory runs out
pub no_memory_behind : (files : List NamedFile) (IsDue : World → Due → Type 0) (w v : World) → (some : Due) × IsDue w some → DoesAll (files_stored files) w v
    → WorksOn (λ x. IsDueBehind files (IsDue x)) w v (Err NoMemory)
no_memory_behind files IsDue w v some p = (
  after_stores files some.0,
  (some.0, some.1, refl),
  all_then_stops (files_stored files) (prepares ∷ some.0.deeds) w v v NoMemory p (inl (refl, stays v)),
)

-- not all are
pub works_stopped : (files : List NamedFile) (IsDue : World → Due → Type 0) (w v : World) (stop : Stop) → (some : Due) × IsDue w some
    → StopsIn (files_stored files) w v stop → WorksOn (λ x. IsDueBehind files (IsDue x)) w v (Err stop)
works_stopped files IsDue w v stop some p =
    (after_stores files some.0, (some.0, some.1, refl), stops_before (files_stored files) (prepares ∷ some.0.deeds) w v stop p)
