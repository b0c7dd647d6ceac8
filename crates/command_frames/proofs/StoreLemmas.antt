-- Classes that are stored one after the other.
use Rattle.std.proofs.Common.{◌≡◌, ℕ, ◌+◌, ◌<◌, List, [], ◌∷◌, ◌++◌, length, map, take, drop, get_or, Result, Ok, Err, sym, ap, ◌∙◌, subst}
use Rattle.std.proofs.lemmas.List.{map-append, map_more, take-append-drop}
use Rattle.nv_outside.specs.Files.{Files}
use Rattle.command_deeds.specs.Ends.{ShelfDoes}
use Rattle.command_deeds.specs.World.{Seen}
use Rattle.command_deeds.specs.declared.stop.Stop.{Stop}
use Rattle.command_deeds.proofs.ReadyLemmas.{shelf_does_then, shelf_stops_before}
use Rattle.command_frames.specs.declared.stored_class.StoredClass.{StoredClass}
use Rattle.command_frames.specs.Frames.{deed_of}

-- another class is stored behind those before it
pub store_more : (classes : List StoredClass) (i : ℕ) (class : StoredClass) (a b c : Seen Files) (done : Unit {0}) (r : Result (Unit {0}) Stop)
    → i < length classes → class ≡ get_or classes i class → ShelfDoes (map deed_of (take i classes)) a b (Ok done) → ShelfDoes (deed_of class ∷ []) b c r
    → ShelfDoes (map deed_of (take (i + 1) classes)) a c r
store_more classes i class a b c done r within is before now =
    let next : map deed_of (take (i + 1) classes) ≡ map deed_of (take i classes) ++ deed_of class ∷ [] =
    map_more deed_of classes i class within ∙ ap (λ f. map deed_of (take i classes) ++ deed_of f ∷ []) (sym is) in
    subst (λ ds. ShelfDoes ds a c r) (sym next) (shelf_does_then (map deed_of (take i classes)) (deed_of class ∷ []) a b c done r before now)

-- a store that was stopped stops all
pub store_stops : (classes : List StoredClass) (k : ℕ) (a b : Seen Files) (stop : Stop) → ShelfDoes (map deed_of (take k classes)) a b (Err stop)
    → ShelfDoes (map deed_of classes) a b (Err stop)
store_stops classes k a b stop p =
    subst (λ ds. ShelfDoes ds a b (Err stop)) (sym (map-append deed_of (take k classes) (drop k classes))
    ∙ ap (map deed_of) (take-append-drop k classes))
    (shelf_stops_before (map deed_of (take k classes)) (map deed_of (drop k classes)) a b stop p)
