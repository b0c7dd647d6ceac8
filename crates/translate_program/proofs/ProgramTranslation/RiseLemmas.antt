-- The methods that the main class calls of other classes have rising numbers.
use Rattle.std.proofs.Common.{◌≡◌, ℕ, zero, suc, ◌+◌, ◌*◌, ◌≤◌, List, [], ◌∷◌, ◌++◌, map, refl, sym, arith, subst}
use Rattle.std.specs.List.{range_with_len}
use Rattle.emit_layout.specs.Numbers.{main_methods}
use Rattle.translate_classes.specs.Content.{RiseFrom, behind}
use Rattle.translate_classes.proofs.MainClasses.RiseLemmas.{rise-joined}
use Rattle.translate_program.specs.Classes.{Placed, Follow, run_of, methods_behind}
use Rattle.translate_program.specs.DataFiles.{fill_of, fills_of}

pub rise-runs : (number first : ℕ) (classes : List Placed) → Follow number first classes → RiseFrom first (map run_of classes)
rise-runs number first [] follow = tt
rise-runs number first (c ∷ classes) follow =
    (omega (arith, follow.1), rise-runs (number + 1) (run_of c + 1) classes follow.2)

behind-runs : (first : ℕ) (classes : List Placed) → behind first (map run_of classes) ≡ methods_behind first classes
behind-runs first [] = refl
behind-runs first (c ∷ classes) = behind-runs (run_of c + 1) classes

rise-fills : (methods low k count : ℕ) → low ≤ methods + 2 * k + 1 → RiseFrom low (map (fill_of methods) (range_with_len k count))
rise-fills methods low k zero less = tt
rise-fills methods low k (suc count) less =
    (less, rise-fills methods (fill_of methods k + 1) (k + 1) count (omega arith))

pub rise-calls : (number : ℕ) (classes : List Placed) (count : ℕ) → Follow number main_methods classes
    → RiseFrom main_methods (map run_of classes ++ fills_of (methods_behind main_methods classes) count)
rise-calls number classes count follow =
    let methods = methods_behind main_methods classes in
    rise-joined main_methods (map run_of classes) (fills_of methods count) (rise-runs number main_methods classes follow)
    (subst (λ low. RiseFrom low (fills_of methods count)) (sym (behind-runs main_methods classes))
    (rise-fills methods methods 0 count (omega arith)))
