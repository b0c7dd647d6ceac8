-- A sink that gains bytes in pieces.
use Rattle.std.proofs.Common.{◌≡◌, ℕ, List, ◌++◌, take, drop, ap, ◌∙◌, subst}
use Rattle.std.proofs.lemmas.List.{take-append-drop}
use Rattle.nv_outside.specs.Seen.{FailsIn, Seen, Takes}
use Rattle.nv_outside.proofs.SeenLemmas.{fails-before, fails-behind}

-- the next piece was taken in part
pub gains-part : (old mid new : Seen (List ℕ)) (all : List ℕ) (done size : ℕ) (piece : List ℕ) → piece ≡ take size (drop done all)
    → Takes old mid (take done all) → FailsIn mid new piece → FailsIn old new all
gains-part old mid new all done size piece is before part =
    let behind : List ℕ = drop size (drop done all) in
    let splits : take done all ++ (piece ++ behind) ≡ all =
    ap (λ l. take done all ++ (l ++ behind)) is
    ∙ ap (λ l. take done all ++ l) (take-append-drop size (drop done all))
    ∙ take-append-drop done all in
    subst (FailsIn old new) splits (fails-behind old mid new (take done all) (piece ++ behind) before (fails-before mid new piece behind part))
