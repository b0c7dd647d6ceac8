-- Code for each of the registers, one after the other.
use Rattle.std.proofs.Common.{◌≡◌, ℕ, suc, ◌+◌, ◌-◌, ◌<◌, List, ◌++◌, ap, sym, ◌∙◌, append_assoc, arith}
use Rattle.std.specs.List.{flat_map, range_with_len}
use Rattle.emit_steps.specs.declared.step.Step.{Step}

-- the code of what is left is that of the next register, and of those behind it
next-register : (code : ℕ → List Step) (r : ℕ) → r < 32 → flat_map code (range_with_len r (32 - r)) ≡ code r ++ flat_map code (range_with_len (r + 1) (32 - (r + 1)))
next-register code r h =
    let more : 32 - r ≡ suc (32 - (r + 1)) = omega arith in
    ap (λ n. flat_map code (range_with_len r n)) more

pub register-done : (code : ℕ → List Step) (r : ℕ) (sofar new all : List Step) → r < 32 → new ≡ sofar ++ code r → sofar ++ flat_map code (range_with_len r (32 - r)) ≡ all → new ++ flat_map code (range_with_len (r + 1) (32 - (r + 1))) ≡ all
register-done code r sofar new all h is so =
    ap (λ l. l ++ flat_map code (range_with_len (r + 1) (32 - (r + 1)))) is
    ∙ append_assoc sofar (code r) (flat_map code (range_with_len (r + 1) (32 - (r + 1))))
    ∙ ap (λ l. sofar ++ l) (sym (next-register code r h))
    ∙ so
