-- The method that is chosen for an address at which no class has a word.
use Rattle.std.proofs.Common.{◌≡◌, ℕ, suc, ◌%◌, ◌^◌, ◌<◌, ◌≤◌, Bool, true, false, if◌then◌else◌, inl, inr, List, [], ◌∷◌, ◌++◌, slice_get, Some, All, refl, ap, ◌∙◌, arith}
use Rattle.std.proofs.lemmas.Bool.{cases_lt, cases_Bool}
use Rattle.std.proofs.lemmas.List.Elements.{All-head, All-tail}
use Rattle.trampoline.specs.declared.start.Start.{Start}
use Rattle.trampoline_laws.specs.Choosing.{chosen_from}
use Rattle.trampoline_laws.specs.Classes.{CodeClass, IsClass, AreOrdered, address, end_of, is_last, run_of, class_starts, starts_of}
use Rattle.trampoline_laws.proofs.TrampolineLaws.Choosing.{none-reached, one-reached}
use Rattle.trampoline_laws.proofs.TrampolineLaws.Words.{word-only}
use Rattle.trampoline_laws.proofs.TrampolineLaws.Starts.{class_start, end_start, end_starts, class-rises, rest-rises}

-- no class has a word at an address
abbrev pub IsOutside : List CodeClass → ℕ → Type 0
IsOutside classes x = (n : ℕ) (c : CodeClass) (k : ℕ) → slice_get classes n ≡ Some c → k < c.count → x ≡ address c k → ⊥

module _ (missing x : ℕ) (aligned : x % 4 ≡ 0) (low : x < 2 ^ 31) where
  ends-passed : (last : Bool) (c : CodeClass) (rest : List Start) (method : ℕ) → end_of c ≤ x → chosen_from method (end_starts missing last c ++ rest) x ≡ chosen_from (if last then missing else method) rest x
  ends-passed true c rest method beyond = one-reached x method (end_start missing c) rest low beyond
  ends-passed false c rest method beyond = refl

  -- behind a class: what is chosen so far is its method, or where no class goes on there the one for addresses outside all code
  class-passed : (c : CodeClass) (rest : List Start) (method : ℕ) → end_of c ≤ x → chosen_from method (class_starts missing c ++ rest) x ≡ chosen_from (if is_last c then missing else run_of c) rest x
  class-passed c rest method beyond =
      one-reached x method (class_start missing c) (end_starts missing (is_last c) c ++ rest) low (omega arith)
      ∙ ends-passed (is_last c) c rest (run_of c) beyond

  before-chosen : (c : CodeClass) (classes : List CodeClass) (method : ℕ) → All IsClass (c ∷ classes) → AreOrdered (c ∷ classes) → x < address c 0 → chosen_from method (starts_of missing (c ∷ classes)) x ≡ method
  before-chosen c classes method are ordered less =
      none-reached x (address c 0) method (starts_of missing (c ∷ classes)) less
      (class-rises missing c (starts_of missing classes) (address c 0) (All-head IsClass c classes are) (omega arith) (rest-rises missing c classes are ordered))

  -- not one of the class's words: before it, or behind it
  beyond : (c : CodeClass) (classes : List CodeClass) → All IsClass (c ∷ classes) → IsOutside (c ∷ classes) x → address c 0 ≤ x → end_of c ≤ x
  beyond c classes are outside from =
      elim (cases_lt x (end_of c)) [
        | inl less ↦ let word = word-only c (All-head IsClass c classes are) x (aligned, from, less) in absurd (outside 0 c word.0 refl word.1 word.2)
        | inr more ↦ more
      ]

  pub outside-missing : (c : CodeClass) (classes : List CodeClass) (method : ℕ) → All IsClass (c ∷ classes) → AreOrdered (c ∷ classes) → IsOutside (c ∷ classes) x → (x < address c 0 → method ≡ missing) → chosen_from method (starts_of missing (c ∷ classes)) x ≡ missing
  outside-missing c [] method are ordered outside before =
      elim (cases_lt x (address c 0)) [
        | inl less ↦ before-chosen c [] method are ordered less ∙ before less
        | inr more ↦
            class-passed c [] method (beyond c [] are outside more)
            ∙ ap (λ b. if b then missing else run_of c) ordered
      ]
  outside-missing c (d ∷ classes) method are ordered outside before =
      elim (cases_lt x (address c 0)) [
        | inl less ↦ before-chosen c (d ∷ classes) method are ordered less ∙ before less
        | inr more ↦
            let behind = beyond c (d ∷ classes) are outside more in
            class-passed c (starts_of missing (d ∷ classes)) method behind
            ∙ outside-missing d classes (if is_last c then missing else run_of c) (All-tail IsClass c (d ∷ classes) are) ordered.1
            (λ n e k at word is. outside (suc n) e k at word is)
            (λ less. elim (cases_Bool (is_last c)) [
              | inl last ↦ ap (λ b. if b then missing else run_of c) last
              | inr inner ↦ let same = ordered.0.same_range inner in absurd (omega arith)
            ])
      ]
