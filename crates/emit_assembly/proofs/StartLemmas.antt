-- Where steps stand, by the table of the offsets behind them.
use Rattle.std.proofs.Common.{◌≡◌, ℕ, zero, suc, ◌+◌, ◌-◌, ◌^◌, ◌≤◌, ◌<◌, ◌⊎◌, inl, inr, Bool, true, false, ◌&&◌, ◌==◌, nat_le, nat_lt, if◌then◌else◌, List, [], ◌∷◌, length, get_or, drop, Option, Some, is_some, refl, sym, ap, ◌∙◌, suc-add, length-drop, lt-ltb, le-ltb, arith}
use Rattle.std.proofs.lemmas.Bool.{cases_lt, cases_eq, eq-eqb, ne_eqb, le-leb, lt-leb, leb-true, and_parts}
use Rattle.jvm_definition.specs.declared.linked_line.LinkedLine.{LinkedLine}
use Rattle.jvm_definition.specs.Program.{line_in}
use Rattle.emit_steps.specs.declared.step.Step.{Step}
use Rattle.emit_steps.specs.Widths.{width, bytes_before}
use Rattle.emit_steps.specs.Placing.{placed_line, laid}
use Rattle.emit_steps.proofs.WidthLemmas.{width-some}
use Rattle.emit_steps.proofs.Offsets.{bytes-split}
use Rattle.emit_assembly.specs.Operations.{AreEnds, is_start}

pub bytes-less : (code : List Step) (j m : ℕ) → j < m → j < length code → bytes_before code j < bytes_before code m
bytes-less [] j m less h = absurd (omega (arith, h))
bytes-less (s ∷ code) j zero less h = absurd (omega (arith, less))
bytes-less (s ∷ code) zero (suc m) less h = let some : 1 ≤ width s = width-some s in omega arith
bytes-less (s ∷ code) (suc j) (suc m) less h =
    let a : j < m = omega arith in
    let b : j < length code = omega arith in
    let e : bytes_before code j < bytes_before code m = bytes-less code j m a b in
    omega arith

-- ---- the lines of code

still-found : (b : Bool) (l : LinkedLine) (o : Option LinkedLine) → is_some o ≡ true → is_some (if b then Some l else o) ≡ true
still-found true l o is = refl
still-found false l o is = is

found-from : (code : List Step) (at k : ℕ) → k < length code → is_some (line_in (laid at code) (at + bytes_before code k)) ≡ true
found-from [] at k h = absurd (omega (arith, h))
found-from (s ∷ code) at zero h =
    let same : at ≡ at + 0 = omega arith in
    ap (λ b. is_some (if b then Some (placed_line at s code) else line_in (laid (at + width s) code) (at + 0))) (eq-eqb at (at + 0) same)
found-from (s ∷ code) at (suc k) h =
    let target = at + (width s + bytes_before code k) in
    let less : k < length code = omega arith in
    let same : target ≡ at + width s + bytes_before code k = omega arith in
    still-found (at == target) (placed_line at s code) (line_in (laid (at + width s) code) target)
    (ap (λ n. is_some (line_in (laid (at + width s) code) n)) same ∙ found-from code (at + width s) k less)

none-from : (code : List Step) (at target : ℕ) → ((k : ℕ) → k < length code → at + bytes_before code k ≡ target → ⊥) → is_some (line_in (laid at code) target) ≡ false
none-from [] at target none = refl
none-from (s ∷ code) at target none =
    let some : 0 < length (s ∷ code) = omega arith in
    let other : at ≡ target → ⊥ = λ e. none 0 some (omega (arith, e)) in
    ap (λ b. is_some (if b then Some (placed_line at s code) else line_in (laid (at + width s) code) target)) (ne_eqb at target other)
    ∙ none-from code (at + width s) target (λ k h e. none (suc k) (omega (arith, h)) (omega (arith, e)))

-- ---- a search in the table

module _ (code : List Step) (ends : List ℕ) (are : AreEnds code ends) where
  pub ends-rise : (i j : ℕ) → i ≤ j → j < length ends → get_or ends i 0 ≤ get_or ends j 0
  ends-rise i j le h =
      let all : length ends ≡ length code = are.len in
      let first : get_or ends i 0 ≡ bytes_before code (suc i) = are.each i (omega arith) in
      let second : get_or ends j 0 ≡ bytes_before code (suc j) = are.each j (omega arith) in
      by first second (cases_eq i j)
    where
      by : get_or ends i 0 ≡ bytes_before code (suc i) → get_or ends j 0 ≡ bytes_before code (suc j) → (i ≡ j) ⊎ (i ≡ j → ⊥) → get_or ends i 0 ≤ get_or ends j 0
      by first second (inl same) = let e : bytes_before code (suc i) ≡ bytes_before code (suc j) = ap (λ n. bytes_before code (suc n)) same in omega arith
      by first second (inr other) = rising first second (cases_lt (suc i) (length code))
        where
          rising : get_or ends i 0 ≡ bytes_before code (suc i) → get_or ends j 0 ≡ bytes_before code (suc j) → (suc i < length code) ⊎ (length code ≤ suc i) → get_or ends i 0 ≤ get_or ends j 0
          rising first second (inl less) = let e : bytes_before code (suc i) < bytes_before code (suc j) = bytes-less code (suc i) (suc j) (omega arith) less in omega arith
          rising first second (inr over) = absurd (omega (arith, are.len, h, le, other))

  pub found-start : (k target : ℕ) → k < length ends → get_or ends k 0 ≡ target → nat_lt (k + 1) (length code) ≡ is_start code target
  found-start k target h is = by (cases_lt (k + 1) (length code))
    where
      less : k < length code
      less = omega (arith, are.len, h)

      here : target ≡ 0 + bytes_before code (suc k)
      here = omega (arith, is, are.each k less)

      by : (k + 1 < length code) ⊎ (length code ≤ k + 1) → nat_lt (k + 1) (length code) ≡ is_start code target
      by (inl more) =
          let within : suc k < length code = omega arith in
          lt-ltb (k + 1) (length code) more ∙ sym (ap (is_start code) here ∙ found-from code 0 (suc k) within)
      by (inr last) =
          le-ltb (k + 1) (length code) last
          ∙ sym (none-from code 0 target (λ j low e. absurd (omega (arith, e, here, bytes-less code j (suc k) (omega (arith, low, last)) low))))

  pub missing-start : (k target : ℕ) → 0 < length code → ((i : ℕ) → i < k → get_or ends i 0 < target) → ((i : ℕ) → k ≤ i → i < length ends → target < get_or ends i 0) → (target == 0) ≡ is_start code target
  missing-start k target some below above = by (cases_eq target 0)
    where
      other : (target ≡ 0 → ⊥) → (j : ℕ) → j < length code → 0 + bytes_before code j ≡ target → ⊥
      other later zero h e = later (omega (arith, e))
      other later (suc i) h e = there (cases_lt i k)
        where
          less : i < length code
          less = omega (arith, h)

          there : (i < k) ⊎ (k ≤ i) → ⊥
          there (inl low) = omega (arith, e, are.each i less, below i low)
          there (inr high) = omega (arith, e, are.each i less, above i high (omega (arith, less, are.len)))

      by : (target ≡ 0) ⊎ (target ≡ 0 → ⊥) → (target == 0) ≡ is_start code target
      by (inl first) =
          let here : target ≡ 0 + bytes_before code 0 = omega (arith, first) in
          eq-eqb target 0 first ∙ sym (ap (is_start code) here ∙ found-from code 0 0 some)
      by (inr later) = ne_eqb target 0 later ∙ sym (none-from code 0 target (other later))

  -- ---- ways forward

  module _ (i k : ℕ) (h : i < length code) where
    pub ends-apart : i + k < length code → get_or ends (i + k) 0 ≡ get_or ends i 0 + bytes_before (drop (suc i) code) k
    ends-apart within =
        let far : bytes_before code (suc i + k) ≡ bytes_before code (suc i) + bytes_before (drop (suc i) code) k = bytes-split code (suc i) k in
        are.each (i + k) within ∙ ap (bytes_before code) (sym (suc-add i k)) ∙ far ∙ ap (λ n. n + bytes_before (drop (suc i) code) k) (sym (are.each i h))

    pub reaches-so : k < length code - i → nat_lt (get_or ends (i + k) 0 - get_or ends i 0) 32765 ≡ (nat_le k (length (drop (suc i) code)) && nat_lt (3 + bytes_before (drop (suc i) code) k) (2 ^ 15))
    reaches-so near =
        let apart : get_or ends (i + k) 0 ≡ get_or ends i 0 + bytes_before (drop (suc i) code) k = ends-apart (omega (arith, near)) in
        let way : get_or ends (i + k) 0 - get_or ends i 0 ≡ bytes_before (drop (suc i) code) k = omega (arith, apart) in
        let left : length (drop (suc i) code) ≡ length code - suc i = length-drop (suc i) code in
        let there : nat_le k (length (drop (suc i) code)) ≡ true = le-leb k (length (drop (suc i) code)) (omega (arith, left, near)) in
        ap (λ n. nat_lt n 32765) way ∙ three-more (bytes_before (drop (suc i) code) k) ∙ sym (ap (λ b. b && nat_lt (3 + bytes_before (drop (suc i) code) k) (2 ^ 15)) there)
      where
        three-more : (n : ℕ) → nat_lt n 32765 ≡ nat_lt (3 + n) (2 ^ 15)
        three-more n = by (cases_lt n 32765)
          where
            by : (n < 32765) ⊎ (32765 ≤ n) → nat_lt n 32765 ≡ nat_lt (3 + n) (2 ^ 15)
            by (inl less) = lt-ltb n 32765 less ∙ sym (lt-ltb (3 + n) (2 ^ 15) (omega (arith, less)))
            by (inr more) = le-ltb n 32765 more ∙ sym (le-ltb (3 + n) (2 ^ 15) (omega (arith, more)))

    pub reaches-not : length code - i ≤ k → false ≡ (nat_le k (length (drop (suc i) code)) && nat_lt (3 + bytes_before (drop (suc i) code) k) (2 ^ 15))
    reaches-not far =
        let left : length (drop (suc i) code) ≡ length code - suc i = length-drop (suc i) code in
        let none : nat_le k (length (drop (suc i) code)) ≡ false = lt-leb k (length (drop (suc i) code)) (omega (arith, left, far, h)) in
        sym (ap (λ b. b && nat_lt (3 + bytes_before (drop (suc i) code) k) (2 ^ 15)) none)

    pub reached : (nat_le k (length (drop (suc i) code)) && nat_lt (3 + bytes_before (drop (suc i) code) k) (2 ^ 15)) ≡ true → i + k < length code
    reached so =
        let near : k ≤ length (drop (suc i) code) = leb-true k (length (drop (suc i) code)) (and_parts (nat_le k (length (drop (suc i) code))) (nat_lt (3 + bytes_before (drop (suc i) code) k) (2 ^ 15)) so).0 in
        omega (arith, near, length-drop (suc i) code, h)
