-- The bytes of the first steps of code.
use Rattle.std.proofs.Common.{◌≡◌, ℕ, zero, suc, ◌+◌, ◌≤◌, ◌<◌, ◌⊎◌, inl, inr, List, [], ◌∷◌, ◌++◌, length, get_or, drop, refl, sym, ap, ◌∙◌, subst, arith, add-one, zero-add, suc-add}
use Rattle.std.proofs.lemmas.Bool.{cases_lt}
use Rattle.std.proofs.lemmas.List.{drop_more, get_or_append_left, get_or_push}
use Rattle.emit_steps.specs.declared.step.Step.{Step}
use Rattle.emit_steps.specs.Widths.{width, bytes_before, size}

pub bytes-le : (code : List Step) (k : ℕ) → bytes_before code k ≤ size code
bytes-le [] zero = omega arith
bytes-le [] (suc k) = omega arith
bytes-le (s ∷ code) zero = omega arith
bytes-le (s ∷ code) (suc k) = let h : bytes_before code k ≤ size code = bytes-le code k in omega arith

pub bytes-suc : (code : List Step) (i : ℕ) (s : Step) → i < length code → s ≡ get_or code i s → bytes_before code (suc i) ≡ bytes_before code i + width s
bytes-suc [] i s h is = absurd (omega (arith, h))
bytes-suc (x ∷ code) zero s h is = let e : width s ≡ width x = ap width is in omega arith
bytes-suc (x ∷ code) (suc i) s h is =
    let less : i < length code = omega arith in
    let e : bytes_before code (suc i) ≡ bytes_before code i + width s = bytes-suc code i s less is in
    omega arith

bytes-nil : (k : ℕ) → bytes_before [] k ≡ 0
bytes-nil zero = refl
bytes-nil (suc k) = refl

pub bytes-all : (code : List Step) (i : ℕ) → length code ≤ i → bytes_before code i ≡ size code
bytes-all [] i h = bytes-nil i
bytes-all (s ∷ code) zero h = absurd (omega (arith, h))
bytes-all (s ∷ code) (suc i) h = ap (λ n. width s + n) (bytes-all code i (omega arith))

-- the step that is next ends within the code
pub next-within : (code : List Step) (i : ℕ) (s : Step) → i < length code → s ≡ get_or code i s → bytes_before code i + width s ≤ size code
next-within code i s h is =
    let next : bytes_before code (suc i) ≡ bytes_before code i + width s = bytes-suc code i s h is in
    let low : bytes_before code (suc i) ≤ size code = bytes-le code (suc i) in
    omega arith

pub bytes-split : (code : List Step) (i k : ℕ) → bytes_before code (i + k) ≡ bytes_before code i + bytes_before (drop i code) k
bytes-split code zero k = ap (bytes_before code) (zero-add k) ∙ sym (zero-add (bytes_before code k))
bytes-split [] (suc i) k = bytes-nil (suc i + k) ∙ sym (zero-add (bytes_before [] k) ∙ bytes-nil k)
bytes-split (s ∷ code) (suc i) k =
    let e : bytes_before code (i + k) ≡ bytes_before code i + bytes_before (drop i code) k = bytes-split code i k in
    let f : width s + bytes_before code (i + k) ≡ width s + bytes_before code i + bytes_before (drop i code) k = omega arith in
    ap (bytes_before (s ∷ code)) (suc-add i k) ∙ f

-- the rest of code begins with the step that is next
pub rest-begins : (code : List Step) (i : ℕ) (s : Step) → i < length code → s ≡ get_or code i s → drop i code ≡ s ∷ drop (suc i) code
rest-begins code i s h is =
    drop_more code i s h ∙ ap (λ x. x ∷ drop (i + 1) code) (sym is) ∙ ap (λ n. s ∷ drop n code) (add-one i)

-- the offset behind a step that is reached from another one
pub target-is : (code : List Step) (i k : ℕ) (s : Step) → i < length code → s ≡ get_or code i s → bytes_before code (suc (i + k)) ≡ bytes_before code i + width s + bytes_before (drop (suc i) code) k
target-is code i k s h is =
    let e : i + suc k ≡ suc (i + k) = omega arith in
    let f : bytes_before (drop i code) (suc k) ≡ width s + bytes_before (drop (suc i) code) k = ap (λ cs. bytes_before cs (suc k)) (rest-begins code i s h is) in
    let g : bytes_before code (i + suc k) ≡ bytes_before code i + bytes_before (drop i code) (suc k) = bytes-split code i (suc k) in
    let t : bytes_before code i + bytes_before (drop i code) (suc k) ≡ bytes_before code i + width s + bytes_before (drop (suc i) code) k = omega arith in
    sym (ap (bytes_before code) e) ∙ g ∙ t

-- ---- the table of ends

abbrev pub AreEnds : List Step → List ℕ → ℕ → Type 0
AreEnds code ends n = (k : ℕ) → k < n → get_or ends k 0 ≡ bytes_before code (suc k)

end-at : (code : List Step) (ends : List ℕ) (i end : ℕ) → length ends ≡ i → AreEnds code ends i → end ≡ bytes_before code (suc i) → (k : ℕ) → k < i + 1 → get_or (ends ++ end ∷ []) k 0 ≡ bytes_before code (suc k)
end-at code ends i end len are is k h = by (cases_lt k i)
  where
    by : (k < i) ⊎ (i ≤ k) → get_or (ends ++ end ∷ []) k 0 ≡ bytes_before code (suc k)
    by (inl less) = let within : k < length ends = omega arith in get_or_append_left ends (end ∷ []) 0 k within ∙ are k less
    by (inr more) =
        let same : i ≡ k = omega arith in
        subst (λ n. get_or (ends ++ end ∷ []) n 0 ≡ bytes_before code (suc n)) same (get_or_push ends end 0 i len ∙ is)

pub ends-more : (code : List Step) (ends after : List ℕ) (i end : ℕ) → length ends ≡ i → AreEnds code ends i → end ≡ bytes_before code (suc i) → after ≡ ends ++ end ∷ [] → AreEnds code after (i + 1)
ends-more code ends after i end len are is made =
    λ k h. ap (λ es. get_or es k 0) made ∙ end-at code ends i end len are is k h
