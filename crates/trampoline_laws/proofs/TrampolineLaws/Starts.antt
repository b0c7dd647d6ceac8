-- The starts of classes.
use Rattle.std.proofs.Common.{◌≡◌, ℕ, zero, suc, ◌<◌, ◌≤◌, Bool, true, false, if◌then◌else◌, List, [], ◌∷◌, ◌++◌, length, slice_get, Some, All, refl, subst, ◌∙◌, arith}
use Rattle.std.proofs.lemmas.List.Elements.{All-nil, All-cons, All-head, All-tail}
use Rattle.jvm_definition.specs.Program.{Program}
use Rattle.trampoline.specs.declared.start.Start.{Start}
use Rattle.trampoline.specs.Trees.{first_of}
use Rattle.trampoline_laws.specs.Choosing.{chosen_from, Rise, RiseFrom, IsMethod, AreMethods}
use Rattle.trampoline_laws.specs.Classes.{CodeClass, IsClass, HasClass, AreOrdered, address, end_of, is_last, run_of, class_starts, starts_of}
use Rattle.trampoline_laws.proofs.TrampolineLaws.Elements.{all-at, all-joined}
use Rattle.trampoline_laws.proofs.TrampolineLaws.Choosing.{rise-lower, none-reached, one-reached, chosen-joined}
use Rattle.trampoline_laws.proofs.TrampolineLaws.Words.{first-low, end-low}
use Rattle.trampoline_laws.proofs.TrampolineLaws.Order.{behind, ordered-rest}

module _ (missing : ℕ) where
  -- the starts of a class: its own, and where it has the last words of its range the one behind them
  abbrev pub class_start : CodeClass → Start
  class_start c = record { first = address c 0; method = run_of c }

  abbrev pub end_start : CodeClass → Start
  end_start c = record { first = end_of c; method = missing }

  abbrev pub end_starts : Bool → CodeClass → List Start
  end_starts last c = if last then end_start c ∷ [] else []

  -- ---- they rise

  ends-rise : (last : Bool) (c : CodeClass) (rest : List Start) → IsClass c → is_last c ≡ last → (is_last c ≡ true → RiseFrom (suc (end_of c)) rest) → (is_last c ≡ false → RiseFrom (end_of c) rest) → RiseFrom (end_of c) (end_starts last c ++ rest)
  ends-rise true c rest is at behind_range inside = (omega arith, end-low c is, behind_range at)
  ends-rise false c rest is at behind_range inside = inside at

  pub class-rises : (c : CodeClass) (rest : List Start) (low : ℕ) → IsClass c → low ≤ address c 0 → RiseFrom (end_of c) (end_starts (is_last c) c ++ rest) → RiseFrom low (class_starts missing c ++ rest)
  class-rises c rest low is less rise = (
    less,
    first-low c is,
    rise-lower (suc (address c 0)) (end_of c) (end_starts (is_last c) c ++ rest) (omega (arith, is.some)) rise,
  )

  -- those behind a class's own one
  pub rest-rises : (c : CodeClass) (classes : List CodeClass) → All IsClass (c ∷ classes) → AreOrdered (c ∷ classes) → RiseFrom (end_of c) (end_starts (is_last c) c ++ starts_of missing classes)
  rest-rises c [] are ordered = ends-rise (is_last c) c [] (All-head IsClass c [] are) refl (λ last. tt) (λ inner. tt)
  rest-rises c (d ∷ classes) are ordered =
      let are_rest = All-tail IsClass c (d ∷ classes) are in
      let is_d = All-head IsClass d classes are_rest in
      let rest = rest-rises d classes are_rest ordered.1 in
      ends-rise (is_last c) c (starts_of missing (d ∷ classes)) (All-head IsClass c (d ∷ classes) are) refl
      (λ last. class-rises d (starts_of missing classes) (suc (end_of c)) is_d (ordered.0.next_range last) rest)
      (λ inner. class-rises d (starts_of missing classes) (end_of c) is_d (let same = ordered.0.same_range inner in omega arith) rest)

  pub classes-rise : (classes : List CodeClass) → All IsClass classes → AreOrdered classes → Rise (starts_of missing classes)
  classes-rise [] are ordered = tt
  classes-rise (c ∷ classes) are ordered =
      class-rises c (starts_of missing classes) 0 (All-head IsClass c classes are) (omega arith) (rest-rises c classes are ordered)

  pub classes-some : (classes : List CodeClass) → 1 ≤ length classes → 1 ≤ length (starts_of missing classes)
  classes-some [] some = absurd (omega arith)
  classes-some (c ∷ classes) some = omega arith

  -- ---- they have methods

  ends-methods : (program : Program) (last : Bool) (c : CodeClass) → IsMethod program missing → All (λ (s : Start). IsMethod program s.method) (end_starts last c)
  ends-methods program true c is = All-cons (λ (s : Start). IsMethod program s.method) (end_start c) [] is (All-nil (λ (s : Start). IsMethod program s.method))
  ends-methods program false c is = All-nil (λ (s : Start). IsMethod program s.method)

  pub classes-methods : (program : Program) (classes : List CodeClass) → IsMethod program missing → All (HasClass program) classes → AreMethods program (starts_of missing classes)
  classes-methods program classes is have =
      all-joined (λ (s : Start). IsMethod program s.method) (class_starts missing) classes
      (λ n c at. let has = all-at (HasClass program) classes n c have at in
      All-cons (λ (s : Start). IsMethod program s.method) (class_start c) (end_starts (is_last c) c) has.run_is (ends-methods program (is_last c) c is))

  -- ---- for a word of a class its own one is chosen

  first-chosen : (c : CodeClass) (classes : List CodeClass) (x method : ℕ) → All IsClass (c ∷ classes) → AreOrdered (c ∷ classes) → address c 0 ≤ x → x < end_of c → chosen_from method (starts_of missing (c ∷ classes)) x ≡ run_of c
  first-chosen c classes x method are ordered from to =
      let low = end-low c (All-head IsClass c classes are) in
      one-reached x method (class_start c) (end_starts (is_last c) c ++ starts_of missing classes) (omega (arith, low)) from
      ∙ none-reached x (end_of c) (run_of c) (end_starts (is_last c) c ++ starts_of missing classes) to (rest-rises c classes are ordered)

  pub class-chosen : (classes : List CodeClass) (n : ℕ) (c : CodeClass) (k method : ℕ) → All IsClass classes → AreOrdered classes → slice_get classes n ≡ Some c → k < c.count → chosen_from method (starts_of missing classes) (address c k) ≡ run_of c
  class-chosen [] n c k method are ordered at below = absurd (cc)
  class-chosen (d ∷ classes) zero c k method are ordered at below =
      let same : d ≡ c = cc in
      subst (λ b. k < b.count → chosen_from method (starts_of missing (d ∷ classes)) (address b k) ≡ run_of b) same
      (λ less. first-chosen d classes (address d k) method are ordered (omega arith) (omega arith)) below
  class-chosen (d ∷ classes) (suc n) c k method are ordered at below =
      chosen-joined (address c k) method (class_starts missing d) (starts_of missing classes)
      ∙ class-chosen classes n c k (chosen_from method (class_starts missing d) (address c k)) (All-tail IsClass d classes are) (ordered-rest d classes ordered) at below

  -- it is not below all starts
  pub class-reached : (classes : List CodeClass) (n : ℕ) (c : CodeClass) → All IsClass classes → AreOrdered classes → slice_get classes n ≡ Some c → first_of (starts_of missing classes) ≤ address c 0
  class-reached [] n c are ordered at = absurd (cc)
  class-reached (d ∷ classes) zero c are ordered at =
      let same : d ≡ c = cc in subst (λ b. address d 0 ≤ address b 0) same (let le : address d 0 ≤ address d 0 = omega arith in le)
  class-reached (d ∷ classes) (suc n) c are ordered at =
      let after = behind d classes n c (All-tail IsClass d classes are) ordered at in
      omega (arith, after)
