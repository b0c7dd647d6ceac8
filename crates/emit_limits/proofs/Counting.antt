-- Constants that are all among others, or take no slot, take together at most the slots of those others.
use Rattle.std.proofs.Common.{◌≡◌, ℕ, ◌+◌, ◌≤◌, ◌==◌, ◌||◌, ◌⊎◌, inl, inr, Bool, true, false, if◌then◌else◌, List, [], ◌∷◌, ◌++◌, refl, sym, ap, ◌∙◌, subst, arith}
use Rattle.std.specs.List.{list_any}
use Rattle.std.proofs.lemmas.Bool.{true≢false, cases_Bool, and_parts, and_from, or_cases, or_left, or_right, eqb-true, eq-eqb}
use Rattle.std.proofs.lemmas.List.Folds.{list_any-append}
use Rattle.jvm_definition.specs.declared.constant.Constant.{Constant}
use Rattle.jvm_definition.specs.declared.constant.Constant.TheVariants as constants
use Rattle.emit_assembly.specs.Assembling.{constant_slots, same_constant, slots_beside}

-- ---- the same constant

same-equal : (c d : Constant) → same_constant c d ≡ true → c ≡ d
same-equal constants.Null constants.Null is = refl
same-equal (constants.Int n) (constants.Int m) is = ap constants.Int (eqb-true n m is)
same-equal (constants.Long n) (constants.Long m) is = ap constants.Long (eqb-true n m is)
same-equal (constants.Text class slot) (constants.Text other_class other) is =
    let both = and_parts (class == other_class) (slot == other) is in
    λ i. constants.Text (eqb-true class other_class both.0 i) (eqb-true slot other both.1 i)
same-equal c d is = absurd (true≢false (sym is))

same-self : (c : Constant) → same_constant c c ≡ true
same-self constants.Null = refl
same-self (constants.Int n) = eq-eqb n n refl
same-self (constants.Long n) = eq-eqb n n refl
same-self (constants.Text class slot) = and_from (class == class) (slot == slot) (eq-eqb class class refl) (eq-eqb slot slot refl)

-- ---- among others

abbrev pub IsAmong : List Constant → Constant → Type 0
IsAmong others c = list_any (same_constant c) others ≡ true

-- all constants of a list are among others, or take no slot
abbrev pub Within : List Constant → List Constant → Type 0
Within constants others = (c : Constant) → IsAmong constants c → (constant_slots c ≡ 0) ⊎ (IsAmong others c)

-- ---- sums

-- the slots of constants, each counted wherever it stands
abbrev pub all_slots : List Constant → ℕ
all_slots [] = 0
all_slots (c ∷ constants) = constant_slots c + all_slots constants

-- the slots of constants that are not among some
abbrev beside : List Constant → List Constant → ℕ
beside before [] = 0
beside before (c ∷ constants) = (if list_any (same_constant c) before then 0 else constant_slots c) + beside before constants

fewer : (a b : Bool) (n : ℕ) → (if a || b then 0 else n) ≤ (if b then 0 else n)
fewer true true n = omega arith
fewer true false n = omega arith
fewer false true n = omega arith
fewer false false n = omega arith

beside-falls : (c : Constant) (before others : List Constant) → beside (c ∷ before) others ≤ beside before others
beside-falls c before [] = omega arith
beside-falls c before (d ∷ others) =
    omega (arith, fewer (same_constant d c) (list_any (same_constant d) before) (constant_slots d), beside-falls c before others)

none-beside : (b : Bool) (n : ℕ) → b ≡ true → (if b then 0 else n) ≡ 0
none-beside true n is = refl
none-beside false n is = absurd (true≢false (sym is))

all-beside : (b : Bool) (n : ℕ) → b ≡ false → (if b then 0 else n) ≡ n
all-beside false n is = refl
all-beside true n is = absurd (true≢false is)

beside-first : (c : Constant) (before others : List Constant) → list_any (same_constant c) before ≡ false
    → constant_slots c + beside (c ∷ before) (c ∷ others) ≤ beside before (c ∷ others)
beside-first c before others new =
    let now : list_any (same_constant c) (c ∷ before) ≡ true =
    or_left (same_constant c c) (list_any (same_constant c) before) (same-self c) in
    omega (
      arith,
      none-beside (list_any (same_constant c) (c ∷ before)) (constant_slots c) now,
      all-beside (list_any (same_constant c) before) (constant_slots c) new,
      beside-falls c before others,
    )

beside-taken : (c : Constant) (before others : List Constant) → list_any (same_constant c) before ≡ false → IsAmong others c
    → constant_slots c + beside (c ∷ before) others ≤ beside before others
beside-taken c before [] new among = absurd (true≢false (sym among))
beside-taken c before (d ∷ others) new among =
    elim (or_cases (same_constant c d) (list_any (same_constant c) others) among) [
      | inl same ↦
          subst (λ x. constant_slots c + beside (c ∷ before) (x ∷ others) ≤ beside before (x ∷ others)) (same-equal c d same)
          (beside-first c before others new)
      | inr later ↦
          omega (
            arith,
            fewer (same_constant d c) (list_any (same_constant d) before) (constant_slots d),
            beside-taken c before others new later,
          )
    ]

slots-within : (constants before others : List Constant) → Within constants others → slots_beside before constants ≤ beside before others
slots-within [] before others within = omega arith
slots-within (c ∷ constants) before others within =
    let rest = slots-within constants (c ∷ before) others
    (λ d is. within d (or_right (same_constant d c) (list_any (same_constant d) constants) is)) in
    elim (cases_Bool (list_any (same_constant c) before)) [
      | inl old ↦
          omega (arith, none-beside (list_any (same_constant c) before) (constant_slots c) old, beside-falls c before others, rest)
      | inr new ↦
          let here = all-beside (list_any (same_constant c) before) (constant_slots c) new in
          elim (within c (or_left (same_constant c c) (list_any (same_constant c) constants) (same-self c))) [
            | inl free ↦ omega (arith, here, free, beside-falls c before others, rest)
            | inr among ↦ omega (arith, here, beside-taken c before others new among, rest)
          ]
    ]

none-before : (others : List Constant) → beside [] others ≡ all_slots others
none-before [] = refl
none-before (c ∷ others) = omega (arith, none-before others)

pub few-slots : (constants others : List Constant) → Within constants others → slots_beside [] constants ≤ all_slots others
few-slots constants others within = omega (arith, slots-within constants [] others within, none-before others)

pub all-append : (xs ys : List Constant) → all_slots (xs ++ ys) ≡ all_slots xs + all_slots ys
all-append [] ys = omega arith
all-append (c ∷ xs) ys = omega (arith, all-append xs ys)

-- ---- lists one after the other

pub within-none : (others : List Constant) → Within [] others
within-none others = λ c is. absurd (true≢false (sym is))

pub within-left : (xs others more : List Constant) → Within xs others → Within xs (others ++ more)
within-left xs others more within = λ c is.
    elim (within c is) [
      | inl free ↦ inl free
      | inr among ↦
          inr (list_any-append (same_constant c) others more
          ∙ or_left (list_any (same_constant c) others) (list_any (same_constant c) more) among)
    ]

pub within-right : (xs others more : List Constant) → Within xs more → Within xs (others ++ more)
within-right xs others more within = λ c is.
    elim (within c is) [
      | inl free ↦ inl free
      | inr among ↦
          inr (list_any-append (same_constant c) others more
          ∙ or_right (list_any (same_constant c) others) (list_any (same_constant c) more) among)
    ]

pub within-append : (xs ys others : List Constant) → Within xs others → Within ys others → Within (xs ++ ys) others
within-append xs ys others first second = λ c is.
    elim (or_cases (list_any (same_constant c) xs) (list_any (same_constant c) ys) (sym (list_any-append (same_constant c) xs ys) ∙ is)) [
      | inl here ↦ first c here
      | inr there ↦ second c there
    ]

-- constants that take no slots
pub within-free : (xs others : List Constant) → all_slots xs ≡ 0 → Within xs others
within-free [] others free = within-none others
within-free (x ∷ xs) others free = λ c is.
    elim (or_cases (same_constant c x) (list_any (same_constant c) xs) is) [
      | inl same ↦ inl (omega (arith, free, ap constant_slots (same-equal c x same)))
      | inr later ↦ within-free xs others (omega (arith, free)) c later
    ]

-- among some that are among others
pub within-further : (xs ys others : List Constant) → Within xs ys → Within ys others → Within xs others
within-further xs ys others first second = λ c is.
    elim (first c is) [
      | inl free ↦ inl free
      | inr among ↦ second c among
    ]

pub within-self : (xs : List Constant) → Within xs xs
within-self xs = λ c is. inr is
