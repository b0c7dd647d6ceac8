-- Code that leaves the field of a register alone, and the steps that reach registers.
use Rattle.std.proofs.Common.{◌≡◌, ◌≢◌, ℕ, ◌≤◌, ◌==◌, Bool, true, false, if◌then◌else◌, List, [], ◌∷◌, ◌++◌, inl, inr, refl, sym, subst, arith}
use Rattle.std.proofs.lemmas.Bool.{cases_eq, eq-eqb, ne_eqb}
use Rattle.block_builder.specs.Registers.{Register, general, special}
use Rattle.jvm_definition.specs.declared.branch_name.BranchName.TheVariants.{Goto}
use Rattle.jvm_definition.specs.declared.local_kind.LocalKind.TheVariants as local_kinds
use Rattle.jvm_definition.specs.declared.instruction.Instruction.{Instruction}
use Rattle.jvm_definition.specs.declared.instruction.Instruction.TheVariants as instructions
use Rattle.emit_steps.specs.declared.step.Step.{Step}
use Rattle.emit_steps.specs.declared.step.Step.TheVariants.{Does, Skips, Leaves, Selects}
use Rattle.emit_layout.specs.FieldNumbers.{register_field}
use Rattle.emit_instructions.specs.Access.{keeps, get_field, put_field, get_register, put_register}
use Rattle.emit_paths_laws.specs.Paths.{step_weight, weigh}
use Rattle.emit_paths_laws.proofs.Weighing.{weigh-both}
use Rattle.emit_paths_laws.specs.Classes.{gets, puts}
use Rattle.emit_spans_laws.specs.Registers.{AtMostOnce}

-- what is counted of the field of each register
pub each-register : (count : ℕ → ℕ) → ((r : ℕ) → 1 ≤ r → r ≤ 31 → count (register_field r) ≤ 1) → AtMostOnce count
each-register count few = few

-- ---- instructions that read a field or write it

abbrev pub touches : ℕ → Instruction → ℕ
touches field (instructions.Get f kind) = if f == field then 1 else 0
touches field (instructions.Put f kind) = if f == field then 1 else 0
touches field _ = 0

pub gets-touch : (field : ℕ) (i : Instruction) → gets field i ≤ touches field i
gets-touch field (instructions.Get f kind) = omega arith
gets-touch field _ = omega arith

pub puts-touch : (field : ℕ) (i : Instruction) → puts field i ≤ touches field i
puts-touch field (instructions.Put f kind) = omega arith
puts-touch field _ = omega arith

-- what weighs no more weighs nothing either
pub weigh-less : (weight more : Instruction → ℕ) → ((i : Instruction) → weight i ≤ more i) → (code : List Step) → weigh more code ≡ 0
    → weigh weight code ≡ 0
weigh-less weight more less [] none = refl
weigh-less weight more less (s ∷ code) none =
    let here : step_weight weight s ≤ step_weight more s = at_step s in
    let rest = weigh-less weight more less code (omega (arith, none)) in
    omega (arith, here, rest, none)
  where
    at_step : (s : Step) → step_weight weight s ≤ step_weight more s
    at_step (Does i) = less i
    at_step (Skips name k) = less (instructions.Branch name 0)
    at_step (Leaves target) = less (instructions.Branch Goto 0)
    at_step (Selects table) = less (instructions.TableSwitch table)

-- ---- code that leaves the field of a register alone

abbrev pub Quiet : ℕ → List Step → Type 0
Quiet q code = weigh (touches (register_field q)) code ≡ 0

abbrev pub StepQuiet : ℕ → Step → Type 0
StepQuiet q s = step_weight (touches (register_field q)) s ≡ 0

pub quiet-both : (q : ℕ) (first second : List Step) → Quiet q first → Quiet q second → Quiet q (first ++ second)
quiet-both q first second a b =
    let both = weigh-both (touches (register_field q)) first second in
    omega (arith, both, a, b)

pub quiet-either : (q : ℕ) (b : Bool) (first second : List Step) → Quiet q first → Quiet q second → Quiet q (if b then first else second)
quiet-either q true first second a b = a
quiet-either q false first second a b = b

pub step-either : (q : ℕ) (b : Bool) (s t : Step) → StepQuiet q s → StepQuiet q t → StepQuiet q (if b then s else t)
step-either q true s t a b = a
step-either q false s t a b = b

-- ---- registers

-- a register is another one than q, or q is kept in a local variable
abbrev pub IsSpared : (q bank r : ℕ) → Type 0
IsSpared q bank r = r ≡ q → keeps bank q ≡ true

abbrev pub AreSpared : (q bank : ℕ) → List Register → Type 0
AreSpared q bank [] = Unit {0}
AreSpared q bank (general r ∷ registers) = IsSpared q bank r × AreSpared q bank registers
AreSpared q bank (special name ∷ registers) = AreSpared q bank registers

module _ (q : ℕ) (low : 1 ≤ q) (high : q ≤ 31) where
  -- fields from 31 on are no registers
  pub other-field : (f : ℕ) → 31 ≤ f → (f == register_field q) ≡ false
  other-field f above = ne_eqb f (register_field q) (λ same. omega (arith, same))

  register-field : (r : ℕ) → r ≢ 0 → r ≢ q → (register_field r == register_field q) ≡ false
  register-field r some other = ne_eqb (register_field r) (register_field q) (λ same. other (omega (arith, same, some)))

  kept : (bank r : ℕ) → r ≡ q → IsSpared q bank r → keeps bank r ≡ true
  kept bank r same spared = subst (λ n. keeps bank n ≡ true) (sym same) (spared same)

  pub get-quiet : (bank r : ℕ) → IsSpared q bank r → StepQuiet q (get_register bank r)
  get-quiet bank r spared =
      elim (cases_eq r 0) [
        | inl none ↦ rw (eq-eqb r 0 none) refl
        | inr some ↦
            elim (cases_eq r q) [
              | inl same ↦ rw (ne_eqb r 0 some, kept bank r same spared) refl
              | inr other ↦
                  rw (ne_eqb r 0 some)
                  (step-either q (keeps bank r) (Does (instructions.Load local_kinds.Int r)) (get_field (register_field r)) refl
                  (rw (register-field r some other) refl))
            ]
      ]

  pub put-quiet : (bank r : ℕ) → IsSpared q bank r → StepQuiet q (put_register bank r)
  put-quiet bank r spared =
      elim (cases_eq r 0) [
        | inl none ↦ rw (eq-eqb r 0 none) refl
        | inr some ↦
            elim (cases_eq r q) [
              | inl same ↦ rw (ne_eqb r 0 some, kept bank r same spared) refl
              | inr other ↦
                  rw (ne_eqb r 0 some)
                  (step-either q (keeps bank r) (Does (instructions.Store local_kinds.Int r)) (put_field (register_field r)) refl
                  (rw (register-field r some other) refl))
            ]
      ]
