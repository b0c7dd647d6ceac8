-- Code that pushes constants of a list, and others that take no slots.
use Rattle.std.proofs.Common.{◌≡◌, ℕ, zero, suc, ◌+◌, ◌<◌, ◌≤◌, Bool, true, false, cond, if◌then◌else◌, List, [], ◌∷◌, ◌++◌, sym, subst, arith, refl}
use Rattle.std.specs.Prelude.{filter}
use Rattle.std.specs.List.{flat_map, range_with_len}
use Rattle.std.proofs.lemmas.List.Concat.{flat_map-append}
use Rattle.jvm_definition.specs.declared.constant.Constant.{Constant}
use Rattle.emit_steps.specs.declared.step.Step.{Step}
use Rattle.emit_assembly.specs.Assembling.{pushed_by, constants_of}
use Rattle.emit_limits.proofs.Counting.{Within, within-none, within-append, within-free, within-self}
use Rattle.emit_limits.proofs.StepSlots.{taken, taken-all}

abbrev pub Pushes : List Constant → List Step → Type 0
Pushes constants code = Within (constants_of code) constants

pub pushes-append : (constants : List Constant) (xs ys : List Step) → Pushes constants xs → Pushes constants ys → Pushes constants (xs ++ ys)
pushes-append constants xs ys first second =
    subst (λ cs. Within cs constants) (sym (flat_map-append pushed_by xs ys))
    (within-append (constants_of xs) (constants_of ys) constants first second)

pub pushes-either : (constants : List Constant) (b : Bool) (xs ys : List Step) → Pushes constants xs → Pushes constants ys
    → Pushes constants (if b then xs else ys)
pushes-either constants true xs ys first second = first
pushes-either constants false xs ys first second = second

pub pushes-free : (constants : List Constant) (code : List Step) → taken code ≤ 0 → Pushes constants code
pushes-free constants code free = within-free (constants_of code) constants (omega (arith, free, taken-all code))

pub pushes-all : (constants : List Constant) (code : List Step) → constants_of code ≡ constants → Pushes constants code
pushes-all constants code is = subst (λ cs. Within cs constants) (sym is) (within-self constants)

-- the code of numbers that pass a test
pub pushes-each : (constants : List Constant) (F : ℕ → List Step) (test : ℕ → Bool) (a m : ℕ)
    → ((k : ℕ) → a ≤ k → k < a + m → test k ≡ true → Pushes constants (F k)) → Pushes constants (flat_map F (filter test (range_with_len a m)))
pushes-each constants F test a zero each = within-none constants
pushes-each constants F test a (suc m) each =
    by_test (test a) refl (filter test (range_with_len (a + 1) m))
    (pushes-each constants F test (a + 1) m (λ k from below passes. each k (omega arith) (omega arith) passes))
  where
    by_test : (b : Bool) → test a ≡ b → (ks : List ℕ) → Pushes constants (flat_map F ks) → Pushes constants (flat_map F (cond b (a ∷ ks) ks))
    by_test true passes ks rest = pushes-append constants (F a) (flat_map F ks) (each a (omega arith) (omega arith) passes) rest
    by_test false passes ks rest = rest

-- the code of registers that pass a test
pub pushes-registers : (constants : List Constant) (test : ℕ → Bool) (code : ℕ → List Step) → ((r : ℕ) → Pushes constants (code r))
    → (rs : List ℕ) → Pushes constants (flat_map (λ r. if test r then code r else []) rs)
pushes-registers constants test code each [] = within-none constants
pushes-registers constants test code each (r ∷ rs) =
    pushes-append constants (if test r then code r else []) (flat_map (λ r. if test r then code r else []) rs)
    (pushes-either constants (test r) (code r) [] (each r) (within-none constants))
    (pushes-registers constants test code each rs)
