-- What a server of joined parts gives.
use Rattle.std.proofs.Common.{◌≡◌, ◌≢◌, ℕ, ℤ, Option, Some, None, Result, Ok, Err, refl, sym, subst, inl, arith}
use Rattle.std.specs.Prelude.{OnOk}
use Rattle.run_definition.specs.Question.{Question}
use Rattle.run_definition.specs.declared.io_fault.IoFault.{IoFault}
use Rattle.run_definition.specs.declared.io_fault.IoFault.TheVariants.{ReadFault, WriteFault}
use Rattle.nv_events.specs.Serving.{Causes, NoneFalls, Rose, none_counted}
use Rattle.nv_events.specs.Serving as events
use Rattle.unix_calls.specs.Serving.{Parts, Serves, AsSome}
use Rattle.unix_calls.specs.Failing.{failed_calls, fault_of}
use Rattle.unix_calls.proofs.LeadsLemmas.{Answers, FailsBy}
use Rattle.unix_definition.specs.Unix.{unix}

module _ {V C : Type 0} (part : V → Parts) (failed : V → Option IoFault) (put_at : C → ℕ → ℕ → C) where
  abbrev JoinedServes : Question → V → V → C → C → Result (Option ℤ) IoFault → Type 0
  JoinedServes q j k c d y =
      events.Serves (λ v r a w. Answers (part v) r a (part w)) (λ v r w. ⊥)
      (λ v r w. (fault : IoFault) × (failed w ≡ Some fault) × FailsBy fault (part v) r (part w)) put_at q j k c d y

  pub joined-serves : (j k : V) (q : Question) (c d : C) (x : Result ℤ IoFault) (y : Result (Option ℤ) IoFault) → AsSome x y → failed k ≡ fault_of x
      → Serves put_at (λ s. unix s q) q.number q.room (part j) (part k) c d x → JoinedServes q j k c d y
  joined-serves j k q c d (Ok value) y is sound given = subst (JoinedServes q j k c d) (sym is) (given.0, given.1.fits, given.1, given.2)
  joined-serves j k q c d (Err e) y is fault given = subst (JoinedServes q j k c d) (sym is) ((e, fault, given.0), given.1)

pub joined-some : (x : Result ℤ IoFault) (y : Result (Option ℤ) IoFault) → AsSome x y → y ≢ Ok None
joined-some (Ok v) y is none = cc
joined-some (Err e) y is none = cc

pub joined-usable : (x : Result ℤ IoFault) (y : Result (Option ℤ) IoFault) → AsSome x y → OnOk y (fault_of x ≡ None)
joined-usable (Ok v) y is = subst (λ z. OnOk z (fault_of {A = ℤ} (Ok v) ≡ None)) (sym is) refl
joined-usable (Err e) y is = subst (λ z. OnOk z (fault_of {A = ℤ} (Err e) ≡ None)) (sym is) tt

one-rose : Rose 0 1
one-rose = grind arith

counts-one : (fault : IoFault) → Causes {A = Option ℤ} none_counted (failed_calls (Some fault)) (Err fault)
counts-one ReadFault = one-rose
counts-one WriteFault = inl one-rose

counts-first : (x : Result ℤ IoFault) (y : Result (Option ℤ) IoFault) → AsSome x y → Causes none_counted (failed_calls (fault_of x)) y
counts-first (Ok v) y is = subst (Causes none_counted none_counted) (sym is) refl
counts-first (Err fault) y is = subst (Causes none_counted (failed_calls (Some fault))) (sym is) (counts-one fault)

pub joined-causes : (before : Option IoFault) (x : Result ℤ IoFault) (y : Result (Option ℤ) IoFault) → before ≡ None → AsSome x y
    → Causes (failed_calls before) (failed_calls (fault_of x)) y
joined-causes before x y none is = subst (λ b. Causes (failed_calls b) (failed_calls (fault_of x)) y) (sym none) (counts-first x y is)

pub joined-none_falls : (before now : Option IoFault) → before ≡ None → NoneFalls (failed_calls before) (failed_calls now)
joined-none_falls before now none =
    subst (λ b. NoneFalls (failed_calls b) (failed_calls now)) (sym none) (record { input = omega arith; output = omega arith; error = omega arith })
