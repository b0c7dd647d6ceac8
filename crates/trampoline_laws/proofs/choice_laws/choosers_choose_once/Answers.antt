use Rattle.std.proofs.Common.{◌≡◌, ℕ, ◌%◌, ◌^◌, ◌<◌, ◌≤◌, ◌⊎◌, inl, inr, List, arith}
use Rattle.std.proofs.lemmas.Bool.{cases_eq, cases_lt}
use Rattle.run_definition.specs.Words.{IsWord}
use Rattle.jvm_definition.specs.declared.value.Value.TheVariants.{Int as int}
use Rattle.jvm_definition.specs.Program.{Program}
use Rattle.jvm_definition.specs.Effect.{Workspace}
use Rattle.emit_layout.specs.FieldNumbers.{pc_field}
use Rattle.trampoline.specs.declared.start.Start.{Start}
use Rattle.trampoline.specs.Trees.{first_of}
use Rattle.trampoline_laws.specs.Choosing.{AreStarts, IsMethod, IsReached, IsWithin}
use Rattle.trampoline_laws.specs.Coming.{ClassChoosersCall, ClassChoosersReturn, ClassRound, MainChoosersCall, MainChoosersStray, MainRound}
use Rattle.trampoline_laws.proofs.choice_laws.choosers_choose_once.Goals as goal

-- an address is that of one of the words between two, or is not
within-or-not : (first end x : ℕ) → IsWithin first end x ⊎ (IsWithin first end x → ⊥)
within-or-not first end x = by_tests (cases_eq (x % 4) 0) (cases_lt x first) (cases_lt x end)
  where
    by_tests : ((x % 4) ≡ 0) ⊎ ((x % 4) ≡ 0 → ⊥) → (x < first) ⊎ (first ≤ x) → (x < end) ⊎ (end ≤ x)
        → IsWithin first end x ⊎ (IsWithin first end x → ⊥)
    by_tests (inr odd) b c = inr (λ is. odd is.0)
    by_tests (inl even) (inl low) c = inr (λ is. let above = is.1 in omega (arith, low, above))
    by_tests (inl even) (inr above) (inr high) = inr (λ is. let below = is.2 in omega (arith, high, below))
    by_tests (inl even) (inr above) (inl below) = inl (even, above, below)

module _ (program : Program) (words x : ℕ) (starts : List Start) (w : Workspace) (are : AreStarts program 2048 starts) (word : IsWord x) (is : w.fields pc_field ≡ int x) where
  class-round : (first end : ℕ) → ClassChoosersCall → ClassChoosersReturn → first < 2 ^ 31 → end < 2 ^ 31
      → IsWithin first end x ⊎ (IsWithin first end x → ⊥) → ClassRound program words first end x starts w
  class-round first end calls returns low_first low_end (inl within) = inl (within, calls program words first end x starts w are low_end is within)
  class-round first end calls returns low_first low_end (inr outside) =
      inr (outside, returns program words first end x starts w low_first low_end word is outside)

  main-round : (missing : ℕ) → MainChoosersCall → MainChoosersStray → IsMethod program missing
      → IsReached starts x ⊎ (IsReached starts x → ⊥) → MainRound program words missing x starts w
  main-round missing calls strays method (inl reached) = inl (reached, calls program words missing x starts w are is reached)
  main-round missing calls strays method (inr outside) =
      inr (outside, strays program words missing x starts w are.some are.rise method word is outside)

pub returns : goal.returns
returns c = record {
  class = λ program words first end x starts w are low_first low_end word is.
      class-round program words x starts w are word is first end c.class_choosers_choose.ensures.calls c.class_choosers_choose.ensures.returns
      low_first low_end (within-or-not first end x);
  main = λ program words missing x starts w are method word is.
      main-round program words x starts w are word is missing c.main_choosers_choose.ensures.calls c.main_choosers_choose.ensures.strays method
      (within-or-not (first_of starts) (2 ^ 31) x);
}
