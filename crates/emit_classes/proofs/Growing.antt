-- Pools that grow.
use Rattle.std.proofs.Common.{◌≡◌, ℕ, ◌+◌, ◌≤◌, List, [], ◌∷◌, ◌++◌, length, ◌⊎◌, inl, inr, sym, ap, subst, ◌∙◌, arith}
use Rattle.std.proofs.lemmas.List.{length-append}
use Rattle.class_definition.specs.declared.entry.Entry.{Entry}
use Rattle.emit_assembly.specs.Assembling.{Extends}
use Rattle.emit_assembly.proofs.Pools.{extends-itself, extends-further}
use Rattle.emit_classes.specs.Sound.{MayJoin}
use Rattle.emit_classes.specs.Built.{Grows}
use Rattle.emit_classes.proofs.Stays.{Stays}
use Rattle.emit_classes.proofs.Sound.{get-front}
use Rattle.emit_classes.proofs.Joined.{Joined, pool-joined}

pub stays-behind : (old new : List Entry) → Extends old new → Stays old new
stays-behind old new x = let P : List Entry → Type 0 = λ p. Stays old p in subst P (sym x.is) (get-front old x.behind)

-- ---- so many slots at most

pub grows-not : (old new : List Entry) (slots : ℕ) → new ≡ old → Grows old new slots
grows-not old new slots same =
    let P : List Entry → Type 0 = λ p. Grows old p slots in
    subst P (sym same) (record { kept = extends-itself old; few = omega arith; sound = λ was. was })

pub grows-more : (old pool new : List Entry) (first second slots : ℕ) → Grows old pool first → Grows pool new second
    → first + second ≤ slots → Grows old new slots
grows-more old pool new first second slots x y most =
    let few = x.few in
    let more = y.few in
    record { kept = extends-further old pool new x.kept y.kept; few = omega arith; sound = λ was. y.sound (x.sound was) }

extends-joined : (old new : List Entry) (e : Entry) → (new ≡ old) ⊎ (new ≡ old ++ e ∷ []) → Extends old new
extends-joined old new e (inl same) = subst (λ (p : List Entry). Extends old p) (sym same) (extends-itself old)
extends-joined old new e (inr grown) = record { behind = e ∷ []; is = grown }

few-joined : (old new : List Entry) (e : Entry) → (new ≡ old) ⊎ (new ≡ old ++ e ∷ []) → length new ≤ length old + 1
few-joined old new e (inl same) = let k : length new ≡ length old = ap length same in omega arith
few-joined old new e (inr grown) = let k : length new ≡ length old + 1 = ap length grown ∙ length-append old (e ∷ []) in omega arith

pub grows-joined : (pool old new : List Entry) (slot : ℕ) (e : Entry) → pool ≡ old → MayJoin pool e → Joined pool new slot e
    → Grows old new 1
grows-joined pool old new slot e is may j =
    let P : List Entry → Type 0 = λ p. Grows p new 1 in
    subst P is (record {
      kept = extends-joined pool new e j.grown;
      few = few-joined pool new e j.grown;
      sound = λ was. pool-joined pool
          new slot e was may j;
    })
