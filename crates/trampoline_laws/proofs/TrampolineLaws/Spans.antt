-- Spans that follow each other.
use Rattle.std.proofs.Common.{ℕ, zero, suc, ◌+◌, ◌<◌, ◌≤◌, inl, inr, List, [], ◌∷◌, length, slice_index_or, arith}
use Rattle.std.proofs.lemmas.Bool.{cases_lt}
use Rattle.method_splitter.specs.declared.span.Span.{Span}
use Rattle.trampoline_laws.specs.Classes.{AreJoined}

abbrev no_span : Span
no_span = record { first = 0; words = 0 }

abbrev pub at_number : List Span → ℕ → Span
at_number spans j = slice_index_or spans j no_span

joined-le : (spans : List Span) (at end : ℕ) → AreJoined at spans end → at ≤ end
joined-le [] at end joined = omega arith
joined-le (s ∷ spans) at end joined = let rest = joined-le spans (at + s.words) end joined.2 in omega arith

pub spans-some : (spans : List Span) (at end : ℕ) → AreJoined at spans end → at < end → 1 ≤ length spans
spans-some [] at end joined less = absurd (omega arith)
spans-some (s ∷ spans) at end joined less = omega arith

-- a span of them lies between both ends, and is not empty
pub record LiesIn (at end : ℕ) (s : Span) : Type 0 where
  pub from : at ≤ s.first
  pub some : 1 ≤ s.words
  pub to : s.first + s.words ≤ end

pub joined-at : (spans : List Span) (at end j : ℕ) → AreJoined at spans end → j < length spans → LiesIn at end (at_number spans j)
joined-at [] at end j joined below = absurd (omega arith)
joined-at (s ∷ spans) at end zero joined below =
    let rest = joined-le spans (at + s.words) end joined.2 in
    let first = joined.0 in
    record { from = omega arith; some = joined.1; to = omega arith }
joined-at (s ∷ spans) at end (suc j) joined below =
    let rest = joined-at spans (at + s.words) end j joined.2 (omega arith) in
    record { from = omega (arith, rest.from); some = rest.some; to = rest.to }

-- each ends where a later one begins, or before
pub joined-apart : (spans : List Span) (at end i j : ℕ) → AreJoined at spans end → i < j → j < length spans → (at_number spans i).first + (at_number spans i).words ≤ (at_number spans j).first
joined-apart [] at end i j joined less below = absurd (omega arith)
joined-apart (s ∷ spans) at end i zero joined less below = absurd (omega arith)
joined-apart (s ∷ spans) at end zero (suc j) joined less below =
    let rest = joined-at spans (at + s.words) end j joined.2 (omega arith) in omega (arith, joined.0, rest.from)
joined-apart (s ∷ spans) at end (suc i) (suc j) joined less below =
    joined-apart spans (at + s.words) end i j joined.2 (omega arith) (omega arith)

-- each word between both ends lies in one of them
pub record HasWord (spans : List Span) (k : ℕ) : Type 0 where
  pub number : ℕ
  pub below : number < length spans
  pub begins : (at_number spans number).first ≤ k
  pub ends : k < (at_number spans number).first + (at_number spans number).words

pub joined-has : (spans : List Span) (at end k : ℕ) → AreJoined at spans end → at ≤ k → k < end → HasWord spans k
joined-has [] at end k joined low high = absurd (omega arith)
joined-has (s ∷ spans) at end k joined low high =
    elim (cases_lt k (at + s.words)) [
      | inl less ↦ record { number = 0; below = omega arith; begins = omega (arith, joined.0); ends = omega (arith, joined.0) }
      | inr more ↦
          let rest = joined-has spans (at + s.words) end k joined.2 more high in
          record { number = suc rest.number; below = omega (arith, rest.below); begins = rest.begins; ends = rest.ends }
    ]
