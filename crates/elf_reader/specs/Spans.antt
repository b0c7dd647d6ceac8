-- Stretches of whole numbers, each from its first number up to the one behind its last.
use Rattle.std.specs.Prelude.{◌≡◌, ℕ, ◌+◌, ◌/◌, ◌<◌, ◌≤◌, Bool, true, false, ◌&&◌, nat_le, min, List, All, Option, Some, None}
use Rattle.std.specs.List.{list_any}
use Rattle.std.specs.List.Sorted.{IsNonDecreasingBy}
use Rattle.elf_reader.specs.declared.span.Span.{Span}
use Rattle.elf_definition.specs.declared.segment.Segment.{Segment}
use Rattle.elf_definition.specs.Segments.{segment_end, file_end}

-- the numbers from first up to behind lie in one span of these
abbrev pub are_within : ℕ → ℕ → List Span → Bool
are_within first behind spans = list_any (λ s. nat_le s.first first && nat_le behind s.end) spans

-- the spans rise, by their first numbers and by their ends
pub record AreRising (spans : List Span) : Type 0 where
  pub firsts : IsNonDecreasingBy (λ s. s.first) spans
  pub ends : IsNonDecreasingBy (λ s. s.end) spans

-- each span holds a number
abbrev pub AreFilled : List Span → Type 0
AreFilled spans = All (λ s. s.first < s.end) spans

-- the least number from a place on that passes a test, if there is one
abbrev pub IsLeastFrom : ℕ → (ℕ → Bool) → Option ℕ → Type 0
IsLeastFrom at test None = (n : ℕ) → at ≤ n → test n ≡ false
IsLeastFrom at test (Some n) = (at ≤ n) × (test n ≡ true)
    × ((m : ℕ) → at ≤ m → m < n → test m ≡ false)

-- the lesser of two numbers that may be there
abbrev pub lesser : Option ℕ → Option ℕ → Option ℕ
lesser None b = b
lesser (Some a) None = Some a
lesser (Some a) (Some b) = Some (min a b)

-- the pages of 4,096 bytes that hold a byte of a segment
abbrev pub page_span : Segment → Span
page_span s = record { first = s.vaddr / 4096; end = (segment_end s + 4095) / 4096 }

-- the addresses of a segment's bytes in the file
abbrev pub text_span : Segment → Span
text_span s = record { first = s.vaddr; end = file_end s }
