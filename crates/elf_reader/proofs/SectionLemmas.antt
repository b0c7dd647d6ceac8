-- Code sections that are looked up among the executable segments.
use Rattle.std.proofs.Common.{◌≡◌, ℕ, ◌+◌, ◌<◌, Bool, true, false, not, ◌&&◌, ◌||◌, nat_le, List, [], ◌∷◌, map, filter, position, refl, ap, ◌∙◌, inl, inr, arith}
use Rattle.std.specs.List.{list_any}
use Rattle.std.proofs.lemmas.Bool.{cases_Bool}
use Rattle.std.proofs.lemmas.Bool.Decides.{nat_tests}
use Rattle.elf_definition.specs.declared.segment.Segment.{Segment}
use Rattle.elf_definition.specs.declared.section_header.SectionHeader.{SectionHeader}
use Rattle.elf_reader.specs.declared.span.Span.{Span}
use Rattle.elf_definition.specs.Segments.{is_executable, file_end}
use Rattle.elf_definition.specs.Sections.{is_code, holds_section, is_code_outside}
use Rattle.elf_reader.specs.Spans.{are_within, text_span}

-- the spans of the executable segments tell whether one of these holds the section
within_texts : (segments : List Segment) (s : SectionHeader)
    → are_within s.sh_addr (s.sh_addr + s.sh_size) (map text_span (filter is_executable segments)) ≡ list_any (holds_section s) segments
within_texts [] s = refl
within_texts (g ∷ gs) s =
    elim (cases_Bool (is_executable g)) [
      | inl may ↦ rw may (ap (λ b. (nat_le g.vaddr s.sh_addr && nat_le (s.sh_addr + s.sh_size) (file_end g)) || b) (within_texts gs s))
      | inr no_code ↦ rw no_code (within_texts gs s)
    ]

position-same : {X : Type 0} (p q : X → Bool) (xs : List X) → ((x : X) → p x ≡ q x) → position p xs ≡ position q xs
position-same p q xs same = let tests : p ≡ q = λ i x. same x i in ap (λ t. position t xs) tests

and_same : (a b c : Bool) → (a ≡ true → b ≡ c) → (a && not b) ≡ (a && not c)
and_same true b c same = ap (λ x. not x) (same refl)
and_same false b c same = refl

not_empty : (s : SectionHeader) → is_code s ≡ true → s.sh_addr < s.sh_addr + s.sh_size
not_empty s code = grind (arith, nat_tests)

pub outside_same : (segments : List Segment) (sections : List SectionHeader) (spans texts given : List Span)
    → spans ≡ map text_span (filter is_executable segments)
    → ((first behind : ℕ) → first < behind → are_within first behind texts ≡ are_within first behind spans)
    → given ≡ texts
    → position (λ (s : SectionHeader). is_code s && not (are_within s.sh_addr (s.sh_addr + s.sh_size) given)) sections
    ≡ position (is_code_outside segments) sections
outside_same segments sections spans texts given is_spans same is_given =
    position-same _ _ sections (λ s. and_same (is_code s) _ _ (λ code.
    ap (are_within s.sh_addr (s.sh_addr + s.sh_size)) is_given
    ∙ same s.sh_addr (s.sh_addr + s.sh_size) (not_empty s code)
    ∙ ap (are_within s.sh_addr (s.sh_addr + s.sh_size)) is_spans
    ∙ within_texts segments s))
