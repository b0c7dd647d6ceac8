-- What a file is after one more piece.
use Rattle.std.proofs.Common.{◌≡◌, ℕ, ◌≤◌, ◌++◌, List, [], ◌∷◌, length, replicate, arith, append_assoc, subst, refl}
use Rattle.elf_definition.specs.declared.part.Part.{Part}
use Rattle.elf_definition.specs.declared.sec.Sec.{Sec}
use Rattle.elf_definition.specs.FilePlaces.{contents_place, file_offset}
use Rattle.elf_definition.specs.File.{padding, section_header_bytes, section_header_table, section_table}

-- a section's header that was appended no longer is to be appended
pub appended_section : (before after whole : List ℕ) (at offset : ℕ) (segments : List Part) (rest others : List Sec) (s : Sec)
    → rest ≡ s ∷ others → offset ≡ file_offset at segments s.addr → after ≡ before ++ section_header_bytes offset s
    → before ++ section_header_table at segments rest ≡ whole → after ++ section_header_table at segments others ≡ whole
appended_section before after whole at offset segments rest others s first found is was =
    let again : before ++ section_header_table at segments (s ∷ others) ≡ whole = subst (λ xs. before ++ section_header_table at segments xs ≡ whole) first was in
    rw is (rw append_assoc (rw found again))

-- the section header table is its padding, its header of zeros and the sections' headers
pub appended_table : (old padded begun new : List ℕ) (at : ℕ) (segments : List Part) (sections : List Sec)
    → 1 ≤ length sections → padded ≡ old ++ padding at → begun ≡ padded ++ replicate 40 0
    → new ≡ begun ++ section_header_table (contents_place segments) segments sections
    → new ≡ old ++ section_table at segments sections
appended_table old padded begun new at segments [] some a b d = absurd (omega (arith, some))
appended_table old padded begun new at segments (s ∷ sections) some a b d =
    rw (d, b, a) (simp append_assoc refl)
