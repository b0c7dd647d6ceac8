-- The sections that are read lie in the file.
use Rattle.std.proofs.Common.{◌≡◌, ℕ, ◌+◌, ◌≤◌, Bool, true, false, cond, ◌&&◌, ◌||◌, ◌==◌, nat_lt, List, slice_get, Option, Some, None, option_and_then, refl, sym, ap, ◌∙◌, arith}
use Rattle.std.specs.List.{find}
use Rattle.std.proofs.lemmas.Bool.Decides.{nat_tests}
use Rattle.obj_reader.specs.declared.section.Section.{Section}
use Rattle.obj_reader.specs.Sections.{has_bytes, is_placed, is_read, is_section_outside, is_section, is_symbol_table, is_string_table, is_relocations, is_for_placed, only_strings, string_table, strings_of_table, symbol_table}
use Rattle.obj_reader.proofs.FindLemmas.{none_at, none_found}

not_below : (len n : ℕ) → nat_lt len n ≡ false → n ≤ len
not_below len n h = grind (arith, nat_tests)

within : (len : ℕ) (sections : List Section) (s : Section) → is_section_outside len sections s ≡ false → is_read sections s ≡ true → s.sh_offset + s.sh_size ≤ len
within len sections s out read = not_below len (s.sh_offset + s.sh_size) (sym (ap (λ t. t && nat_lt len (s.sh_offset + s.sh_size)) read) ∙ out)

same_number : (n : ℕ) → (n == n) ≡ true
same_number n = grind arith

any_second : (a b c d : Bool) → b ≡ true → (a || b || c || d) ≡ true
any_second true b c d h = refl
any_second false true c d h = refl
any_second false false c d h = absurd (cc)

any_third : (a b c d : Bool) → c ≡ true → (a || b || c || d) ≡ true
any_third true b c d h = refl
any_third false true c d h = refl
any_third false false true d h = refl
any_third false false false d h = absurd (cc)

any_fourth : (a b c d : Bool) → d ≡ true → (a || b || c || d) ≡ true
any_fourth true b c d h = refl
any_fourth false true c d h = refl
any_fourth false false true d h = refl
any_fourth false false false d h = h

-- the symbol table
pub inside_table : (len : ℕ) (sections : List Section) (t : Section) → find (is_section_outside len sections) sections ≡ None
    → symbol_table sections ≡ Some t → t.sh_offset + t.sh_size ≤ len
inside_table len sections t none there =
    within len sections t (none_found (is_section_outside len sections) is_symbol_table sections t none there)
    (any_second (is_placed t && has_bytes t) (is_section (symbol_table sections) t) (is_section (string_table sections) t) (is_relocations t && is_for_placed sections t)
    (ap (λ o. is_section o t) there ∙ same_number t.number))

the_strings : (s t : Section) → only_strings s ≡ Some t → s ≡ t
the_strings s t h = by (is_string_table s) h
  where
    by : (b : Bool) → cond b (Some s) None ≡ Some t → s ≡ t
    by true e = cc
    by false e = cc

strings_at : (sections : List Section) (o : Option Section) (t : Section) → option_and_then only_strings o ≡ Some t → o ≡ Some t
strings_at sections None t h = cc
strings_at sections (Some s) t h = ap (λ x. Some x) (the_strings s t h)

-- its strings
pub inside_strings : (len : ℕ) (sections : List Section) (t s : Section) → find (is_section_outside len sections) sections ≡ None
    → symbol_table sections ≡ Some t → strings_of_table sections t ≡ Some s → s.sh_offset + s.sh_size ≤ len
inside_strings len sections t s none there strings =
    within len sections s (none_at (is_section_outside len sections) sections t.sh_link s none (strings_at sections (slice_get sections t.sh_link) s strings))
    (any_third (is_placed s && has_bytes s) (is_section (symbol_table sections) s) (is_section (string_table sections) s) (is_relocations s && is_for_placed sections s)
    (ap (λ o. is_section (option_and_then (strings_of_table sections) o) s) there ∙ ap (λ o. is_section o s) strings ∙ same_number s.number))

-- relocations of a placed section
pub inside_relocations : (len : ℕ) (sections : List Section) (s : Section) → is_section_outside len sections s ≡ false
    → is_relocations s ≡ true → is_for_placed sections s ≡ true → s.sh_offset + s.sh_size ≤ len
inside_relocations len sections s out kind placed =
    within len sections s out
    (any_fourth (is_placed s && has_bytes s) (is_section (symbol_table sections) s) (is_section (string_table sections) s) (is_relocations s && is_for_placed sections s)
    (ap (λ t. t && is_for_placed sections s) kind ∙ placed))
