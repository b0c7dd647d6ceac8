-- The length of the image, and its pieces.
use Rattle.std.proofs.Common.{◌≡◌, ℕ, ◌+◌, ◌-◌, ◌≤◌, Bool, true, false, cond, List, [], ◌∷◌, ◌++◌, length, take, drop, replicate, length-append, length-take, append_assoc, arith, sym, ap, ◌∙◌}
use Rattle.std.proofs.lemmas.List.{length-replicate}
use Rattle.obj_linker.specs.declared.group.Group.{Group}
use Rattle.obj_linker.specs.declared.group.Group.TheVariants.{Code, Constants, Data}
use Rattle.obj_linker.specs.declared.layout.Ends.{Ends}
use Rattle.obj_reader.specs.declared.section.Section.{Section}
use Rattle.obj_linker.specs.Cursor.{IsEnds}
use Rattle.obj_linker.specs.Image.{contents_of, group_bytes, linked_bytes, placed_bytes}
use Rattle.obj_linker.specs.Layout.{is_in, group_end, next_end, section_start, code_end, text_end, data_end, text_start, data_start}
use Rattle.obj_linker.specs.Names.{object_bytes}
use Rattle.obj_reader.specs.Sections.{has_bytes}
use Rattle.obj_reader.specs.Symbols.{bytes_in}
use Rattle.obj_linker.proofs.LayoutLemmas.{le_rounded}

short_by : (t : Bool) (front : List ℕ) (size : ℕ) → length front ≤ size → length (cond t front (replicate size 0)) ≤ size
short_by true front size h = h
short_by false front size h = omega (arith, length-replicate {A = ℕ} size 0)

-- a section holds at most its size
short_contents : (files : List (List ℕ)) (s : Section) → length (contents_of files s) ≤ s.sh_size
short_contents files s =
    short_by (has_bytes s) (bytes_in (object_bytes files s.object) s) s.sh_size
    (omega (arith, length-take (s.sh_offset + s.sh_size - s.sh_offset) (drop s.sh_offset (object_bytes files s.object))))

placed_by : (t : Bool) (at start size : ℕ) (bytes : List ℕ) → at ≤ start → length bytes ≤ size
    → at + length (cond t (replicate (start - at) 0 ++ bytes) []) ≤ cond t (start + size) at
placed_by true at start size bytes le short = omega (arith, length-append (replicate (start - at) 0) bytes, length-replicate {A = ℕ} (start - at) 0)
placed_by false at start size bytes le short = omega arith

short_placed : (files : List (List ℕ)) (group : Group) (at : ℕ) (s : Section) → at + length (placed_bytes files group at s) ≤ next_end group at s
short_placed files group at s =
    placed_by (is_in group s) at (section_start at s) s.sh_size (contents_of files s) (le_rounded s.sh_addralign at) (short_contents files s)

-- a group reaches at most to its end
pub short_group : (files : List (List ℕ)) (group : Group) (at : ℕ) (sections : List Section)
    → at + length (group_bytes files group at sections) ≤ group_end group at sections
short_group files group at [] = omega arith
short_group files group at (s ∷ sections) =
    omega (
      arith,
      short_placed files group at s,
      short_group files group (next_end group at s) sections,
      length-append (placed_bytes files group at s) (group_bytes files group (next_end group at s) sections),
    )

pub short_image : (files : List (List ℕ)) (sections : List Section) (e : Ends) → IsEnds sections e → length (linked_bytes files sections) ≤ 33554432
unfolding linked_bytes code_end text_end data_end
short_image files sections e ends =
    let code = group_bytes files Code text_start sections in
    let constants = group_bytes files Constants (code_end sections) sections in
    let bytes = group_bytes files Data data_start sections in
    omega (
      arith,
      short_group files Code text_start sections,
      short_group files Constants (code_end sections) sections,
      short_group files Data data_start sections,
      length-append (code ++ constants) bytes,
      length-append code constants,
      ends.short_text,
      ends.short_data,
    )

-- the bytes of a section, taken from its object
pub bytes_taken : (file : List ℕ) (s : Section) → take s.sh_size (drop s.sh_offset file) ≡ bytes_in file s
bytes_taken file s = ap (λ n. take n (drop s.sh_offset file)) (let e : s.sh_size ≡ s.sh_offset + s.sh_size - s.sh_offset = omega arith in e)

-- a section more was appended
pub group_more : (files : List (List ℕ)) (group : Group) (at next : ℕ) (s : Section) (rest others : List Section) (old new whole : List ℕ)
    → rest ≡ s ∷ others → next ≡ next_end group at s → new ≡ old ++ placed_bytes files group at s
    → old ++ group_bytes files group at rest ≡ whole → new ++ group_bytes files group next others ≡ whole
group_more files group at next s rest others old new whole first is more was =
    let later = group_bytes files group (next_end group at s) others in
    ap (λ n. new ++ group_bytes files group n others) is ∙ ap (λ l. l ++ later) more
    ∙ append_assoc old (placed_bytes files group at s) later ∙ ap (λ r. old ++ group_bytes files group at r) (sym first) ∙ was

-- three groups that were appended
pub short_appended : (files : List (List ℕ)) (sections : List Section) (e : Ends) (i0 i1 i2 i3 : List ℕ) → IsEnds sections e → i0 ≡ []
    → i1 ≡ i0 ++ group_bytes files Code text_start sections → i2 ≡ i1 ++ group_bytes files Constants e.code sections
    → i3 ≡ i2 ++ group_bytes files Data data_start sections → length i3 ≤ 33554432
unfolding code_end text_end data_end
short_appended files sections e i0 i1 i2 i3 ends a b c d =
    let code = group_bytes files Code text_start sections in
    let constants = group_bytes files Constants e.code sections in
    let bytes = group_bytes files Data data_start sections in
    let text_is = ap (λ n. group_end Constants n sections) ends.code in
    omega (
      arith,
      short_group files Code text_start sections,
      short_group files Constants e.code sections,
      short_group files Data data_start sections,
      ap length a,
      ap length b,
      ap length c,
      ap length d,
      length-append i0 code,
      length-append i1 constants,
      length-append i2 bytes,
      text_is,
      ends.code,
      ends.short_text,
      ends.short_data,
    )
