-- What the file of a linked program is made of.
use Rattle.std.proofs.Common.{◌≡◌, ℕ, ◌+◌, ◌-◌, ◌%◌, ◌<◌, ◌≤◌, ◌^◌, Bool, true, false, cond, List, [], ◌∷◌, ◌++◌, length, map, take, drop, replicate, slice_index, Some, None, refl, sym, ap, ◌∙◌, subst, inl, inr, ◌⊎◌, arith, length-drop}
use Rattle.std.specs.List.{All}
use Rattle.std.proofs.lemmas.Bool.{cases_lt, le-ltb, lt-ltb}
use Rattle.std.proofs.lemmas.List.{length-take-le}
use Rattle.std.proofs.lemmas.List.Elements.{All-cons, All-nil}
use Rattle.elf_definition.specs.Segments.{program_headers}
use Rattle.elf_definition.specs.declared.part.Part.{Part}
use Rattle.elf_definition.specs.declared.parts.Parts.{Parts}
use Rattle.elf_definition.specs.declared.sec.Sec.{Sec}
use Rattle.elf_definition.specs.File as writer
use Rattle.elf_definition.specs.FilePlaces.{aligned, contents_place, file_offset, header_count, segments_end, table_place}
use Rattle.elf_definition.specs.Parts.{PartSegment as Content, part_segment}
use Rattle.mips_asm_laws.proofs.Programs.{IsSmall}
use Rattle.mips_asm_laws.proofs.Written.{begins, ends, header_bytes, place_of, segments_end_is, table_stands}
use Rattle.obj_reader.specs.declared.section.Section.{Section as SectionOf}
use Rattle.obj_linker.specs.declared.meaning.Meaning.{Meaning}
use Rattle.obj_linker.specs.declared.meaning.Meaning.TheVariants.{InSection, Nothing, Number}
use Rattle.obj_linker.specs.Image.{linked_bytes}
use Rattle.obj_linker.specs.Names.{definition_of}
use Rattle.obj_linker.specs.Sites.{is_section_placed}
use Rattle.obj_linker.specs.Layout.{code_end, data_end, data_start, places_of, text_end, text_start, zeros_end}
use Rattle.obj_linker.specs.Link.{IsLinked, entry_address, defined_meaning, entry_of, objects_fault, linked_image}
use Rattle.obj_linker.specs.Program.{IsLinkedParts, code_section, linked_data, text_segment}
use Rattle.obj_linker_laws.specs.Held.{image_in, sections_in, sites_in, symbols_in}
use Rattle.obj_linker_laws.specs.Reading.{contents_of, placed_contents}
use Rattle.obj_linker_laws.proofs.Files.{IsShaped, data_at, data_content, one_header, one_passes, text_at, text_content, two_headers, two_pass}
use Rattle.obj_linker_laws.proofs.Images.{image_size}
use Rattle.obj_linker_laws.proofs.Linked.{inside_objects, not_large}
use Rattle.obj_linker_laws.proofs.Places.{in_order, within_limits}
use Rattle.obj_linker_laws.proofs.Words.{relocated_size}

abbrev code_of : ℕ → Sec
code_of size = record { kind = 1; flags = 6; addr = 0x00400000; size = size }

-- ---- files of one and of two segments
-- the begin of a file whose one section is the code
front_is : (file : List ℕ) (parts : Parts) (cs : List Content) (size : ℕ) → file ≡ writer.elf_file parts → map part_segment parts.segments.items ≡ cs
    → parts.sections.items ≡ code_of size ∷ []
    → (ys : List ℕ) × (file ≡ writer.elf_header parts.entry (aligned (segments_end parts)) (length cs) 2 ++ (header_bytes (place_of cs) cs ++ ys))
front_is file parts cs size is are these =
    let shape = begins parts cs are in (
      shape.0,
      is ∙ shape.1 ∙ (λ i. writer.elf_header parts.entry (table_place (segments_end parts) (these i)) (length cs) (header_count (these i)) ++ (header_bytes (place_of cs) cs ++ shape.0)),
    )

there_is : (file : List ℕ) (parts : Parts) (size : ℕ) → file ≡ writer.elf_file parts → parts.sections.items ≡ code_of size ∷ []
    → drop (aligned (segments_end parts)) file
    ≡ replicate 40 0 ++ (writer.section_header_bytes (file_offset (contents_place parts.segments.items) parts.segments.items 0x00400000) (code_of size) ++ [])
there_is file parts size is these = ap (λ f. drop (aligned (segments_end parts)) f) is ∙ table_stands parts (code_of size) [] these

pub one_shape : (file : List ℕ) (parts : Parts) (text : List ℕ) (n size : ℕ) → file ≡ writer.elf_file parts
    → map part_segment parts.segments.items ≡ text_content text n ∷ [] → parts.sections.items ≡ code_of size ∷ []
    → length text ≡ n → n ≤ 16777216 → size ≤ n → IsShaped file parts.entry (aligned (segments_end parts)) 1 size (text_at 84 n ∷ [])
one_shape file parts text n size is are these long short le =
    let cs : List Content = text_content text n ∷ [] in
    let table = aligned (segments_end parts) in
    let front = front_is file parts cs size is are these in
    let end : segments_end parts ≡ 84 + n = segments_end_is parts cs are ∙ ap (λ k. 84 + k) long in
    let whole : length file ≡ aligned (84 + length text) + 80 = ap (λ f. length f) is ∙ ends parts cs (code_of size ∷ []) are these in
    let total : length file ≡ aligned (84 + n) + 80 = whole ∙ ap (λ k. aligned (84 + k) + 80) long in
    record {
      rest = header_bytes 84 cs ++ front.0;
      front = front.1;
      some = omega arith;
      few = omega arith;
      long = omega (arith, total);
      table_placed = omega (arith, end);
      table_low = omega (arith, end, short);
      table_inside = omega (arith, end, total);
      size_low = omega (arith, le, short);
      headers_are = ap program_headers front.1 ∙ one_header parts.entry table n text front.0 long (omega (arith, short));
      passed = one_passes (length file) 84 n short (omega (arith, total));
      offset = file_offset (contents_place parts.segments.items) parts.segments.items 0x00400000;
      there = there_is file parts size is these;
    }

pub two_shape : (file : List ℕ) (parts : Parts) (text bytes : List ℕ) (n d m size : ℕ) → file ≡ writer.elf_file parts
    → map part_segment parts.segments.items ≡ text_content text n ∷ data_content bytes m ∷ [] → parts.sections.items ≡ code_of size ∷ []
    → length text ≡ n → length bytes ≡ d → n ≤ 16777216 → d ≤ m → d ≤ 16777216 → m ≤ 1073741824 → size ≤ n
    → IsShaped file parts.entry (aligned (segments_end parts)) 2 size (text_at 116 n ∷ data_at (aligned (116 + n)) d m ∷ [])
two_shape file parts text bytes n d m size is are these long long' short less short' low le =
    let cs : List Content = text_content text n ∷ data_content bytes m ∷ [] in
    let table = aligned (segments_end parts) in
    let front = front_is file parts cs size is are these in
    let end : segments_end parts ≡ aligned (116 + n) + d = segments_end_is parts cs are ∙ (λ i. aligned (116 + long i) + long' i) in
    let whole : length file ≡ aligned (aligned (116 + length text) + length bytes) + 80 = ap (λ f. length f) is ∙ ends parts cs (code_of size ∷ []) are these in
    let total : length file ≡ aligned (aligned (116 + n) + d) + 80 = whole ∙ (λ i. aligned (aligned (116 + long i) + long' i) + 80) in
    record {
      rest = header_bytes 116 cs ++ front.0;
      front = front.1;
      some = omega arith;
      few = omega arith;
      long = omega (arith, total);
      table_placed = omega (arith, end);
      table_low = omega (arith, end, short, short');
      table_inside = omega (arith, end, total);
      size_low = omega (arith, le, short);
      headers_are =
          ap program_headers front.1
          ∙ two_headers parts.entry table n d m text bytes front.0 long long' (omega (arith, short)) (omega (arith, short')) (omega (arith, low));
      passed = two_pass (length file) 116 n (aligned (116 + n)) d m short less low (omega (arith, total)) (omega (arith, total));
      offset = file_offset (contents_place parts.segments.items) parts.segments.items 0x00400000;
      there = there_is file parts size is these;
    }

-- ---- the contents of a linked program
pub contents_are : (at code text last : ℕ) (image : List ℕ) (parts : Parts) → IsLinkedParts at image code text last parts
    → map part_segment parts.segments.items ≡ contents_of image text last
contents_are at code text last image parts is = is.segments

-- the text, and the data where there is any
pub without_data : (image : List ℕ) (text last : ℕ) → last ≤ data_start
    → contents_of image text last ≡ text_content (take (text - text_start) image) (text - text_start) ∷ []
without_data image text last le =
    let part : Content = record { address = data_start; flags = 6; memory = last - data_start; contents = drop (text - text_start) image } in
    ap (λ t. text_segment image text ∷ cond t (part ∷ []) []) (le-ltb data_start last le)

pub with_data : (image : List ℕ) (text last : ℕ) → data_start < last
    → contents_of image text last
    ≡ text_content (take (text - text_start) image) (text - text_start) ∷ data_content (drop (text - text_start) image) (last - data_start) ∷ []
with_data image text last lt =
    let part : Content = record { address = data_start; flags = 6; memory = last - data_start; contents = drop (text - text_start) image } in
    ap (λ t. text_segment image text ∷ cond t (part ∷ []) []) (lt-ltb data_start last lt)

-- the lengths of a linked program
pub record Lengths (files : List (List ℕ)) : Type 0 where
  pub text : length (take (text_end (sections_in files) - text_start) (image_in files)) ≡ text_end (sections_in files) - text_start
  pub bytes : length (drop (text_end (sections_in files) - text_start) (image_in files)) ≡ data_end (sections_in files) - data_start
  pub short : text_end (sections_in files) - text_start ≤ 16777216
  pub short_bytes : data_end (sections_in files) - data_start ≤ 16777216
  pub low : zeros_end (sections_in files) - data_start ≤ 1073741824
  pub zeros_behind : data_end (sections_in files) - data_start ≤ zeros_end (sections_in files) - data_start
  pub code : code_end (sections_in files) - text_start ≤ text_end (sections_in files) - text_start

pub lengths : (files : List (List ℕ)) (entry : List ℕ) → objects_fault files entry ≡ None → Lengths files
unfolding linked_image
lengths files entry none =
    let all = sections_in files in
    let image = image_in files in
    let n = text_end all - text_start in
    let size : length image ≡ n + (data_end all - data_start) =
    relocated_size (linked_bytes files all) (sites_in files) ∙ image_size files all (inside_objects files entry none) in
    let limits = within_limits all (not_large files entry none) in
    let order = in_order all in
    record {
      text = length-take-le n image (omega (arith, size));
      bytes = omega (arith, length-drop n image, size);
      short = omega (arith, limits.0);
      short_bytes = omega (arith, limits.1);
      low = omega (arith, limits.2);
      zeros_behind = omega (arith, order.3);
      code = omega (arith, order.1);
    }

-- ---- the file of a linked program
-- it has one segment, or two
abbrev pub OneSegment : List (List ℕ) → List ℕ → Parts → Type 0
OneSegment files file parts =
    IsShaped file parts.entry (aligned (segments_end parts)) 1 (code_end (sections_in files) - text_start)
    (text_at 84 (text_end (sections_in files) - text_start) ∷ [])

abbrev pub TwoSegments : List (List ℕ) → List ℕ → Parts → Type 0
TwoSegments files file parts =
    (1 ≤ zeros_end (sections_in files) - data_start)
    × IsShaped file parts.entry (aligned (segments_end parts)) 2 (code_end (sections_in files) - text_start)
    (text_at 116 (text_end (sections_in files) - text_start)
    ∷ data_at (aligned (116 + (text_end (sections_in files) - text_start))) (data_end (sections_in files) - data_start) (zeros_end (sections_in files) - data_start)
    ∷ [])

pub shaped : (files : List (List ℕ)) (entry file : List ℕ) → objects_fault files entry ≡ None → IsLinked files entry file
    → (parts : Parts) × (OneSegment files file parts ⊎ TwoSegments files file parts)
shaped files entry file none is = (parts, by (cases_lt data_start (zeros_end all)))
  where
    all : List SectionOf
    all = sections_in files

    parts : Parts
    parts = is.2.0

    known : Lengths files
    known = lengths files entry none

    contents : map part_segment parts.segments.items ≡ contents_of (image_in files) (text_end all) (zeros_end all)
    contents = contents_are is.0 (code_end all) (text_end all) (zeros_end all) (image_in files) parts is.2.1

    by : (data_start < zeros_end all) ⊎ (zeros_end all ≤ data_start) → OneSegment files file parts ⊎ TwoSegments files file parts
    by (inl lt) = inr (
      omega (arith, lt),
      two_shape file parts (take (text_end all - text_start) (image_in files)) (drop (text_end all - text_start) (image_in files))
          (text_end all - text_start) (data_end all - data_start) (zeros_end all - data_start) (code_end all - text_start) is.2.2
          (contents ∙ with_data (image_in files) (text_end all) (zeros_end all) lt) is.2.1.sections known.text known.bytes known.short known.zeros_behind
          known.short_bytes known.low known.code,
    )
    by (inr le) = inl
        (one_shape file parts (take (text_end all - text_start) (image_in files)) (text_end all - text_start) (code_end all - text_start) is.2.2
        (contents ∙ without_data (image_in files) (text_end all) (zeros_end all) le) is.2.1.sections known.text known.short known.code)

-- ---- its numbers
-- an entry is an address of 32 bits
pub low_entry : (files : List (List ℕ)) (entry : List ℕ) (at : ℕ) → entry_of files (sections_in files) (symbols_in files) entry ≡ Some at → at < 2 ^ 32
unfolding entry_of
low_entry files entry at is = by (defined_meaning (definition_of files (symbols_in files) entry)) is
  where
    the_number : (n : ℕ) → Some (n % 2 ^ 32) ≡ Some at → at < 2 ^ 32
    the_number n h = let same : n % 2 ^ 32 ≡ at = cc in omega (arith, same)

    placed : (t : Bool) (n : ℕ) → cond t (Some (n % 2 ^ 32)) None ≡ Some at → at < 2 ^ 32
    placed true n h = the_number n h
    placed false n h = absurd (cc)

    by : (m : Meaning) → entry_address (sections_in files) (places_of (sections_in files)) m ≡ Some at → at < 2 ^ 32
    by (InSection section offset) h = placed (is_section_placed (sections_in files) section) (slice_index (places_of (sections_in files)) section + offset) h
    by (Number value) h = absurd (cc)
    by Nothing h = absurd (cc)

pub short_image : (files : List (List ℕ)) (entry : List ℕ) → objects_fault files entry ≡ None → length (image_in files) ≤ 33554432
unfolding linked_image
short_image files entry none =
    let all = sections_in files in
    let known = lengths files entry none in
    let size = relocated_size (linked_bytes files all) (sites_in files) ∙ image_size files all (inside_objects files entry none) in
    omega (arith, size, known.short, known.short_bytes)

pub small_contents : (files : List (List ℕ)) (entry : List ℕ) → objects_fault files entry ≡ None → All IsSmall (placed_contents files)
small_contents files entry none = by (cases_lt data_start (zeros_end (sections_in files)))
  where
    text : ℕ
    text = text_end (sections_in files) - text_start

    last : ℕ
    last = zeros_end (sections_in files) - data_start

    known : Lengths files
    known = lengths files entry none

    small_text : IsSmall (text_content (take text (image_in files)) text)
    small_text = (omega arith, omega (arith, known.short), omega arith)

    small_data : IsSmall (data_content (drop text (image_in files)) last)
    small_data = (omega arith, omega (arith, known.low), omega arith)

    by : (data_start < zeros_end (sections_in files)) ⊎ (zeros_end (sections_in files) ≤ data_start) → All IsSmall (placed_contents files)
    by (inl lt) =
        subst (All IsSmall) (sym (with_data (image_in files) (text_end (sections_in files)) (zeros_end (sections_in files)) lt))
        (All-cons IsSmall (text_content (take text (image_in files)) text) (data_content (drop text (image_in files)) last ∷ []) small_text
        (All-cons IsSmall (data_content (drop text (image_in files)) last) [] small_data (All-nil IsSmall)))
    by (inr le) =
        subst (All IsSmall) (sym (without_data (image_in files) (text_end (sections_in files)) (zeros_end (sections_in files)) le))
        (All-cons IsSmall (text_content (take text (image_in files)) text) [] small_text (All-nil IsSmall))
