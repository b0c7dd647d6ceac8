-- What stands where in the image before it is relocated.
use Rattle.std.proofs.Common.{◌≡◌, ℕ, suc, zero, ◌+◌, ◌-◌, ◌<◌, ◌≤◌, true, false, cond, not, ◌&&◌, List, [], ◌∷◌, ◌++◌, length, take, drop, replicate, slice_get, slice_index, Some, refl, sym, ap, ◌∙◌, subst, inl, inr, ◌⊎◌, arith, length-append}
use Rattle.std.specs.List.{All}
use Rattle.std.proofs.Math.ListN.{get_or-append}
use Rattle.std.proofs.lemmas.Bool.{cases_Bool, cases_lt, le-ltb, lt-ltb}
use Rattle.std.proofs.lemmas.Bool.Decides.{nat_tests}
use Rattle.std.proofs.lemmas.List.{get_or-append_right, get_or-drop, get_or-take, length-drop, length-replicate, length-take-le}
use Rattle.std.proofs.lemmas.List.Elements.{All-head, All-tail}
use Rattle.obj_reader.specs.declared.section.Section.{Section}
use Rattle.obj_reader.specs.Sections.{has_bytes, has_zeros, is_code_object_section, is_placed, is_variable}
use Rattle.obj_reader.specs.Symbols.{bytes_in}
use Rattle.obj_linker.specs.declared.group.Group.{Group}
use Rattle.obj_linker.specs.declared.group.Group.TheVariants.{Code, Constants, Data, Zeros}
use Rattle.obj_linker.specs.Image.{contents_of, group_bytes, linked_bytes, placed_bytes}
use Rattle.obj_linker.specs.Layout.{code_end, data_end, data_start, group_end, is_in, is_too_large, max_text, next_end, places_of, section_start, text_end, text_start}
use Rattle.obj_linker.specs.Names.{object_bytes}
use Rattle.obj_linker.specs.Sites.{image_place}
use Rattle.obj_linker.proofs.LayoutLemmas.{le_group_end, le_rounded}
use Rattle.obj_linker_laws.proofs.Facts.{Inside}
use Rattle.obj_linker_laws.proofs.Lists.{and_both, at_place}
use Rattle.obj_linker_laws.proofs.Places.{apart, begins_behind, ends_are, ends_before, group_of, in_is_placed, in_order, place_is, start_in, within_limits}

-- ---- lengths
bytes_size : (file : List ℕ) (s : Section) → s.sh_offset + s.sh_size ≤ length file → length (bytes_in file s) ≡ s.sh_size
bytes_size file s inside =
    let n = s.sh_offset + s.sh_size - s.sh_offset in
    let same : n ≡ s.sh_size = omega arith in
    length-take-le n (drop s.sh_offset file) (omega (arith, same, length-drop s.sh_offset file, inside)) ∙ same

pub contents_size : (files : List (List ℕ)) (s : Section) → Inside files s → is_placed s ≡ true → length (contents_of files s) ≡ s.sh_size
contents_size files s inside placed = by (cases_Bool (has_bytes s))
  where
    by : (has_bytes s ≡ true) ⊎ (has_bytes s ≡ false) → length (contents_of files s) ≡ s.sh_size
    by (inl on) =
        ap (λ t. length (cond t (bytes_in (object_bytes files s.object) s) (replicate s.sh_size 0))) on
        ∙ bytes_size (object_bytes files s.object) s (inside (ap (λ t. t && has_bytes s) placed ∙ on))
    by (inr off) = ap (λ t. length (cond t (bytes_in (object_bytes files s.object) s) (replicate s.sh_size 0))) off ∙ length-replicate {A = ℕ} s.sh_size 0

placed_size : (files : List (List ℕ)) (g : Group) (at : ℕ) (s : Section) → Inside files s → at + length (placed_bytes files g at s) ≡ next_end g at s
placed_size files g at s inside = by (cases_Bool (is_in g s))
  where
    start : ℕ
    start = section_start at s

    bytes : List ℕ
    bytes = replicate (section_start at s - at) 0 ++ contents_of files s

    by : (is_in g s ≡ true) ⊎ (is_in g s ≡ false) → at + length (placed_bytes files g at s) ≡ next_end g at s
    by (inl on) =
        ap (λ t. at + length (cond t (replicate (section_start at s - at) 0 ++ contents_of files s) [])) on
        ∙ omega (
          arith,
          le_rounded s.sh_addralign at,
          length-append (replicate (section_start at s - at) 0) (contents_of files s),
          length-replicate {A = ℕ} (section_start at s - at) 0,
          contents_size files s inside (in_is_placed g s on),
        )
        ∙ sym (ap (λ t. cond t (section_start at s + s.sh_size) at) on)
    by (inr off) =
        ap (λ t. at + length (cond t (replicate (section_start at s - at) 0 ++ contents_of files s) [])) off
        ∙ omega arith ∙ sym (ap (λ t. cond t (section_start at s + s.sh_size) at) off)

-- a group reaches to its end
pub group_size : (files : List (List ℕ)) (g : Group) (at : ℕ) (sections : List Section) → All (Inside files) sections
    → at + length (group_bytes files g at sections) ≡ group_end g at sections
group_size files g at [] inside = omega arith
group_size files g at (s ∷ sections) inside =
    omega (
      arith,
      placed_size files g at s (All-head (Inside files) s sections inside),
      group_size files g (next_end g at s) sections (All-tail (Inside files) s sections inside),
      length-append (placed_bytes files g at s) (group_bytes files g (next_end g at s) sections),
    )

-- ---- where a section stands in its group
placed_byte : (files : List (List ℕ)) (g : Group) (at k : ℕ) (s : Section) (rest : List ℕ) → is_in g s ≡ true → k < length (contents_of files s)
    → slice_index (placed_bytes files g at s ++ rest) (section_start at s - at + k) ≡ slice_index (contents_of files s) k
placed_byte files g at k s rest on lt =
    let gap = section_start at s - at in
    let zeros : List ℕ = replicate gap 0 in
    let contents : List ℕ = contents_of files s in
    ap (λ t. slice_index (cond t (zeros ++ contents) [] ++ rest) (gap + k)) on
    ∙ get_or-append (zeros ++ contents) rest 0 (gap + k) (omega (arith, length-append zeros contents, length-replicate {A = ℕ} gap 0, lt))
    ∙ get_or-append_right zeros contents gap (gap + k) 0 (length-replicate {A = ℕ} gap 0) (omega arith)
    ∙ ap (λ j. slice_index contents j) (let e : gap + k - gap ≡ k = omega arith in e)

pub group_byte : (files : List (List ℕ)) (g : Group) (at : ℕ) (sections : List Section) (i k : ℕ) (s : Section) → All (Inside files) sections
    → slice_get sections i ≡ Some s → is_in g s ≡ true → k < length (contents_of files s)
    → slice_index (group_bytes files g at sections) (section_start (group_end g at (take i sections)) s - at + k) ≡ slice_index (contents_of files s) k
group_byte files g at [] i k s inside here on lt = absurd (cc)
group_byte files g at (x ∷ sections) zero k s inside here on lt =
    let same : x ≡ s = cc in
    subst (λ (y : Section). slice_index (placed_bytes files g at y ++ group_bytes files g (next_end g at y) sections) (section_start at s - at + k) ≡ slice_index (contents_of files s) k)
    (sym same) (placed_byte files g at k s (group_bytes files g (next_end g at s) sections) on lt)
group_byte files g at (x ∷ sections) (suc i) k s inside here on lt =
    let first = placed_bytes files g at x in
    let next = next_end g at x in
    let p = section_start (group_end g next (take i sections)) s in
    let size : at + length first ≡ next = placed_size files g at x (All-head (Inside files) x sections inside) in
    let far : next ≤ p = omega (arith, le_group_end g next (take i sections), le_rounded s.sh_addralign (group_end g next (take i sections))) in
    get_or-append_right first (group_bytes files g next sections) (length first) (p - at + k) 0 refl (omega (arith, size, far))
    ∙ ap (λ j. slice_index (group_bytes files g next sections) j) (let e : p - at + k - length first ≡ p - next + k = omega (arith, size, far) in e)
    ∙ group_byte files g next sections i k s (All-tail (Inside files) x sections inside) here on lt

-- ---- where a section stands in the image
low_place : (text at : ℕ) → at < data_start → image_place text at ≡ at - text_start
low_place text at lt = ap (λ t. cond t (at - text_start) (at - data_start + text)) (lt-ltb at data_start lt)

high_place : (text at : ℕ) → data_start ≤ at → image_place text at ≡ at - data_start + text
high_place text at le = ap (λ t. cond t (at - text_start) (at - data_start + text)) (le-ltb at data_start le)

-- the text is code and constants, and the image has the data behind it
text_size : (files : List (List ℕ)) (sections : List Section) → All (Inside files) sections
    → (length (group_bytes files Code text_start sections) ≡ code_end sections - text_start)
    × (length (group_bytes files Code text_start sections ++ group_bytes files Constants (code_end sections) sections) ≡ text_end sections - text_start)
    × (length (group_bytes files Data data_start sections) ≡ data_end sections - data_start)
text_size files sections inside =
    let code = group_bytes files Code text_start sections in
    let constants = group_bytes files Constants (code_end sections) sections in
    let order = in_order sections in
    let ends = ends_are sections in
    let a = group_size files Code text_start sections inside in
    let b = group_size files Constants (code_end sections) sections inside in
    let d = group_size files Data data_start sections inside in (
      omega (arith, a, ends.0, order.0),
      omega (arith, a, b, ends.0, ends.1, order.0, order.1, length-append code constants),
      omega (arith, d, ends.2, order.2),
    )

pub image_size : (files : List (List ℕ)) (sections : List Section) → All (Inside files) sections
    → length (linked_bytes files sections) ≡ text_end sections - text_start + (data_end sections - data_start)
unfolding linked_bytes
image_size files sections inside =
    let size = text_size files sections inside in
    omega (
      arith,
      size.1,
      size.2,
      length-append (group_bytes files Code text_start sections ++ group_bytes files Constants (code_end sections) sections) (group_bytes files Data data_start sections),
    )

-- the bytes of a section that has some
section_byte : (files : List (List ℕ)) (s : Section) (k : ℕ) → has_bytes s ≡ true → k < s.sh_size
    → slice_index (contents_of files s) k ≡ slice_index (object_bytes files s.object) (s.sh_offset + k)
section_byte files s k bytes lt =
    let file = object_bytes files s.object in
    ap (λ t. slice_index (cond t (bytes_in file s) (replicate s.sh_size 0)) k) bytes
    ∙ get_or-take (s.sh_offset + s.sh_size - s.sh_offset) (drop s.sh_offset file) k 0 (omega (arith, lt))
    ∙ get_or-drop s.sh_offset file k 0

in_code : (files : List (List ℕ)) (sections : List Section) (i k : ℕ) (s : Section) → All (Inside files) sections → slice_get sections i ≡ Some s
    → is_in Code s ≡ true → k < length (contents_of files s)
    → slice_index (linked_bytes files sections) (start_in sections Code i s + k - text_start) ≡ slice_index (contents_of files s) k
unfolding linked_bytes
in_code files sections i k s inside at on lt =
    let code = group_bytes files Code text_start sections in
    let constants = group_bytes files Constants (code_end sections) sections in
    let bytes = group_bytes files Data data_start sections in
    let p = start_in sections Code i s in
    let size = text_size files sections inside in
    let begins : text_start ≤ p = begins_behind sections Code i s in
    let ends : p + s.sh_size ≤ code_end sections = omega (arith, ends_before sections Code i s at on, (ends_are sections).0) in
    let short = contents_size files s (at_place (Inside files) sections i s inside at) (in_is_placed Code s on) in
    let order = in_order sections in
    get_or-append (code ++ constants) bytes 0 (p + k - text_start) (omega (arith, size.1, begins, ends, short, lt, order.1))
    ∙ get_or-append code constants 0 (p + k - text_start) (omega (arith, size.0, begins, ends, short, lt))
    ∙ ap (λ j. slice_index code j) (let e : p + k - text_start ≡ p - text_start + k = omega (arith, begins) in e)
    ∙ group_byte files Code text_start sections i k s inside at on lt

in_constants : (files : List (List ℕ)) (sections : List Section) (i k : ℕ) (s : Section) → All (Inside files) sections → slice_get sections i ≡ Some s
    → is_in Constants s ≡ true → k < length (contents_of files s)
    → slice_index (linked_bytes files sections) (start_in sections Constants i s + k - text_start) ≡ slice_index (contents_of files s) k
unfolding linked_bytes
in_constants files sections i k s inside at on lt =
    let code = group_bytes files Code text_start sections in
    let constants = group_bytes files Constants (code_end sections) sections in
    let bytes = group_bytes files Data data_start sections in
    let p = start_in sections Constants i s in
    let size = text_size files sections inside in
    let begins : code_end sections ≤ p = begins_behind sections Constants i s in
    let ends : p + s.sh_size ≤ text_end sections = omega (arith, ends_before sections Constants i s at on, (ends_are sections).1) in
    let short = contents_size files s (at_place (Inside files) sections i s inside at) (in_is_placed Constants s on) in
    let order = in_order sections in
    get_or-append (code ++ constants) bytes 0 (p + k - text_start) (omega (arith, size.1, begins, ends, short, lt, order.0))
    ∙ get_or-append_right code constants (code_end sections - text_start) (p + k - text_start) 0 size.0 (omega (arith, begins))
    ∙ ap (λ j. slice_index constants j) (let e : p + k - text_start - (code_end sections - text_start) ≡ p - code_end sections + k = omega (arith, begins, order.0) in e)
    ∙ group_byte files Constants (code_end sections) sections i k s inside at on lt

in_data : (files : List (List ℕ)) (sections : List Section) (i k : ℕ) (s : Section) → All (Inside files) sections → slice_get sections i ≡ Some s
    → is_in Data s ≡ true → k < length (contents_of files s)
    → slice_index (linked_bytes files sections) (start_in sections Data i s + k - data_start + (text_end sections - text_start)) ≡ slice_index (contents_of files s) k
unfolding linked_bytes
in_data files sections i k s inside at on lt =
    let code = group_bytes files Code text_start sections in
    let constants = group_bytes files Constants (code_end sections) sections in
    let bytes = group_bytes files Data data_start sections in
    let text = text_end sections - text_start in
    let p = start_in sections Data i s in
    let size = text_size files sections inside in
    let begins : data_start ≤ p = begins_behind sections Data i s in
    get_or-append_right (code ++ constants) bytes text (p + k - data_start + text) 0 size.1 (omega arith)
    ∙ ap (λ j. slice_index bytes j) (let e : p + k - data_start + text - text ≡ p - data_start + k = omega (arith, begins) in e)
    ∙ group_byte files Data data_start sections i k s inside at on lt

-- ---- the place of each byte of a section with bytes
-- of a section of so many bytes: its bytes stand one behind the other from a place on, in an image of some length
pub record IsRange (all : List Section) (i size len start : ℕ) : Type 0 where
  pub each : (k : ℕ) → k ≤ size → image_place (text_end all - text_start) (slice_index (places_of all) i + k) ≡ start + k
  pub short : start + size ≤ len
  -- below the data it ends within the text
  pub low :
      slice_index (places_of all) i + size < data_start
      → slice_index (places_of all) i + size - text_start ≤ text_end all - text_start

-- a group of a section with bytes
pub three_groups : (s : Section) → (is_placed s && has_bytes s) ≡ true → (is_in Code s ≡ true) ⊎ ((is_in Constants s ≡ true) ⊎ (is_in Data s ≡ true))
three_groups s h =
    let both = and_both (is_placed s) (has_bytes s) h in
    let found = group_of s both.0 in
    by found.0 found.1 both.1
  where
    both_types : (s : Section) → has_bytes s ≡ true → has_zeros s ≡ true → ⊥
    both_types s a b = grind (arith, nat_tests)

    by : (g : Group) → is_in g s ≡ true → has_bytes s ≡ true → (is_in Code s ≡ true) ⊎ ((is_in Constants s ≡ true) ⊎ (is_in Data s ≡ true))
    by Code on bytes = inl on
    by Constants on bytes = inr (inl on)
    by Data on bytes = inr (inr on)
    by Zeros on bytes =
        let zeros : has_zeros s ≡ true = (and_both (is_placed s && not (is_code_object_section s) && is_variable s) (has_zeros s) on).1 in
        absurd (both_types s bytes zeros)

range_in_text : (files : List (List ℕ)) (all : List Section) (i p : ℕ) (s : Section) → All (Inside files) all → text_end all ≤ max_text
    → slice_index (places_of all) i ≡ p → text_start ≤ p → p + s.sh_size ≤ text_end all
    → IsRange all i s.sh_size (length (linked_bytes files all)) (p - text_start)
range_in_text files all i p s inside short is begins ends = record {
  each = λ k le.
      ap (λ q. image_place (text_end all - text_start) (q + k)) is ∙ low_place (text_end all - text_start) (p + k) (omega (arith, le, ends, short))
      ∙ (let e : p + k - text_start ≡ p - text_start + k = omega (arith, begins) in e);
  short = omega (arith, image_size files all inside, begins, ends);
  low = λ lt. omega (arith, is, begins, ends);
}

range_in_data : (files : List (List ℕ)) (all : List Section) (i p : ℕ) (s : Section) → All (Inside files) all
    → slice_index (places_of all) i ≡ p → data_start ≤ p → p + s.sh_size ≤ data_end all
    → IsRange all i s.sh_size (length (linked_bytes files all)) (p - data_start + (text_end all - text_start))
range_in_data files all i p s inside is begins ends = record {
  each = λ k le.
      ap (λ q. image_place (text_end all - text_start) (q + k)) is ∙ high_place (text_end all - text_start) (p + k) (omega (arith, begins))
      ∙ (let e : p + k - data_start + (text_end all - text_start) ≡ p - data_start + (text_end all - text_start) + k = omega (arith, begins) in e);
  short = omega (arith, image_size files all inside, begins, ends);
  low = λ lt. absurd (omega (arith, is, begins, lt));
}

-- where the bytes of a section stand, and that they are those of its object
pub record Stands (files : List (List ℕ)) (all : List Section) (i : ℕ) (s : Section) (start : ℕ) : Type 0 where
  pub range : IsRange all i s.sh_size (length (linked_bytes files all)) start
  pub bytes : (k : ℕ) → k < s.sh_size → slice_index (linked_bytes files all) (start + k) ≡ slice_index (object_bytes files s.object) (s.sh_offset + k)

pub stands : (files : List (List ℕ)) (all : List Section) (i : ℕ) (s : Section) → All (Inside files) all → is_too_large all ≡ false
    → slice_get all i ≡ Some s → (is_placed s && has_bytes s) ≡ true → (start : ℕ) × Stands files all i s start
stands files all i s inside small at bytes = by (three_groups s bytes)
  where
    size : is_placed s ≡ true → length (contents_of files s) ≡ s.sh_size
    size placed = contents_size files s (at_place (Inside files) all i s inside at) placed

    own : (k : ℕ) → k < s.sh_size → slice_index (contents_of files s) k ≡ slice_index (object_bytes files s.object) (s.sh_offset + k)
    own k lt = section_byte files s k (and_both (is_placed s) (has_bytes s) bytes).1 lt

    by : (is_in Code s ≡ true) ⊎ ((is_in Constants s ≡ true) ⊎ (is_in Data s ≡ true)) → (start : ℕ) × Stands files all i s start
    by (inl on) =
        let p = start_in all Code i s in
        let begins : text_start ≤ p = begins_behind all Code i s in
        let ends : p + s.sh_size ≤ text_end all = omega (arith, ends_before all Code i s at on, (ends_are all).0, (in_order all).1) in (
          p - text_start,
          record {
            range = range_in_text files all i p s inside (within_limits all small).0 (place_is all Code i s at on) begins ends;
            bytes = λ k lt.
                ap (slice_index (linked_bytes files all)) (let e : p - text_start + k ≡ p + k - text_start = omega (arith, begins) in e)
                ∙ in_code files all i k s inside at on (omega (arith, lt, size (in_is_placed Code s on))) ∙ own k lt;
          },
        )
    by (inr (inl on)) =
        let p = start_in all Constants i s in
        let begins : text_start ≤ p = omega (arith, begins_behind all Constants i s, (in_order all).0) in
        let ends : p + s.sh_size ≤ text_end all = omega (arith, ends_before all Constants i s at on, (ends_are all).1) in (
          p - text_start,
          record {
            range = range_in_text files all i p s inside (within_limits all small).0 (place_is all Constants i s at on) begins ends;
            bytes = λ k lt.
                ap (slice_index (linked_bytes files all)) (let e : p - text_start + k ≡ p + k - text_start = omega (arith, begins) in e)
                ∙ in_constants files all i k s inside at on (omega (arith, lt, size (in_is_placed Constants s on))) ∙ own k lt;
          },
        )
    by (inr (inr on)) =
        let p = start_in all Data i s in
        let text = text_end all - text_start in
        let begins : data_start ≤ p = begins_behind all Data i s in
        let ends : p + s.sh_size ≤ data_end all = omega (arith, ends_before all Data i s at on, (ends_are all).2) in (
          p - data_start + text,
          record {
            range = range_in_data files all i p s inside (place_is all Data i s at on) begins ends;
            bytes = λ k lt.
                ap (slice_index (linked_bytes files all)) (let e : p - data_start + text + k ≡ p + k - data_start + text = omega (arith, begins) in e)
                ∙ in_data files all i k s inside at on (omega (arith, lt, size (in_is_placed Data s on))) ∙ own k lt;
          },
        )

-- ---- sections stand apart in the image too
image_rises : (text x y : ℕ) → (x < data_start → x - text_start ≤ text) → x ≤ y → image_place text x ≤ image_place text y
image_rises text x y low le = by (cases_lt x data_start) (cases_lt y data_start)
  where
    by : (x < data_start) ⊎ (data_start ≤ x) → (y < data_start) ⊎ (data_start ≤ y) → image_place text x ≤ image_place text y
    by (inl a) (inl b) = omega (arith, low_place text x a, low_place text y b, le)
    by (inl a) (inr b) = omega (arith, low_place text x a, high_place text y b, low a)
    by (inr a) (inl b) = absurd (omega (arith, a, b, le))
    by (inr a) (inr b) = omega (arith, high_place text x a, high_place text y b, le)

behind : (all : List Section) (i j n m len lens a b : ℕ) → IsRange all i n len a → IsRange all j m lens b
    → slice_index (places_of all) i + n ≤ slice_index (places_of all) j → a + n ≤ b
behind all i j n m len lens a b first second le =
    let text = text_end all - text_start in
    let rises = image_rises text (slice_index (places_of all) i + n) (slice_index (places_of all) j + 0) first.low (omega (arith, le)) in
    omega (arith, rises, first.each n (omega arith), second.each 0 (omega arith))

pub stand_apart : (files : List (List ℕ)) (all : List Section) (i j a b : ℕ) (s t : Section) → is_too_large all ≡ false → (i ≡ j → ⊥)
    → slice_get all i ≡ Some s → slice_get all j ≡ Some t → is_placed s ≡ true → is_placed t ≡ true
    → Stands files all i s a → Stands files all j t b → (a + s.sh_size ≤ b) ⊎ (b + t.sh_size ≤ a)
stand_apart files all i j a b s t small other at to placed too first second = by (cases_lt i j)
  where
    len : ℕ
    len = length (linked_bytes files all)

    one_way : (slice_index (places_of all) i + s.sh_size ≤ slice_index (places_of all) j) ⊎ (slice_index (places_of all) j + t.sh_size ≤ slice_index (places_of all) i)
        → (a + s.sh_size ≤ b) ⊎ (b + t.sh_size ≤ a)
    one_way (inl le) = inl (behind all i j s.sh_size t.sh_size len len a b first.range second.range le)
    one_way (inr le) = inr (behind all j i t.sh_size s.sh_size len len b a second.range first.range le)

    other_way : (slice_index (places_of all) j + t.sh_size ≤ slice_index (places_of all) i) ⊎ (slice_index (places_of all) i + s.sh_size ≤ slice_index (places_of all) j)
        → (a + s.sh_size ≤ b) ⊎ (b + t.sh_size ≤ a)
    other_way (inl le) = one_way (inr le)
    other_way (inr le) = one_way (inl le)

    by : (i < j) ⊎ (j ≤ i) → (a + s.sh_size ≤ b) ⊎ (b + t.sh_size ≤ a)
    by (inl lt) = one_way (apart all small i j s t lt at to placed too)
    by (inr le) = other_way (apart all small j i t s (omega (arith, le, other)) to at too placed)
