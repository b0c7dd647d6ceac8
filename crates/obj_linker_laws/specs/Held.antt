-- What the image of linked objects holds: the text, and behind it the data.
use Rattle.std.specs.Prelude.{◌≡◌, ℕ, ◌+◌, ◌-◌, ◌<◌, ◌≤◌, Bool, true, false, ◌&&◌, ◌==◌, nat_le, nat_lt, List, length, take, drop, Some, unwrap_or, slice_get, slice_index, slice_range, ◌⊎◌}
use Rattle.std.specs.List.{list_any}
use Rattle.run_definition.specs.Words.{bytes_of_word, word_of_list}
use Rattle.run_definition.specs.declared.order.Order.TheVariants.{Big}
use Rattle.obj_reader.specs.declared.relocation.Relocation.{Relocation}
use Rattle.obj_reader.specs.declared.section.Section.{Section}
use Rattle.obj_reader.specs.declared.symbol.Symbol.{Symbol}
use Rattle.obj_reader.specs.Objects.{first_start, relocations_from, sections_from, symbols_from}
use Rattle.obj_reader.specs.Relocations.{is_high}
use Rattle.obj_reader.specs.Sections.{has_bytes, is_placed}
use Rattle.obj_linker.specs.declared.site.Site.{Site}
use Rattle.obj_linker.specs.Image.{linked_bytes}
use Rattle.obj_linker.specs.Layout.{places_of, text_end, text_start}
use Rattle.obj_linker.specs.Link.{all_sites, linked_image}
use Rattle.obj_linker.specs.Names.{object_bytes}
use Rattle.obj_linker.specs.Pairs.{low_of}
use Rattle.obj_linker.specs.Sites.{image_place, new_word, relocated, site_word}

-- ---- of some objects: all sections, symbols and relocations, and the image
abbrev pub sections_in : List (List ℕ) → List Section
sections_in files = sections_from first_start files

abbrev pub symbols_in : List (List ℕ) → List Symbol
symbols_in files = symbols_from first_start files

abbrev pub relocations_in : List (List ℕ) → List Relocation
relocations_in files = relocations_from first_start files

abbrev pub sites_in : List (List ℕ) → List Site
sites_in files = all_sites files (sections_in files) (symbols_in files) (relocations_in files)

abbrev pub image_in : List (List ℕ) → List ℕ
image_in files = linked_image files (sections_in files) (symbols_in files) (relocations_in files)

-- ---- the sections
-- section i is s, which has a place, and bytes in its object
abbrev pub HasBytes : List Section → ℕ → Section → Type 0
HasBytes sections i s = (slice_get sections i ≡ Some s) × ((is_placed s && has_bytes s) ≡ true)

-- where the byte at an offset of section i stands in the image
abbrev pub byte_place : List Section → ℕ → ℕ → ℕ
byte_place sections i k =
    image_place (text_end sections - text_start) (slice_index (places_of sections) i + k)

-- two placed sections share no address: one ends before the other begins
abbrev pub AreApart : List Section → Type 0
AreApart sections =
    (i j : ℕ) (s t : Section) → i < j → slice_get sections i ≡ Some s → slice_get sections j ≡ Some t
    → is_placed s ≡ true → is_placed t ≡ true
    → (slice_index (places_of sections) i + s.sh_size ≤ slice_index (places_of sections) j)
    ⊎ (slice_index (places_of sections) j + t.sh_size ≤ slice_index (places_of sections) i)

-- ---- the bytes
-- a relocation is for the word at an offset of section i, and for one that holds the byte there
abbrev pub is_at : ℕ → ℕ → Relocation → Bool
is_at i k r = r.section == i && r.r_offset == k

abbrev pub covers : ℕ → ℕ → Relocation → Bool
covers i k r = r.section == i && (nat_le r.r_offset k && nat_lt k (r.r_offset + 4))

-- the image holds the bytes of section i, but for those of words that relocations are for
abbrev pub HoldsSection : List (List ℕ) → ℕ → Section → Type 0
HoldsSection files i s =
    (k : ℕ) → k < s.sh_size → list_any (covers i k) (relocations_in files) ≡ false
    → slice_index (image_in files) (byte_place (sections_in files) i k)
    ≡ slice_index (object_bytes files s.object) (s.sh_offset + k)

-- ---- the sites
-- the site of a relocation lies in its section, and its word in the image
pub record IsSiteWithin (files : List (List ℕ)) (r : Relocation) (site : Site) : Type 0 where
  pub place : site.at ≡ byte_place (sections_in files) r.section r.r_offset
  pub section : (s : Section) × HasBytes (sections_in files) r.section s × (r.r_offset + 4 ≤ s.sh_size)
  pub image : site.at + 4 ≤ length (image_in files)

-- the image when relocation j is applied: those before it are
abbrev pub image_before : List (List ℕ) → ℕ → List ℕ
image_before files j = relocated (linked_bytes files (sections_in files)) (take j (sites_in files))

-- no relocation of these is for the word at an offset of section i
abbrev pub IsUntouched : ℕ → ℕ → List Relocation → Type 0
IsUntouched i k relocations = list_any (is_at i k) relocations ≡ false

-- the word at an offset of a section, in its object
abbrev pub own_word : List (List ℕ) → Section → ℕ → ℕ
own_word files s k = word_of_list Big (object_bytes files s.object) (s.sh_offset + k)

-- the offset of the lower half that goes with relocation j, 0 where none does
abbrev pub low_offset : List (List ℕ) → ℕ → Relocation → ℕ
low_offset files j r = unwrap_or (low_of r (drop (j + 1) (relocations_in files))) 0

-- the word of relocation j, which is for section s, in the linked image
pub record HoldsSite (files : List (List ℕ)) (j : ℕ) (r : Relocation) (s : Section) (site : Site)
    : Type 0 where
  -- where no later relocation is for the same word, it is what its site made of the word
  pub last :
      IsUntouched r.section r.r_offset (drop (j + 1) (relocations_in files))
      → slice_range (image_in files) site.at (site.at + 4)
      ≡ bytes_of_word (new_word site (site_word (image_before files j) site.at)
      (site_word (image_before files j) site.low_at))
  -- where no relocation before it is, that word was the object's; so was the lower half
  pub own :
      IsUntouched r.section r.r_offset (take j (relocations_in files))
      → site_word (image_before files j) site.at ≡ own_word files s r.r_offset
  pub own_low :
      is_high r ≡ true
      → IsUntouched r.section (low_offset files j r) (take j (relocations_in files))
      → site_word (image_before files j) site.low_at ≡ own_word files s (low_offset files j r)
