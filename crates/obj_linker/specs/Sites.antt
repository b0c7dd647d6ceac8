-- MIPS psABI, "Relocation Types": the words that relocations make.
use Rattle.std.specs.Prelude.{ℕ, ◌+◌, ◌-◌, ◌*◌, ◌/◌, ◌%◌, ◌^◌, Bool, true, false, not, ◌&&◌, ◌||◌, ◌==◌, nat_lt, nat_le, if◌then◌else◌, List, [], ◌∷◌, length, map, Option, Some, None, option_map, slice_get, slice_index, unwrap_or}
use Rattle.std.specs.List.{zip}
use Rattle.std.specs.Option.{option_map_or}
use Rattle.run_definition.specs.Words.{bytes_of_word, list_with, word_of_list}
use Rattle.run_definition.specs.declared.order.Order.TheVariants.{Big}
use Rattle.obj_linker.specs.declared.meaning.Meaning.{Meaning}
use Rattle.obj_linker.specs.declared.meaning.Meaning.TheVariants.{InSection, Number, Nothing}
use Rattle.elf_definition.specs.declared.obj_fault.ObjFault.{ObjFault}
use Rattle.obj_reader.specs.declared.relocation.Relocation.{Relocation}
use Rattle.obj_reader.specs.declared.section.Section.{Section}
use Rattle.obj_linker.specs.declared.site.Site.{Site}
use Rattle.obj_reader.specs.declared.symbol.Symbol.{Symbol}
use Rattle.obj_linker.specs.Layout.{data_start, text_start}
use Rattle.obj_reader.specs.Relocations.{needs_symbol}
use Rattle.obj_reader.specs.Sections.{is_placed}
use Rattle.obj_reader.specs.Symbols.{is_local}

-- ---- what relocations need
abbrev pub is_section_placed : List Section → ℕ → Bool
is_section_placed sections i = option_map_or is_placed (slice_get sections i) false

-- a symbol means nothing, or an address in a section that gets no place
abbrev pub is_missing : List Section → Meaning → Bool
is_missing sections (InSection section offset) = not (is_section_placed sections section)
is_missing sections (Number value) = false
is_missing sections Nothing = true

abbrev pub meaning_at : List Meaning → ℕ → Meaning
meaning_at meanings symbol = unwrap_or (slice_get meanings symbol) Nothing

abbrev pub is_undefined : List Section → List Meaning → Relocation → Bool
is_undefined sections meanings r =
    needs_symbol r && is_missing sections (meaning_at meanings r.symbol)

-- ---- what they change
-- the value of a symbol, where the sections have these places
abbrev pub symbol_value : List ℕ → Meaning → ℕ
symbol_value places (InSection section offset) = (slice_index places section + offset) % 2 ^ 32
symbol_value places (Number value) = value
symbol_value places Nothing = 0

-- where the byte at an address stands: the text, of so many bytes, and behind it the data
abbrev pub image_place : ℕ → ℕ → ℕ
image_place text address =
    if nat_lt address data_start then address - text_start else address - data_start + text

abbrev pub is_symbol_local : List Symbol → ℕ → Bool
is_symbol_local symbols i = option_map_or is_local (slice_get symbols i) false

-- a site: the place of its word and of the lower half that goes with it, and the value of its symbol
abbrev pub site_of : List Symbol → List Meaning → List ℕ → ℕ → Relocation × Option ℕ → Site
site_of symbols meanings places text p = record {
  object = (p.0).object;
  r_offset = (p.0).r_offset;
  r_type = (p.0).r_type;
  at = image_place text (slice_index places (p.0).section + (p.0).r_offset);
  low_at = image_place text (slice_index places (p.0).section + unwrap_or p.1 0);
  is_local = is_symbol_local symbols (p.0).symbol;
  value = symbol_value places (meaning_at meanings (p.0).symbol);
}

unfoldable pub sites_of :
    List Symbol → List Meaning → List ℕ → ℕ → List Relocation → List (Option ℕ) → List Site
sites_of symbols meanings places text relocations lows =
    map (site_of symbols meanings places text) (zip relocations lows)

-- the big-endian word at a place of the image
abbrev pub site_word : List ℕ → ℕ → ℕ
site_word image at = if nat_le (at + 4) (length image) then word_of_list Big image at else 0

-- a half-word as a signed number, modulo 2^32
abbrev pub signed_half : ℕ → ℕ
signed_half half = if nat_lt half 0x8000 then half else half + 0xFFFF_0000

-- R_MIPS_26: the target, with a field of 26 bits that counts words; signed unless the symbol is local
abbrev pub linked_jump : Bool → ℕ → ℕ → ℕ
linked_jump is_local value word =
    let addend = word % 2 ^ 26 * 4 in
    let is_positive = is_local || nat_lt addend 0x0800_0000 in
    (value + (if is_positive then addend else addend + 0xF000_0000)) % 2 ^ 32

-- the jump with another target
abbrev pub with_target : ℕ → ℕ → ℕ
with_target word target = word - word % 2 ^ 26 + target / 4 % 2 ^ 26

-- the word with another lower half
abbrev pub with_lower_half : ℕ → ℕ → ℕ
with_lower_half word half = word - word % 2 ^ 16 + half

-- R_MIPS_HI16: the upper half of AHL + S, where the halves of AHL stand in this word and in that of the lower half; rounded,
-- so that the lower half of AHL + S, added as a signed number, gives it back
abbrev pub high_half : ℕ → ℕ → ℕ → ℕ
high_half value word low_word =
    (word % 2 ^ 16 * 2 ^ 16 + signed_half (low_word % 2 ^ 16) + value + 0x8000) % 2 ^ 32 / 2 ^ 16

-- the word that a site is to hold, where it holds a word, and the lower half that goes with it stands in another
abbrev pub new_word : Site → ℕ → ℕ → ℕ
new_word s word low_word =
    if s.r_type == 2 then (word + s.value) % 2 ^ 32
    else (if s.r_type == 4 then with_target word (linked_jump s.is_local s.value word)
    else (if s.r_type == 5 then with_lower_half word (high_half s.value word low_word)
    else (if s.r_type == 6 then with_lower_half word ((word + s.value) % 2 ^ 16) else word)))

-- R_MIPS_26: the target is no multiple of 4 below 10000000
abbrev pub is_far : Site → ℕ → Bool
is_far s word =
    let target = linked_jump s.is_local s.value word in
    s.r_type == 4 && (not (target % 4 == 0) || nat_le 0x1000_0000 target)

-- the image with the word of a site
abbrev pub with_site_word : List ℕ → ℕ → ℕ → List ℕ
with_site_word image at word =
    if nat_le (at + 4) (length image) then list_with image at (bytes_of_word word) else image

abbrev pub changed : List ℕ → Site → List ℕ
changed image s = with_site_word image s.at (new_word s (site_word image s.at) (site_word image s.low_at))

-- the image with the words of the sites, one site after the other
abbrev pub relocated : List ℕ → List Site → List ℕ
relocated image [] = image
relocated image (s ∷ sites) = relocated (changed image s) sites

-- the first site that is out of reach
abbrev pub first_far : List ℕ → List Site → Option Site
first_far image [] = None
first_far image (s ∷ sites) =
    if is_far s (site_word image s.at) then Some s else first_far (changed image s) sites

abbrev pub site_fault_of : ℕ → Option Site → Option ObjFault
site_fault_of kind found =
    option_map (λ (s : Site). record { object = s.object; kind = kind; at = s.r_offset }) found
