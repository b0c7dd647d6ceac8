-- The methods of a program that make its memory, and the memory that they make.
use Rattle.std.specs.Prelude.{◌≡◌, ◌≢◌, ℕ, ◌+◌, ◌*◌, ◌/◌, ◌%◌, ◌^◌, ◌<◌, ◌≤◌, ◌==◌, Bool, true, false, if◌then◌else◌, List, [], ◌∷◌, length, map, flat_map, slice_index, Some, None}
use Rattle.std.specs.List.{All, AllZip, list_any, range_with_len}
use Rattle.run_definition.specs.Words.{lane_of_word}
use Rattle.run_definition.specs.Memory.{Memory}
use Rattle.elf_image_parts.specs.declared.page_run.PageRun.{PageRun}
use Rattle.elf_image_parts.specs.Runs.{text_of, pages_of, run_pages, IsRun}
use Rattle.jvm_definition.specs.declared.kind.Kind.TheVariants as kinds
use Rattle.jvm_definition.specs.Program.{Program}
use Rattle.emit_steps.specs.Placing.{LiesAt}
use Rattle.emit_layout.specs.FieldNumbers.{page_count}
use Rattle.method_splitter.specs.Shares.{share_at, share_count, shared}
use Rattle.emit_loading.specs.declared.page_slot.PageSlot.{PageSlot}
use Rattle.emit_loading.specs.Words.{words_code}
use Rattle.emit_loading.specs.Filling.{fill_code}
use Rattle.emit_loading.specs.Pages.{pages_code}
use Rattle.data_strings.specs.Texts.{page_text}
use Rattle.emit_loading_laws.specs.Texts.{AreWords}
use Rattle.emit_loading_laws.specs.Leading.{IsMethod}
use Rattle.emit_loading_laws.specs.Filled.{RiseFrom}

-- ---- texts that tell pages

-- A text in a slot of a class tells these runs of pages.
pub record TellsRuns (program : Program) (class slot : ℕ) (runs : List PageRun) : Type 0 where
  pub characters_are : program.characters class slot ≡ text_of runs
  pub are_runs : All IsRun runs
  pub few : length runs < 2 ^ 29

abbrev pub pages_told : List (List PageRun) → List (ℕ × Bool)
pages_told shares = flat_map (λ runs. flat_map run_pages runs) shares

-- the runs of a text's number, where each text but the last has so many runs, and those of all texts
abbrev pub run_share : ℕ → List PageRun → ℕ → List PageRun
run_share size runs k = shared runs (share_at size (length runs) k)

abbrev pub run_shares : ℕ → List PageRun → List (List PageRun)
run_shares size runs = map (run_share size runs) (range_with_len 0 (share_count size (length runs)))

abbrev pub share_texts : ℕ → List PageRun → List (List ℕ)
share_texts size runs =
    map (λ k. text_of (run_share size runs k)) (range_with_len 0 (share_count size (length runs)))

-- ---- classes whose texts spell the words of pages

-- the method of such a class that fills its pages, by its number, with the class, the method that puts words, and the slots of the texts
pub record Filler : Type 0 where
  pub number : ℕ
  pub class : ℕ
  pub puts : ℕ
  pub slots : List PageSlot

-- the text of a page spells the words of that page
pub record HasPage (program : Program) (class : ℕ) (page_words : ℕ → List ℕ) (s : PageSlot)
    : Type 0 where
  pub below : s.page < page_count
  pub spells : program.characters class s.slot ≡ page_text (page_words s.page)

pub record IsFiller (program : Program) (m : ℕ) (page_words : ℕ → List ℕ) (f : Filler)
    : Type 0 where
  pub apart : f.number ≢ m
  pub puts_apart : f.puts ≢ m
  pub fills : IsMethod program f.number []
  pub fills_lies : LiesAt program f.number 0 (fill_code f.slots f.class f.puts)
  pub puts_is : IsMethod program f.puts (kinds.Ints ∷ kinds.Text ∷ [])
  pub puts_lies : LiesAt program f.puts 0 words_code
  pub has : All (HasPage program f.class page_words) f.slots

abbrev pub numbers_of : List Filler → List ℕ
numbers_of fillers = map (λ (f : Filler). f.number) fillers

abbrev pub slots_of : List Filler → List PageSlot
slots_of fillers = flat_map (λ (f : Filler). f.slots) fillers

-- ---- memory

-- None of the methods that make memory, by the one that makes pages and by the classes that fill them, passes a test.
abbrev pub FillsApart : (ℕ → Bool) → Filler → Type 0
FillsApart test f = (test f.number ≡ false) × (test f.puts ≡ false)

pub record MakersAreNone (test : ℕ → Bool) (pages : ℕ) (fillers : List Filler) : Type 0 where
  pub pages_is_none : test pages ≡ false
  pub fillers_are_none : All (FillsApart test) fillers

-- the memory of pages of words
abbrev pub paged : (readable writable : ℕ → Bool) → (ℕ → List ℕ) → Memory
paged readable writable page_words = record {
  byte = λ a. if readable (a / 4096)
      then Some (lane_of_word (slice_index (page_words (a / 4096)) (a / 4 % 1024)) (a % 4))
      else None;
  writable = λ a. writable (a / 4096);
}

-- Pages of words: they lie below address 80000000, one that can be written can be read, and where a page that can be read has no slot it is
-- all zero.
pub record IsPaged (readable writable : ℕ → Bool) (page_words : ℕ → List ℕ) (slots : List PageSlot)
    : Type 0 where
  pub below : (n : ℕ) → readable n ≡ true → n < page_count
  pub both : (n : ℕ) → writable n ≡ true → readable n ≡ true
  pub are_words : (n : ℕ) → AreWords (page_words n)
  pub long : (n : ℕ) → length (page_words n) ≡ 1024
  pub rise : RiseFrom 0 slots
  pub zeros : (n k : ℕ) → list_any (λ (s : PageSlot). s.page == n) slots ≡ false
      → slice_index (page_words n) k ≡ 0

-- The methods of a program that make this memory in a region of so many words, seen from a method m that is none of them.
pub record MakesMemory (program : Program) (words m pages : ℕ) (texts : List ℕ)
    (shares : List (List PageRun)) (fillers : List Filler) (readable writable : ℕ → Bool)
    (page_words : ℕ → List ℕ) : Type 0 where
  pub apart : pages ≢ m
  pub pages_is : IsMethod program pages (kinds.Text ∷ [])
  pub pages_lies : LiesAt program pages 0 pages_code
  pub tell : AllZip (TellsRuns program 0) texts shares
  pub told : pages_told shares ≡ pages_of readable writable page_count
  pub fill : All (IsFiller program m page_words) fillers
  pub are_pages : IsPaged readable writable page_words (slots_of fillers)
  pub room : 2 * 524290 + 1026 * length (pages_told shares) ≤ words

-- ---- how long it takes

-- a call for each text, and what the pages of its runs take
abbrev pub text_turns : List PageRun → ℕ
text_turns runs = 9 + 27 * length runs + 19 * length (flat_map run_pages runs)

abbrev pub filler_turns : Filler → ℕ
filler_turns f = 42000 * length f.slots + 2

abbrev pub texts_turns : List (List PageRun) → ℕ
texts_turns [] = 0
texts_turns (runs ∷ shares) = text_turns runs + texts_turns shares

abbrev pub fillers_turns : List Filler → ℕ
fillers_turns [] = 0
fillers_turns (f ∷ fillers) = filler_turns f + fillers_turns fillers

abbrev pub memory_turns : List (List PageRun) → List Filler → ℕ
memory_turns shares fillers = 6 + (texts_turns shares + fillers_turns fillers)

-- a text tells a run at least, and a class has a page at least
abbrev pub HasRuns : List PageRun → Type 0
HasRuns runs = 1 ≤ length runs

abbrev pub HasSlots : Filler → Type 0
HasSlots f = 1 ≤ length f.slots

-- How many turns it takes, by the number of pages.
abbrev pub LoadingTakes : Type 0
LoadingTakes =
    (program : Program) (texts : List ℕ) (shares : List (List PageRun)) (fillers : List Filler)
    → AllZip (TellsRuns program 0) texts shares → All HasRuns shares
    → All HasSlots fillers → length (slots_of fillers) ≤ length (pages_told shares)
    → memory_turns shares fillers ≤ 6 + 42057 * length (pages_told shares)

-- ---- runs that are divided

-- Texts that are those of the runs, so many in each, tell them.
abbrev pub TextsTellRuns : Type 0
TextsTellRuns =
    (program : Program) (size : ℕ) (runs : List PageRun) (texts : List ℕ)
    → size < 2 ^ 29 → All IsRun runs
    → AllZip (λ (slot : ℕ) (chars : List ℕ). program.characters 0 slot ≡ chars) texts
    (share_texts size runs)
    → AllZip (TellsRuns program 0) texts (run_shares size runs)

-- The shares of runs have all their pages, and each has a run.
pub record SharesAllRuns (size : ℕ) (runs : List PageRun) : Type 0 where
  pub told : pages_told (run_shares size runs) ≡ flat_map run_pages runs
  pub some : All HasRuns (run_shares size runs)
