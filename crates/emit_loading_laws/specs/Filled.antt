-- A table of pages whose texts are put into them.
use Rattle.std.specs.Prelude.{◌≡◌, ◌≢◌, ℕ, suc, ◌+◌, ◌*◌, ◌≤◌, ◌<◌, ◌==◌, if◌then◌else◌, List, [], ◌∷◌, length, Option, Some, None}
use Rattle.std.specs.List.{All}
use Rattle.jvm_definition.specs.declared.kind.Kind.TheVariants as kinds
use Rattle.jvm_definition.specs.declared.value.Value.TheVariants.{Null as null, Array as array, Text as text}
use Rattle.jvm_definition.specs.Program.{Program}
use Rattle.jvm_definition.specs.Values.{ints, pages, Heap}
use Rattle.jvm_definition.specs.Effect.{Workspace}
use Rattle.jvm_definition.specs.Step.{Frame}
use Rattle.emit_steps.specs.Placing.{LiesAt}
use Rattle.emit_layout.specs.FieldNumbers.{page_count, readable_field}
use Rattle.emit_loading.specs.declared.page_slot.PageSlot.{PageSlot}
use Rattle.emit_loading.specs.Words.{words_code}
use Rattle.emit_loading.specs.Filling.{fill_code}
use Rattle.data_strings.specs.Texts.{page_text}
use Rattle.emit_paths_laws.specs.Paths.{weigh}
use Rattle.emit_loading_laws.specs.Texts.{AreWords}
use Rattle.emit_loading_laws.specs.Arrays.{set_ints, with_ints}
use Rattle.emit_loading_laws.specs.Leading.{IsMethod, LeadsBack}

-- An array of 1,024 ints.
pub record IsArray (heap : Heap) (p : ℕ) : Type 0 where
  pub words : ℕ → ℕ
  pub there : heap.array_at p ≡ Some (ints 1024 words)

-- The array at a place is the table of pages, of which each that is there is an array of 1,024 ints.
pub record HoldsPages (heap : Heap) (table : ℕ) (places : ℕ → Option ℕ) : Type 0 where
  pub there : heap.array_at table ≡ Some (pages page_count places)
  pub whole : (n p : ℕ) → places n ≡ Some p → IsArray heap p

-- different pages are different arrays
abbrev pub AreApart : (ℕ → Option ℕ) → Type 0
AreApart places = (n k p : ℕ) → places n ≡ Some p → places k ≡ Some p → n ≡ k

-- The text of a page spells its words. The words of texts go by the slots in the class that has them.
pub record HasText (program : Program) (class : ℕ) (given : ℕ → List ℕ) (s : PageSlot)
    : Type 0 where
  pub below : s.page < page_count
  pub spells : program.characters class s.slot ≡ page_text (given s.slot)
  pub are_words : AreWords (given s.slot)
  pub few : length (given s.slot) ≤ 1024

-- ---- arrays after it

-- words at the front of a page, if it is there
abbrev pub with_page_ints : Heap → Option ℕ → List ℕ → Heap
with_page_ints heap None given = heap
with_page_ints heap (Some p) given = with_ints heap p given

-- the heap when the words of each page were put
abbrev pub filled : (ℕ → Option ℕ) → (ℕ → List ℕ) → Heap → List PageSlot → Heap
filled places given heap [] = heap
filled places given heap (s ∷ slots) =
    filled places given (with_page_ints heap (places s.page) (given s.slot)) slots

-- the words that a page gets
abbrev pub words_for : (ℕ → List ℕ) → List PageSlot → ℕ → List ℕ
words_for given [] n = []
words_for given (s ∷ slots) n = if s.page == n then given s.slot else words_for given slots n

-- the pages rise
abbrev pub RiseFrom : ℕ → List PageSlot → Type 0
RiseFrom low [] = Unit {0}
RiseFrom low (s ∷ slots) = (low ≤ s.page) × RiseFrom (suc s.page) slots

-- What arrays are that are filled so.
pub record FillsPages (places : ℕ → Option ℕ) (given : ℕ → List ℕ) (slots : List PageSlot)
    (heap : Heap) : Type 0 where
  -- each page has at its front the words that its text spells, and else the words as before
  pub page : (n p : ℕ) → AreApart places → RiseFrom 0 slots → places n ≡ Some p
      → (filled places given heap slots).array_at p
      ≡ set_ints (heap.array_at p) (words_for given slots n)
  -- each array that is no page is as before, and so is the number of words that are used
  pub others : (q : ℕ) → ((n : ℕ) → places n ≡ Some q → ⊥)
      → (filled places given heap slots).array_at q ≡ heap.array_at q
  pub used_is : (filled places given heap slots).used ≡ heap.used
  -- so the table of pages holds the same pages
  pub held : (table : ℕ) → HoldsPages heap table places
      → HoldsPages (filled places given heap slots) table places

-- ---- the methods that put words into pages

-- One puts the words that a text spells into an array, from its first word on, with 41 instructions
-- for each, and changes nothing else.
abbrev pub WordsArePut : Type 0
WordsArePut =
    (program : Program) (words own m class slot p : ℕ) (old : ℕ → ℕ) (given : List ℕ)
    (w : Workspace) (caller : Frame) (others : List Frame)
    → own ≢ m → LiesAt program own 0 words_code
    → program.characters class slot ≡ page_text given
    → AreWords given → length given ≤ 1024
    → w.locals 0 ≡ array p → w.locals 1 ≡ text class slot
    → w.heap.array_at p ≡ Some (ints 1024 old)
    → LeadsBack program words own m (41 * length given + 11)
    (λ weight. (length given + 1) * weigh weight words_code)
    w caller others (with_ints w.heap p given)

-- Without an array it changes nothing.
abbrev pub NoPageIsPut : Type 0
NoPageIsPut =
    (program : Program) (words own m : ℕ) (w : Workspace) (caller : Frame) (others : List Frame)
    → own ≢ m → LiesAt program own 0 words_code
    → w.locals 0 ≡ null
    → LeadsBack program words own m 3 (λ weight. weigh weight words_code) w caller others w.heap

-- The other one calls it for each page of a class that is there, with at most 42,000 instructions
-- for each, and changes nothing else.
abbrev pub PagesAreFilled : Type 0
PagesAreFilled =
    (program : Program) (words own m class h table : ℕ) (places : ℕ → Option ℕ)
    (given : ℕ → List ℕ) (slots : List PageSlot) (w : Workspace) (caller : Frame)
    (others : List Frame)
    → own ≢ m → LiesAt program own 0 (fill_code slots class h)
    → h ≢ m → IsMethod program h (kinds.Ints ∷ kinds.Text ∷ []) → LiesAt program h 0 words_code
    → w.fields readable_field ≡ array table → HoldsPages w.heap table places
    → All (HasText program class given) slots
    → length others < 62
    → LeadsBack program words own m (42000 * length slots + 1)
    (λ weight. weigh weight (fill_code slots class h)
    + length slots * (1025 * weigh weight words_code))
    w caller others (filled places given w.heap slots)
