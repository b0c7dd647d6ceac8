-- Classes of code in a program: which words each has, and where the methods of its spans stand.
use Rattle.std.specs.Prelude.{◌≡◌, ℕ, ◌+◌, ◌*◌, ◌%◌, ◌^◌, ◌<◌, ◌≤◌, ◌==◌, ◌&&◌, nat_le, nat_lt, Bool, true, false, if◌then◌else◌, List, [], ◌∷◌, length, map, flat_map, slice_index_or, ⊤}
use Rattle.std.specs.List.{All, list_any, range_with_len}
use Rattle.run_definition.specs.Words.{IsWord}
use Rattle.delay_slots.specs.Places.{Address, WordIndex}
use Rattle.delay_slots.specs.Units.{HasNoFloat, units_of}
use Rattle.jvm_definition.specs.Program.{Program}
use Rattle.emit_steps.specs.Placing.{LiesAt}
use Rattle.method_splitter.specs.declared.span.Span.{Span}
use Rattle.emit_spans.specs.declared.span_words.SpanWords.{SpanWords}
use Rattle.emit_spans.specs.Pieces.{span_of}
use Rattle.emit_spans.specs.Laying.{span_code}
use Rattle.trampoline.specs.declared.start.Start.{Start}
use Rattle.trampoline.specs.Choosers.{class_chooser}
use Rattle.emit_paths_laws.specs.Guest as counted
use Rattle.trampoline_laws.specs.Choosing.{IsMethod, IsWithin, Rise}

-- ---- a class

-- A class of code: whether its program has a meter; the range from which its words are taken, with the words that lead blocks; its own
-- words, so many from one on; their spans, by words counted from the class's first one; and the number of its first method.
pub record CodeClass : Type 0 where
  pub metered : Bool
  pub start : Address
  pub words : List ℕ
  pub leads : ℕ → Bool
  pub first : WordIndex
  pub count : ℕ
  pub spans : List Span
  pub first_method : ℕ

-- the address of a word of the class, and the address behind them all
abbrev pub address : CodeClass → ℕ → Address
address c k = c.start + 4 * (c.first + k)

abbrev pub end_of : CodeClass → Address
end_of c = address c c.count

-- the class has the last words of its range
abbrev pub is_last : CodeClass → Bool
is_last c = c.first + c.count == length c.words

-- ---- its methods: one for each span, and behind them the one that chooses

abbrev pub span_at : CodeClass → ℕ → Span
span_at c j = slice_index_or c.spans j (record { first = 0; words = 0 })

abbrev pub run_of : CodeClass → ℕ
run_of c = c.first_method + length c.spans

-- the words of a span, in the range
abbrev pub span_words : CodeClass → ℕ → SpanWords
span_words c j = span_of c.metered c.start (c.first + (span_at c j).first) (span_at c j).words

abbrev pub span_start : CodeClass → ℕ → Start
span_start c j = record { first = address c (span_at c j).first; method = c.first_method + j }

abbrev pub span_starts : CodeClass → List Start
span_starts c = map (span_start c) (range_with_len 0 (length c.spans))

-- ---- what holds of it

-- spans follow each other from a word to another one, and none is empty
abbrev pub AreJoined : ℕ → List Span → ℕ → Type 0
AreJoined at [] end = at ≡ end
AreJoined at (s ∷ spans) end = (s.first ≡ at) × (1 ≤ s.words) × AreJoined (at + s.words) spans end

pub record IsClass (c : CodeClass) : Type 0 where
  pub are_words : All IsWord c.words
  pub no_float : HasNoFloat c.words
  pub aligned : c.start % 4 ≡ 0
  pub low : c.start + 4 * length c.words < 2 ^ 31
  pub within : c.first + c.count ≤ length c.words
  pub some : 1 ≤ c.count
  pub few : length c.spans ≤ 2048
  pub joined : AreJoined 0 c.spans c.count

-- ---- what follows

-- Its spans begin at addresses that rise. There is one at least, and there are 2048 at most.
pub record HasRisingSpans (c : CodeClass) : Type 0 where
  pub rise : Rise (span_starts c)
  pub some : 1 ≤ length (span_starts c)
  pub few : length (span_starts c) ≤ 2048

-- The addresses of its words are the multiples of 4 from its first word's address to before its
-- end, all below address 80000000 (hexadecimal).
pub record FillsItsAddresses (c : CodeClass) : Type 0 where
  pub within : (k : ℕ) → k < c.count → IsWithin (address c 0) (end_of c) (address c k)
  pub only : (x : Address) → IsWithin (address c 0) (end_of c) x
      → (k : ℕ) × (k < c.count) × (x ≡ address c k)
  pub first_low : address c 0 < 2 ^ 31
  pub end_low : end_of c < 2 ^ 31

-- A span has a word, and all its words are words of the class, and of the range.
pub record LiesInClass (c : CodeClass) (j : ℕ) : Type 0 where
  pub some : 1 ≤ (span_at c j).words
  pub within : (span_at c j).first + (span_at c j).words ≤ c.count
  pub in_range : (span_words c j).end ≤ length c.words

-- so it is for every class
abbrev pub SpansRise : Type 0
SpansRise = (c : CodeClass) → IsClass c → HasRisingSpans c

abbrev pub WordsFillClasses : Type 0
WordsFillClasses = (c : CodeClass) → IsClass c → FillsItsAddresses c

abbrev pub SpansLieInClasses : Type 0
SpansLieInClasses =
    (c : CodeClass) (j : ℕ) → IsClass c → j < length c.spans → LiesInClass c j

-- ---- in a program

-- its methods stand in a program
pub record HasClass (program : Program) (c : CodeClass) : Type 0 where
  pub is_class : IsClass c
  pub spans_are : (j : ℕ) → j < length c.spans → IsMethod program (c.first_method + j)
  pub spans_lie : (j : ℕ) → j < length c.spans
      → LiesAt program (c.first_method + j) 0
      (span_code (units_of c.words) c.leads (span_words c j))
  pub run_is : IsMethod program (run_of c)
  pub run_lies : LiesAt program (run_of c) 0
      (class_chooser (span_starts c) (address c 0) (end_of c))

-- ---- more than one

-- The numbers of their methods rise from one on.
abbrev pub AreNumbered : ℕ → List CodeClass → Type 0
AreNumbered low [] = ⊤
AreNumbered low (c ∷ classes) = (low ≤ c.first_method) × AreNumbered (run_of c + 1) classes

-- A class goes on where the one before it ends, or begins further on where that has the last words of its range.
pub record GoesOn (c d : CodeClass) : Type 0 where
  pub same_range : is_last c ≡ false → address d 0 ≡ end_of c
  pub next_range : is_last c ≡ true → end_of c < address d 0

-- Classes stand in the order of their addresses; the last one ends its range.
abbrev pub AreOrdered : List CodeClass → Type 0
AreOrdered [] = ⊤
AreOrdered (c ∷ []) = is_last c ≡ true
AreOrdered (c ∷ d ∷ classes) = GoesOn c d × AreOrdered (d ∷ classes)

-- where their code begins, each class with its method `run`; behind a range no code stands
abbrev pub class_starts : ℕ → CodeClass → List Start
class_starts missing c =
    record { first = address c 0; method = run_of c }
    ∷ (if is_last c then record { first = end_of c; method = missing } ∷ [] else [])

abbrev pub starts_of : ℕ → List CodeClass → List Start
starts_of missing classes = flat_map (class_starts missing) classes

-- a method is that of a span
abbrev pub is_span_of : CodeClass → ℕ → Bool
is_span_of c m = nat_le c.first_method m && nat_lt m (run_of c)

abbrev pub is_span : List CodeClass → ℕ → Bool
is_span classes m = list_any (λ c. is_span_of c m) classes

-- the spans as crossings are counted by
abbrev pub counted_span : CodeClass → ℕ → counted.Span
counted_span c j = record { first = address c (span_at c j).first; words = (span_at c j).words }

abbrev pub counted_spans : List CodeClass → List counted.Span
counted_spans classes =
    flat_map (λ c. map (counted_span c) (range_with_len 0 (length c.spans))) classes
