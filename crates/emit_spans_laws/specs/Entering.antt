-- Where the method of a span goes when it is called.
use Rattle.std.specs.Prelude.{◌≡◌, ℕ, ◌^◌, ◌<◌, ◌≤◌, Bool, false, List, [], ◌∷◌, ◌++◌}
use Rattle.run_definition.specs.Words.{IsWord}
use Rattle.delay_slots.specs.declared.unit.Unit.{Unit}
use Rattle.delay_slots.specs.Places.{Address, WordIndex}
use Rattle.jvm_definition.specs.declared.value.Value.TheVariants.{Int as int}
use Rattle.jvm_definition.specs.Effect.{Workspace}
use Rattle.emit_steps.specs.declared.step.Step.{Step}
use Rattle.emit_steps.specs.Offsets.{CodeOffset}
use Rattle.emit_steps.specs.Placing.{LiesAt}
use Rattle.emit_layout.specs.FieldNumbers.{pc_field}
use Rattle.emit_steps.specs.Returning.{returns}
use Rattle.word_emitter.specs.Exits.{has}
use Rattle.emit_paths_laws.specs.Classes.{reads, chars, switches, entries}
use Rattle.emit_paths_laws.specs.Paths.{weigh}
use Rattle.emit_simulation_laws.specs.Sites.{Site, PathIn, stands}
use Rattle.emit_spans.specs.declared.span_words.SpanWords.{SpanWords}
use Rattle.emit_spans.specs.Neighbours.{address}
use Rattle.emit_spans.specs.Opening.{opening}
use Rattle.emit_spans.specs.Parts.{extent}
use Rattle.emit_spans.specs.Laying.{base, entry_at, targets_of, return_offset, span_code, switch}

-- the code before that of words: it looks where the guest stands, and goes there
abbrev pub entering : List Unit → (ℕ → Bool) → SpanWords → List Step
entering units leads span = opening (address span span.first)
    ++ switch (targets_of units leads span) (return_offset units leads span) ∷ []

-- at most so many turns from the method's beginning to the code of a word
abbrev pub most_entering : ℕ
most_entering = 14

-- That code leads to an offset of the method, and changes nothing. No other code of the method is passed.
pub record IsEntered (site : Site) (units : List Unit) (leads : ℕ → Bool) (span : SpanWords)
    (w : Workspace) (at : CodeOffset) : Type 0 where
  pub turns : ℕ
  pub in_time : turns ≤ most_entering
  pub path : PathIn site 0 (base span) turns (λ weight. weigh weight (entering units leads span))
      (stands site 0 w) (stands site at w)

-- What the method of a span does when it is called, by the address in field pc.
pub record EntersWords (site : Site) (units : List Unit) (leads : ℕ → Bool) (span : SpanWords)
    : Type 0 where
  -- from the address of a word of the span it goes to the code of that word
  pub words : (k : WordIndex) (w : Workspace)
      → span.first ≤ k → k < span.end
      → w.fields pc_field ≡ int (address span k)
      → IsEntered site units leads span w (entry_at units leads span k)
  -- from another address it goes to a return
  pub others : (a : Address) (w : Workspace)
      → span.first ≤ span.end
      → IsWord a → has (extent span) a ≡ false
      → w.fields pc_field ≡ int a
      → IsEntered site units leads span w (return_offset units leads span)
      × LiesAt site.program site.method (return_offset units leads span) (returns ∷ [])

-- So does each method of a span whose words lie below address 80000000 (hexadecimal).
abbrev pub SpansAreEntered : Type 0
SpansAreEntered =
    (site : Site) (units : List Unit) (leads : ℕ → Bool) (span : SpanWords)
    → LiesAt site.program site.method 0 (span_code units leads span)
    → address span span.end ≤ 2 ^ 31
    → EntersWords site units leads span

-- Code reads no word of an array and no character, makes one switch, and enters no span, whatever
-- methods are those of spans.
pub record OnlySwitches (code : List Step) : Type 0 where
  pub no_reads : weigh reads code ≡ 0
  pub no_chars : weigh chars code ≡ 0
  pub one_switch : weigh switches code ≡ 1
  pub no_entries : (is_span : ℕ → Bool) → weigh (entries is_span) code ≡ 0

-- So does the code before that of words.
abbrev pub EnteringOnlySwitches : Type 0
EnteringOnlySwitches =
    (units : List Unit) (leads : ℕ → Bool) (span : SpanWords)
    → OnlySwitches (entering units leads span)
