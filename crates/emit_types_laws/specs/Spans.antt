-- The method of a span as a body that is typed.
use Rattle.std.specs.Prelude.{ℕ, ◌≤◌, ◌==◌, All, Bool, if◌then◌else◌, List, [], ◌∷◌, length, Option, Some, None}
use Rattle.std.specs.List.{list_any}
use Rattle.run_definition.specs.Words.{IsWord}
use Rattle.delay_slots.specs.declared.unit.Unit.{Unit}
use Rattle.delay_slots.specs.Units.{HasNoFloat, units_of}
use Rattle.jvm_definition.specs.Program.{Program}
use Rattle.jvm_definition.specs.Typing.{TypeFrame}
use Rattle.emit_steps.specs.Offsets.{CodeOffset}
use Rattle.emit_spans.specs.declared.span_words.SpanWords.{SpanWords}
use Rattle.emit_spans.specs.Laying.{targets_of, return_offset, span_code}
use Rattle.emit_spans.specs.Locals.{locals_of}
use Rattle.emit_types_laws.specs.Knowing.{HelperTypes, unknown}
use Rattle.emit_types_laws.specs.Methods.{IsBody}

-- the offsets to which the switch of a span goes, and all code behind it: those of the codes of the words, and that of the return
abbrev pub goals_of : List Unit → (ℕ → Bool) → SpanWords → List CodeOffset
goals_of units leads span = return_offset units leads span ∷ targets_of units leads span

-- at such offsets there are no operands, and nothing is known of local variables
abbrev pub owes_unknown : List CodeOffset → CodeOffset → Option TypeFrame
owes_unknown goals at = if list_any (λ goal. goal == at) goals then Some unknown else None

-- The method of a span, of no parameters and with as many local variables as its code names, is typed.
abbrev pub SpanTyped : Program → List Unit → (ℕ → Bool) → SpanWords → Type 0
SpanTyped program units leads span =
    IsBody program (owes_unknown (goals_of units leads span)) []
    (locals_of (span_code units leads span)) (span_code units leads span)

-- It is so for the words of a range that are not of the floating point unit.
abbrev pub SpansAreTyped : Type 0
SpansAreTyped =
    (program : Program) (words : List ℕ) (leads : ℕ → Bool) (span : SpanWords)
    → HelperTypes program
    → All IsWord words → HasNoFloat words → span.end ≤ length words
    → SpanTyped program (units_of words) leads span
