-- How often code reads and writes the fields of registers, and the lines that a part of a method is.
use Rattle.std.specs.Prelude.{◌≡◌, ℕ, ◌+◌, ◌<◌, ◌≤◌, Bool, true, ◌&&◌, nat_le, nat_lt, List, [], ◌∷◌, filter, Some}
use Rattle.std.specs.List.{sum_by}
use Rattle.delay_slots.specs.declared.unit.Unit.{Unit}
use Rattle.delay_slots.specs.Places.{WordIndex}
use Rattle.jvm_definition.specs.declared.linked_line.LinkedLine.{LinkedLine}
use Rattle.jvm_definition.specs.declared.instruction.Instruction.{Instruction}
use Rattle.jvm_definition.specs.declared.linked_method.LinkedMethod.{LinkedMethod}
use Rattle.jvm_definition.specs.Program.{LaidFrom, Program, linked_line_at}
use Rattle.emit_steps.specs.declared.step.Step.{Step}
use Rattle.emit_steps.specs.Offsets.{CodeOffset}
use Rattle.emit_steps.specs.Widths.{size}
use Rattle.emit_steps.specs.Placing.{LiesAt, laid}
use Rattle.emit_layout.specs.FieldNumbers.{register_field}
use Rattle.emit_spans.specs.declared.span_words.SpanWords.{SpanWords}
use Rattle.emit_spans.specs.Pieces.{begins}
use Rattle.emit_spans.specs.Laying.{entry_at, span_code, stretch_at}
use Rattle.emit_spans.specs.Standing.{laid_part}
use Rattle.emit_paths_laws.specs.Classes.{gets, puts}
use Rattle.emit_paths_laws.specs.Paths.{weigh}
use Rattle.emit_simulation_laws.specs.Sites.{Site}

-- of each register from r1 to r31, what is counted of its field is 1 at most
abbrev pub AtMostOnce : (ℕ → ℕ) → Type 0
AtMostOnce count = (r : ℕ) → 1 ≤ r → r ≤ 31 → count (register_field r) ≤ 1

-- Code reads the field of each of these registers at most once, and writes it at most once.
pub record TouchesRegistersOnce (code : List Step) : Type 0 where
  pub read_once : AtMostOnce (λ f. weigh (gets f) code)
  pub written_once : AtMostOnce (λ f. weigh (puts f) code)

-- ---- lines

-- what the instructions of lines weigh together
abbrev pub weigh_lines : (Instruction → ℕ) → List LinkedLine → ℕ
weigh_lines weight lines = sum_by (λ (l : LinkedLine). weight l.instruction) lines

-- the lines of a method from an offset up to another: each stands where the one before it ends
abbrev pub AreLines : Program → (m : ℕ) (from to : CodeOffset) → List LinkedLine → Type 0
AreLines program m from to [] = from ≡ to
AreLines program m from to (l ∷ lines) = (linked_line_at program m from ≡ Some l)
    × AreLines program m l.next to lines

-- those of some lines that stand at an offset or behind it, and before another one
abbrev pub lies_between : CodeOffset → CodeOffset → LinkedLine → Bool
lies_between from to l = nat_le from l.at && nat_lt l.at to

abbrev pub lines_between : CodeOffset → CodeOffset → List LinkedLine → List LinkedLine
lines_between from to lines = filter (lies_between from to) lines

-- Lines read the field of each of the registers at most once, and write it at most once.
pub record LinesTouchRegistersOnce (lines : List LinkedLine) : Type 0 where
  pub read_once : AtMostOnce (λ f. weigh_lines (gets f) lines)
  pub written_once : AtMostOnce (λ f. weigh_lines (puts f) lines)

-- ---- the stretch of a piece's warm code in the method of a span

-- The offsets that are told of it are those of the code of the word with which the piece begins.
pub record IsOwnStretch (units : List Unit) (leads : ℕ → Bool) (span : SpanWords) (k : WordIndex)
    : Type 0 where
  pub from_is : (stretch_at units leads span k).from ≡ entry_at units leads span k
  pub to_is : (stretch_at units leads span k).to
      ≡ entry_at units leads span k + size (laid_part units leads span k)

-- So it is with each word with which a piece begins.
abbrev pub StretchesAreOfPieces : Type 0
StretchesAreOfPieces =
    (units : List Unit) (leads : ℕ → Bool) (span : SpanWords) (k : WordIndex)
    → begins leads span k ≡ true
    → IsOwnStretch units leads span k

-- the lines of that code, where it lies at the first of these offsets
abbrev pub stretch_lines : List Unit → (ℕ → Bool) → SpanWords → WordIndex → List LinkedLine
stretch_lines units leads span k =
    laid (stretch_at units leads span k).from (laid_part units leads span k)

-- those of some lines that stand between these offsets
abbrev pub in_stretch : List Unit → (ℕ → Bool) → SpanWords → WordIndex → List LinkedLine
    → List LinkedLine
in_stretch units leads span k lines =
    lines_between (stretch_at units leads span k).from (stretch_at units leads span k).to lines

-- Where the code lies at the first of these offsets in a site's method, its lines are those of the
-- method up to the second one.
abbrev pub StretchesAreLines : Type 0
StretchesAreLines =
    (site : Site) (units : List Unit) (leads : ℕ → Bool) (span : SpanWords) (k : WordIndex)
    → begins leads span k ≡ true
    → LiesAt site.program site.method (stretch_at units leads span k).from
    (laid_part units leads span k)
    → AreLines site.program site.method (stretch_at units leads span k).from
    (stretch_at units leads span k).to (stretch_lines units leads span k)

-- In the method of a span, all lines between these offsets touch the registers once.
abbrev pub StretchesTouchRegistersOnce : Type 0
StretchesTouchRegistersOnce =
    (site : Site) (method : LinkedMethod) (units : List Unit) (leads : ℕ → Bool)
    (span : SpanWords) (k : WordIndex)
    → site.program.method site.method ≡ Some method → LaidFrom 0 method.lines
    → LiesAt site.program site.method 0 (span_code units leads span)
    → span.first ≤ k → k < span.end
    → begins leads span k ≡ true
    → LinesTouchRegistersOnce (in_stretch units leads span k method.lines)
