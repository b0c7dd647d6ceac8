-- The lines between the offsets that are told of a piece's warm code.
use Rattle.std.proofs.Common.{◌≡◌, ℕ, ◌+◌, ◌≤◌, Bool, true, List, ◌++◌, Some, ap, subst, sym, arith}
use Rattle.delay_slots.specs.declared.unit.Unit.{Unit as Word}
use Rattle.jvm_definition.specs.declared.instruction.Instruction.{Instruction}
use Rattle.jvm_definition.specs.declared.linked_line.LinkedLine.{LinkedLine}
use Rattle.jvm_definition.specs.declared.linked_method.LinkedMethod.{LinkedMethod}
use Rattle.jvm_definition.specs.Program.{LaidFrom, Program}
use Rattle.emit_steps.specs.Placing.{LiesAt, laid}
use Rattle.emit_steps.specs.Widths.{size}
use Rattle.emit_spans.specs.declared.span_words.SpanWords.{SpanWords}
use Rattle.emit_spans.specs.Pieces.{begins}
use Rattle.emit_spans.specs.Laying.{entry_at, span_code, stretch_at}
use Rattle.emit_spans.specs.Standing.{StandsAt, laid_part}
use Rattle.emit_spans_laws.specs.Registers.{AreLines, lines_between, weigh_lines}
use Rattle.emit_spans_laws.proofs.SpanCodeLaws.Counting.{stretch-from, stretch-to}
use Rattle.emit_spans_laws.proofs.SpanCodeLaws.Parts.{part-lies}
use Rattle.emit_spans_laws.proofs.PieceRegisters.Once.{CountsOnce, laid-once}
use Rattle.emit_spans_laws.proofs.PieceRegisters.Lines.{before-lines, before-weigh, laid-lines, laid-weigh, laid_before, method-between}

module _ (unit_list : List Word) (leads : ℕ → Bool) (span : SpanWords) (k : ℕ) (begin : begins leads span k ≡ true) where
  -- the code ends where the stretch does
  stretch-end : (stretch_at unit_list leads span k).from + size (laid_part unit_list leads span k) ≡ (stretch_at unit_list leads span k).to
  stretch-end =
      let from = stretch-from unit_list leads span k begin in
      let to = stretch-to unit_list leads span k begin in
      omega (arith, from, to)

  pub stretch-lines : (program : Program) (m : ℕ)
      → LiesAt program m (stretch_at unit_list leads span k).from (laid_part unit_list leads span k)
      → AreLines program m (stretch_at unit_list leads span k).from (stretch_at unit_list leads span k).to
      (laid (stretch_at unit_list leads span k).from (laid_part unit_list leads span k))
  stretch-lines program m lies =
      let from : ℕ = (stretch_at unit_list leads span k).from in
      let part = laid_part unit_list leads span k in
      subst (λ to. AreLines program m from to (laid from part)) stretch-end (laid-lines program m from part lies)

  module _ (q : ℕ) (low : 1 ≤ q) (high : q ≤ 31) (weight : Instruction → ℕ) (once : CountsOnce q weight) where
    pub lines-once : (at : ℕ) → weigh_lines weight (laid at (laid_part unit_list leads span k)) ≤ 1
    lines-once at =
        let few = laid-once q low high weight once unit_list leads span k begin in
        let same = laid-weigh weight once.still at (laid_part unit_list leads span k) in
        omega (arith, few, same)

    -- of all lines of the method of a span
    pub method-once : (program : Program) (m : ℕ) (method : LinkedMethod) → program.method m ≡ Some method → LaidFrom 0 method.lines
        → StandsAt (span_code unit_list leads span) (laid_part unit_list leads span k) (entry_at unit_list leads span k)
        → LiesAt program m 0 (span_code unit_list leads span)
        → weigh_lines weight (lines_between (stretch_at unit_list leads span k).from (stretch_at unit_list leads span k).to method.lines) ≤ 1
    method-once program m method is ordered there lies =
        let from : ℕ = (stretch_at unit_list leads span k).from in
        let to : ℕ = (stretch_at unit_list leads span k).to in
        let part = laid_part unit_list leads span k in
        let here : LiesAt program m from (part ++ there.behind) = subst (λ at. LiesAt program m at (part ++ there.behind))
        (sym (stretch-from unit_list leads span k begin))
        (part-lies program m (entry_at unit_list leads span k) (span_code unit_list leads span) part there lies) in
        let placed : List LinkedLine = laid_before there.behind from part in
        let lines : AreLines program m from to placed =
        subst (λ end. AreLines program m from end placed) stretch-end (before-lines program m from part there.behind here) in
        let between : lines_between from to method.lines ≡ placed = method-between program m method from to placed is ordered lines in
        let few = laid-once q low high weight once unit_list leads span k begin in
        let same = before-weigh weight once.still there.behind from part in
        let all : weigh_lines weight (lines_between from to method.lines) ≡ weigh_lines weight placed = ap (weigh_lines weight) between in
        omega (arith, few, same, all)
