use Rattle.std.proofs.Common.{◌<◌, ◌≤◌, ◌-◌, get_or, arith}
use Rattle.elf_reader.specs.declared.span.Span.{Span}
use Rattle.elf_reader.proofs.SpanLemmas.{next_none, next_later}
use Rattle.elf_reader.proofs.reach.next_within.Goals as goal
use Rattle.elf_reader.proofs.reach.next_within.Goals.{else-begun-gt0-via-then-begun-gt0+else-at-spans, else-begun-gt0-via-else-begun-gt0}

pub returns-then-begun-spans : goal.returns-then-begun-spans
returns-then-begun-spans c =
    let d : Span = record { first = 0; end = 0 } in
    let over : 0 < c.begun_at-begun.result → (get_or c.args.spans.now (c.begun_at-begun.result - 1) d).end ≤ c.args.at =
    λ some. elim c.else-begun-gt0.branch [
      | else-begun-gt0-via-then-begun-gt0+else-at-spans w ↦ w.if-at-spans.false
      | else-begun-gt0-via-else-begun-gt0 w ↦ absurd (omega (arith, some, w.if-begun-gt0.false))
    ] in
    next_later c.args.spans.now c.begun_at-begun.result c.args.at _ d c.requires.rise c.requires.filled c.if-begun-spans.true over
    c.begun_at-begun.ensures.later

pub returns : goal.returns
returns c =
    let d : Span = record { first = 0; end = 0 } in
    let over : 0 < c.begun_at-begun.result → (get_or c.args.spans.now (c.begun_at-begun.result - 1) d).end ≤ c.args.at =
    λ some. elim c.else-begun-gt0.branch [
      | else-begun-gt0-via-then-begun-gt0+else-at-spans w ↦ w.if-at-spans.false
      | else-begun-gt0-via-else-begun-gt0 w ↦ absurd (omega (arith, some, w.if-begun-gt0.false))
    ] in
    next_none c.args.spans.now c.begun_at-begun.result c.args.at d c.requires.rise c.begun_at-begun.ensures.bound c.if-begun-spans.false over
