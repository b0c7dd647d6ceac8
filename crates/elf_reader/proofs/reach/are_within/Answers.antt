use Rattle.std.proofs.Common.{◌∙◌, arith}
use Rattle.std.proofs.lemmas.Bool.{le-ltb}
use Rattle.elf_reader.proofs.SpanLemmas.{within_at, within_none}
use Rattle.elf_reader.proofs.reach.are_within.Goals as goal

pub returns-then-begun-gt0 : goal.returns-then-begun-gt0
returns-then-begun-gt0 c =
    within_at c.args.spans.now c.begun_at-begun.result _ c.args.first c.args.behind c.requires c.if-begun-gt0.true
    c.begun_at-begun.ensures.bound c.begun_at-begun.ensures.begun c.begun_at-begun.ensures.later

pub returns-else-begun-gt0 : goal.returns-else-begun-gt0
returns-else-begun-gt0 c =
    le-ltb 0 c.begun_at-begun.result c.if-begun-gt0.false
    ∙ within_none c.args.spans.now c.begun_at-begun.result c.args.first c.args.behind (omega arith) c.begun_at-begun.ensures.later
