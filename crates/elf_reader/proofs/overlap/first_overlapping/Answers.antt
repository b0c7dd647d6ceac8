use Rattle.std.proofs.Common.{◌≡◌, sym, arith, rules, count_by, false}
use Rattle.std.proofs.lemmas.Bool.Decides.{nat_tests}
use Rattle.elf_definition.specs.Segments.{is_live, overlap}
use Rattle.elf_reader.proofs.CountLemmas.{count_by-none, position-none}
use Rattle.elf_reader.proofs.OverlapLemmas.{not_live_first}
use Rattle.elf_reader.proofs.overlap.first_overlapping.Goals as goal

pub returns-then-not-is_live-clause-first : goal.returns-then-not-is_live-clause-first
returns-then-not-is_live-clause-first c =
    let off : is_live c.args.h.now ≡ false = search rules in
    sym (position-none (overlap c.args.h.now) c.args.later.now
    (count_by-none (overlap c.args.h.now) c.args.later.now (λ g. not_live_first c.args.h.now g off)))

pub returns-then-not-meets_another-clause-first : goal.returns-then-not-meets_another-clause-first
returns-then-not-meets_another-clause-first c =
    let none : count_by (overlap c.args.h.now) c.args.later.now ≡ 0 = grind (arith, nat_tests) in
    sym (position-none (overlap c.args.h.now) c.args.later.now none)
