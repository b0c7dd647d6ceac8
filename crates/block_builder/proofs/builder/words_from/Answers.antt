use Rattle.std.proofs.Common.{◌≡◌, ◌+◌, ◌≤◌, ◌<◌, length, get_or, sym, ◌∙◌, ap, arith, drop, take}
use Rattle.std.specs.Prelude.{bit_or}
use Rattle.std.specs.List.{flat_map}
use Rattle.std.proofs.lemmas.List.{get_or-take, get_or-drop, length-take-le, length-drop}
use Rattle.delay_slots.specs.declared.unit.Unit.TheVariants.{Call}
use Rattle.block_builder.specs.Registers.{register_set, unit_reads, unit_writes}
use Rattle.block_builder.proofs.SetLemmas.{union_more, union_all}
use Rattle.block_builder.proofs.builder.words_from.Goals as goal

pub loop-k-preserved : goal.loop-k-preserved
loop-k-preserved c =
    let units = c.args.units.now in
    let own = take c.args.words (drop c.args.first units) in
    let k = c.loop-k.k in
    let many : length own ≡ c.args.words = length-take-le c.args.words (drop c.args.first units) (omega (arith, length-drop c.args.first units, c.requires)) in
    let within : k < length own = omega (arith, c.loop-k-test.true, many) in
    let here : c.at-unit.result ≡ get_or own k Call = c.at-unit.ensures
    ∙ sym (get_or-take c.args.words (drop c.args.first units) k Call c.loop-k-test.true ∙ get_or-drop c.args.first units k Call) in
    let reads = c.unit_reads-reads.ensures ∙ ap (λ u. register_set (unit_reads u)) here in
    let writes = c.unit_writes-writes.ensures ∙ ap (λ u. register_set (unit_writes u)) here in
    record {
      reads = (λ i. bit_or (bit_or c.loop-k.reads (reads i)) (register_set (flat_map unit_reads (drop (k + 1) own)))) ∙ union_more unit_reads own k Call c.loop-k.reads (register_set (flat_map unit_reads own)) within c.loop-k.invariant.reads;
      writes = (λ i. bit_or (bit_or c.loop-k.writes (writes i)) (register_set (flat_map unit_writes (drop (k + 1) own)))) ∙ union_more unit_writes own k Call c.loop-k.writes (register_set (flat_map unit_writes own)) within c.loop-k.invariant.writes;
    }

pub returns : goal.returns
returns c =
    let units = c.args.units.now in
    let own = take c.args.words (drop c.args.first units) in
    let k = c.loop-k.k in
    let many : length own ≡ c.args.words = length-take-le c.args.words (drop c.args.first units) (omega (arith, length-drop c.args.first units, c.requires)) in
    let over : length own ≤ k = omega (arith, c.loop-k-test.false, many) in
    let reads = union_all unit_reads own k c.loop-k.reads (register_set (flat_map unit_reads own)) over c.loop-k.invariant.reads in
    let writes = union_all unit_writes own k c.loop-k.writes (register_set (flat_map unit_writes own)) over c.loop-k.invariant.writes in
    λ i. record { first = c.args.first; words = c.args.words; reads = reads i; writes = writes i }
