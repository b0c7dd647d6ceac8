use Rattle.std.proofs.Common.{◌==◌, ◌&&◌, ◌||◌, not, ◌∙◌}
use Rattle.std.specs.Prelude.{bit_or}
use Rattle.std.specs.Int.{bit_at}
use Rattle.word_emitter.proofs.SetLemmas.{has_either}
use Rattle.word_emitter.proofs.registers.needed_by.Goals as goal

pub returns-in-Branch : goal.returns-in-Branch
returns-in-Branch c =
    let reads = c.read_by.result in
    let slot = c.without.result in
    let passed = c.passed_over.result in
    λ r within.
    let in_slot = c.without.ensures r within
    ∙ (λ i. not (bit_at (c.written_by.ensures i) r == 1) && (bit_at (c.read_by-in-Branch.ensures i) r == 1)) in
    let read = has_either reads slot r ∙ (λ i. (bit_at (c.read_by.ensures i) r == 1) || in_slot i) in
    rw c.in-Branch.is (has_either (bit_or reads slot) passed r ∙ (λ i. read i || c.passed_over.ensures r i))
