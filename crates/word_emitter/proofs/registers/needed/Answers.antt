use Rattle.std.proofs.Common.{◌≡◌, [], ◌∷◌, ◌==◌, ◌&&◌, ◌||◌, not, refl, sym, ◌∙◌}
use Rattle.std.specs.Int.{bit_at}
use Rattle.std.proofs.lemmas.List.{nil_from_length}
use Rattle.block_builder.specs.Registers.{unit_writes}
use Rattle.word_emitter.specs.Pieces.{is_needed, needs, is_in}
use Rattle.word_emitter.proofs.SetLemmas.{has_none, has_either, needed_more, needed_all}
use Rattle.word_emitter.proofs.registers.needed.Goals as goal

pub loop-unit-init : goal.loop-unit-init
loop-unit-init c = λ r within. rw (has_none r) refl

pub loop-unit-preserved : goal.loop-unit-preserved
loop-unit-preserved c = λ r within.
    let found = bit_at c.loop-unit.needed r == 1 in
    let written = bit_at c.loop-unit.written r == 1 in
    let unit = c.in-Some.unit.now in
    let others = c.in-Some.others.now in
    let more : c.loop-unit.rest.now ≡ unit ∷ others = c.in-Some.ensures.cases.0 in
    let needed = has_either c.loop-unit.needed c.without-needed.result r
    ∙ (λ i. found || (c.without-needed.ensures r within ∙ (λ j. not written && c.needed_by.ensures r within j)) i) in
    let writes = has_either c.loop-unit.written c.unit_writes-written.result r
    ∙ (λ i. written || (bit_at (c.unit_writes-written.ensures i) r == 1)) in
    (λ i. needed i || (not (writes i) && is_needed others r))
    ∙ sym (needed_more found written (needs unit r) (is_in r (unit_writes unit)) (is_needed others r))
    ∙ (λ i. found || (not written && is_needed (sym more i) r))
    ∙ c.loop-unit.invariant r within

pub returns : goal.returns
returns c = λ r within.
    let found = bit_at c.loop-unit.needed r == 1 in
    let written = bit_at c.loop-unit.written r == 1 in
    let none : c.loop-unit.rest.now ≡ [] = nil_from_length c.loop-unit.rest.now c.in_default.ensures.cases in
    sym (needed_all found written)
    ∙ (λ i. found || (not written && is_needed (sym none i) r))
    ∙ c.loop-unit.invariant r within
