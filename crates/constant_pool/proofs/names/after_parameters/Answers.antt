use Rattle.std.proofs.Common.{◌-◌, ◌+◌, suc, ◌≡◌, sym, ◌∙◌, arith}
use Rattle.constant_pool.proofs.NameLemmas.{parameters_end, parameters_fail, parameters_more, no_parameters}
use Rattle.constant_pool.proofs.names.after_parameters.Goals as goal

pub returns-in-Some : goal.returns-in-Some
returns-in-Some c =
    sym (parameters_end (255 - c.loop.counter) c.loop.rest.now c.in-Some.behind.now (sym c.in-Some.ensures)) ∙ c.loop.invariant

pub returns-in-None-after_field : goal.returns-in-None-after_field
returns-in-None-after_field c =
    sym (parameters_fail (255 - c.loop.counter) c.loop.rest.now (sym c.in-None.ensures) (sym c.in-None-after_field.ensures)) ∙ c.loop.invariant

pub loop-preserved : goal.loop-preserved
loop-preserved c =
    let more : 255 - c.loop.counter ≡ suc (255 - (c.loop.counter + 1)) = omega arith in
    sym (parameters_more (255 - c.loop.counter) (255 - (c.loop.counter + 1)) c.loop.rest.now c.in-Some-after_field.behind.now more (sym c.in-None.ensures) (sym c.in-Some-after_field.ensures)) ∙ c.loop.invariant

pub returns : goal.returns
returns c = c.after-2.ensures ∙ sym (no_parameters (255 - c.loop.counter) c.loop.rest.now (omega arith)) ∙ c.loop.invariant
