use Rattle.std.proofs.Common.{◌≡◌, ◌-◌, ◌++◌, ◌∷◌, [], suc, arith}
use Rattle.std.proofs.lemmas.Result.{err_from_is_err_and}
use Rattle.class_format.proofs.Loops.{chain_more, chain_fails, chain_done}
use Rattle.class_definition.specs.Members.{field}
use Rattle.class_reader.proofs.member_reading.so_many_fields.Goals as goal

pub returns-in_err-field : goal.returns-in_err-field
returns-in_err-field c =
    let p = err_from_is_err_and c.from_residual.result c.from_residual.ensures.1 in
    let more : c.loop-to_come.to_come ≡ suc (c.loop-to_come.to_come - 1) = omega arith in
    rw (p.1, p.2) (chain_fails {S = Unit {0}} (λ _ _. field c.args.pool.now) (λ s _. s) c.in_err-field.field-0.0 tt c.loop-to_come.to_come (c.loop-to_come.to_come - 1) c.loop-to_come.rest.now c.loop-to_come.fields.items _ more c.in_err-field.ensures c.loop-to_come.invariant)

pub loop-to_come-preserved : goal.loop-to_come-preserved
loop-to_come-preserved c =
    let more : c.loop-to_come.to_come ≡ suc (c.loop-to_come.to_come - 1) = omega arith in
    let e : c.push.new.self.items ≡ c.loop-to_come.fields.items ++ c.in_ok-field.field ∷ [] = c.in_ok-push.ensures.items in
    rw e (chain_more {S = Unit {0}} (λ _ _. field c.args.pool.now) (λ s _. s) tt c.loop-to_come.to_come (c.loop-to_come.to_come - 1) c.loop-to_come.rest.now c.in_ok-field.others.now c.loop-to_come.fields.items c.in_ok-field.field _ more c.in_ok-field.ensures c.loop-to_come.invariant)

pub returns : goal.returns
returns c = chain_done {S = Unit {0}} (λ _ _. field c.args.pool.now) (λ s _. s) tt c.loop-to_come.to_come c.loop-to_come.rest.now c.loop-to_come.fields.items _ (omega arith) c.loop-to_come.invariant
