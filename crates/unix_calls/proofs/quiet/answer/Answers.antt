use Rattle.std.proofs.Common.{◌∙◌}
use Rattle.run_definition.specs.Question.{asked}
use Rattle.unix_definition.specs.Unix.{unix}
use Rattle.unix_calls.specs.Held.{with_parts}
use Rattle.unix_calls.proofs.CallLemmas.{is-sbrk, is-lseek, is-ftruncate, answered-back}
use Rattle.unix_calls.proofs.quiet.answer.Goals as goal

pub returns-in-2-clause-call : goal.returns-in-2-clause-call
returns-in-2-clause-call g c s =
    let m = g.M.View.memory (g.M.View.content c.args.view.now) in
    answered-back c.open.result (unix (with_parts s c.args.disk.now c.args.opened.now c.args.heap.now c.args.moment) (asked c.args.call.now m)) (with_parts s c.open.new.disk c.open.new.opened c.args.heap.now c.args.moment) c.open.type_inv
    (c.open.ensures (with_parts s c.args.disk.now c.args.opened.now c.args.heap.now c.args.moment))

pub returns-in-6-clause-call : goal.returns-in-6-clause-call
returns-in-6-clause-call g c s =
    let q = asked c.args.call.now (g.M.View.memory (g.M.View.content c.args.view.now)) in
    let before = with_parts s c.args.disk.now c.args.opened.now c.args.heap.now c.args.moment in
    answered-back c.lseek.result (unix before q) (with_parts s c.args.disk.now c.lseek.new.opened c.args.heap.now c.args.moment) c.lseek.type_inv (is-lseek before q c.in-6.is ∙ c.lseek.ensures before)

pub returns-in-9-clause-call : goal.returns-in-9-clause-call
returns-in-9-clause-call g c s =
    let q = asked c.args.call.now (g.M.View.memory (g.M.View.content c.args.view.now)) in
    let before = with_parts s c.args.disk.now c.args.opened.now c.args.heap.now c.args.moment in
    answered-back c.unlink.result (unix before q) (with_parts s c.unlink.new.disk c.args.opened.now c.args.heap.now c.args.moment) c.unlink.type_inv (c.unlink.ensures before)

pub returns-in-11-clause-call : goal.returns-in-11-clause-call
returns-in-11-clause-call g c s =
    let q = asked c.args.call.now (g.M.View.memory (g.M.View.content c.args.view.now)) in
    let before = with_parts s c.args.disk.now c.args.opened.now c.args.heap.now c.args.moment in
    answered-back c.ftruncate.result (unix before q) (with_parts s c.ftruncate.new.disk c.args.opened.now c.args.heap.now c.args.moment) c.ftruncate.type_inv (is-ftruncate before q c.in-11.is ∙ c.ftruncate.ensures before)

pub returns-in-14-clause-call : goal.returns-in-14-clause-call
returns-in-14-clause-call g c s =
    let q = asked c.args.call.now (g.M.View.memory (g.M.View.content c.args.view.now)) in
    let before = with_parts s c.args.disk.now c.args.opened.now c.args.heap.now c.args.moment in
    answered-back c.rename.result (unix before q) (with_parts s c.rename.new.disk c.args.opened.now c.args.heap.now c.args.moment) c.rename.type_inv (c.rename.ensures before)

pub returns-in-7-clause-call : goal.returns-in-7-clause-call
returns-in-7-clause-call g c s =
    let q = asked c.args.call.now (g.M.View.memory (g.M.View.content c.args.view.now)) in
    let before = with_parts s c.args.disk.now c.args.opened.now c.args.heap.now c.args.moment in
    answered-back c.sbrk.result (unix before q) (with_parts s c.args.disk.now c.args.opened.now c.sbrk.new.heap c.args.moment) c.sbrk.type_inv (is-sbrk before q c.in-7.is ∙ c.sbrk.ensures.call before)
