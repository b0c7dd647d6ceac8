use Rattle.std.proofs.Common.{Some, ℤ, sym, subst}
use Rattle.run_definition.specs.Question.{Room, there, room_at}
use Rattle.unix_definition.specs.Calls.{read_target}
use Rattle.unix_system.proofs.RoomLemmas.{room-there}
use Rattle.unix_calls.specs.Access.{read_of}
use Rattle.unix_calls.specs.Reading.{inputs, with_input, Reads, ReadGives}
use Rattle.unix_calls.proofs.CallLemmas.{signed-back}
use Rattle.unix_calls.proofs.ReadGiven.{reads-quiet, reads-by}
use Rattle.unix_calls.proofs.input.read.Goals as goal

pub returns-in-Answered-clause-served : goal.returns-in-Answered-clause-served
returns-in-Answered-clause-served g c =
    let put_at = g.M.View.put_at in
    let old = g.M.View.content c.args.view.now in
    let m = g.M.View.memory old in
    let call = c.args.call.now in
    let room = room_at m (Some (call.a1, call.a2)) in
    let rest = g.S.Source.rest c.args.source.now in
    let i = inputs c.args.most c.args.disk.now c.args.opened.now c.args.ahead.now rest in
    subst (λ (v : ℤ). Reads put_at (read_of m call) room old old i i v) (signed-back c.in-Answered.value c.in-Answered.ensures.small)
    (reads-quiet put_at (read_of m call) c.args.most c.args.disk.now c.args.opened.now c.args.ahead.now room old rest c.args.disk.now c.args.opened.now c.in-Answered.value
    (λ s r. c.in-Answered.ensures.is (with_input s c.args.most c.args.disk.now c.args.opened.now r) c.args.disk.now))

pub returns-in-Granted-clause-served : goal.returns-in-Granted-clause-served
returns-in-Granted-clause-served g c =
    let put_at = g.M.View.put_at in
    let old = g.M.View.content c.args.view.now in
    let new = g.M.View.content c.read_from.new.view in
    let m = g.M.View.memory old in
    let call = c.args.call.now in
    let d = c.in-Granted.d in
    let description = c.in-Granted.description in
    let rest = g.S.Source.rest c.args.source.now in
    let after = inputs c.args.most c.read_from.new.disk c.read_from.new.opened c.read_from.new.ahead (g.S.Source.rest c.read_from.new.source) in
    subst (λ (room : Room). ReadGives put_at (read_of m call) room old new (inputs c.args.most c.args.disk.now c.args.opened.now c.args.ahead.now rest) after c.read_from.result) (sym (room-there m call.a1 call.a2 c.in-Granted.ensures.room))
    (reads-by put_at (read_of m call) (λ s. read_target s d description call.a2 description.target) (there call.a1 call.a2) old new c.args.most c.args.disk.now c.args.opened.now c.args.ahead.now rest after c.read_from.result c.in-Granted.ensures.is c.read_from.ensures.served)
