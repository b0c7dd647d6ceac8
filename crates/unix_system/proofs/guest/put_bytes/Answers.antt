use Rattle.std.proofs.Common.{◌≡◌, ◌+◌, ◌<◌, true, length, drop, get_or, ◌∙◌, sym, ap, arith}
use Rattle.std.proofs.lemmas.List.{at_drop_more, at_drop_all}
use Rattle.run_definition.specs.Memory.{patched}
use Rattle.nv_events.proofs.Rooms.{below_end, writable_in, bytes_fit}
use Rattle.unix_system.proofs.guest.put_bytes.Goals as goal

pub overflow_cast-i : goal.overflow_cast-i
overflow_cast-i g c =
    let content = g.M.View.content c.args.view.now in
    let m = g.M.View.memory content in
    let b = below_end m (c.laws.ensures.written_is_readable content) (c.laws.ensures.ends content) (c.args.place + c.loop-i.i) (writable_in m c.args.place (length c.args.bytes.now) c.loop-i.i c.requires (omega arith)) in
    omega (arith, b)

pub overflow_add-place : goal.overflow_add-place
overflow_add-place g c =
    let content = g.M.View.content c.args.view.now in
    let m = g.M.View.memory content in
    let b = below_end m (c.laws.ensures.written_is_readable content) (c.laws.ensures.ends content) (c.args.place + c.loop-i.i) (writable_in m c.args.place (length c.args.bytes.now) c.loop-i.i c.requires (omega arith)) in
    omega (arith, b)

pub loop-i-preserved : goal.loop-i-preserved
loop-i-preserved g c =
    let patch = c.args.bytes.now in
    let at = c.args.place + c.loop-i.i in
    let b = get_or patch c.loop-i.i 0 in
    let before = g.M.View.content c.loop-i.view in
    let first = g.M.View.memory (g.M.View.content c.args.view.now) in
    let put_at = g.M.View.put_at in
    let room = c.loop-i.invariant.same_room at ∙ writable_in first c.args.place (length patch) c.loop-i.i c.requires c.loop-i-test.true in
    let w : c.put.result ≡ true = c.put.ensures.answer ∙ room in
    let after : g.M.View.content c.put.new.self ≡ put_at before at b = rw w at c.put.ensures.after in
    let small : b < 256 = omega (arith, c.type_inv.bytes c.loop-i.i) in
    let next : at + 1 ≡ c.args.place + (c.loop-i.i + 1) = omega arith in
    record {
      same_room = λ x. ap (λ k. (g.M.View.memory k).writable x) after ∙ c.laws.ensures.writable_stays before at b x small room ∙ c.loop-i.invariant.same_room x;
      so_far = ap (λ k. patched put_at k (c.args.place + (c.loop-i.i + 1)) (drop (c.loop-i.i + 1) patch)) after
          ∙ ap (λ a. patched put_at (put_at before at b) a (drop (c.loop-i.i + 1) patch)) (sym next)
          ∙ sym (at_drop_more (patched put_at before at) patch c.loop-i.i 0 c.loop-i-test.true)
          ∙ c.loop-i.invariant.so_far;
    }

pub returns-clause-small : goal.returns-clause-small
returns-clause-small g c = bytes_fit c.args.bytes.now (λ i. omega (arith, c.type_inv.bytes i))

pub returns-clause-after : goal.returns-clause-after
returns-clause-after g c =
    let content = g.M.View.content c.loop-i.view in
    let all = at_drop_all (patched g.M.View.put_at content (c.args.place + c.loop-i.i)) c.args.bytes.now c.loop-i.i c.loop-i-test.false in
    sym all ∙ c.loop-i.invariant.so_far
