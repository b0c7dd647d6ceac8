use Rattle.std.proofs.Common.{◌≡◌, ◌+◌, ◌<◌, true, length, take, drop, get_or, ◌∙◌, sym, ap, arith}
use Rattle.std.proofs.lemmas.List.{take_more, get_or-drop, length-drop, length-take-le}
use Rattle.run_definition.specs.Memory.{patched}
use Rattle.nv_events.proofs.Rooms.{below_end, writable_in}
use Rattle.unix_definition.specs.Files.{bytes_at}
use Rattle.unix_system.proofs.ReadLemmas.{patched-more}
use Rattle.unix_system.proofs.RoomLemmas.{more-small}
use Rattle.unix_system.proofs.file_calls.copy_out.Goals as goal

pub overflow_add-place : goal.overflow_add-place
overflow_add-place g c =
    let content = g.M.View.content c.args.view.now in
    let m = g.M.View.memory content in
    let b = below_end m (c.laws.ensures.written_is_readable content) (c.laws.ensures.ends content) (c.args.place + c.loop-i.i) (writable_in m c.args.place c.args.count c.loop-i.i c.requires.room (omega arith)) in
    omega (arith, b)

pub loop-i-preserved : goal.loop-i-preserved
loop-i-preserved g c =
    let at = c.args.place + c.loop-i.i in
    let file = bytes_at c.args.disk.now c.args.n in
    let rest = drop c.args.from file in
    let before = g.M.View.content c.loop-i.view in
    let start = g.M.View.content c.args.view.now in
    let first = g.M.View.memory start in
    let put_at = g.M.View.put_at in
    let room = c.loop-i.invariant.same_room at ∙ writable_in first c.args.place c.args.count c.loop-i.i c.requires.room c.loop-i-test.true in
    let w : c.put.result ≡ true = c.put.ensures.answer ∙ room in
    let after : g.M.View.content c.put.new.self ≡ put_at before at c.byte-b.result = rw w at c.put.ensures.after in
    let small : c.byte-b.result < 256 = c.byte-b.type_inv in
    let long : c.loop-i.i < length rest = let u = c.loop-i-test.true in let t = c.requires.there (omega arith) in omega (arith, length-drop c.args.from file) in
    let is : c.byte-b.result ≡ get_or rest c.loop-i.i 0 = c.byte-b.ensures.value ∙ (ap (λ d. get_or (bytes_at d c.args.n) (c.args.from + c.loop-i.i) 0) c.loop-i.invariant.same ∙ sym (get_or-drop c.args.from file c.loop-i.i 0)) in
    let taken : length (take c.loop-i.i rest) ≡ c.loop-i.i = length-take-le c.loop-i.i rest (omega arith) in
    record {
      same_room = λ x. ap (λ k. (g.M.View.memory k).writable x) after ∙ c.laws.ensures.writable_stays before at c.byte-b.result x small room ∙ c.loop-i.invariant.same_room x;
      so_far = after
          ∙ (ap (λ k. put_at k at c.byte-b.result) c.loop-i.invariant.so_far
          ∙ (ap (λ b. put_at (patched put_at start c.args.place (take c.loop-i.i rest)) at b) is
          ∙ (ap (λ n. put_at (patched put_at start c.args.place (take c.loop-i.i rest)) (c.args.place + n) (get_or rest c.loop-i.i 0)) (sym taken)
          ∙ (sym (patched-more put_at start c.args.place (take c.loop-i.i rest) (get_or rest c.loop-i.i 0)) ∙ ap (patched put_at start c.args.place) (sym (take_more rest c.loop-i.i 0 long))))));
      small = more-small rest c.loop-i.i long (rw (← is) small) c.loop-i.invariant.small;
      same = c.byte-b.ensures.same ∙ c.loop-i.invariant.same;
    }
