use Rattle.std.proofs.Common.{◌≡◌, true, ap, ◌∙◌}
use Rattle.unix_calls.proofs.input.put_byte.Goals as goal

pub returns-clause-same_room : goal.returns-clause-same_room
returns-clause-same_room g c x =
    let before = g.M.View.content c.args.view.now in
    let w : c.put.result ≡ true = c.put.ensures.answer ∙ c.requires in
    let after : g.M.View.content c.put.new.self ≡ g.M.View.put_at before c.args.at c.args.b = rw w at c.put.ensures.after in
    ap (λ k. (g.M.View.memory k).writable x) after ∙ c.laws.ensures.writable_stays before c.args.at c.args.b x c.ranges.b.fits c.requires
