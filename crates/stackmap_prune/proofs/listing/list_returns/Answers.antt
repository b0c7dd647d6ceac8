use Rattle.std.proofs.Common.{◌+◌, ◌++◌, [], ◌∷◌, sym, ap, ◌∙◌, append-nil}
use Rattle.stackmap_prune.specs.Linked.{is_marked, linked_returns}
use Rattle.stackmap_prune.proofs.LinkedLaws.{more, return_at, listed-more, linked-next}
use Rattle.stackmap_prune.proofs.listing.list_returns.Goals as goal

pub loop-i-init : goal.loop-i-init
loop-i-init c name = sym (append-nil c.args.listed.now.items)

pub loop-i-preserved : goal.loop-i-preserved
loop-i-preserved c name =
    let m = c.args.method.now in
    let must = is_marked c.args.marks.now in
    let old = c.args.listed.now.items in
    let i = c.loop-i.i in
    listed-more must c.args.reached.now m.gives_int m.parameters old c.loop-i.listed.items c.list_at.new.listed.items (linked_returns name c.args.at i) (return_at name (c.args.at + i) ∷ []) (c.loop-i.invariant name) c.in_ok-list_at.ensures
    ∙ ap (λ ls. old ++ more must c.args.reached.now m.gives_int m.parameters old ls) (sym (linked-next name c.args.at i))
