use Rattle.std.proofs.Common.{ap, sym, subst, ◌∙◌, arith}
use Rattle.std.proofs.lemmas.List.{get_or_past}
use Rattle.mips_memory.specs.Pages.{Pages, IsSound, memory_of}
use Rattle.mips_memory.proofs.MapLemmas.{IsSound-added, memory_of-added, added_is}
use Rattle.mips_memory.proofs.memory.GuestMemory.map_zero_page.Goals as goal

pub invariant_of-self : goal.invariant_of-self
invariant_of-self c =
    let p = c.args.self.now in
    let e = c.page_at.result in
    let bs = c.grow.new.self.bytes in
    subst IsSound (sym (added_is p c.self.inside.table.items c.args.page e bs c.self.inside.bytes.items (ap (λ (q : Pages). q.table) c.self.view_is ∙ c.in_ok-place.ensures.table) (ap (λ (q : Pages). q.bytes) c.self.view_is)))
    (IsSound-added p c.args.page c.shift_to.result e bs c.in_ok-place.ensures.sound c.requires.low c.in_ok-place.ensures.size c.page_at.ensures.there (c.shift_to.ensures ∙ c.in_ok-place.ensures.place))

pub returns-clause-ok : goal.returns-clause-ok
returns-clause-ok c =
    let p = c.args.self.now in
    let e = c.page_at.result in
    let bs = c.grow.new.self.bytes in
    ap memory_of (added_is p c.self.inside.table.items c.args.page e bs c.self.inside.bytes.items (ap (λ (q : Pages). q.table) c.self.view_is ∙ c.in_ok-place.ensures.table) (ap (λ (q : Pages). q.bytes) c.self.view_is))
    ∙ memory_of-added p c.args.page c.shift_to.result e bs c.in_ok-place.ensures.sound c.requires.low c.in_ok-place.ensures.size c.page_at.ensures.there (c.shift_to.ensures ∙ c.in_ok-place.ensures.place)
    (λ i h. c.in_ok-place.ensures.bytes i) (λ a. 0)
    (λ a. c.in_ok-place.ensures.bytes _ ∙ get_or_past p.bytes _ 0 (omega arith))
    c.args.writable c.page_at.ensures.kind
