use Rattle.std.proofs.Common.{◌≡◌, ◌+◌, ◌/◌, ◌%◌, ℕ, List, length, ap, sym, subst, ◌∙◌, arith}
use Rattle.std.specs.Prelude.{slice_index}
use Rattle.std.proofs.lemmas.List.{with_items_is}
use Rattle.run_definition.specs.Words.{lane_of_word}
use Rattle.mips_memory.specs.Pages.{Pages, IsSound, memory_of}
use Rattle.mips_memory.proofs.MapLemmas.{IsSound-added, memory_of-added, added_is, page_lane}
use Rattle.mips_memory.proofs.memory.GuestMemory.map_page.Goals as goal

pub invariant_of-self : goal.invariant_of-self
invariant_of-self c =
    let p = c.args.self.now in
    let e = c.page_at.result in
    let now = c.put_words.new.bytes in
    let v = c.self.inside.bytes in
    let old = c.put_words.ensures.size ∙ ap (λ (l : List ℕ). length l) c.deref_mut.ensures.value in
    let size : length now ≡ length p.bytes + 4096 = old ∙ ap (λ (q : Pages). length q.bytes) c.self.view_is ∙ c.in_ok-place.ensures.size in
    subst IsSound (sym (added_is p c.self.inside.table.items c.args.page e now _ (ap (λ (q : Pages). q.table) c.self.view_is ∙ c.in_ok-place.ensures.table) (with_items_is v now (old ∙ sym v.ok.0))))
    (IsSound-added p c.args.page c.shift_to.result e now c.in_ok-place.ensures.sound c.requires.low size c.page_at.ensures.there (c.shift_to.ensures ∙ c.in_ok-place.ensures.place))

pub returns-clause-ok : goal.returns-clause-ok
returns-clause-ok c =
    let p = c.args.self.now in
    let e = c.page_at.result in
    let now = c.put_words.new.bytes in
    let v = c.self.inside.bytes in
    let old = c.put_words.ensures.size ∙ ap (λ (l : List ℕ). length l) c.deref_mut.ensures.value in
    let size : length now ≡ length p.bytes + 4096 = old ∙ ap (λ (q : Pages). length q.bytes) c.self.view_is ∙ c.in_ok-place.ensures.size in
    ap memory_of (added_is p c.self.inside.table.items c.args.page e now _ (ap (λ (q : Pages). q.table) c.self.view_is ∙ c.in_ok-place.ensures.table) (with_items_is v now (old ∙ sym v.ok.0)))
    ∙ memory_of-added p c.args.page c.shift_to.result e now c.in_ok-place.ensures.sound c.requires.low size c.page_at.ensures.there (c.shift_to.ensures ∙ c.in_ok-place.ensures.place)
    (λ i h. c.put_words.ensures.before i (omega (arith, h, c.in_ok-place.ensures.place)) ∙ ap (λ (l : List ℕ). slice_index l i) (c.deref_mut.ensures.value ∙ ap (λ (q : Pages). q.bytes) c.self.view_is) ∙ c.in_ok-place.ensures.bytes i)
    (λ a. lane_of_word (slice_index c.args.words.now (a / 4 % 1024)) (a % 4))
    (λ a. ap (λ n. slice_index now (n + a % 4096)) (sym c.in_ok-place.ensures.place) ∙ c.put_words.ensures.words (a % 4096) ∙ page_lane c.args.words.now a)
    c.args.writable c.page_at.ensures.kind
