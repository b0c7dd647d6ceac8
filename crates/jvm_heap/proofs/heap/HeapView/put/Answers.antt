use Rattle.std.proofs.Common.{◌≡◌, ℕ, ◌<◌, ◌%◌, List, length, subst, ap, ◌∙◌, Option, Some, arith}
use Rattle.run_definition.specs.Words.{word_with_lane}
use Rattle.int_region.specs.Arrays.{Block, Contents, values_at, values_in, with_value, IsSound}
use Rattle.jvm_definition.specs.Values.{with_int}
use Rattle.jvm_definition.specs.HostMemory.{cell_of, with_cell, with_host_byte}
use Rattle.jvm_heap.specs.Regions.{heap_of}
use Rattle.jvm_heap.specs.Heaps.{StandsAt, IsSafe, Held, host_memory, seen, with_seen_byte}
use Rattle.jvm_heap.proofs.HeapLaws.{heap_put_int}
use Rattle.jvm_heap.proofs.SafetyLaws.{safe_put}
use Rattle.jvm_heap.proofs.heap.HeapView.put.Goals as goal

inside : (arrays : List Block) (p i : ℕ) (s : StandsAt arrays p 0) → i < length (values_at arrays p) → i < length s.block.values
inside arrays p i s h = subst (λ o. i < length (values_in o)) s.there h

kept : (region after : Contents) (readable writable : Option ℕ) (p i v : ℕ) → IsSafe region readable writable → IsSound after → StandsAt region.arrays p 0 → i < length (values_at region.arrays p) → after ≡ record { size = region.size; arrays = with_value region.arrays p i v } → IsSafe after readable writable
kept region after readable writable p i v safe sound s h made =
    safe_put region after readable writable p i v s.block safe sound (ap (λ (r : Contents). r.arrays) made) s.there (inside region.arrays p i s h)
    (λ kind. absurd (omega (arith, kind, s.kind_is)))

put : (region after : Contents) (readable writable : Option ℕ) (at b p i w v : ℕ) → StandsAt region.arrays p 0 → i < length (values_at region.arrays p) → after ≡ record { size = region.size; arrays = with_value region.arrays p i v } → Some (record { place = p; index = i; word = w }) ≡ cell_of (heap_of region.arrays) writable at → v ≡ word_with_lane w (at % 4) b → host_memory (record { region = after; readable = readable; writable = writable }) ≡ with_host_byte (host_memory (record { region = region; readable = readable; writable = writable })) at b
put region after readable writable at b p i w v s h made cell word =
    ap (λ (r : Contents). host_memory (record { region = r; readable = readable; writable = writable })) made
    ∙ (λ j. record { heap = heap_put_int region.arrays p i v s.block s.there s.kind_is (inside region.arrays p i s h) j; readable = readable; writable = writable })
    ∙ (λ j. record { heap = with_int (heap_of region.arrays) p i (word j); readable = readable; writable = writable })
    ∙ (λ j. record { heap = with_cell (heap_of region.arrays) (cell j) (at % 4) b; readable = readable; writable = writable })

pub invariant_of-self : goal.invariant_of-self
invariant_of-self c =
    kept c.self.inside.region c.put.new.self c.self.inside.readable c.self.inside.writable c.in-Some.cell.place c.in-Some.cell.index c.with_lane-word.result c.self.invariant c.put.ensures.sound c.in-Some.ensures.live c.in-Some.ensures.within c.put.ensures.changed

put_seen : (region after : Contents) (readable writable : Option ℕ) (at b p i w v : ℕ) → StandsAt region.arrays p 0 → i < length (values_at region.arrays p) → after ≡ record { size = region.size; arrays = with_value region.arrays p i v } → Some (record { place = p; index = i; word = w }) ≡ cell_of (heap_of region.arrays) writable at → v ≡ word_with_lane w (at % 4) b → seen (record { region = after; readable = readable; writable = writable }) ≡ with_seen_byte (seen (record { region = region; readable = readable; writable = writable })) at b
put_seen region after readable writable at b p i w v s h made cell word =
    let memory = put region after readable writable at b p i w v s h made cell word in
    let size : after.size ≡ region.size = ap (λ (r : Contents). r.size) made in
    λ j. record { memory = memory j; size = size j }

pub returns-in-Some-clause-after : goal.returns-in-Some-clause-after
returns-in-Some-clause-after c =
    put_seen c.self.inside.region c.put.new.self c.self.inside.readable c.self.inside.writable c.args.at c.args.b c.in-Some.cell.place c.in-Some.cell.index c.in-Some.cell.word c.with_lane-word.result c.in-Some.ensures.live c.in-Some.ensures.within c.put.ensures.changed c.in-Some.ensures.found c.with_lane-word.ensures.value
    ∙ ap (λ (h : Held). with_seen_byte (seen h) c.args.at c.args.b) c.self.view_is
