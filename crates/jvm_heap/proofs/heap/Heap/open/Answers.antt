use Rattle.std.proofs.Common.{ℕ, ◌<◌, true, List, Option, Some, None, refl, sym, subst}
use Rattle.std.specs.Prelude.{IsTrue}
use Rattle.std.proofs.lemmas.Bool.{and_from}
use Rattle.int_region.specs.Arrays.{Block, kind_at}
use Rattle.jvm_definition.specs.Values.{is_pages_reference, reference_value}
use Rattle.jvm_definition.specs.declared.value.Value.TheVariants.{Array as array}
use Rattle.jvm_heap.specs.Regions.{heap_of}
use Rattle.jvm_heap.specs.Heaps.{IsTable, Held}
use Rattle.jvm_heap.proofs.AccessLaws.{pages_at}
use Rattle.jvm_heap.proofs.heap.Heap.open.Goals as goal

table : (arrays : List Block) (t : Option ℕ) → ((p : ℕ) → kind_at arrays p < 2) → IsTrue (is_pages_reference (heap_of arrays) (reference_value t)) → IsTable arrays t
table arrays None kinds h = tt
table arrays (Some p) kinds h =
    let found = pages_at arrays p (kinds p) (and_from (is_pages_reference (heap_of arrays) (array p)) true h refl) in
    record { block = found.block; there = found.there; kind_is = found.kind }

pub invariant_of-self : goal.invariant_of-self
invariant_of-self c =
    let region = c.self.inside.region in
    let reads = subst (λ (h : Held). IsTrue (is_pages_reference (heap_of h.region.arrays) (reference_value c.args.readable))) (sym c.self.view_is) c.requires.reads in
    let writes = subst (λ (h : Held). IsTrue (is_pages_reference (heap_of h.region.arrays) (reference_value c.args.writable))) (sym c.self.view_is) c.requires.writes in
    record {
      sound = c.self.invariant.sound;
      elements = c.self.invariant.elements;
      reads = table region.arrays c.args.readable c.self.invariant.sound.kinds reads;
      writes = table region.arrays c.args.writable c.self.invariant.sound.kinds writes;
    }
