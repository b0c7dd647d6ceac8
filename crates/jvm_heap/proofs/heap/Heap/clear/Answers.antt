use Rattle.std.proofs.Common.{◌≡◌, [], None, refl, ap, ◌∙◌}
use Rattle.jvm_heap.specs.Heaps.{Held}
use Rattle.jvm_heap.proofs.SafetyLaws.{safe_none}
use Rattle.jvm_heap.proofs.heap.Heap.clear.Goals as goal

pub invariant_of-self : goal.invariant_of-self
invariant_of-self c = safe_none c.release.new.self c.release.ensures.sound (c.release.ensures.kept 0 refl)

pub returns : goal.returns
returns c =
    let none : c.release.new.self.arrays ≡ [] = c.release.ensures.kept 0 refl in
    let size : c.release.new.self.size ≡ c.args.self.now.region.size = c.release.ensures.size ∙ ap (λ (h : Held). h.region.size) c.self.view_is in
    λ i. record { region = record { size = size i; arrays = none i }; readable = None; writable = None }
