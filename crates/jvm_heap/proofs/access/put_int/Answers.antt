use Rattle.std.proofs.Common.{◌<◌, [], ◌∷◌, ap, sym, subst, ◌∙◌}
use Rattle.int_region.specs.Arrays.{Contents}
use Rattle.jvm_definition.specs.Values.{is_ints_reference}
use Rattle.jvm_activations.specs.Stack.{on_top}
use Rattle.jvm_heap.specs.Regions.{heap_of}
use Rattle.jvm_heap.proofs.AccessLaws.{int_put, ints_at}
use Rattle.jvm_heap.proofs.SafetyLaws.{safe_int}
use Rattle.jvm_heap.proofs.access.put_int.Goals as goal

pub returns-clause-does : goal.returns-clause-does
returns-clause-does c = λ _ others.
    int_put c.args.region.now.arrays c.put.new.self.arrays c.args.region.now.size c.args.n c.args.i c.in-Array.place c.args.ints c.in-Array.is c.requires
    (subst (λ m. c.args.i < m) c.len.ensures c.if-len-i.false) (ap (λ (r : Contents). r.arrays) c.put.ensures.changed) others

pub returns-clause-safe : goal.returns-clause-safe
returns-clause-safe c readable writable safe =
    let found = ints_at c.args.region.now.arrays c.in-Array.place (ap (λ v. on_top (is_ints_reference (heap_of c.args.region.now.arrays) ∷ []) (v ∷ [])) (sym c.in-Array.is) ∙ c.requires) in
    safe_int c.args.region.now c.put.new.self readable writable c.in-Array.place c.args.i c.args.n found safe c.put.ensures.sound (subst (λ m. c.args.i < m) c.len.ensures c.if-len-i.false)
    (ap (λ (r : Contents). r.arrays) c.put.ensures.changed)
