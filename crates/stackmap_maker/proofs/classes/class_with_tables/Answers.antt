use Rattle.std.proofs.Common.{◌≡◌, ◌+◌, ◌*◌, ◌≤◌, length, refl, sym, ap, subst, ◌∙◌, arith}
use Rattle.stackmap_pool.specs.Longer.{framed_pool}
use Rattle.stackmap_maker.specs.Sizes.{pool_size}
use Rattle.class_definition.specs.declared.class.Class.{Class}
use Rattle.stackmap_maker.proofs.Within.{class-made}
use Rattle.stackmap_maker.proofs.classes.class_with_tables.Goals as goal

pub returns-clause-made : goal.returns-clause-made
returns-clause-made c =
    let class = c.args.class.now in
    let made : Class = record { pool = c.new.result; this_class = class.this_class; super_class = class.super_class; fields = c.new-2.result; methods = c.new-3.result } in
    let tabled = c.in-Some-2.tabled in
    let pool = rw c.in-Some.is at c.in_ok-pool.ensures in
    let few = subst (λ x. length x ≤ 65534) (sym c.deref-2.ensures.value) pool.1 in
    let front : c.in_ok-front.front ≡ 24 + pool_size c.deref-2.result.now + 8 * length class.fields = omega (arith, c.in_ok-front.ensures, ap pool_size c.deref.ensures.value, ap pool_size c.deref-2.ensures.value, ap length c.as_slice-2.ensures) in
    let fields = c.new-2.ensures ∙ (c.in_ok-fields.ensures.items ∙ c.as_slice-3.ensures) in
    class-made c.args.linked.now.classes c.args.number class c.args.most c.in_ok-front.front c.left-room.result tabled.bytes c.in_ok-bytes.bytes made c.new-4.result tabled.tables.items
    c.deref-2.result.now tabled.methods.items (c.new.ensures ∙ sym c.deref-2.ensures.value) c.new-3.ensures c.new-4.ensures c.left-room.ensures (c.deref-2.ensures.value ∙ (pool.0 ∙ ap framed_pool c.as_slice.ensures))
    few refl refl fields front c.in_ok-bytes.ensures (rw c.in-Some-2.is at c.in_ok-tabled.ensures)
