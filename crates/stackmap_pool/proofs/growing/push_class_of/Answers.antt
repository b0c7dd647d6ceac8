use Rattle.std.proofs.Common.{◌≡◌, Some, sym, ap, ◌∙◌, arith}
use Rattle.stackmap_pool.specs.Longer.{is_text_entry, first_text_slot}
use Rattle.stackmap_pool.proofs.PoolLaws.{slot-near}
use Rattle.stackmap_pool.proofs.growing.push_class_of.Goals as goal

pub overflow_cast-slot : goal.overflow_cast-slot
overflow_cast-slot c =
    let pool = c.args.pool.now.items in
    let found : first_text_slot c.args.name.now pool ≡ Some c.in-Some.slot = sym (c.text_slot.ensures ∙ ap (first_text_slot c.args.name.now) c.deref-2.ensures.value) ∙ c.in-Some.is in
    let near = slot-near (is_text_entry c.args.name.now) pool c.in-Some.slot found in
    omega (arith, near, c.requires)
