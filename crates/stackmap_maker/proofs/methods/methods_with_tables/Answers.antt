use Rattle.std.proofs.Common.{◌≡◌, length, ap, subst, ◌∙◌, arith}
use Rattle.stackmap_laws.proofs.FramedLaws.{get-of}
use Rattle.stackmap_maker.specs.Made.{AreMadeWithin, IsMadeWithin}
use Rattle.stackmap_maker.proofs.Steps.{take-all, references-of}
use Rattle.stackmap_maker.proofs.Within.{none-within, next-within}
use Rattle.stackmap_maker.proofs.methods.methods_with_tables.Goals as goal

pub loop-method-init : goal.loop-method-init
loop-method-init c =
    none-within c.args.linked.now.classes c.args.number c.args.class.now c.args.pool.now c.args.room c.args.class.now.methods c.new-methods.result.items c.new-tables.result.items c.new-methods.ensures.items c.new-tables.ensures.items

pub method_with_table-requires-clause-references : goal.method_with_table-requires-clause-references
method_with_table-requires-clause-references c =
    let slots = c.reference_slots-slots in
    references-of c.args.pool.now c.args.class.now.pool slots.result c.requires.pool c.requires.few slots.ensures.ints slots.ensures.pages slots.ensures.text

pub method_with_table-requires-clause-within : goal.method_with_table-requires-clause-within
method_with_table-requires-clause-within c = omega (arith, c.loop-method-test.true, ap length c.as_slice-count.ensures)

pub loop-method-preserved : goal.loop-method-preserved
loop-method-preserved c =
    let class = c.args.class.now in
    let i = c.loop-method.method in
    let m = get-of class.methods i (omega (arith, c.loop-method-test.true, ap length c.as_slice-count.ensures)) in
    let t = c.in-Some.tabled in
    let own = subst (λ k. IsMadeWithin c.args.linked.now.classes c.args.number class c.args.pool.now k m.0 t.method t.table.bytes t.table.size) c.left.ensures ((rw c.in-Some.is at c.in_ok-tabled.ensures) m.0 m.1) in
    next-within c.args.linked.now.classes c.args.number class c.args.pool.now c.args.room class.methods i m.0 t.method t.table.bytes
    c.loop-method.methods.items c.push.new.self.items c.loop-method.tables.items c.push-in-loop-method.new.self.items c.loop-method.bytes t.table.size c.in_ok-bytes.bytes
    m.1 c.in_ok-push.ensures.items c.in_ok-push-2.ensures.items c.in_ok-bytes.ensures c.loop-method.invariant own

pub returns : goal.returns
returns c =
    let class = c.args.class.now in
    let i = c.loop-method.method in
    let end : i ≡ length class.methods = omega (arith, c.loop-method-test.false, c.loop-method.auto.method-end, ap length c.as_slice-count.ensures) in
    subst (λ z. AreMadeWithin c.args.linked.now.classes c.args.number class c.args.pool.now c.args.room z c.loop-method.methods.items c.loop-method.tables.items c.loop-method.bytes) (take-all class.methods i end) c.loop-method.invariant
