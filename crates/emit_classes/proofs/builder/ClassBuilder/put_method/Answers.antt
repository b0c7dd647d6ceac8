use Rattle.std.proofs.Common.{◌≡◌, ◌<◌, true, length, sym, subst, arith}
use Rattle.class_definition.specs.declared.class.Class.{Class}
use Rattle.emit_assembly.specs.Assembling.{slots_of}
use Rattle.emit_classes.specs.Code.{is_code}
use Rattle.emit_classes.proofs.Coded.{code-later}
use Rattle.emit_classes.proofs.Added.{named-later, method-added}
use Rattle.emit_classes.proofs.Written.{written-grown, written-further, written-methods, written-method}
use Rattle.emit_classes.proofs.builder.ClassBuilder.put_method.Goals as goal

pub invariant_of-self : goal.invariant_of-self
invariant_of-self c = written-grown c.self.inside c.method_slots.new.pool 2 c.self.invariant c.method_slots.ensures.grown

pub add_code-requires : goal.add_code-requires
add_code-requires c =
    code-later c.args.references.now c.self.inside.pool c.method_slots.new.pool c.args.code.now c.method_slots.ensures.grown.kept
    (subst (λ (d : Class). is_code c.args.references.now d.pool c.args.code.now ≡ true) (sym c.self.view_is) c.requires.code)

pub invariant_of-self-in_err-bytes : goal.invariant_of-self-in_err-bytes
invariant_of-self-in_err-bytes c =
    written-further c.self.inside c.method_slots.new.pool c.add_code.new.self 2 (slots_of c.args.code.now) c.self.invariant
    c.method_slots.ensures.grown c.add_code.ensures.grown

pub invariant_of-self-in_err-push : goal.invariant_of-self-in_err-push
invariant_of-self-in_err-push c =
    written-methods c.self.inside c.method_slots.new.pool c.add_code.new.self 2 (slots_of c.args.code.now) c.self.invariant
    c.method_slots.ensures.grown c.add_code.ensures.grown c.push.new.self c.in_err-push.ensures.items

pub invariant_of-self-2 : goal.invariant_of-self-2
invariant_of-self-2 c =
    let name = c.args.name.now in
    let descriptor = c.args.descriptor.now in
    let slots = c.in_ok-slots.slots in
    let few = subst (λ (d : Class). length d.methods < 65535) (sym c.self.view_is) c.requires.few in
    let named = named-later c.method_slots.new.pool c.add_code.new.self slots name descriptor c.add_code.ensures.grown.kept
    c.in_ok-slots.ensures.there in
    written-method c.self.inside c.method_slots.new.pool c.add_code.new.self 2 (slots_of c.args.code.now) c.self.invariant
    c.method_slots.ensures.grown c.add_code.ensures.grown c.push.new.self slots c.args.locals c.new.result name descriptor named
    c.in_ok-slots.ensures.lawful (omega (arith, few)) (omega (arith, few)) (omega (arith, few)) (omega (arith, few))
    (rw c.new.ensures c.in_ok-bytes.ensures.sound) (omega arith) c.in_ok-push.ensures.items

pub returns-clause-added : goal.returns-clause-added
returns-clause-added c =
    method-added c.self.inside c.args.self.now c.method_slots.new.pool c.add_code.new.self c.push.new.self c.in_ok-slots.slots
    c.args.locals c.args.references.now c.args.code.now
    c.in_ok-bytes.bytes.items c.new.result c.args.name.now c.args.descriptor.now c.self.view_is c.method_slots.ensures.grown
    c.add_code.ensures.grown c.in_ok-slots.ensures.mentions c.add_code.ensures.mentions c.in_ok-slots.ensures.there
    c.in_ok-bytes.ensures.lines c.new.ensures c.in_ok-push.ensures.items
