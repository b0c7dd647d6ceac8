use Rattle.std.proofs.Common.{◌∙◌, sym}
use Rattle.class_names.specs.Keys.{classes_in}
use Rattle.class_names.proofs.FaultLemmas.{class_there, method_fault_is, known_fault_is}
use Rattle.class_names.proofs.references.method_fault.Goals as goal

pub returns-then-contains : goal.returns-then-contains
returns-then-contains c =
    let n = c.args.names.now in
    let a = n.numbered in
    let x = c.args.class.now in
    let there = sym (class_there a.texts.keys a.texts_are n.class_names.keys n.fields n.methods (classes_in a.classes.items) n.knows x c.requires c.args.owner c.args.name c.class_number.result c.class_number.ensures) ∙ sym c.contains.ensures ∙ c.if-contains.true in
    c.fault.ensures ∙ method_fault_is a.texts.keys a.texts_are n.class_names.keys n.fields n.methods (classes_in a.classes.items) n.knows x c.requires c.args.owner c.args.name c.key.result c.key.ensures there

pub returns-else-contains : goal.returns-else-contains
returns-else-contains c =
    let n = c.args.names.now in
    let a = n.numbered in
    let x = c.args.class.now in
    let gone = sym (class_there a.texts.keys a.texts_are n.class_names.keys n.fields n.methods (classes_in a.classes.items) n.knows x c.requires c.args.owner c.args.name c.class_number.result c.class_number.ensures) ∙ sym c.contains.ensures ∙ c.if-contains.false in
    c.known_method_fault.ensures
    ∙ known_fault_is a.texts.keys a.texts_are n.class_names.keys n.fields n.methods (classes_in a.classes.items) n.knows x c.requires c.args.owner c.args.name _ _ c.class_name_at.ensures c.signature_at.ensures gone
