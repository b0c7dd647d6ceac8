use Rattle.std.proofs.Common.{◌∙◌}
use Rattle.class_names.specs.Keys.{classes_in}
use Rattle.class_names.proofs.FaultLemmas.{field_fault_is}
use Rattle.class_names.proofs.references.field_fault.Goals as goal

pub returns : goal.returns
returns c =
    let n = c.args.names.now in
    let a = n.numbered in
    c.fault.ensures
    ∙ field_fault_is a.texts.keys a.texts_are n.class_names.keys n.fields n.methods (classes_in a.classes.items) n.knows c.args.class.now c.requires c.args.owner c.args.name c.key.result c.key.ensures
