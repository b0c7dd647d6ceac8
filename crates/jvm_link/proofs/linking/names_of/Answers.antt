use Rattle.std.proofs.Common.{◌∙◌, [], ap, sym}
use Rattle.class_definition.specs.LinkFault.{twice_fault}
use Rattle.class_names.specs.declared.numbered.Numbered.{Numbered}
use Rattle.class_names.specs.Keys.{classes_in}
use Rattle.jvm_link.proofs.LinkLemmas.{refused_there}
use Rattle.jvm_link.proofs.linking.names_of.Goals as goal

pub returns-in-Some-references_fault-clause-refused : goal.returns-in-Some-references_fault-clause-refused
returns-in-Some-references_fault-clause-refused c =
    let renamed = c.in_ok-names.ensures in
    let same = ap (λ (n : Numbered). classes_in n.classes.items) renamed ∙ c.in_ok-numbered.ensures in
    let once = ap (λ (n : Numbered). twice_fault [] 0 (classes_in n.classes.items)) renamed ∙ sym c.in_ok-fault.ensures ∙ c.in_default.is in
    refused_there c.args.classes.now (classes_in c.in_ok-names.names.numbered.classes.items) c.in-Some-references_fault.fault c.requires.few same once c.in-Some-references_fault.ensures
