use Rattle.std.proofs.Common.{◌≡◌, List, None, ◌∙◌, sym, subst}
use Rattle.class_definition.specs.declared.class.Class.{Class}
use Rattle.class_definition.specs.LinkFault.{link_fault}
use Rattle.jvm_link.proofs.LinkLemmas.{run_there_if}
use Rattle.jvm_link.proofs.LinkedLaws.{linked_if}
use Rattle.jvm_link.proofs.linking.link.Goals as goal

pub returns-clause-well_linked : goal.returns-clause-well_linked
returns-clause-well_linked c =
    let P : List Class → Type 0 = λ cs. link_fault cs ≡ None in
    let same = c.as_slice.ensures.value ∙ sym c.new.ensures in
    linked_if c.new.result (run_there_if c.new.result (subst P same c.in_ok-program.ensures.faultless))
