use Rattle.jvm_definition.specs.declared.instruction.Instruction.TheVariants.{Get, Put}
use Rattle.emit_classes.proofs.Meant.{field-meant}
use Rattle.emit_classes.proofs.laws.fields_are_meant.Goals as goal

pub returns-clause-get : goal.returns-clause-get
returns-clause-get c =
    λ classes number d pool slot class n owner name descriptor x of m is. field-meant d pool x classes Get slot class n owner name
    descriptor of m is

pub returns-clause-put : goal.returns-clause-put
returns-clause-put c =
    λ classes number d pool slot class n owner name descriptor x of m is. field-meant d pool x classes Put slot class n owner name
    descriptor of m is
