use Rattle.std.proofs.Common.{codes}
use Rattle.class_definition.specs.MemberNames.{host_name}
use Rattle.class_definition.specs.Linking.{static_call}
use Rattle.emit_classes.proofs.Meant.{method-meant}
use Rattle.emit_classes.proofs.laws.host_is_meant.Goals as goal

pub returns-clause-call : goal.returns-clause-call
returns-clause-call c =
    λ classes number d pool slot class x of m. method-meant d pool x (static_call classes) slot class host_name (codes "call")
    (codes "([[I[[IIIIII)I") of m

pub returns-clause-fault : goal.returns-clause-fault
returns-clause-fault c =
    λ classes number d pool slot class x of m. method-meant d pool x (static_call classes) slot class host_name (codes "fault")
    (codes "(III)V") of m
