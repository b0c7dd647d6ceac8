use Rattle.emit_classes.proofs.Meant.{call-meant}
use Rattle.emit_classes.proofs.laws.methods_are_meant.Goals as goal

pub returns : goal.returns
returns c =
    λ classes number d pool slot class n owner name descriptor x of m other is. call-meant d pool x classes slot class n owner name
    descriptor of m other is
