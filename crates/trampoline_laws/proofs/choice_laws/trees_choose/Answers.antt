use Rattle.trampoline_laws.proofs.ChoiceLaws.Trees.{tree-calls}
use Rattle.trampoline_laws.proofs.choice_laws.trees_choose.Goals as goal

pub returns : goal.returns
returns c program words levels x starts w are word at =
    tree-calls program words levels x starts w are.some are.few are.rise are.methods word at
