use Rattle.nested_cli.proofs.program.perform_command.Goals as goal

pub returns-in-Make-clause-due : goal.returns-in-Make-clause-due
returns-in-Make-clause-due g c = rw c.in-Make.is c.make.ensures.comes
