use Rattle.std.proofs.Common.{◌∙◌, ap}
use Rattle.class_definition.specs.Linking.{program_of}
use Rattle.jvm_definition.specs.Step.{loaded_program}
use Rattle.command_translate.proofs.FileLemmas.{same_classes}
use Rattle.command_translate.proofs.classes.machine_of.Goals as goal

pub returns-clause-state : goal.returns-clause-state
returns-clause-state c = λ classes spelled.
    c.in_ok-jvm.ensures.state
    ∙ ap (λ cs. loaded_program (program_of cs) c.args.words) (same_classes c.args.files.now classes c.in_ok-linked.linked.classes spelled
    c.in_ok-linked.ensures.spelled)
