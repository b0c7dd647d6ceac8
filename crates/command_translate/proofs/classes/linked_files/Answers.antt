use Rattle.std.proofs.Common.{◌∙◌, sym, subst}
use Rattle.jvm_definition.specs.Typing.{AllTyped}
use Rattle.class_definition.specs.Linking.{Accepted, program_of}
use Rattle.command_translate.specs.Classes.{SpellClasses}
use Rattle.command_translate.proofs.FileLemmas.{all_kept, same_classes}
use Rattle.command_translate.proofs.classes.linked_files.Goals as goal

pub linked_classes-requires : goal.linked_classes-requires
linked_classes-requires c =
    let classes = c.in_ok-classes.classes.items in
    record {
      kept = all_kept c.args.files.now classes c.in_ok-classes.ensures;
      accepted = subst Accepted (sym (same_classes c.args.files.now c.requires.classes classes c.requires.spelled c.in_ok-classes.ensures))
          c.requires.accepted;
    }

pub returns-clause-spelled : goal.returns-clause-spelled
returns-clause-spelled c = subst (SpellClasses c.args.files.now) (sym c.in_ok-linked.ensures) c.in_ok-classes.ensures

pub returns-clause-typed : goal.returns-clause-typed
returns-clause-typed c =
    let classes = c.in_ok-classes.classes.items in
    let same = same_classes c.args.files.now c.requires.classes classes c.requires.spelled c.in_ok-classes.ensures in
    subst (λ cs. AllTyped (program_of cs)) (sym (c.in_ok-linked.ensures ∙ same)) c.requires.accepted.typed
