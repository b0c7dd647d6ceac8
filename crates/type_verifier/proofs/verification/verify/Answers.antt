use Rattle.run_definition.specs.Answer.{next_answer}
use Rattle.jvm_definition.specs.Step.{jvm_start}
use Rattle.class_definition.specs.Linking.{program_of}
use Rattle.jvm_link.proofs.LinkLemmas.{run_there_if}
use Rattle.jvm_link.proofs.LinkedLaws.{linked_if}
use Rattle.jvm_definition_laws.proofs.StepLaws.{start_safe}
use Rattle.jvm_definition_laws.proofs.RunSafety.{safe_run}
use Rattle.type_verifier.proofs.VerifyLaws.{all-least, refusal-from}
use Rattle.jvm_type_inference.proofs.Unique.{AllTyped-from_least}
use Rattle.type_verifier.proofs.verification.verify.Goals as goal

pub invariant_of-result : goal.invariant_of-result
invariant_of-result c =
    let l = c.args.linked in
    let first = rw (c.in-Ok-None.field-0-is, c.as_slice.ensures) at c.in-Ok-None.ensures in
    record { typed = all-least l.classes l.methods l.methods_are first }

pub returns-in-Ok-Some-clause-refused : goal.returns-in-Ok-Some-clause-refused
returns-in-Ok-Some-clause-refused c =
    let l = c.args.linked in
    let first = rw (c.in-Ok-Some.field-0-is, c.as_slice.ensures) at c.in-Ok-Some.ensures in
    let place = rw c.as_slice-in-Ok-Some.ensures at c.refusal.ensures in
    refusal-from l.classes l.methods c.in-Ok-Some.number c.in-Ok-Some.at c.refusal.result l.methods_are first place

pub returns-in-Ok-None-clause-sound : goal.returns-in-Ok-None-clause-sound
returns-in-Ok-None-clause-sound c words n answers =
    let l = c.args.linked in
    let program = program_of l.classes in
    let first = rw (c.in-Ok-None.field-0-is, c.as_slice.ensures) at c.in-Ok-None.ensures in
    let typed = AllTyped-from_least program (all-least l.classes l.methods l.methods_are first) in
    let linked = linked_if l.classes (run_there_if l.classes l.faultless) in
    (safe_run program words next_answer typed linked n (jvm_start program) answers (start_safe program typed linked)).outcome
