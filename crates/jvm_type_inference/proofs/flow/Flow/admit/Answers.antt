use Rattle.std.proofs.Common.{suc, refl, subst, sym, add-one, arith}
use Rattle.jvm_definition.specs.Program.{line_in}
use Rattle.jvm_type_inference.specs.Actions.{program_over}
use Rattle.jvm_type_inference.specs.Flow.{AdmitsTo}
use Rattle.jvm_type_inference.proofs.CallLaws.{some-there}
use Rattle.jvm_type_inference.proofs.SettleLaws.{rests-past, none-walked}
use Rattle.jvm_type_inference.proofs.flow.Flow.admit.Goals as goal

pub returns-in_default-clause-admits : goal.returns-in_default-clause-admits
returns-in_default-clause-admits c =
    let a = c.args in
    let p = program_over a.code.now.methods.now in
    let m = a.code.now.method.now in
    let frames = a.self.now.frames.items in
    let none = rw c.in_default.is at c.in_ok-walked.ensures.walked in
    subst (λ n. AdmitsTo p m a.before.now a.at n frames frames a.self.now.work.items) (sym (add-one a.at)) (record {
      order = omega arith;
      rests = rests-past p m a.before.now a.at frames none c.requires.rests;
      size = refl;
      done = c.requires.done;
    })

pub returns-in-Fails-clause-admits : goal.returns-in-Fails-clause-admits
returns-in-Fails-clause-admits c =
    let a = c.args in
    let m = a.code.now.method.now in
    let from = rw c.in-Some.is at c.in_ok-walked.ensures.walked in
    let walk = rw c.in-Fails.is at from.4 in
    let line = some-there (line_in m.lines a.at) from.2 in
    none-walked (program_over a.code.now.methods.now) m a.before.now a.at c.in-Fails.fault line.0 from.0 a.self.now.frames.items c.requires.parts c.requires.rests line.1 from.1 from.3 walk

pub admit_walked-requires-clause-walk : goal.admit_walked-requires-clause-walk
admit_walked-requires-clause-walk c =
    let from = rw c.in-Some.is at c.in_ok-walked.ensures.walked in
    (from.0, from.1, from.2, from.3, rw c.in-Ends.is at from.4)
