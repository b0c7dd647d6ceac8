use Rattle.std.proofs.Common.{ℤ, negsuc, ap, ◌∙◌, subst}
use Rattle.run_definition.specs.Question.{asked_text_at}
use Rattle.run_definition.specs.declared.text_place.TextPlace.TheVariants.{Counted}
use Rattle.unix_definition.specs.System.{System, system_with_tables}
use Rattle.nv_outside.specs.Seen.{output_seen}
use Rattle.unix_definition.specs.Asked.{bytes_of_text}
use Rattle.unix_definition.specs.Calls.{write_target}
use Rattle.unix_calls.specs.Reading.{outputs, Writes}
use Rattle.unix_calls.proofs.CallLemmas.{signed-back}
use Rattle.unix_calls.proofs.WriteGiven.{writes-quiet, output-given, error-given}
use Rattle.unix_calls.proofs.console.write_to.Goals as goal

pub returns-in-File : goal.returns-in-File
returns-in-File g c =
    let text = bytes_of_text (asked_text_at (g.M.View.memory (g.M.View.content c.args.view.now)) (Counted c.args.call.now.a1 c.args.call.now.a2)) in
    let d = c.args.found.0 in
    let description = c.args.found.1 in
    let out = output_seen g.O.Sink c.args.out.now in
    let err = output_seen g.E.Sink c.args.err.now in
    let does = λ (s : System). write_target s d description text description.target in
    record {
      served = subst (λ (v : ℤ). Writes does (outputs c.args.disk.now c.args.opened.now out err) (outputs c.write_file.new.disk c.write_file.new.opened out err) v) (signed-back c.write_file.result c.write_file.type_inv)
          (writes-quiet does c.args.disk.now c.args.opened.now out err c.write_file.new.disk c.write_file.new.opened c.write_file.result (λ s. ap (λ t. write_target (system_with_tables s c.args.disk.now c.args.opened.now) d description text t) c.in-File.is ∙ c.write_file.ensures s));
    }

pub returns-in-Input : goal.returns-in-Input
returns-in-Input g c =
    let text = bytes_of_text (asked_text_at (g.M.View.memory (g.M.View.content c.args.view.now)) (Counted c.args.call.now.a1 c.args.call.now.a2)) in
    let d = c.args.found.0 in
    let description = c.args.found.1 in
    record {
      served = writes-quiet (λ s. write_target s d description text description.target) c.args.disk.now c.args.opened.now (output_seen g.O.Sink c.args.out.now) (output_seen g.E.Sink c.args.err.now) c.args.disk.now c.args.opened.now (negsuc 8)
          (λ s. ap (λ t. write_target (system_with_tables s c.args.disk.now c.args.opened.now) d description text t) c.in-Input.is);
    }

pub returns-in-Output : goal.returns-in-Output
returns-in-Output g c =
    let text = bytes_of_text (asked_text_at (g.M.View.memory (g.M.View.content c.args.view.now)) (Counted c.args.call.now.a1 c.args.call.now.a2)) in
    let d = c.args.found.0 in
    let description = c.args.found.1 in
    record {
      served = output-given (λ s. write_target s d description text description.target) c.args.disk.now c.args.opened.now (output_seen g.O.Sink c.args.out.now) (output_seen g.O.Sink c.write_console.new.sink) (output_seen g.E.Sink c.args.err.now) text c.write_console.result
          (λ s. ap (λ t. write_target s d description text t) c.in-Output.is) c.write_console.ensures.value c.write_console.ensures.ok c.write_console.ensures.err;
    }

pub returns-in-ErrorOutput : goal.returns-in-ErrorOutput
returns-in-ErrorOutput g c =
    let text = bytes_of_text (asked_text_at (g.M.View.memory (g.M.View.content c.args.view.now)) (Counted c.args.call.now.a1 c.args.call.now.a2)) in
    let d = c.args.found.0 in
    let description = c.args.found.1 in
    let w = c.write_console-in-ErrorOutput in
    record {
      served = error-given (λ s. write_target s d description text description.target) c.args.disk.now c.args.opened.now (output_seen g.O.Sink c.args.out.now) (output_seen g.E.Sink c.args.err.now) (output_seen g.E.Sink c.write_console-in-ErrorOutput.new.sink) text c.write_console-in-ErrorOutput.result
          (λ s. ap (λ t. write_target s d description text t) c.in-ErrorOutput.is) c.write_console-in-ErrorOutput.ensures.value c.write_console-in-ErrorOutput.ensures.ok c.write_console-in-ErrorOutput.ensures.err;
    }
