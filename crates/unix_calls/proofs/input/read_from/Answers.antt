use Rattle.std.proofs.Common.{ap, take, drop, refl, subst, ◌∙◌, min, arith, ℤ, negsuc}
use Rattle.run_definition.specs.Question.{there}
use Rattle.unix_definition.specs.Files.{bytes_at}
use Rattle.unix_definition.specs.Calls.{first_line, input_read, read_target, file_read}
use Rattle.unix_definition.specs.System.{System}
use Rattle.unix_calls.specs.Reading.{inputs, with_input, Reads}
use Rattle.unix_calls.proofs.CallLemmas.{signed-back}
use Rattle.unix_calls.proofs.ReadGiven.{reads-quiet, reads-file, not-readable, console-given}
use Rattle.unix_calls.proofs.input.read_from.Goals as goal

pub returns-in-File-clause-served : goal.returns-in-File-clause-served
returns-in-File-clause-served g c =
    let put_at = g.M.View.put_at in
    let old = g.M.View.content c.args.view.now in
    let new = g.M.View.content c.read_file.new.view in
    let d = c.args.found.0 in
    let description = c.args.found.1 in
    let n = c.args.call.now.a2 in
    let room = there c.args.call.now.a1 n in
    let rest = g.S.Source.rest c.args.source.now in
    let does = λ (s : System). read_target s d description n description.target in
    subst (λ (v : ℤ). Reads put_at does room old new (inputs c.args.most c.args.disk.now c.args.opened.now c.args.ahead.now rest) (inputs c.args.most c.read_file.new.disk c.read_file.new.opened c.args.ahead.now rest) v) (signed-back c.read_file.result c.read_file.type_inv)
    (reads-file put_at does c.args.most c.args.disk.now c.args.opened.now c.args.ahead.now room old new rest c.read_file.new.disk c.read_file.new.opened c.read_file.result (take n (drop description.place (bytes_at c.args.disk.now c.in-File.n)))
    (λ s. file_read s d description (take n (drop description.place (bytes_at s.files c.in-File.n)))) (λ s. ap (λ t. read_target s d description n t) c.in-File.is) (λ s. refl) c.read_file.ensures.call)

pub returns-in_default-clause-served : goal.returns-in_default-clause-served
returns-in_default-clause-served g c =
    let d = c.args.found.0 in
    let description = c.args.found.1 in
    let n = c.args.call.now.a2 in
    reads-quiet g.M.View.put_at (λ s. read_target s d description n description.target) c.args.most c.args.disk.now c.args.opened.now c.args.ahead.now (there c.args.call.now.a1 n) (g.M.View.content c.args.view.now) (g.S.Source.rest c.args.source.now) c.args.disk.now c.args.opened.now (negsuc 8)
    (λ s r. not-readable (with_input s c.args.most c.args.disk.now c.args.opened.now r) d description n description.target c.in_default.not-File c.in_default.not-Input)

pub returns-in-Input-clause-served : goal.returns-in-Input-clause-served
returns-in-Input-clause-served g c =
    let d = c.args.found.0 in
    let description = c.args.found.1 in
    let n = c.args.call.now.a2 in
    console-given g.M.View.put_at (λ s. read_target s d description n description.target) c.args.most c.args.disk.now c.args.opened.now c.args.ahead.now c.args.call.now.a1 n (min n c.args.most) (g.M.View.content c.args.view.now) (g.M.View.content c.read_console.new.view) c.read_console.new.ahead (g.S.Source.rest c.args.source.now) (g.S.Source.rest c.read_console.new.source) c.read_console.result (omega arith)
    (λ s limit. ap (λ t. read_target s d description n t) c.in-Input.is ∙ ap (λ m. input_read s (take (min n m) (first_line s.console.rest))) limit) c.read_console.ensures.ok c.read_console.ensures.err
