use Rattle.std.proofs.Common.{◌≡◌, ◌∙◌, subst, List, length}
use Rattle.std.proofs.lemmas.Result.{IfOk-weaker}
use Rattle.class_definition.specs.declared.line.Line.{Line}
use Rattle.class_definition.specs.Code.{Lines}
use Rattle.class_definition.specs.Linking.{lines_of_code}
use Rattle.emit_assembly.specs.Assembling.{lines_at, lines_size}
use Rattle.emit_assembly.proofs.Spelled.{bytes-size, bytes-read}
use Rattle.emit_assembly.proofs.methods.bytes_of.Goals as goal

pub returns-clause-lines : goal.returns-clause-lines
returns-clause-lines c =
    let same : c.deref.result.now ≡ lines_at 0 c.args.ops.items = c.deref.ensures.value ∙ c.in_ok-lines.ensures in
    IfOk-weaker c.encode_ops.result (λ bytes. Lines bytes.items c.deref.result.now) (λ bytes. lines_of_code bytes.items ≡ lines_at 0 c.args.ops.items)
    (λ bytes are. bytes-read bytes.items (lines_at 0 c.args.ops.items) c.requires.1 (subst (λ (ls : List Line). Lines bytes.items ls) same are)) c.encode_ops.ensures.lines

pub returns-clause-size : goal.returns-clause-size
returns-clause-size c =
    let same : c.deref.result.now ≡ lines_at 0 c.args.ops.items = c.deref.ensures.value ∙ c.in_ok-lines.ensures in
    IfOk-weaker c.encode_ops.result (λ bytes. Lines bytes.items c.deref.result.now) (λ bytes. length bytes.items ≡ lines_size (lines_at 0 c.args.ops.items))
    (λ bytes are. bytes-size bytes.items (lines_at 0 c.args.ops.items) c.requires.1 (subst (λ (ls : List Line). Lines bytes.items ls) same are)) c.encode_ops.ensures.lines
