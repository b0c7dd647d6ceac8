use Rattle.std.proofs.Common.{◌≡◌, ◌<◌, length, sym, ap, ◌∙◌, arith}
use Rattle.command_deeds.specs.Deeds.{stores}
use Rattle.command_frames.proofs.WriteLemmas.{written-none, written-next, written-all}
use Rattle.command_frames.proofs.writing.write_classes.Goals as goal

pub loop-number-init : goal.loop-number-init
loop-number-init c = written-none c.args.names.now c.args.framed.now c.new-files.result.items c.new-files.ensures.items

pub loop-number-preserved : goal.loop-number-preserved
loop-number-preserved c =
    let less : c.loop-number.number < length c.args.names.now = omega (arith, c.loop-number-test.true, c.requires.count) in
    let file = c.in_ok-write_class.field-0 in
    written-next c.args.names.now c.args.framed.now c.loop-number.number c.index-names-number.result c.index-framed-number.result c.loop-number.files.items c.push.new.self.items file
    less c.loop-number-test.true c.index-names-number.is c.index-framed-number.is c.in_ok-push.ensures.items
    (ap (λ name. stores name file.bytes.items) c.in_ok-write_class.ensures.name) c.in_ok-write_class.ensures.bytes c.loop-number.invariant

pub returns : goal.returns
returns c =
    let end : c.loop-number.number ≡ length c.args.framed.now = omega (arith, c.loop-number-test.false, c.loop-number.auto.number-end) in
    written-all c.args.names.now c.args.framed.now c.loop-number.number _ end c.requires.count c.loop-number.invariant
