use Rattle.std.proofs.Common.{sym, subst, drop, length}
use Rattle.obj_linker.specs.Texts.{IsNumber}
use Rattle.obj_linker.proofs.PairLemmas.{behind_more, whole_more}
use Rattle.obj_linker.proofs.TextLemmas.{here_first, whole_first}
use Rattle.obj_linker.proofs.texts.number_of.Goals as goal

pub loop-byte-init : goal.loop-byte-init
loop-byte-init c =
    let text = c.args.text.now in
    record {
      whole = whole_first text;
      here = here_first c.args.texts.now.keys text;
      kept = λ n t h. h;
      apart = c.requires;
    }

pub loop-byte-preserved : goal.loop-byte-preserved
loop-byte-preserved c =
    let text = c.args.text.now in
    let rest = c.loop-byte.rest.now in
    let before = c.in-Some.before.now in
    let byte = c.in-Some.byte.now in
    let cut = c.in-Some.ensures.cases.0 in
    let now = c.loop-byte.invariant in
    let more = behind_more text rest before byte now.whole cut in
    let new = c.number_before.new.texts.keys in
    let made = c.in_ok-next.ensures in
    record {
      whole = whole_more text rest before byte now.whole cut;
      here = subst (λ l. IsNumber new c.in_ok-next.next l) (sym more) (made.number (drop (length rest) text) now.here);
      kept = λ n t h. made.kept n t (now.kept n t h);
      apart = made.apart;
    }
