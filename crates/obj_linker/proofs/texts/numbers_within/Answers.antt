use Rattle.std.proofs.Common.{drop, length}
use Rattle.obj_linker.proofs.PairLemmas.{behind_more, whole_more}
use Rattle.obj_linker.proofs.TextLemmas.{all_first, here_first_up, here_more, places_more, whole_first}
use Rattle.obj_linker.proofs.texts.numbers_within.Goals as goal

pub loop-byte-init : goal.loop-byte-init
loop-byte-init c =
    let bytes = c.args.bytes.now in
    let letters = c.args.texts.now.keys in
    record {
      whole = whole_first bytes;
      here = here_first_up letters bytes;
      all = all_first letters bytes _ _ c.new-numbers.ensures.items c.in_ok-push.ensures.items;
      kept = λ n t h. h;
      apart = c.requires;
    }

pub loop-byte-preserved : goal.loop-byte-preserved
loop-byte-preserved c =
    let bytes = c.args.bytes.now in
    let rest = c.loop-byte.rest.now in
    let before = c.in-Some.before.now in
    let byte = c.in-Some.byte.now in
    let cut = c.in-Some.ensures.cases.0 in
    let now = c.loop-byte.invariant in
    let more = behind_more bytes rest before byte now.whole cut in
    let later = drop (length rest) bytes in
    let old = c.loop-byte.texts.keys in
    let new = c.number_with.new.texts.keys in
    let made = c.in_ok-next.ensures in
    let here = here_more old new byte c.loop-byte.number c.in_ok-next.next later (drop (length before) bytes) made.number now.here more in
    record {
      whole = whole_more bytes rest before byte now.whole cut;
      here = here;
      all =
          places_more old new byte c.in_ok-next.next later (drop (length before) bytes) c.loop-byte.numbers.items _ made.kept here now.all
          c.in_ok-push-2.ensures.items more;
      kept = λ n t h. made.kept n t (now.kept n t h);
      apart = made.apart;
    }
