use Rattle.std.proofs.Common.{drop, length}
use Rattle.obj_linker.proofs.PairLemmas.{alone_more, behind_more, found_more, lows_more, whole_more}
use Rattle.obj_linker.proofs.pairs.paired.Goals as goal

pub loop-r-preserved : goal.loop-r-preserved
loop-r-preserved c =
    let all = c.args.relocations.now in
    let rest = c.loop-r.rest.now in
    let before = c.in-Some.before.now in
    let r = c.in-Some.r.now in
    let cut = c.in-Some.ensures.cases.0 in
    let more = behind_more all rest before r c.loop-r.invariant.whole cut in
    let later = drop (length rest) all in
    let now = c.loop-r.invariant in
    record {
      whole = whole_more all rest before r now.whole cut;
      behind = found_more c.loop-r.behind c.note_low.new.behind r later _ now.behind c.in_ok-note_low.ensures more;
      lows = lows_more c.loop-r.behind r later _ c.low_of-low.result c.loop-r.lows.items _ now.behind c.low_of-low.ensures now.lows c.in_ok-push.ensures.items more;
      alone = alone_more c.loop-r.behind r later _ c.low_of-low.result c.loop-r.alone _ now.behind c.low_of-low.ensures now.alone c.first_alone-alone.ensures more;
    }
