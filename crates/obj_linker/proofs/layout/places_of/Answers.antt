use Rattle.std.proofs.Common.{ap}
use Rattle.obj_linker.specs.declared.cursors.Cursors.{Cursors}
use Rattle.obj_linker.specs.declared.group.Group.TheVariants.{Code, Constants, Data, Zeros}
use Rattle.obj_linker.specs.Layout.{code_end, data_end, data_start, text_start}
use Rattle.obj_linker.proofs.LayoutLemmas.{cursor_more, has_room, places_more}
use Rattle.obj_linker.proofs.layout.places_of.Goals as goal

pub place-requires : goal.place-requires
place-requires c =
    let now = c.loop-s.invariant in
    has_room c.args.sections.now c.args.ends.now c.loop-s.cursors c.loop-s.s-index _ c.loop-s-test.true c.requires now.code now.constants now.data_at now.zeros

pub loop-s-preserved : goal.loop-s-preserved
loop-s-preserved c =
    let all = c.args.sections.now in
    let now = c.loop-s.invariant in
    let after = c.place.ensures.after in
    record {
      code = cursor_more Code text_start c.loop-s.cursors.code _ all c.loop-s.s-index _ c.loop-s-test.true now.code (ap (λ (x : Cursors). x.code) after);
      constants = cursor_more Constants (code_end all) c.loop-s.cursors.constants _ all c.loop-s.s-index _ c.loop-s-test.true now.constants (ap (λ (x : Cursors). x.constants) after);
      data_at = cursor_more Data data_start c.loop-s.cursors.data_at _ all c.loop-s.s-index _ c.loop-s-test.true now.data_at (ap (λ (x : Cursors). x.data_at) after);
      zeros = cursor_more Zeros (data_end all) c.loop-s.cursors.zeros _ all c.loop-s.s-index _ c.loop-s-test.true now.zeros (ap (λ (x : Cursors). x.zeros) after);
      places =
          places_more all c.loop-s.cursors c.loop-s.s-index _ c.loop-s.places.items _ _ c.place.result c.loop-s-test.true now.code now.constants now.data_at now.zeros
          c.place.ensures.place c.in_ok-push.ensures.items now.places;
    }
