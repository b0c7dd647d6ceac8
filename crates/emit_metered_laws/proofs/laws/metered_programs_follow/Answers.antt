use Rattle.emit_metered_laws.proofs.MeteredPrograms.Starting.{LoadingLaws, begins}
use Rattle.emit_metered_laws.proofs.laws.metered_programs_follow.Goals as goal

pub returns : goal.returns
returns g p most is within =
    let t = p.translated in
    let loading : LoadingLaws = record {
      load = g.metered_programs_load.ensures.enough;
      follow = g.metered_loading_follows.ensures.enough;
      end = g.metered_programs_load.ensures.none;
      end_so = g.metered_loading_follows.ensures.none;
      chooses = g.begun_programs_choose.ensures;
    } in
    record {
      turns = g.metered_turns_are_followed.ensures t.program t.words t.order t.choose t.missing t.classes t.code is.code_is;
      begins = begins loading p is most within;
    }
