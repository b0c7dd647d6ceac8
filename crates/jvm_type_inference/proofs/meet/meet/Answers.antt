use Rattle.std.proofs.Common.{sym, ◌∙◌}
use Rattle.jvm_type_inference.proofs.JoinLaws.{frame_below-from}
use Rattle.jvm_type_inference.proofs.meet.meet.Goals as goal

pub returns-then-is_frame_below : goal.returns-then-is_frame_below
returns-then-is_frame_below c =
    let g = c.in-Some.old in
    record {
      frame = g;
      is = c.in-Some.is;
      above = frame_below-from c.args.frame g (sym c.is_frame_below.ensures ∙ c.if-is_frame_below.true);
    }
