use Rattle.std.proofs.Common.{refl}
use Rattle.frame_maps.specs.declared.frame_error.FrameError.TheVariants.{Refused, TooLarge}
use Rattle.command_frames.proofs.tabling.with_tables.Goals as goal

pub returns-in-Err-Refused : goal.returns-in-Err-Refused
returns-in-Err-Refused c = record {
  makes = (refl, (Refused c.in-Err-Refused.fault, rw c.in-Err-Refused.field-0-is at c.in-Err-Refused.ensures.refused, refl));
  writable = tt;
}

pub returns-in-Err-TooLarge : goal.returns-in-Err-TooLarge
returns-in-Err-TooLarge c = record {
  makes = (refl, (TooLarge c.in-Err-TooLarge.class c.in-Err-TooLarge.bytes, rw c.in-Err-TooLarge.field-0-is at c.in-Err-TooLarge.ensures.refused, refl));
  writable = tt;
}
