-- How a refusal is answered.
use Rattle.std.specs.Prelude.{◌≡◌}
use Rattle.frame_maps.specs.declared.frame_error.FrameError.{FrameError}
use Rattle.frame_maps.specs.declared.frame_error.FrameError.TheVariants.{Refused, TooLarge, NoMemory}
use Rattle.command_deeds.specs.declared.done.Done.TheVariants.{FrameRefused, FramesTooLarge}
use Rattle.command_deeds.specs.Ends.{CommandAnswer, says}

-- want of memory is no answer here, since it may come anywhere
abbrev pub IsTold : FrameError → CommandAnswer → Type 0
IsTold (Refused fault) answer = answer ≡ says (FrameRefused fault)
IsTold (TooLarge class bytes) answer = answer ≡ says (FramesTooLarge class bytes)
IsTold NoMemory answer = ⊥
