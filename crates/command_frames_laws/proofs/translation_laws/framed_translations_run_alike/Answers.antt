use Rattle.command_frames_laws.proofs.FramedTranslations.{framed-alike}
use Rattle.command_frames_laws.proofs.translation_laws.framed_translations_run_alike.Goals as goal

pub returns : goal.returns
returns c = λ source name files framed t f. framed-alike source name files framed t f
