use Rattle.std.proofs.Common.{subst}
use Rattle.translate_program.specs.Taking.{IsTaken}
use Rattle.translate_program.proofs.translation.translated.Goals as goal

pub built_of-requires : goal.built_of-requires
built_of-requires c =
    subst (λ metered. IsTaken metered c.args.name.now c.args.method_bytes c.in_ok-taken.taken) c.is_some.ensures c.in_ok-taken.ensures.taken
