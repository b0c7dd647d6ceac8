use Rattle.std.proofs.Common.{[], ap}
use Rattle.unix_calls.specs.Held.{system_of}
use Rattle.unix_calls.proofs.laws.begins_limited.Goals as goal

pub returns : goal.returns
returns c most held blocks moment files args rest begins = ap (λ h. system_of h rest [] []) begins.is
