use Rattle.unix_calls.proofs.Telling.{goes_as_told}
use Rattle.unix_calls.proofs.joined.JoinedServer.laws.Goals as goal

pub returns-clause-goes_as_told : goal.returns-clause-goes_as_told
returns-clause-goes_as_told g c =
    let S = g.S.Source in
    let O = g.O.Sink in
    let E = g.E.Sink in
    λ j k q a s w went.
    goes_as_told q j.unix.now k.unix.now a s (S.rest j.source.now) (O.taken j.out.now)
    (E.taken j.err.now) (S.rest k.source.now) (O.taken k.out.now) (E.taken k.err.now)
    (S.faults j.source.now) (O.faults j.out.now) (E.faults j.err.now)
    (S.faults k.source.now) (O.faults k.out.now) (E.faults k.err.now) w went

pub returns-clause-held_as_told : goal.returns-clause-held_as_told
returns-clause-held_as_told g c = λ j k q s w h. absurd h
