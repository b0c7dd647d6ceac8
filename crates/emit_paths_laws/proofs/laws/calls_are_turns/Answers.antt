use Rattle.emit_paths_laws.proofs.Calling.{call-enters, call-gives}
use Rattle.emit_paths_laws.proofs.laws.calls_are_turns.Goals as goal

pub returns : goal.returns
returns c program words own at h callee caller others = record {
  enters = λ w given lies calls few. call-enters program words own at h callee w caller given others lies calls few;
  returns = λ start j code v back result stops.
      call-gives program words own at h callee start j code v caller back result others stops;
}
