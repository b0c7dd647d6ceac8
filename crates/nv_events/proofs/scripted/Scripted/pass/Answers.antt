use Rattle.std.proofs.lemmas.List.{drop-map, drop-drop}
use Rattle.nv_events.proofs.scripted.Scripted.pass.Goals as goal

pub returns-then-self-len : goal.returns-then-self-len
returns-then-self-len c = rw (← c.self.view_is, drop-map, drop-drop)
