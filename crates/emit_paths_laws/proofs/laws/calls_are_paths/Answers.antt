use Rattle.std.proofs.Common.{◌+◌, ◌∷◌, subst, arith}
use Rattle.jvm_definition.specs.Step.{frame_placed}
use Rattle.jvm_definition_laws.specs.Stretch.{body_workspace}
use Rattle.emit_paths_laws.specs.Paths.{PathElsewhere, waiting_behind}
use Rattle.emit_paths_laws.proofs.Joining.{seen-within, seen-elsewhere}
use Rattle.emit_paths_laws.proofs.Calling.{call-returns}
use Rattle.emit_paths_laws.proofs.laws.calls_are_paths.Goals as goal

pub returns-clause-within : goal.returns-clause-within
returns-clause-within c program words m at h callee n j body w caller v back given result others it is =
    let frames = waiting_behind m at h caller ∷ others in
    let inside = frame_placed callee 0 (body_workspace given caller) frames in
    call-returns program words m m at (at + 3) at h callee body w caller given others it.lies it.calls it.room
    (seen-within program words m at (at + 3) w others (omega arith)) n j v back result it.apart it.body_lies
    (subst (PathElsewhere program words callee m (at + 3) 0 0 body frames inside) is
    (c.code_is_a_path.ensures.elsewhere program words callee m (at + 3) 0 0 body
    (body_workspace given caller) frames it.apart it.body_lies))

pub returns-clause-elsewhere : goal.returns-clause-elsewhere
returns-clause-elsewhere c program words own m low at h callee n j body w caller v back given result others apart it is =
    let frames = waiting_behind own at h caller ∷ others in
    let inside = frame_placed callee 0 (body_workspace given caller) frames in
    call-returns program words own m low low at h callee body w caller given others it.lies it.calls it.room
    (seen-elsewhere program words m own low at w others apart) n j v back result it.apart it.body_lies
    (subst (PathElsewhere program words callee m low 0 0 body frames inside) is
    (c.code_is_a_path.ensures.elsewhere program words callee m low 0 0 body
    (body_workspace given caller) frames it.apart it.body_lies))
