use Rattle.std.proofs.Common.{sym, subst, ◌∙◌}
use Rattle.std.specs.Prelude.{pos}
use Rattle.run_definition.specs.Turn.{exit}
use Rattle.jvm_activations.specs.Waiting.{CanTake}
use Rattle.jvm_steps.proofs.Taking.{still_roomy, room_of, settles_taken, settles_ends, Taken}
use Rattle.jvm_steps.proofs.Returns.{operands_given, last_ends, gives_taken, given_taken, split, Split}
use Rattle.jvm_steps.proofs.calling.give.Goals as goal

pub returns-then-depth-eq0-clause-turn : goal.returns-then-depth-eq0-clause-turn
returns-then-depth-eq0-clause-turn c =
    settles_ends c.args.program.now.classes c.args.working.now (exit (pos 0)) (last_ends c.args.program.now.classes c.args.program.now.code c.args.working.now c.args.name c.requires.going c.requires.here (sym c.depth.ensures.depth ∙ c.if-depth-eq0.true))

pub returns-then-depth-eq0-clause-roomy : goal.returns-then-depth-eq0-clause-roomy
returns-then-depth-eq0-clause-roomy c = still_roomy c.args.program.now.classes c.args.program.now.code c.args.working.now c.requires.going

pub returned-value-requires : goal.returned-value-requires
returned-value-requires c = operands_given c.args.program.now.classes c.args.program.now.code c.args.working.now c.args.name c.requires.going c.requires.here

pub give-requires-clause-room : goal.give-requires-clause-room
give-requires-clause-room c =
    let room = room_of c.args.program.now.classes c.args.program.now.code c.args.working.now c.requires.going in
    record { locals = room.locals; operands = c.returned-value.ensures.limit ∙ room.operands }

pub give-requires-clause-operand : goal.give-requires-clause-operand
give-requires-clause-operand c =
    let frames = c.args.working.now.frames.waiting.frames in
    let x : Split frames = split frames (λ e. c.if-depth-eq0.false (c.depth.ensures.depth ∙ e)) in
    subst (CanTake c.returned-value.result) (sym x.are) (gives_taken c.args.program.now.classes c.args.program.now.code c.args.working.now c.args.name c.requires.going c.requires.here c.returned-value.result c.returned-value.ensures.gives x.first x.others x.are).1

taken : (c : goal.After-give) → Taken c.args.program.now.classes c.args.program.now.code c.args.working.now (record { frames = c.give.new.self; fields = c.args.working.now.fields; heap = c.args.working.now.heap })
taken c =
    let frames = c.args.working.now.frames.waiting.frames in
    let x : Split frames = split frames (λ e. c.if-depth-eq0.false (c.depth.ensures.depth ∙ e)) in
    let back = c.give.ensures.back x.first x.others x.are in
    given_taken c.args.program.now.classes c.args.program.now.code c.args.working.now c.args.name c.requires.going c.requires.here c.returned-value.result c.returned-value.ensures.gives x c.give.new.self back.0 back.1

pub returns-clause-turn : goal.returns-clause-turn
returns-clause-turn c = settles_taken c.args.program.now.classes c.args.program.now.code c.args.working.now (record { frames = c.give.new.self; fields = c.args.working.now.fields; heap = c.args.working.now.heap }) (taken c)

pub returns-clause-roomy : goal.returns-clause-roomy
returns-clause-roomy c = (taken c).roomy

pub returns-clause-going : goal.returns-clause-going
returns-clause-going c = λ _. (taken c).going
