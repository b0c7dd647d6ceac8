use Rattle.jvm_machine.proofs.BeginLemmas.{fields_count, frame_room, locals_fit, begun}
use Rattle.jvm_machine.proofs.loading.begin.Goals as goal

pub reset-requires : goal.reset-requires
reset-requires c =
    fields_count c.args.program.now c.args.kinds.now c.args.entry c.requires.loaded c.args.working.now c.requires.roomy

pub reset-requires-2-clause-room : goal.reset-requires-2-clause-room
reset-requires-2-clause-room c =
    frame_room c.args.program.now c.args.kinds.now c.args.entry c.requires.loaded c.args.working.now c.requires.roomy

pub reset-requires-2-clause-locals : goal.reset-requires-2-clause-locals
reset-requires-2-clause-locals c =
    locals_fit c.args.program.now c.args.kinds.now c.args.entry c.requires.loaded c.args.working.now c.requires.roomy

pub returns-clause-going : goal.returns-clause-going
returns-clause-going c =
    (begun c.args.program.now c.args.kinds.now c.args.entry c.requires.loaded c.args.working.now c.requires.roomy c.args.working.now.heap.region.size (record { frames = c.reset-2.new.self; fields = c.reset.new.self; heap = c.clear.new.self }) c.reset-2.ensures.entered c.reset-2.ensures.waiting c.clear.ensures c.reset.ensures).going

pub returns-clause-roomy : goal.returns-clause-roomy
returns-clause-roomy c =
    (begun c.args.program.now c.args.kinds.now c.args.entry c.requires.loaded c.args.working.now c.requires.roomy c.args.working.now.heap.region.size (record { frames = c.reset-2.new.self; fields = c.reset.new.self; heap = c.clear.new.self }) c.reset-2.ensures.entered c.reset-2.ensures.waiting c.clear.ensures c.reset.ensures).roomy_still

pub returns-clause-state : goal.returns-clause-state
returns-clause-state c =
    (begun c.args.program.now c.args.kinds.now c.args.entry c.requires.loaded c.args.working.now c.requires.roomy c.args.working.now.heap.region.size (record { frames = c.reset-2.new.self; fields = c.reset.new.self; heap = c.clear.new.self }) c.reset-2.ensures.entered c.reset-2.ensures.waiting c.clear.ensures c.reset.ensures).state_is
