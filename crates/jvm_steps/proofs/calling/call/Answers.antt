use Rattle.std.proofs.Common.{length, get_or, Some, sym, ap, subst, arith, rules, Fits, w16}
use Rattle.std.proofs.lemmas.Option.{slice_get_within}
use Rattle.run_definition.specs.Turn.{trap}
use Rattle.run_definition.specs.declared.outcome.Outcome.TheVariants.{Trapped}
use Rattle.jvm_steps.specs.declared.machine_method.MachineMethod.{MachineMethod}
use Rattle.jvm_steps.specs.Standing.{turn_in, state_in}
use Rattle.jvm_steps.specs.Settling.{Settles}
use Rattle.jvm_steps.proofs.Taking.{still_roomy, room_of, settles_taken, settles_ends, Taken}
use Rattle.jvm_steps.proofs.Calls.{callee_is, enters_taken, full_ends, entry_at, not_full, called_taken}
use Rattle.jvm_steps.proofs.calling.call.Goals as goal

pub returns-then-is_full-clause-turn : goal.returns-then-is_full-clause-turn
returns-then-is_full-clause-turn c =
    let classes = c.args.program.now.classes in
    let w = c.args.working.now in
    let k = callee_is classes c.args.program.now.code w c.args.method c.requires.going c.requires.here in
    let full = c.if-is_full.ensures.full.0 (search rules) in
    subst (λ n. Settles (turn_in classes w) (state_in classes w) (state_in classes w) (Some (Trapped n))) (sym c.kind.ensures)
    (settles_ends classes w (trap 5) (full_ends classes c.args.program.now.code w c.args.method c.requires.going c.requires.here k full))

pub returns-then-is_full-clause-roomy : goal.returns-then-is_full-clause-roomy
returns-then-is_full-clause-roomy c = still_roomy c.args.program.now.classes c.args.program.now.code c.args.working.now c.requires.going

pub bounds-as_slice-method : goal.bounds-as_slice-method
bounds-as_slice-method c =
    let k = callee_is c.args.program.now.classes c.args.program.now.code c.args.working.now c.args.method c.requires.going c.requires.here in
    let inside = slice_get_within c.args.program.now.code.methods c.args.method _ k.entry in
    omega (arith, inside, ap length c.as_slice.ensures)

pub overflow_cast-callee : goal.overflow_cast-callee
overflow_cast-callee c =
    let k = callee_is c.args.program.now.classes c.args.program.now.code c.args.working.now c.args.method c.requires.going c.requires.here in
    let is = entry_at c.args.program.now.code.methods c.as_slice.result.now c.args.method _ (record { start = 0; parameters = 0; locals = 0 }) c.as_slice.ensures k.entry in
    let small : Fits w16 (get_or c.as_slice.result.now c.args.method (record { start = 0; parameters = 0; locals = 0 })).locals = search rules in
    omega (arith, k.fits, ap (λ (e : MachineMethod). e.parameters) is, ap (λ (e : MachineMethod). e.locals) is, small)

pub overflow_add-return_at : goal.overflow_add-return_at
overflow_add-return_at c =
    let k = callee_is c.args.program.now.classes c.args.program.now.code c.args.working.now c.args.method c.requires.going c.requires.here in
    let few = not_full (length c.args.working.now.frames.waiting.frames) c.if-is_full.ensures.few c.if-is_full.ensures.full.1 in
    omega (arith, (enters_taken c.args.program.now.classes c.args.program.now.code c.args.working.now c.args.method c.requires.going c.requires.here k few).within)

pub call-requires-clause-full : goal.call-requires-clause-full
call-requires-clause-full c = not_full (length c.args.working.now.frames.waiting.frames) c.if-is_full.ensures.few c.if-is_full.ensures.full.1

pub call-requires-clause-room : goal.call-requires-clause-room
call-requires-clause-room c = room_of c.args.program.now.classes c.args.program.now.code c.args.working.now c.requires.going

pub call-requires-clause-arguments : goal.call-requires-clause-arguments
call-requires-clause-arguments c =
    let k = callee_is c.args.program.now.classes c.args.program.now.code c.args.working.now c.args.method c.requires.going c.requires.here in
    let is = entry_at c.args.program.now.code.methods c.as_slice.result.now c.args.method _ (record { start = 0; parameters = 0; locals = 0 }) c.as_slice.ensures k.entry in
    omega (arith, k.arguments, ap (λ (e : MachineMethod). e.parameters) is)

pub call-requires-clause-parameters : goal.call-requires-clause-parameters
call-requires-clause-parameters c =
    let k = callee_is c.args.program.now.classes c.args.program.now.code c.args.working.now c.args.method c.requires.going c.requires.here in
    let is = entry_at c.args.program.now.code.methods c.as_slice.result.now c.args.method _ (record { start = 0; parameters = 0; locals = 0 }) c.as_slice.ensures k.entry in
    omega (arith, k.fits, ap (λ (e : MachineMethod). e.parameters) is, ap (λ (e : MachineMethod). e.locals) is)

pub call-requires-clause-locals : goal.call-requires-clause-locals
call-requires-clause-locals c =
    let k = callee_is c.args.program.now.classes c.args.program.now.code c.args.working.now c.args.method c.requires.going c.requires.here in
    let is = entry_at c.args.program.now.code.methods c.as_slice.result.now c.args.method _ (record { start = 0; parameters = 0; locals = 0 }) c.as_slice.ensures k.entry in
    omega (arith, k.room, ap (λ (e : MachineMethod). e.locals) is)

taken : (c : goal.After-call) → Taken c.args.program.now.classes c.args.program.now.code c.args.working.now (record { frames = c.call.new.self; fields = c.args.working.now.fields; heap = c.args.working.now.heap })
taken c =
    let k = callee_is c.args.program.now.classes c.args.program.now.code c.args.working.now c.args.method c.requires.going c.requires.here in
    let few = not_full (length c.args.working.now.frames.waiting.frames) c.if-is_full.ensures.few c.if-is_full.ensures.full.1 in
    let is = entry_at c.args.program.now.code.methods c.as_slice.result.now c.args.method _ (record { start = 0; parameters = 0; locals = 0 }) c.as_slice.ensures k.entry in
    called_taken c.args.program.now.classes c.args.program.now.code c.args.working.now c.args.method c.requires.going c.requires.here k few c.call.new.self (get_or c.as_slice.result.now c.args.method (record { start = 0; parameters = 0; locals = 0 })) is c.call.ensures.entered c.call.ensures.waits

pub returns-clause-turn : goal.returns-clause-turn
returns-clause-turn c = settles_taken c.args.program.now.classes c.args.program.now.code c.args.working.now (record { frames = c.call.new.self; fields = c.args.working.now.fields; heap = c.args.working.now.heap }) (taken c)

pub returns-clause-roomy : goal.returns-clause-roomy
returns-clause-roomy c = (taken c).roomy

pub returns-clause-going : goal.returns-clause-going
returns-clause-going c = λ _. (taken c).going
