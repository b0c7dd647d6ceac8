use Rattle.std.proofs.Common.{[], ◌∷◌, refl, arith}
use Rattle.run_definition.specs.Turn.{«fault»}
use Rattle.jvm_definition.specs.Values.{is_int}
use Rattle.jvm_steps.proofs.Taking.{settles_ends}
use Rattle.jvm_steps.proofs.Hosts.{fault_found, fault_ends, tested, tests_within}
use Rattle.jvm_steps.proofs.ending.end_in_fault.Goals as goal

pub int_at-requires-clause-within : goal.int_at-requires-clause-within
int_at-requires-clause-within c =
    omega (arith, tests_within (is_int ∷ is_int ∷ is_int ∷ []) c.args.working.now.frames.current.operands.items (fault_found c.args.program.now.classes c.args.program.now.code c.args.working.now c.requires.going c.requires.here))

pub int_at-requires-clause-int : goal.int_at-requires-clause-int
int_at-requires-clause-int c =
    tested (is_int ∷ is_int ∷ is_int ∷ []) c.args.working.now.frames.current.operands.items 2 is_int (fault_found c.args.program.now.classes c.args.program.now.code c.args.working.now c.requires.going c.requires.here) refl

pub int_at-requires-2-clause-within : goal.int_at-requires-2-clause-within
int_at-requires-2-clause-within c =
    omega (arith, tests_within (is_int ∷ is_int ∷ is_int ∷ []) c.args.working.now.frames.current.operands.items (fault_found c.args.program.now.classes c.args.program.now.code c.args.working.now c.requires.going c.requires.here))

pub int_at-requires-2-clause-int : goal.int_at-requires-2-clause-int
int_at-requires-2-clause-int c =
    tested (is_int ∷ is_int ∷ is_int ∷ []) c.args.working.now.frames.current.operands.items 1 is_int (fault_found c.args.program.now.classes c.args.program.now.code c.args.working.now c.requires.going c.requires.here) refl

pub int_at-requires-3-clause-within : goal.int_at-requires-3-clause-within
int_at-requires-3-clause-within c =
    omega (arith, tests_within (is_int ∷ is_int ∷ is_int ∷ []) c.args.working.now.frames.current.operands.items (fault_found c.args.program.now.classes c.args.program.now.code c.args.working.now c.requires.going c.requires.here))

pub int_at-requires-3-clause-int : goal.int_at-requires-3-clause-int
int_at-requires-3-clause-int c =
    tested (is_int ∷ is_int ∷ is_int ∷ []) c.args.working.now.frames.current.operands.items 0 is_int (fault_found c.args.program.now.classes c.args.program.now.code c.args.working.now c.requires.going c.requires.here) refl

pub returns : goal.returns
returns c =
    settles_ends c.args.program.now.classes c.args.working.now («fault» (record { kind = c.int_at.result; pc = c.int_at-2.result; value = c.int_at-3.result })) (fault_ends c.args.program.now.classes c.args.program.now.code c.args.working.now c.requires.going c.requires.here (record { kind = c.int_at.result; pc = c.int_at-2.result; value = c.int_at-3.result }) c.int_at-3.ensures c.int_at-2.ensures c.int_at.ensures)
