use Rattle.std.proofs.Common.{◌≡◌, Some, None, Ok, Err, sym, ap, subst, ◌∙◌, arith, rules, to_z, of_z}
use Rattle.std.specs.Prelude.{FitsSigned}
use Rattle.std.specs.Int.{w32}
use Rattle.std.proofs.lemmas.Int.{to_z-of_z}
use Rattle.run_definition.specs.Words.{unsigned_of}
use Rattle.jvm_heap.specs.Heaps.{Held}
use Rattle.jvm_heap.specs.Regions.{heap_of}
use Rattle.jvm_instructions.specs.declared.working.Working.{Working}
use Rattle.jvm_steps.specs.Hosting.{host_tests}
use Rattle.jvm_steps.proofs.Taking.{still_roomy}
use Rattle.nv_words.proofs.WrapLemmas.{wrapped-fits}
use Rattle.jvm_steps.proofs.Hosts.{words_found, host_found, host_tables, host_asks, host_exits, host_answers, host_waits, host_falls, served_of, served_size, held_size, held_roomy, held_going, tests_within, answered_working, Answered}
use Rattle.jvm_steps.proofs.ending.call_host.Given.{Over}
use Rattle.jvm_steps.proofs.ending.call_host.Goals as goal

pub of-words-requires : goal.of-words-requires
of-words-requires g c =
    words_found (heap_of c.args.working.now.heap.region.arrays) c.args.working.now.frames.current.operands.items (host_found c.args.program.now.classes c.args.program.now.code c.args.working.now c.requires.going c.requires.here)

pub returns-then-words-eq1-clause-turn : goal.returns-then-words-eq1-clause-turn
returns-then-words-eq1-clause-turn g c =
    let fits : FitsSigned w32 c.signed.result = search rules in
    host_exits g.V.Server.goes g.V.Server.held g.V.Server.fell c.args.program.now.classes c.args.program.now.code c.args.working.now c.requires.going c.requires.here c.of-words.result c.of-words.ensures.words c.if-words-eq1.true c.args.server.now (to_z w32 (of_z w32 c.signed.result)) (to_z-of_z w32 c.signed.result fits ∙ c.signed.ensures.value)

pub returns-then-words-eq1-clause-roomy : goal.returns-then-words-eq1-clause-roomy
returns-then-words-eq1-clause-roomy g c = still_roomy c.args.program.now.classes c.args.program.now.code c.args.working.now c.requires.going

pub open-requires-clause-reads : goal.open-requires-clause-reads
open-requires-clause-reads g c =
    (host_tables c.args.program.now.classes c.args.program.now.code c.args.working.now c.requires.going c.requires.here c.of-words.result c.of-words.ensures.words).readable

pub open-requires-clause-writes : goal.open-requires-clause-writes
open-requires-clause-writes g c =
    (host_tables c.args.program.now.classes c.args.program.now.code c.args.working.now c.requires.going c.requires.here c.of-words.result c.of-words.ensures.words).writable

pub drop_words-requires : goal.drop_words-requires
drop_words-requires g c =
    omega (arith, tests_within (host_tests (heap_of c.args.working.now.heap.region.arrays)) c.args.working.now.frames.current.operands.items (host_found c.args.program.now.classes c.args.program.now.code c.args.working.now c.requires.going c.requires.here))

pub go_on-requires : goal.go_on-requires
go_on-requires g c =
    (host_asks c.args.program.now.classes c.args.program.now.code c.args.working.now c.requires.going c.requires.here c.of-words.result c.of-words.ensures.words c.if-words-eq1.false).within

-- the call is answered
answered : (g : Over) (c : goal.After-go_on g) → Answered g.V.Server.goes g.V.Server.held g.V.Server.fell c.args.program.now.classes c.args.program.now.code c.args.working.now c.requires.going c.requires.here c.of-words.result c.of-words.ensures.words c.go_on.new.working c.args.server.now c.serve-answer.new.self
answered g c =
    let fits : FitsSigned w32 c.in-Ok-Some.value = search rules in
    let is_some : c.in-Ok-Some.field-0 ≡ Some c.in-Ok-Some.value = rw c.in-Ok-Some.is at c.in-Ok-Some.field-0-is in
    let served = served_of g.V.Server.goes g.V.Server.held g.V.Server.fell c.args.working.now c.of-words.result c.args.server.now c.serve-answer.new.self c.open.new.self c.serve-answer.new.view c.serve-answer.result (Ok (Some c.in-Ok-Some.value)) c.open.ensures (c.in-Ok-Some.is ∙ ap Ok is_some) c.serve-answer.ensures.served in
    let word = c.unsigned.ensures.value ∙ ap unsigned_of (to_z-of_z w32 c.in-Ok-Some.value fits) ∙ wrapped-fits c.in-Ok-Some.value fits in
    let answer = host_answers g.V.Server.goes g.V.Server.held g.V.Server.fell c.args.program.now.classes c.args.program.now.code c.args.working.now c.requires.going c.requires.here c.of-words.result c.of-words.ensures.words c.if-words-eq1.false c.args.server.now c.serve-answer.new.self c.close.new.self c.serve-answer.new.view (ap (λ (h : Held). h.region) c.close.ensures) c.in-Ok-Some.value c.unsigned.result word served in
    let is = answered_working c.args.working.now c.go_on.new.working c.push.new.self c.drop_words.new.operands c.close.new.self c.unsigned.result c.drop_words.ensures.dropped c.drop_words.ensures.limit c.push.ensures c.go_on.ensures in
    subst (λ (x : Working). Answered g.V.Server.goes g.V.Server.held g.V.Server.fell c.args.program.now.classes c.args.program.now.code c.args.working.now c.requires.going c.requires.here c.of-words.result c.of-words.ensures.words x c.args.server.now c.serve-answer.new.self) (sym is) answer

pub returns-in-Ok-Some-clause-turn : goal.returns-in-Ok-Some-clause-turn
returns-in-Ok-Some-clause-turn g c = (answered g c).turn

pub returns-in-Ok-Some-clause-size : goal.returns-in-Ok-Some-clause-size
returns-in-Ok-Some-clause-size g c = (answered g c).size

pub returns-in-Ok-Some-clause-roomy : goal.returns-in-Ok-Some-clause-roomy
returns-in-Ok-Some-clause-roomy g c = (answered g c).roomy

pub returns-in-Ok-Some-clause-going : goal.returns-in-Ok-Some-clause-going
returns-in-Ok-Some-clause-going g c = λ _. (answered g c).going

pub returns-in-Ok-None-clause-turn : goal.returns-in-Ok-None-clause-turn
returns-in-Ok-None-clause-turn g c =
    let is_none : c.in-Ok-None.field-0 ≡ None = rw c.in-Ok-None.is at c.in-Ok-None.field-0-is in
    let served = served_of g.V.Server.goes g.V.Server.held g.V.Server.fell c.args.working.now c.of-words.result c.args.server.now c.serve-answer.new.self c.open.new.self c.serve-answer.new.view c.serve-answer.result (Ok None) c.open.ensures (c.in-Ok-None.is ∙ ap Ok is_none) c.serve-answer.ensures.served in
    host_waits g.V.Server.goes g.V.Server.held g.V.Server.fell c.args.program.now.classes c.args.program.now.code c.args.working.now c.requires.going c.requires.here c.of-words.result c.of-words.ensures.words c.if-words-eq1.false c.args.server.now c.serve-answer.new.self c.close.new.self c.serve-answer.new.view (ap (λ (h : Held). h.region) c.close.ensures) served

pub returns-in-Ok-None-clause-size : goal.returns-in-Ok-None-clause-size
returns-in-Ok-None-clause-size g c =
    let is_none : c.in-Ok-None.field-0 ≡ None = rw c.in-Ok-None.is at c.in-Ok-None.field-0-is in
    let served = served_of g.V.Server.goes g.V.Server.held g.V.Server.fell c.args.working.now c.of-words.result c.args.server.now c.serve-answer.new.self c.open.new.self c.serve-answer.new.view c.serve-answer.result (Ok None) c.open.ensures (c.in-Ok-None.is ∙ ap Ok is_none) c.serve-answer.ensures.served in
    held_size c.args.working.now c.of-words.result c.close.new.self c.serve-answer.new.view (ap (λ (h : Held). h.region) c.close.ensures) served.1

pub returns-in-Ok-None-clause-roomy : goal.returns-in-Ok-None-clause-roomy
returns-in-Ok-None-clause-roomy g c =
    held_roomy c.args.program.now.classes c.args.working.now c.close.new.self (still_roomy c.args.program.now.classes c.args.program.now.code c.args.working.now c.requires.going)

pub returns-in-Err-clause-turn : goal.returns-in-Err-clause-turn
returns-in-Err-clause-turn g c =
    let served = served_of g.V.Server.goes g.V.Server.held g.V.Server.fell c.args.working.now c.of-words.result c.args.server.now c.serve-answer.new.self c.open.new.self c.serve-answer.new.view c.serve-answer.result (Err c.in-Err.fault) c.open.ensures c.in-Err.is c.serve-answer.ensures.served in
    host_falls g.V.Server.goes g.V.Server.held g.V.Server.fell c.args.program.now.classes c.args.program.now.code c.args.working.now c.requires.going c.requires.here c.of-words.result c.of-words.ensures.words c.if-words-eq1.false c.args.server.now c.serve-answer.new.self c.close.new.self c.serve-answer.new.view (record c.args.working.now { heap = c.close.new.self }) c.in-Err.fault served

pub returns-in-Err-clause-size : goal.returns-in-Err-clause-size
returns-in-Err-clause-size g c =
    let served = served_of g.V.Server.goes g.V.Server.held g.V.Server.fell c.args.working.now c.of-words.result c.args.server.now c.serve-answer.new.self c.open.new.self c.serve-answer.new.view c.serve-answer.result (Err c.in-Err.fault) c.open.ensures c.in-Err.is c.serve-answer.ensures.served in
    served_size c.args.working.now c.of-words.result c.close.new.self c.serve-answer.new.view served.1.0 (ap (λ (h : Held). h.region) c.close.ensures) served.1.2

pub returns-in-Err-clause-roomy : goal.returns-in-Err-clause-roomy
returns-in-Err-clause-roomy g c =
    held_roomy c.args.program.now.classes c.args.working.now c.close.new.self (still_roomy c.args.program.now.classes c.args.program.now.code c.args.working.now c.requires.going)

pub returns-in-Ok-None-clause-rests : goal.returns-in-Ok-None-clause-rests
returns-in-Ok-None-clause-rests g c =
    let is_none : c.in-Ok-None.field-0 ≡ None = rw c.in-Ok-None.is at c.in-Ok-None.field-0-is in
    let served = served_of g.V.Server.goes g.V.Server.held g.V.Server.fell c.args.working.now c.of-words.result c.args.server.now c.serve-answer.new.self c.open.new.self c.serve-answer.new.view c.serve-answer.result (Ok None) c.open.ensures (c.in-Ok-None.is ∙ ap Ok is_none) c.serve-answer.ensures.served in
    λ _. held_going c.args.program.now.classes c.args.program.now.code c.args.working.now c.of-words.result c.close.new.self c.serve-answer.new.view c.requires.going (ap (λ (h : Held). h.region) c.close.ensures) served.1
