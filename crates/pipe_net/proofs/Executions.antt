-- Instructions of a stage, one after the other, as its machine executes them over its server.
use Rattle.std.proofs.Common.{◌≡◌, ◌≢◌, ◌<◌, ◌+◌, inl, inr, ℕ, suc, Option, Some, None, Result, Ok, Err, refl, ap, sym, ◌∙◌, subst, arith}
use Rattle.nv_events.specs.Serving.{Causes, Turns}
use Rattle.run_definition.specs.Turn.{Turn, moves, ends, leaves, asks}
use Rattle.run_definition.specs.declared.io_fault.IoFault.{IoFault}
use Rattle.run_definition.specs.declared.io_fault.IoFault.TheVariants.{ReadFault, WriteFault}
use Rattle.run_definition.specs.declared.outcome.Outcome.{Outcome}
use Rattle.run_definition.specs.declared.outcome.Outcome.TheVariants.{Waiting}
use Rattle.nv_events.proofs.Progress.{end_not_waiting}
use Rattle.unix_calls.specs.Failing.{failed_calls}
use Rattle.jvm_definition.specs.Step.{Loaded, loaded_turn}
use Rattle.pipe_net.specs.declared.executed.Stop.TheVariants.{NotReady, Ended}
use Rattle.pipe_net.specs.Ports.{FallsThrough, GoesThrough, Ports, Waits}
use Rattle.pipe_net.specs.Executing.{Fails, Falls, Scene, StandsBefore, Stops, TurnsTo, Walks}

-- what the server says of a turn, as plain data
pub turns-of : {V : Type 0} (port : V → Ports) (failed : V → Option IoFault) (t : Turn Loaded) (old new : Loaded) (v w : V) (r : Result (Option Outcome) IoFault)
    → Turns (λ j q a k. GoesThrough (port j) q a (port k)) (λ j q k. Waits (port j) q (port k)) (λ j q k. (fault : IoFault) × (failed k ≡ Some fault) × FallsThrough (port j) q (port k) fault) t old new v w r
    → Turns GoesThrough Waits Falls t old new (port v) (port w) r
turns-of port failed (moves u) old new v w (Ok None) h = (h.0, ap port h.1)
turns-of port failed (moves u) old new v w (Ok (Some o)) h = h
turns-of port failed (moves u) old new v w (Err e) h = h
turns-of port failed (ends end) old new v w (Ok None) h = h
turns-of port failed (ends end) old new v w (Ok (Some o)) h = (h.0, h.1, ap port h.2)
turns-of port failed (ends end) old new v w (Err e) h = h
turns-of port failed (leaves q end) old new v w (Ok None) h = h
turns-of port failed (leaves q end) old new v w (Ok (Some o)) h = (h.0, h.1, ap port h.2)
turns-of port failed (leaves q end) old new v w (Err e) h = h
turns-of port failed (asks q next) old new v w (Ok None) h = h
turns-of port failed (asks q next) old new v w (Ok (Some o)) h = h
turns-of port failed (asks q next) old new v w (Err e) h = (h.0, h.2)

pub walks-more : (n : ℕ) (x mid y : Scene) → Walks n x mid → TurnsTo mid y (Ok None) → Walks (n + 1) x y
walks-more n x mid y walks turn =
    let e : suc n ≡ n + 1 = omega arith in
    subst (λ k. Walks k x y) e (mid, walks, turn)

-- a turn that waits changed nothing, and stands before a call that is not ready
waits-by : (t : Turn Loaded) (x y : Scene) → loaded_turn x.state ≡ t → Turns GoesThrough Waits Falls t x.state y.state x.ports y.ports (Ok (Some Waiting)) → StandsBefore x × (y.state ≡ x.state) × (y.ports ≡ x.ports)
waits-by (moves u) x y e h = absurd h
waits-by (ends end) x y e h = absurd (end_not_waiting end (sym h.0))
waits-by (leaves q end) x y e h = absurd (end_not_waiting end (sym h.0))
waits-by (asks q next) x y e h = ((q, next, e, h.1.0), h.2, h.1.1)

pub stops-waiting : (most n : ℕ) (x mid behind y : Scene) → n < most → Walks n x mid → TurnsTo mid behind (Ok (Some Waiting)) → y.state ≡ behind.state → y.ports ≡ behind.ports → Stops most x y n NotReady
stops-waiting most n x mid behind y few walks h state ports =
    let w = waits-by (loaded_turn mid.state) mid behind refl h in
    let same : mid ≡ y = λ j. record { state = sym (state ∙ w.1) j; ports = sym (ports ∙ w.2) j } in
    (few, subst (λ (z : Scene). Walks n x z) same walks, subst StandsBefore same w.0)

pub stops-ended : (most n : ℕ) (x mid y : Scene) (o : Outcome) → n < most → Walks n x mid → TurnsTo mid y (Ok (Some o)) → o ≢ Waiting → Stops most x y (n + 1) (Ended o)
stops-ended most n x mid y o few walks h apart = (n, omega arith, omega arith, mid, walks, (h, apart))

-- the fault of a turn is that of the call that failed
fault-is : (before now : Option IoFault) (fault e : IoFault) → before ≡ None → now ≡ Some fault → Causes {A = Option Outcome} (failed_calls before) (failed_calls now) (Err e) → fault ≡ e
fault-is before now fault e none is h = by-kind fault e (subst (λ (k : Option IoFault × Option IoFault). Causes {A = Option Outcome} (failed_calls k.0) (failed_calls k.1) (Err e)) (λ j. (none j, is j)) h)
  where
    by-kind : (fault e : IoFault) → Causes {A = Option Outcome} (failed_calls None) (failed_calls (Some fault)) (Err e) → fault ≡ e
    by-kind ReadFault ReadFault h = refl
    by-kind WriteFault WriteFault h = refl
    by-kind WriteFault ReadFault h = absurd (omega (arith, h))
    by-kind ReadFault WriteFault (inl h) = absurd (omega (arith, h))
    by-kind ReadFault WriteFault (inr h) = absurd (omega (arith, h))

-- a turn that failed was a call that is ready
module _ {V : Type 0} (port : V → Ports) (failed : V → Option IoFault) where
  pub fails-so : (t : Turn Loaded) (old new : Loaded) (v w : V) (e : IoFault) → loaded_turn old ≡ t → failed v ≡ None
      → Turns (λ j q a k. GoesThrough (port j) q a (port k)) (λ j q k. Waits (port j) q (port k)) (λ j q k. (fault : IoFault) × (failed k ≡ Some fault) × FallsThrough (port j) q (port k) fault) t old new v w (Err e)
      → Causes {A = Option Outcome} (failed_calls (failed v)) (failed_calls (failed w)) (Err e) → Fails (record { state = old; ports = port v }) (record { state = new; ports = port w }) e
  fails-so (moves u) old new v w e is none h causes = absurd h
  fails-so (ends end) old new v w e is none h causes = absurd h
  fails-so (leaves q end) old new v w e is none h causes = absurd h
  fails-so (asks q next) old new v w e is none h causes =
      (q, next, is, subst (λ (k : IoFault). FallsThrough (port v) q (port w) k) (fault-is (failed v) (failed w) h.0 e none h.1 causes) h.2)
