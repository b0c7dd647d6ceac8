-- What the server of a stage gives.
use Rattle.std.proofs.Common.{◌≡◌, ℕ, ℤ, true, false, if◌then◌else◌, Option, Some, None, Result, Ok, Err, refl, ap, ◌∙◌}
use Rattle.run_definition.specs.Question.{Question}
use Rattle.nv_events.specs.Serving as events
use Rattle.run_definition.specs.declared.io_fault.IoFault.{IoFault}
use Rattle.unix_definition.specs.Unix.{unix}
use Rattle.unix_calls.specs.Serving.{Serves}
use Rattle.unix_pipe_laws.specs.Stages.{reads_input, writes_output}
use Rattle.pipe_net.specs.Ports.{FallsThrough, GoesThrough, KeepsOthers, Ports, Waits, may_read_at, may_write_at, parts_of, ready_for}

module _ {V C : Type 0} (port : V → Ports) (failed : V → Option IoFault) (put_at : C → ℕ → ℕ → C) where
  abbrev PipedServes : Question → V → V → C → C → Result (Option ℤ) IoFault → Type 0
  PipedServes q j k c d y =
      events.Serves (λ v r a w. GoesThrough (port v) r a (port w)) (λ v r w. Waits (port v) r (port w))
      (λ v r w. (fault : IoFault) × (failed w ≡ Some fault) × FallsThrough (port v) r (port w) fault) put_at q j k c d y

  -- a call that is not ready
  pub piped-waits : (j : V) (q : Question) (c : C) → ready_for (port j) q ≡ false → PipedServes q j j c c (Ok None)
  piped-waits j q c not_ready = ((not_ready, refl), refl)

  abbrev Served : Question → V → V → C → C → Result ℤ IoFault → Type 0
  Served q j k c d x = Serves put_at (λ s. unix s q) q.number q.room (parts_of (port j)) (parts_of (port k)) c d x

  -- one that is answered, and one that failed
  pub piped-goes : (j k : V) (q : Question) (c d : C) (value : ℤ) → ready_for (port j) q ≡ true → KeepsOthers (port j) (port k) → Served q j k c d (Ok value) → PipedServes q j k c d (Ok (Some value))
  piped-goes j k q c d value ready others given = (given.0, given.1.fits, record { ready = ready; goes = given.1; others = others }, given.2)

  pub piped-falls : (j k : V) (q : Question) (c d : C) (fault : IoFault) → ready_for (port j) q ≡ true → KeepsOthers (port j) (port k) → failed k ≡ Some fault → Served q j k c d (Err fault) → PipedServes q j k c d (Err fault)
  piped-falls j k q c d fault ready others is given = ((fault, is, record { ready = ready; fell = given.0; others = others }), given.1)

-- ---- which calls are ready

module _ (p : Ports) (q : Question) where
  pub ready-reads : reads_input p.unix.opened q ≡ true → ready_for p q ≡ may_read_at p.inlet p q.a2
  ready-reads is = ap (λ b. if b then may_read_at p.inlet p q.a2 else if writes_output p.unix.opened q then may_write_at p.outlet p else true) is

  pub ready-writes : reads_input p.unix.opened q ≡ false → writes_output p.unix.opened q ≡ true → ready_for p q ≡ may_write_at p.outlet p
  ready-writes none is =
      ap (λ b. if b then may_read_at p.inlet p q.a2 else if writes_output p.unix.opened q then may_write_at p.outlet p else true) none
      ∙ ap (λ b. if b then may_write_at p.outlet p else true) is

  pub ready-else : reads_input p.unix.opened q ≡ false → writes_output p.unix.opened q ≡ false → ready_for p q ≡ true
  ready-else unread unwritten =
      ap (λ b. if b then may_read_at p.inlet p q.a2 else if writes_output p.unix.opened q then may_write_at p.outlet p else true) unread
      ∙ ap (λ b. if b then may_write_at p.outlet p else true) unwritten
