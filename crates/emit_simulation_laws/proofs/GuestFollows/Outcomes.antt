-- Code without calls follows by its outcome.
use Rattle.std.proofs.Common.{◌≡◌, ℕ, suc, ◌+◌, ◌<◌, ◌≤◌, List, take, drop, Option, ap, subst, sym, ◌∙◌, arith}
use Rattle.run_definition.specs.declared.order.Order.{Order}
use Rattle.run_definition.specs.Turn.{Turn, ends, «fault»}
use Rattle.run_definition.specs.declared.call.Call.{Call}
use Rattle.run_definition.specs.declared.fault.Fault.{Fault}
use Rattle.jvm_definition.specs.Effect.{Workspace, InstructionEffect, faults, asks_host}
use Rattle.jvm_definition.specs.Step.{JvmState, frame_placed, asked_host, after_host}
use Rattle.emit_steps.specs.declared.step.Step.{Step}
use Rattle.emit_steps.specs.Widths.{bytes_before, size}
use Rattle.emit_steps.specs.Outcomes.{Outcome, outcome, outcome_from, ended, stopped}
use Rattle.emit_steps.specs.Placing.{LiesAt}
use Rattle.emit_steps.specs.Leading.{StopsAt}
use Rattle.emit_paths_laws.specs.Paths.{PathWithin, weigh}
use Rattle.emit_paths_laws.specs.Laws.{CodeIsPath}
use Rattle.emit_paths_laws.proofs.Joining.{path-wider, seen-within}
use Rattle.emit_steps.proofs.WidthLemmas.{width-some}
use Rattle.emit_paths_laws.proofs.Weighing.{weigh-front, weigh-back, bytes-more, bytes-within, line-step}
use Rattle.emit_simulation_laws.specs.Sites.{Site, stands, turn_in, whole_weight, PathIn}
use Rattle.emit_simulation_laws.specs.Following.{ComesToEnd, ComesToTurn}
use Rattle.emit_simulation_laws.proofs.GuestFollows.Weights.{weigh-whole}

pub here : (at : ℕ) → at + 0 ≡ at
here at = omega arith

module _ (is_path : CodeIsPath) (site : Site) (order : Order) (at : ℕ) (code : List Step) (lies : LiesAt site.program site.method at code) where
  -- the path to where the code comes, from its k-th step on
  pub goes : (k : ℕ) (w : Workspace) (o : Outcome) → outcome_from site.program site.words code k w ≡ o → PathWithin site.program site.words site.method at k code site.others (stands site (at + bytes_before code k) w) o
  goes k w o is =
      subst (PathWithin site.program site.words site.method at k code site.others (stands site (at + bytes_before code k) w)) is
      (is_path site.program site.words site.method at k code w site.others lies)

  pub code-ends : (k least most n : ℕ) (w v : Workspace) (Arrives : Workspace → Type 0) → outcome_from site.program site.words code k w ≡ ended n v → least ≤ n → n ≤ most → Arrives v → ComesToEnd site (at + bytes_before code k) (at + size code) least most (whole_weight order code) Arrives (stands site (at + bytes_before code k) w)
  code-ends k least most n w v Arrives is some few arrives = record {
    turns = n;
    after = v;
    path = path-wider site.program site.words site.method (at + bytes_before code k) (at + size code) (at + bytes_before code k) (at + size code) n (λ weight. weigh weight (drop k code)) (whole_weight order code) (stands site (at + bytes_before code k) w) (stands site (at + size code) v) (omega arith) (omega arith)
        (λ weight still. let a = weigh-back weight k code in let b = weigh-whole order weight code in omega (arith, a, b))
        (goes k w (ended n v) is);
    no_sooner = some;
    in_time = few;
    arrives = arrives;
  }

  pub code-ends-here : (least most n : ℕ) (w v : Workspace) (Arrives : Workspace → Type 0) → outcome site.program site.words code w ≡ ended n v → least ≤ n → n ≤ most → Arrives v → ComesToEnd site at (at + size code) least most (whole_weight order code) Arrives (stands site at w)
  code-ends-here least most n w v Arrives is some few arrives =
      subst (λ a. ComesToEnd site a (at + size code) least most (whole_weight order code) Arrives (stands site a w)) (here at)
      (code-ends 0 least most n w v Arrives is some few arrives)

  -- where the code stops at a step
  stop-path : (n i : ℕ) (w v : Workspace) (e : InstructionEffect) → outcome site.program site.words code w ≡ stopped n i v e → PathIn site at (at + bytes_before code i) n (whole_weight order code) (stands site at w) (stands site (at + bytes_before code i) v)
  stop-path n i w v e is =
      subst (λ a. PathIn site a (at + bytes_before code i) n (whole_weight order code) (stands site a w) (stands site (at + bytes_before code i) v)) (here at)
      (path-wider site.program site.words site.method (at + 0) (at + bytes_before code i) (at + 0) (at + bytes_before code i) n (λ weight. weigh weight (drop 0 (take i code))) (whole_weight order code) (stands site (at + 0) w) (stands site (at + bytes_before code i) v) (omega arith) (omega arith)
      (λ weight still. let a = weigh-front weight i code in let b = weigh-whole order weight code in omega (arith, a, b))
      (goes 0 w (stopped n i v e) is).0)

  turn-stops : (n i : ℕ) (w v : Workspace) (e : InstructionEffect) → outcome site.program site.words code w ≡ stopped n i v e → StopsAt site.program site.words site.method at code site.others i v e
  turn-stops n i w v e is = (goes 0 w (stopped n i v e) is).1

  -- which lies before the code's end
  step-below : (i : ℕ) (v : Workspace) (e : InstructionEffect) → StopsAt site.program site.words site.method at code site.others i v e → at + bytes_before code i < at + size code
  step-below i v e stops =
      let s = line-step i code at stops.line stops.line_is in
      let some = width-some s.0 in
      let more = bytes-more code i s.0 s.1 in
      let within = bytes-within code (suc i) in
      omega (arith, some, more, within)

  comes : (least most n i : ℕ) (w v : Workspace) (e : InstructionEffect) (Last : ℕ → ℕ → Turn JvmState → Type 0) → outcome site.program site.words code w ≡ stopped n i v e → least ≤ n + 1 → n + 1 ≤ most → Last (n + 1) (at + bytes_before code i) (turn_in site (stands site (at + bytes_before code i) v)) → ComesToTurn site at (at + size code) least most (whole_weight order code) Last (stands site at w)
  comes least most n i w v e Last is some few last = record {
    turns = n;
    before = stands site (at + bytes_before code i) v;
    place = at + bytes_before code i;
    path = stop-path n i w v e is;
    is_there = seen-within site.program site.words site.method (at + bytes_before code i) (at + bytes_before code i + 1) v site.others (omega arith);
    below = step-below i v e (turn-stops n i w v e is);
    no_sooner = some;
    in_time = few;
    last = last;
  }

  pub code-stops : (least most n i : ℕ) (w v : Workspace) (ending : Fault) (Last : ℕ → ℕ → Turn JvmState → Type 0) → outcome site.program site.words code w ≡ stopped n i v (faults ending) → least ≤ n + 1 → n + 1 ≤ most → ((place : ℕ) → Last (n + 1) place (ends («fault» ending))) → ComesToTurn site at (at + size code) least most (whole_weight order code) Last (stands site at w)
  code-stops least most n i w v ending Last is some few last =
      comes least most n i w v (faults ending) Last is some few
      (subst (Last (n + 1) (at + bytes_before code i)) (sym (turn-stops n i w v (faults ending) is).turns) (last (at + bytes_before code i)))

  pub code-asks : (least most n i : ℕ) (w v u : Workspace) (call : Call) (readable writable : Option ℕ) (Last : ℕ → ℕ → Turn JvmState → Type 0) → outcome site.program site.words code w ≡ stopped n i v (asks_host call readable writable u) → least ≤ n + 1 → n + 1 ≤ most → Last (n + 1) (at + bytes_before code i) (asked_host call (record { heap = u.heap; readable = readable; writable = writable }) (λ answer. stands site (at + bytes_before code (suc i)) (after_host call (record { heap = u.heap; readable = readable; writable = writable }) u answer))) → ComesToTurn site at (at + size code) least most (whole_weight order code) Last (stands site at w)
  code-asks least most n i w v u call readable writable Last is some few last =
      let stops = turn-stops n i w v (asks_host call readable writable u) is in
      comes least most n i w v (asks_host call readable writable u) Last is some few
      (subst (Last (n + 1) (at + bytes_before code i)) (sym (stops.turns ∙ ap (λ a. asked_host call (record { heap = u.heap; readable = readable; writable = writable }) (λ answer. frame_placed site.method a (after_host call (record { heap = u.heap; readable = readable; writable = writable }) u answer) site.others)) stops.next_is)) last)
