-- While a stage is not over, some stage can make a turn.
use Rattle.std.proofs.Common.{◌≡◌, ℕ, zero, suc, ◌+◌, ◌<◌, ◌≤◌, ◌==◌, ◌⊎◌, inl, inr, min, nat_lt, Bool, true, false, not, ◌||◌, ◌&&◌, if◌then◌else◌, length, refl, arith}
use Rattle.std.specs.List.{list_any}
use Rattle.std.proofs.lemmas.Bool.{cases_Bool, or_left, or_right, or_parts, and_from, not_from_false, lt-ltb, ltb-false, le-leb, eqb-false}
use Rattle.run_definition.specs.Turn.{Turn, moves, ends, leaves, asks}
use Rattle.unix_pipe_laws.specs.Stages.{reads_input, writes_output, input_left}
use Rattle.unix_pipe_laws.specs.Pipelines.{Pipeline, PipeNet, is_over_at, is_fed, is_newline, has_enough, in_pipe, may_write, is_ready, next_turn, stands_ready, can_turn}

module _ {S : Type 0} (p : Pipeline S) (net : PipeNet S) where
  -- a stage that can make a turn
  abbrev pub SomeTurns : Type 0
  SomeTurns = (j : ℕ) × (can_turn p net j ≡ true)

  can-turn : (i : ℕ) → i < p.count → is_over_at p net i ≡ false → stands_ready p net i ≡ true → SomeTurns
  can-turn i within going ready = (
    i,
    and_from (nat_lt i p.count) (not (is_over_at p net i) && stands_ready p net i) (lt-ltb i p.count within)
        (and_from (not (is_over_at p net i)) (stands_ready p net i) (not_from_false (is_over_at p net i) going) ready),
  )

  -- A stage's reads are ready: the stage before is over, or its pipe is full.
  abbrev ReadsReady : ℕ → Type 0
  ReadsReady i = (is_fed p net i ≡ true) ⊎ (p.c ≤ length (input_left (net.stage i)))

  enough : (i n : ℕ) → p.c ≤ length (input_left (net.stage i)) → has_enough (min n p.c) (input_left (net.stage i)) ≡ true
  enough i n full = or_left _ (list_any is_newline (input_left (net.stage i))) (le-leb (min n p.c) (length (input_left (net.stage i))) (omega arith))

  reads-go : (i n : ℕ) → ReadsReady i → (is_fed p net i || has_enough (min n p.c) (input_left (net.stage i))) ≡ true
  reads-go i n (inl is) = or_left _ _ is
  reads-go i n (inr full) = or_right (is_fed p net i) _ (enough i n full)

  -- where a write has to wait, the next stage is not over, and its pipe is full
  pub record Waits (i : ℕ) : Type 0 where
    pub inner : suc i ≡ p.count → ⊥
    pub going : is_over_at p net (suc i) ≡ false
    pub full : p.c ≤ length (input_left (net.stage (suc i)))

  waits : (i : ℕ) → (suc i == p.count || (is_over_at p net (suc i) || nat_lt (in_pipe net (suc i)) p.c)) ≡ false → Waits i
  waits i h =
      let a = or_parts (suc i == p.count) _ h in
      let b = or_parts (is_over_at p net (suc i)) _ a.1 in
      let many : p.c ≤ in_pipe net (suc i) = ltb-false (in_pipe net (suc i)) p.c b.1 in
      record { inner = eqb-false (suc i) p.count a.0; going = b.0; full = omega arith }

  ready-or-waits : (i : ℕ) (t : Turn S) → ReadsReady i → (is_ready p net i t ≡ true) ⊎ Waits i
  ready-or-waits i (moves t) reads_ready = inl refl
  ready-or-waits i (ends e) reads_ready = inl refl
  ready-or-waits i (leaves q e) reads_ready = inl refl
  ready-or-waits i (asks q next) reads_ready = by-call (reads_input (net.stage i).system.opened q) (writes_output (net.stage i).system.opened q)
    where
      by-call : (r w : Bool) → ((if r then (is_fed p net i || has_enough (min q.a2 p.c) (input_left (net.stage i))) else if w then may_write p net i else true) ≡ true) ⊎ Waits i
      by-call true w = inl (reads-go i q.a2 reads_ready)
      by-call false true = elim (cases_Bool (may_write p net i)) [
        | inl is ↦ inl is
        | inr is ↦ inr (waits i is)
      ]
      by-call false false = inl refl

  -- a stage whose reads are ready can make a turn, or the next one's are
  onward : (left i : ℕ) → p.count ≤ i + left → i < p.count → is_over_at p net i ≡ false → ReadsReady i → SomeTurns
  onward zero i few within going reads_ready = absurd (omega arith)
  onward (suc left) i few within going reads_ready = elim (ready-or-waits i (next_turn p net i) reads_ready) [
    | inl ready ↦ can-turn i within going ready
    | inr w ↦ let apart = w.inner in
        onward left (suc i) (omega arith) (omega arith) w.going (inr w.full)
  ]

  -- go back to the first stage that is not over
  pub some-turns : (i : ℕ) → i < p.count → is_over_at p net i ≡ false → SomeTurns
  some-turns zero within going = onward p.count zero (omega arith) within going (inl refl)
  some-turns (suc i) within going = elim (cases_Bool (is_over_at p net i)) [
    | inl is ↦ onward p.count (suc i) (omega arith) within going (inl is)
    | inr is ↦ some-turns i (omega arith) is
  ]
