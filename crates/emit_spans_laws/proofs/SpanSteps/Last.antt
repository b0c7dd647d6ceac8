-- The last unit of a piece: behind it what was written is put back, and the classes go on as the unit leads.
use Rattle.std.proofs.Common.{◌≡◌, ℕ, ◌+◌, ◌-◌, ◌*◌, Bool, true, List, [], ◌∷◌, ◌++◌, length, length-append, map, Option, refl, ap, subst, sym, ◌∙◌, arith}
use Rattle.std.specs.List.{range_with_len}
use Rattle.run_definition.specs.declared.order.Order.{Order}
use Rattle.run_definition.specs.Turn.{Turn, moves, ends, leaves, asks}
use Rattle.mips_definition.specs.State.{State}
use Rattle.delay_slots.specs.declared.unit.Unit.{Unit as Word}
use Rattle.delay_slots.specs.declared.unit.Unit.TheVariants as units
use Rattle.delay_slots.specs.Units.{units_of}
use Rattle.delay_slots.specs.Turns.{unit_turns, turn_count, last_turn}
use Rattle.block_builder.specs.Blocks.{unit_at}
use Rattle.block_builder.specs.Registers.{Register, unit_writes, written_by}
use Rattle.jvm_definition.specs.declared.instruction.Instruction.{Instruction}
use Rattle.jvm_definition.specs.declared.value.Value.{Value}
use Rattle.jvm_definition.specs.Effect.{Workspace, with_operands}
use Rattle.emit_steps.specs.declared.step.Step.{Step}
use Rattle.emit_steps.specs.Widths.{size}
use Rattle.emit_steps.specs.Placing.{LiesAt}
use Rattle.emit_layout.specs.FieldNumbers.{pc_field}
use Rattle.emit_instructions.specs.Units.{unit_code}
use Rattle.word_emitter.specs.Exits.{exit_code, follows}
use Rattle.word_emitter.specs.Pieces.{bank_of, for_registers, is_written, put_back, units_code}
use Rattle.emit_simulation_laws.specs.Knowing.{gained}
use Rattle.emit_simulation_laws.specs.Lawful.{has_register}
use Rattle.emit_spans.specs.declared.span_words.SpanWords.{SpanWords}
use Rattle.emit_spans.specs.Pieces.{begins}
use Rattle.emit_spans.specs.Neighbours.{address, next_such}
use Rattle.emit_spans.specs.Parts.{extent, exit_of}
use Rattle.emit_spans.specs.Laying.{entry_at, laid_step, return_offset, targets_of}
use Rattle.emit_spans.proofs.StandingLemmas.{word-stands}
use Rattle.emit_simulation_laws.specs.Sites.{Site, stands, whole_weight}
use Rattle.emit_simulation_laws.specs.Following.{ComesToEnd, Follows}
use Rattle.emit_simulation_laws.specs.Holding.{HoldsOn, KeepsFields}
use Rattle.emit_simulation_laws.specs.Behind.{IsHeld}
use Rattle.emit_simulation_laws.proofs.GuestFollows.CodeLaws.{code-laws}
use Rattle.emit_simulation_laws.proofs.GuestFollows.Weights.{size-both}
use Rattle.emit_instructions_laws.proofs.PieceLaws.Arriving.{put-field, put-held, unit-moved}
use Rattle.emit_instructions_laws.proofs.PieceLaws.Fetching.{PutsBack, each_code, puts-back}
use Rattle.emit_instructions_laws.proofs.PieceLaws.Turns as reached
use Rattle.emit_instructions_laws.proofs.PieceLaws.Turns.{LeavesOthers, unit-leaves}
use Rattle.emit_instructions_laws.specs.Units.{UnitArrives}
use Rattle.emit_instructions_laws.specs.Pieces.{HoldsAll, UnitGoal}
use Rattle.emit_spans_laws.specs.Resuming.{ComesTo, IsEntryOf, Resumes}
use Rattle.emit_spans_laws.specs.Spans.{HasSpan}
use Rattle.emit_spans_laws.proofs.SpanCodeLaws.Counting.{putting-weighs}
use Rattle.emit_spans_laws.proofs.SpanCodeLaws.Exits.{SaysEnd, exit-stays}
use Rattle.emit_spans_laws.proofs.SpanCodeLaws.Going.{exit-comes, reaches-map}
use Rattle.emit_spans_laws.proofs.SpanCodeLaws.Joining.{Reaches, end-before, follows-on}
use Rattle.emit_spans_laws.proofs.SpanCodeLaws.Leading.{LeadsTo, unit-leads}
use Rattle.emit_spans_laws.proofs.SpanCodeLaws.Warm.{each-stays, next-is}
use Rattle.emit_spans_laws.proofs.SpanCodeLaws.Words.{unit-goal}
use Rattle.emit_spans_laws.specs.InPieces.{IsInPiece, StandsInPiece, fetching, known_behind, offset_in, own_units}
use Rattle.emit_spans_laws.specs.Following.{UnitFollowsBy, UnitGoesOn}
use Rattle.emit_spans_laws.proofs.SpanSteps.Alone.{laid-exit-weighs}
use Rattle.emit_spans_laws.proofs.SpanSteps.Lists.{code-both}
use Rattle.emit_spans_laws.proofs.SpanSteps.Middle.{all-done, one-done}
use Rattle.emit_spans_laws.proofs.SpanSteps.Parts.{StepLaws, here-is, lawful-there, unit-lawful, unit-parts, unit-there}

-- ---- where a unit leads, and what it leaves

both-reached : (P Q : State → Type 0) → (turn : Turn State) → Reaches P turn → reached.Reaches Q turn → Reaches (λ t. P t × Q t) turn
both-reached P Q (moves t) first second = (first, second)
both-reached P Q (ends e) first second = tt
both-reached P Q (leaves q e) first second = tt
both-reached P Q (asks q next) first second = λ a. (first a, second a)

-- ---- where its code has come to its end

-- what a branch has left above the operands is taken
held-below : (bank : ℕ) (known : ℕ → Bool) (written : List Register) (w u : Workspace) (t : State) → HoldsOn bank (gained written known) u t
    → KeepsFields bank w u → IsHeld bank known written w (with_operands u w.operands) t
held-below bank known written w u t held kept = record { held = held; kept = record { fields_kept = kept; operands_kept = refl } }

unit-held : (bank : ℕ) (known : ℕ → Bool) (unit : Word) (a : ℕ) (w u : Workspace) (t : State) → UnitArrives bank known unit a w u t
    → IsHeld bank known (unit_writes unit) w (with_operands u w.operands) t
unit-held bank known (units.Plain i) a w u t is = held-below bank known (written_by i) w u t is.state.held is.state.kept.fields_kept
unit-held bank known (units.Branch i slot) a w u t is = held-below bank known (unit_writes (units.Branch i slot)) w u t is.held is.fields_kept
unit-held bank known (units.SlotMissing i) a w u t is = held-below bank known (unit_writes (units.SlotMissing i)) w u t is.held is.fields_kept
unit-held bank known (units.SlotIsBranch i word) a w u t is =
    held-below bank known (unit_writes (units.SlotIsBranch i word)) w u t is.held is.fields_kept
unit-held bank known units.Call a w u t is = held-below bank known (unit_writes units.Call) w u t is.state.held is.state.kept.fields_kept
unit-held bank known (units.Trap kind value) a w u t is = held-below bank known [] w u t is.state.held is.state.kept.fields_kept

module _ (laws : StepLaws) (site : Site) (order : Order) (words : List ℕ) (leads : ℕ → Bool) (span : SpanWords) (has : HasSpan site words leads span)
    (k : ℕ) (front : List Word) (unit : Word) (w : Workspace) (x : State)
    (s : StandsInPiece order (units_of words) leads span k front unit [] w x) where
  abbrev unit_list : List Word
  unit_list = units_of words

  abbrev own : List Word
  own = own_units unit_list leads span k

  abbrev bank : ℕ
  bank = bank_of own

  abbrev at : ℕ
  at = offset_in unit_list leads span k front

  abbrev here : ℕ
  here = address span k + 4 * length front

  abbrev own_code : List Step
  own_code = units_code bank own (address span k)

  abbrev back : List Step
  back = for_registers (is_written own) put_back

  abbrev behind : Option ℕ
  behind = next_such (begins leads span) span k

  abbrev laid : List Step → List Step
  laid code = map (laid_step (extent span) (targets_of unit_list leads span) (return_offset unit_list leads span)) code

  abbrev exit : List Step
  exit = laid (exit_of unit_list span behind (k + length own - 1))

  -- the offsets behind the unit and behind what is put back
  abbrev second : ℕ
  second = at + size (unit_code bank unit here)

  abbrev third : ℕ
  third = second + size back

  last-word : k + length own - 1 ≡ k + length front
  last-word = let total : length own ≡ length (front ++ unit ∷ []) = ap length s.parts in let sum = length-append front (unit ∷ []) in
      omega (arith, total, sum)

  -- the exit is that of the unit
  exit-is : exit ≡ laid (exit_code (extent span) behind unit here)
  exit-is =
      let there : address span (k + length front) ≡ here = omega arith in
      ap (λ j. laid (exit_of unit_list span behind j)) last-word
      ∙ ap (λ a. laid (exit_code (extent span) behind (unit_at unit_list (k + length front)) a)) there
      ∙ ap (λ u. laid (exit_code (extent span) behind u here)) (sym (unit-there laws site order words leads span has k front unit [] w x s))

  back-lies : LiesAt site.program site.method second back
      × LiesAt site.program site.method third (exit ++ (word-stands unit_list leads span k s.above s.below).behind)
  back-lies =
      laws.pieces.units.paths.parts site.program site.method second back (exit ++ (word-stands unit_list leads span k s.above s.below).behind)
      (each-stays (is_written own) put_back (λ r. refl) (range_with_len 1 31))
      (unit-parts laws site order words leads span has k front unit [] w x s).1

  -- ---- behind the unit

  abbrev Leads : State → Type 0
  Leads t = LeadsTo unit here t.pc × LeavesOthers (has_register (unit_writes unit)) x t

  leads-there : Reaches Leads (last_turn (unit_turns unit x))
  leads-there =
      both-reached (λ (t : State). LeadsTo unit here t.pc) (LeavesOthers (has_register (unit_writes unit)) x) (last_turn (unit_turns unit x))
      (subst (λ pc. Reaches (λ (t : State). LeadsTo unit pc t.pc) (last_turn (unit_turns unit x)))
      (here-is laws site order words leads span has k front unit [] w x s)
      (unit-leads unit x (unit-lawful laws site order words leads span has k front unit [] w x s) s.pending))
      (unit-leaves laws.pieces.change unit x)

  abbrev Rests : State → Workspace → Type 0
  Rests t z = HoldsAll z t × SaysEnd unit here z t

  module _ (t : State) (goes : Leads t) (u : Workspace) (arrives : UnitArrives bank (known_behind own front) unit x.pc w u t) where
    abbrev taken : Workspace
    taken = with_operands u w.operands

    all-inside : IsInPiece own own taken t
    all-inside =
        subst (λ units. IsInPiece own units taken t) (sym s.parts)
        (one-done laws.sets own front unit (unit-lawful laws site order words leads span has k front unit [] w x s) w taken x t s.inside goes.1
        (unit-held bank (known_behind own front) unit x.pc w u t arrives))

    put : PutsBack site.program site.words (is_written own) t.registers 1 31 (each_code (is_written own) put_back 1 31) u
    put = puts-back site.program site.words (is_written own) t.registers 31 1 u (omega arith) (omega arith)
        (all-done laws.sets own taken t (lawful-there laws site order words leads span has k front unit [] w x s) all-inside)

    put-rests : Rests t put.after
    put-rests = (
      put-held site.program site.words own u t put all-inside.unwritten (known_behind own own) all-inside.held,
      unit-moved (with_operands put.after []) w u put.after t s.inside.no_operands put.operands_kept
          (record {
            pc_kept = put-field site.program site.words own u t put pc_field (omega arith);
            goal_kept = ap (λ (l : ℕ → Value). l 0) put.locals_kept;
          })
          unit here
          (subst (λ a. UnitGoal unit a w u t) (here-is laws site order words leads span has k front unit [] w x s)
          (unit-goal bank (known_behind own front) unit x.pc w u t arrives)),
    )

    back-comes : ComesToEnd site second third 0 62 (whole_weight order back) (Rests t) (stands site second u)
    back-comes =
        (code-laws laws.pieces.units.paths).end_follows site order second 0 62 put.turns back u put.after (Rests t) back-lies.0 put.comes (omega arith)
        put.few put-rests

  -- ---- and behind what is put back

  abbrev OwnExit : List Step → Type 0
  OwnExit code = (t : State) → LeadsTo unit here t.pc → (z : Workspace) → Rests t z
      → ComesTo site third (third + size code) 0 4 (whole_weight order code) (λ y. Resumes site unit_list leads span unit y t) (stands site third z)

  own-next : (b : ℕ) → follows behind b ≡ true → IsEntryOf unit_list leads span (third + size (laid (exit_code (extent span) behind unit here))) b
  own-next b is =
      let parts : size own_code ≡ size (units_code bank front (address span k) ++ (unit_code bank unit here ++ [])) =
      ap size (ap (λ piece. units_code bank piece (address span k)) s.parts ∙ code-both bank front (unit ∷ []) (address span k)) in
      let a = size-both (fetching own ++ own_code) back in
      let b_sum = size-both (fetching own) own_code in
      let c = size-both (fetching own) (units_code bank front (address span k)) in
      let d = size-both (units_code bank front (address span k)) (unit_code bank unit here ++ []) in
      let e = size-both (unit_code bank unit here) [] in
      let f : size exit ≡ size (laid (exit_code (extent span) behind unit here)) = ap size exit-is in
      let end : entry_at unit_list leads span k + size ((fetching own ++ own_code) ++ back) + size exit
      ≡ third + size (laid (exit_code (extent span) behind unit here)) = omega (arith, parts, a, b_sum, c, d, e, f) in
      subst (λ high. IsEntryOf unit_list leads span high b) end (next-is laws.pieces site words leads span has k s.above s.below s.begin b is)

  exit-goes : OwnExit (laid (exit_code (extent span) behind unit here))
  exit-goes t leads_there z rests =
      let lies : LiesAt site.program site.method third exit =
      (laws.pieces.units.paths.parts site.program site.method third exit (word-stands unit_list leads span k s.above s.below).behind
      (exit-stays unit_list leads span behind (unit_at unit_list (k + length own - 1)) (address span (k + length own - 1))) back-lies.1).0 in
      exit-comes laws.pieces.units.paths site order unit_list leads span behind unit here (omega arith) third own-next
      (subst (LiesAt site.program site.method third) exit-is lies) t leads_there z rests.0 rests.1

  pub last-goes : (total : (Instruction → ℕ) → ℕ) → UnitFollowsBy site bank (known_behind own front) at total unit w x
      → UnitGoesOn site unit_list leads span at (turn_count (unit_turns unit x)) (132 * turn_count (unit_turns unit x) + 70) total unit w
      (last_turn (unit_turns unit x))
  last-goes total given =
      let n : ℕ = turn_count (unit_turns unit x) in
      let end : at + size (unit_code bank unit x.pc) ≡ second =
      ap (λ pc. at + size (unit_code bank unit pc)) (here-is laws site order words leads span has k front unit [] w x s) in
      let more : (Instruction → ℕ) → ℕ = λ weight. whole_weight order back weight + whole_weight order exit weight in
      let exits : OwnExit exit = subst OwnExit (sym exit-is) exit-goes in
      record {
        high = third + size exit;
        sum = λ weight. total weight + more weight;
        spared = λ weight spares.
            let first_none = putting-weighs order weight spares (is_written own) in
            let second_none = laid-exit-weighs order unit_list leads span behind (k + length own - 1) weight spares in
            omega (arith, first_none, second_none);
        follows =
            follows-on site second (third + size exit) (132 * n) 66 (132 * n + 70) total more (λ weight. total weight + more weight) (omega arith)
            (λ weight. omega arith) (UnitArrives bank (known_behind own front) unit x.pc w) (Resumes site unit_list leads span unit) (omega arith) at n
            (last_turn (unit_turns unit x)) (stands site at w)
            (reaches-map Leads
            (λ t. (u : Workspace) → UnitArrives bank (known_behind own front) unit x.pc w u t
            → ComesTo site second (third + size exit) 0 66 more (λ y. Resumes site unit_list leads span unit y t) (stands site second u))
            (λ t goes u arrives.
            end-before site third (third + size exit) 0 4 4 (whole_weight order back) (whole_weight order exit) more (omega arith)
            (λ weight. omega arith) (λ z v. Rests v z) (Resumes site unit_list leads span unit) second 0 62 t (stands site second u)
            (exits t goes.0) (back-comes t goes u arrives))
            (last_turn (unit_turns unit x)) leads-there)
            (subst (λ high. Follows site at high n (132 * n) total (UnitArrives bank (known_behind own front) unit x.pc w) (stands site at w)
            (last_turn (unit_turns unit x))) end given);
      }
