-- The methods of spans.
use Rattle.std.proofs.Common.{◌≡◌, ℕ, zero, suc, ◌+◌, ◌-◌, ◌*◌, ◌%◌, ◌^◌, ◌<◌, ◌≤◌, Bool, true, false, nat_lt, if◌then◌else◌, List, [], ◌∷◌, ◌++◌, All, length, map, replicate, drop, refl, sym, subst, arith}
use Rattle.std.specs.Prelude.{◌&&◌, pos}
use Rattle.std.specs.Int.{w32}
use Rattle.std.specs.List.{list_all, range_with_len}
use Rattle.std.proofs.lemmas.Bool.{and_from, lt-ltb}
use Rattle.std.proofs.lemmas.Int.{ints}
use Rattle.std.proofs.lemmas.List.Elements.{All-take, All-drop}
use Rattle.delay_slots.specs.declared.unit.Unit.{Unit}
use Rattle.block_builder.specs.Blocks.{unit_at}
use Rattle.jvm_definition.specs.declared.table_switch.TableSwitch.{TableSwitch}
use Rattle.jvm_definition.specs.declared.instruction.Instruction.TheVariants.{Nop}
use Rattle.class_definition.specs.Format.{fits_signed}
use Rattle.class_definition.specs.Switches.{last_key}
use Rattle.emit_steps.specs.declared.step.Step.{Step}
use Rattle.emit_steps.specs.declared.step.Step.TheVariants.{Does}
use Rattle.emit_steps.specs.Widths.{size}
use Rattle.emit_steps.specs.Switches.{switches_are_placed}
use Rattle.emit_instructions.specs.Units.{unit_code}
use Rattle.word_emitter.specs.Pieces.{ends_with_slot, piece_units, warm_code}
use Rattle.emit_steps.specs.Returning.{returns}
use Rattle.emit_simulation_laws.specs.Lawful.{IsLawful}
use Rattle.emit_spans.specs.declared.span_words.SpanWords.{SpanWords}
use Rattle.emit_spans.specs.Pieces.{begins, piece_at}
use Rattle.emit_spans.specs.Neighbours.{address, is_inner, next_such}
use Rattle.emit_spans.specs.Parts.{extent, exit_of, warm_part, front_of, unit_part, cold_part}
use Rattle.emit_spans.specs.Opening.{index_code, padding, opening}
use Rattle.emit_spans.specs.Laying.{base, warm_before, cold_before, cold_base, return_offset, entry_at, targets_of, laid_step, switch, span_code}
use Rattle.emit_spans.proofs.BodyLemmas.{size-rises}
use Rattle.emit_spans.proofs.SizeLemmas.{span-size}
use Rattle.emit_spans.proofs.TargetLemmas.{told-length}
use Rattle.emit_assembly.specs.declared.references.References.{References}
use Rattle.emit_assembly.specs.Assembling.{switch_has_operation, have_operations}
use Rattle.emit_types_laws.specs.Judging.{Rules}
use Rattle.emit_types_laws.specs.Methods.{taking}
use Rattle.emit_types_laws.specs.Spans.{SpanTyped, goals_of, owes_unknown}
use Rattle.emit_layout.specs.FieldNumbers.{pc_field}
use Rattle.emit_methods_laws.specs.Naming.{fields_of}
use Rattle.emit_methods_laws.specs.Whole.{CanBeMethod, HasHelpers}
use Rattle.emit_methods_laws.proofs.NamedCode.Spans.{lawful-at}
use Rattle.emit_methods_laws.proofs.WholeCode.Targets.{targets-are-lines}
use Rattle.emit_methods_laws.proofs.WholeCode.Operations.{Operates, operates-append, operates-each, operates-laid}
use Rattle.emit_methods_laws.proofs.WholeCode.Bodies.{can-be}
use Rattle.emit_methods_laws.proofs.WholeCode.Exits.{exit-operates}
use Rattle.emit_methods_laws.proofs.WholeCode.Programs.{of_helpers}
use Rattle.emit_methods_laws.proofs.WholeCode.Units.{UnitLaws, unit-operates, guard-operates, warm-operates}

module _ (units : List Unit) (leads : ℕ → Bool) (span : SpanWords) where
  -- ---- the switch

  entry-small : (k : ℕ) → span.first ≤ k → k < span.end → entry_at units leads span k ≤ return_offset units leads span
  entry-small k from below = by_test (begins leads span k)
    where
      by_test : (b : Bool) → (if b then base span + size (warm_before units leads span k)
          else cold_base units leads span + size (cold_before units leads span k)) ≤ return_offset units leads span
      by_test true = let rise = size-rises (warm_part units leads span) (begins leads span) span k from (omega (arith, below)) in omega (arith, rise)
      by_test false = let rise = size-rises (cold_part units leads span) (is_inner leads span) span k from (omega (arith, below)) in omega (arith, rise)

  entries-small : (a n : ℕ) → span.first ≤ a → a + n ≤ span.end → size (span_code units leads span) ≤ 65535
      → list_all (λ target. nat_lt target (2 ^ 32)) (map (entry_at units leads span) (range_with_len a n)) ≡ true
  entries-small a zero from within small = refl
  entries-small a (suc n) from within small =
      let all = span-size units leads span in
      let entry = entry-small a from (omega (arith, within)) in
      and_from (nat_lt (entry_at units leads span a) (2 ^ 32))
      (list_all (λ target. nat_lt target (2 ^ 32)) (map (entry_at units leads span) (range_with_len (a + 1) n)))
      (lt-ltb (entry_at units leads span a) (2 ^ 32) (omega (arith, all, entry, small)))
      (entries-small (a + 1) n (omega (arith, from)) (omega (arith, within)) small)

  abbrev selecting : TableSwitch
  selecting = record { default = return_offset units leads span; low = pos 0; targets = targets_of units leads span }

  switch-operates : span.first < span.end → size (span_code units leads span) ≤ 65535 → switch_has_operation selecting ≡ true
  switch-operates some small =
      let targets = targets_of units leads span in
      let otherwise = return_offset units leads span in
      let count = told-length (entry_at units leads span) span targets refl in
      let all = span-size units leads span in
      let keys : fits_signed w32 (last_key selecting) ≡ true = last-fits targets otherwise (omega (arith, count, all, small)) in
      and_from (nat_lt 0 (length targets) && fits_signed w32 (pos 0) && fits_signed w32 (last_key selecting))
      (list_all (λ target. nat_lt target (2 ^ 32)) (otherwise ∷ targets))
      (and_from (nat_lt 0 (length targets) && fits_signed w32 (pos 0)) (fits_signed w32 (last_key selecting))
      (and_from (nat_lt 0 (length targets)) (fits_signed w32 (pos 0)) (lt-ltb 0 (length targets) (omega (arith, count, some))) refl) keys)
      (and_from (nat_lt otherwise (2 ^ 32)) (list_all (λ target. nat_lt target (2 ^ 32)) targets)
      (lt-ltb otherwise (2 ^ 32) (omega (arith, all, small)))
      (entries-small span.first (span.end - span.first) (omega arith) (omega (arith, some)) small))
    where
      last-fits : (targets : List ℕ) (otherwise : ℕ) → length targets ≤ 65535
          → fits_signed w32 (last_key (record { default = otherwise; low = pos 0; targets = targets })) ≡ true
      last-fits [] otherwise few = refl
      last-fits (target ∷ targets) otherwise few =
          let key : last_key (record { default = otherwise; low = pos 0; targets = target ∷ targets }) ≡ pos (length targets) =
          omega (arith, ints) in
          subst (λ z. fits_signed w32 z ≡ true) (sym key) (lt-ltb (length targets) (2 ^ 31) (omega (arith, few)))

  -- ---- parts

  module _ (r : References) (has : HasHelpers r) (have : fields_of span.metered ≤ length r.fields) (laws : UnitLaws) (all : All IsLawful units) where
    warm : (k : ℕ) → Operates r (warm_part units leads span k)
    warm k =
        let b = piece_at units leads span k in
        let own = piece_units units b in
        let behind = next_such (begins leads span) span k in
        let last = k + length own - 1 in
        let lawful : All IsLawful own = All-take IsLawful (if ends_with_slot units b then b.words - 1 else b.words) (drop b.first units)
        (All-drop IsLawful b.first units all) in
        operates-append r (warm_code own (address span k)) (exit_of units span behind last) (warm-operates r has laws own (address span k) lawful)
        (exit-operates r has.fields (extent span) behind (unit_at units last) (address span last))

    front : (metered : Bool) → fields_of metered ≤ length r.fields → (unit : Unit) (at : ℕ) → IsLawful unit
        → Operates r (front_of metered unit at)
    front true more unit at lawful = guard-operates r has laws more unit at lawful
    front false more unit at lawful = refl

    cold : (k : ℕ) → Operates r (cold_part units leads span k)
    cold k =
        let behind = next_such (is_inner leads span) span k in
        operates-append r (front_of span.metered (unit_at units k) (address span k)) (unit_part units leads span k)
        (front span.metered have (unit_at units k) (address span k) (lawful-at units k all))
        (operates-append r (unit_code 0 (unit_at units k) (address span k)) (exit_of units span behind k)
        (unit-operates r has laws 0 (unit_at units k) (address span k) (lawful-at units k all))
        (exit-operates r has.fields (extent span) behind (unit_at units k) (address span k)))

    nops : (n : ℕ) → Operates r (replicate n (Does Nop))
    nops zero = refl
    nops (suc n) = nops n

    opened : (first : ℕ) → Operates r (opening first)
    opened first =
        let index : Operates r (index_code first) = rw (lt-ltb pc_field (length r.fields) (omega (arith, has.fields))) refl in
        operates-append r (padding (size (index_code first))) (index_code first) (nops ((3 * size (index_code first) + 3) % 4)) index

    -- ---- the method

    operates : span.first < span.end → size (span_code units leads span) ≤ 65535 → Operates r (span_code units leads span)
    operates some small =
        let first = (extent span).first in
        let targets = targets_of units leads span in
        let otherwise = return_offset units leads span in
        let warms = warm_before units leads span span.end in
        let colds = cold_before units leads span span.end in
        let behind = map (laid_step (extent span) targets otherwise) (warms ++ colds) in
        operates-append r (opening first) (switch targets otherwise ∷ (behind ++ returns ∷ [])) (opened first)
        (and_from (switch_has_operation selecting) (have_operations r (behind ++ returns ∷ []))
        (switch-operates some small)
        (operates-append r behind (returns ∷ [])
        (operates-laid r (extent span) targets otherwise (warms ++ colds)
        (operates-append r warms colds (operates-each r (warm_part units leads span) warm _) (operates-each r (cold_part units leads span) cold _)))
        refl))

    some-step : (code : List Step) (s : Step) (others : List Step) → 0 < length (code ++ s ∷ others)
    some-step [] s others = omega arith
    some-step (t ∷ code) s others = omega arith

    pub span-can-be : SpanTyped of_helpers units leads span → switches_are_placed 0 (span_code units leads span) ≡ true → span.first < span.end
        → size (span_code units leads span) ≤ 65535 → CanBeMethod r (span_code units leads span)
    span-can-be typed placed some small =
        let rules : Rules = record { program = of_helpers; owes = owes_unknown (goals_of units leads span); more = 2 } in
        let targets = targets_of units leads span in
        let otherwise = return_offset units leads span in
        let parts = warm_before units leads span span.end ++ cold_before units leads span span.end in
        can-be r (span_code units leads span)
        (some-step (opening (extent span).first) (switch targets otherwise) (map (laid_step (extent span) targets otherwise) parts ++ returns ∷ []))
        small (operates some small) placed (targets-are-lines rules (span_code units leads span) (taking []) typed.types)
