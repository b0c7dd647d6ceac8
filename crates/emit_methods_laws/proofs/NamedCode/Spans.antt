-- The methods of spans.
use Rattle.std.proofs.Common.{◌≡◌, ℕ, zero, suc, ◌+◌, ◌-◌, ◌*◌, ◌%◌, ◌≤◌, true, false, Bool, if◌then◌else◌, List, [], ◌∷◌, ◌++◌, All, length, map, replicate, drop, refl, arith}
use Rattle.std.proofs.lemmas.Bool.{and_parts}
use Rattle.std.proofs.lemmas.List.Elements.{All-head, All-tail, All-take, All-drop}
use Rattle.delay_slots.specs.declared.unit.Unit.{Unit}
use Rattle.block_builder.specs.Blocks.{unit_at}
use Rattle.jvm_definition.specs.declared.instruction.Instruction.TheVariants.{Nop}
use Rattle.emit_steps.specs.declared.step.Step.{Step}
use Rattle.emit_steps.specs.declared.step.Step.TheVariants.{Does, Skips, Leaves, Selects}
use Rattle.emit_steps.specs.Widths.{size}
use Rattle.emit_instructions.specs.Units.{unit_code}
use Rattle.word_emitter.specs.declared.extent.Extent.{Extent}
use Rattle.word_emitter.specs.Pieces.{ends_with_slot, piece_units, warm_code}
use Rattle.emit_steps.specs.Returning.{returns}
use Rattle.emit_simulation_laws.specs.Lawful.{IsLawful}
use Rattle.emit_spans.specs.declared.span_words.SpanWords.{SpanWords}
use Rattle.emit_spans.specs.Pieces.{begins, piece_at}
use Rattle.emit_spans.specs.Neighbours.{address, is_inner, next_such}
use Rattle.emit_spans.specs.Parts.{extent, exit_of, warm_part, front_of, unit_part, cold_part}
use Rattle.emit_spans.specs.Opening.{index_code, padding, opening}
use Rattle.emit_spans.specs.Laying.{warm_before, cold_before, return_offset, targets_of, laid_step, switch, span_code}
use Rattle.emit_methods_laws.specs.Naming.{fields_of, is_helper, step_names_well_of, all_well_of}
use Rattle.emit_methods_laws.proofs.NamedCode.Steps.{Well, WellOf, well-append, append-of, each-of, fields-more}
use Rattle.emit_methods_laws.proofs.NamedCode.Guards.{guard-well}
use Rattle.emit_methods_laws.proofs.NamedCode.Units.{unit-well, warm-well}
use Rattle.emit_methods_laws.proofs.NamedCode.Exits.{exit-well}

-- ---- steps that are laid down name what they named

module _ (fields : ℕ) (calls : ℕ → Bool) (class : ℕ) (gives : Bool) (span : Extent) (targets : List ℕ) (otherwise : ℕ) where
  laid-same : (s : Step)
      → step_names_well_of fields calls class gives (laid_step span targets otherwise s) ≡ step_names_well_of fields calls class gives s
  laid-same (Does instruction) = refl
  laid-same (Skips name k) = refl
  laid-same (Leaves at) = refl
  laid-same (Selects s) = refl

  pub laid-well : (code : List Step) → WellOf fields calls class gives code
      → WellOf fields calls class gives (map (laid_step span targets otherwise) code)
  laid-well [] h = refl
  laid-well (s ∷ code) h =
      let parts = and_parts (step_names_well_of fields calls class gives s) (all_well_of fields calls class gives code) h in
      rw (laid-same s, parts.0) (laid-well code parts.1)

-- ---- lawful units

pub lawful-at : (units : List Unit) (k : ℕ) → All IsLawful units → IsLawful (unit_at units k)
lawful-at [] k all = tt
lawful-at (unit ∷ units) zero all = All-head IsLawful unit units all
lawful-at (unit ∷ units) (suc k) all = lawful-at units k (All-tail IsLawful unit units all)

module _ (class : ℕ) (units : List Unit) (leads : ℕ → Bool) (span : SpanWords) (all : All IsLawful units) where
  abbrev Named : List Step → Type 0
  Named code = Well is_helper class false code

  joined : (xs ys : List Step) → Named xs → Named ys → Named (xs ++ ys)
  joined xs ys h k = well-append is_helper class false xs ys h k

  -- ---- parts

  pub warm : (k : ℕ) → Named (warm_part units leads span k)
  warm k =
      let b = piece_at units leads span k in
      let own = piece_units units b in
      let behind = next_such (begins leads span) span k in
      let last = k + length own - 1 in
      let lawful : All IsLawful own = All-take IsLawful (if ends_with_slot units b then b.words - 1 else b.words) (drop b.first units)
      (All-drop IsLawful b.first units all) in
      joined (warm_code own (address span k)) (exit_of units span behind last) (warm-well class false own (address span k) lawful)
      (exit-well is_helper class (extent span) behind (unit_at units last) (address span last))

  pub alone : (k : ℕ) → Named (unit_part units leads span k)
  alone k =
      let behind = next_such (is_inner leads span) span k in
      joined (unit_code 0 (unit_at units k) (address span k)) (exit_of units span behind k)
      (unit-well class false 0 (unit_at units k) (address span k) (lawful-at units k all))
      (exit-well is_helper class (extent span) behind (unit_at units k) (address span k))

  -- ---- with the fields that the main class has, with a meter or without

  fields-few : (metered : Bool) → 38 ≤ fields_of metered
  fields-few true = omega arith
  fields-few false = omega arith

  front-well : (metered : Bool) (unit : Unit) (at : ℕ) → IsLawful unit
      → WellOf (fields_of metered) is_helper class false (front_of metered unit at)
  front-well true unit at lawful = guard-well class false unit at lawful
  front-well false unit at lawful = refl

  abbrev NamedAll : List Step → Type 0
  NamedAll code = WellOf (fields_of span.metered) is_helper class false code

  more : (code : List Step) → Named code → NamedAll code
  more code is = fields-more 38 (fields_of span.metered) (fields-few span.metered) is_helper class false code is

  both : (xs ys : List Step) → NamedAll xs → NamedAll ys → NamedAll (xs ++ ys)
  both xs ys h k = append-of (fields_of span.metered) is_helper class false xs ys h k

  pub cold : (k : ℕ) → NamedAll (cold_part units leads span k)
  cold k =
      both (front_of span.metered (unit_at units k) (address span k)) (unit_part units leads span k)
      (front-well span.metered (unit_at units k) (address span k) (lawful-at units k all))
      (more (unit_part units leads span k) (alone k))

  parts : NamedAll (warm_before units leads span span.end ++ cold_before units leads span span.end)
  parts =
      both (warm_before units leads span span.end) (cold_before units leads span span.end)
      (each-of (fields_of span.metered) is_helper class false (warm_part units leads span) (λ k. more (warm_part units leads span k) (warm k)) _)
      (each-of (fields_of span.metered) is_helper class false (cold_part units leads span) cold _)

  -- ---- the method

  nops : (n : ℕ) → Named (replicate n (Does Nop))
  nops zero = refl
  nops (suc n) = nops n

  pub span-well : NamedAll (span_code units leads span)
  span-well =
      let first = (extent span).first in
      let targets = targets_of units leads span in
      let otherwise = return_offset units leads span in
      let code = warm_before units leads span span.end ++ cold_before units leads span span.end in
      let behind = map (laid_step (extent span) targets otherwise) code in
      both (opening first) (switch targets otherwise ∷ (behind ++ returns ∷ []))
      (more (opening first) (joined (padding (size (index_code first))) (index_code first) (nops ((3 * size (index_code first) + 3) % 4)) refl))
      (both behind (returns ∷ []) (laid-well (fields_of span.metered) is_helper class false (extent span) targets otherwise code parts)
      (more (returns ∷ []) refl))
