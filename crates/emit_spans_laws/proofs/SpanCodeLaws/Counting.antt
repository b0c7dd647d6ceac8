-- What the code of a word weighs, and where the warm code of a piece stands.
use Rattle.std.proofs.Common.{◌≡◌, ℕ, ◌+◌, ◌-◌, ◌<◌, ◌||◌, nat_lt, Bool, true, false, if◌then◌else◌, List, [], ◌∷◌, ◌++◌, length, map, Option, refl, ap, sym, ◌∙◌, arith}
use Rattle.std.proofs.lemmas.Bool.{and_parts, ltb-true}
use Rattle.std.specs.List.{flat_map, list_all, range_with_len}
use Rattle.run_definition.specs.declared.order.Order.{Order}
use Rattle.mips_definition.specs.Branches.{equal_likely, zero_likely, sign_likely}
use Rattle.mips_definition.specs.Targets.{branch_target, jump_target}
use Rattle.mips_definition.specs.declared.inst.Inst.{Inst}
use Rattle.mips_definition.specs.declared.inst.Inst.TheVariants as inst
use Rattle.delay_slots.specs.declared.unit.Unit.{Unit as Word}
use Rattle.delay_slots.specs.declared.unit.Unit.TheVariants as units
use Rattle.block_builder.specs.Blocks.{unit_at}
use Rattle.jvm_definition.specs.declared.branch_name.BranchName.{BranchName}
use Rattle.jvm_definition.specs.declared.branch_name.BranchName.TheVariants.{IfIcmpne, Goto}
use Rattle.jvm_definition.specs.declared.return_name.ReturnName.TheVariants as return_names
use Rattle.jvm_definition.specs.declared.constant.Constant.TheVariants as constants
use Rattle.jvm_definition.specs.declared.kind.Kind.TheVariants as kinds
use Rattle.jvm_definition.specs.declared.local_kind.LocalKind.TheVariants as local_kinds
use Rattle.jvm_definition.specs.declared.instruction.Instruction.{Instruction}
use Rattle.jvm_definition.specs.declared.instruction.Instruction.TheVariants.{Load}
use Rattle.emit_steps.specs.declared.step.Step.{Step}
use Rattle.emit_steps.specs.declared.step.Step.TheVariants.{Does, Skips, Leaves, Selects}
use Rattle.emit_steps.specs.Widths.{size}
use Rattle.emit_layout.specs.FieldNumbers.{pc_field, register_field}
use Rattle.emit_instructions.specs.Access.{push_word, put_field}
use Rattle.emit_instructions.specs.Branching.{behind_slot, equal_test, zero_test, sign_test}
use Rattle.emit_instructions.specs.Units.{unit_code, next_address}
use Rattle.word_emitter.specs.declared.extent.Extent.{Extent}
use Rattle.word_emitter.specs.Pieces.{bank_of, fetched, for_registers, is_likely, is_needed, is_written, put_back, piece_units, units_code, warm_code}
use Rattle.emit_steps.specs.Returning.{returns}
use Rattle.word_emitter.specs.Exits.{has, follows, go, next_exit, unless, arrive, last_way, two_ways, conditional_exit, branch_exit, passing_exit, exit_code}
use Rattle.emit_spans.specs.declared.span_words.SpanWords.{SpanWords}
use Rattle.emit_spans.specs.Pieces.{begins, piece_at}
use Rattle.emit_spans.specs.Neighbours.{address, is_inner, next_such}
use Rattle.emit_spans.specs.Parts.{extent, warm_part, front_of, unit_part, cold_part}
use Rattle.emit_spans.specs.Laying.{base, cold_base, cold_before, entry_at, laid_step, return_offset, stretch_at, targets_of, warm_before}
use Rattle.emit_spans.specs.Standing.{laid_part}
use Rattle.emit_spans.proofs.SizeLemmas.{size-laid}
use Rattle.emit_paths_laws.specs.Paths.{step_weight}
use Rattle.emit_simulation_laws.specs.Sites.{called_weight, whole_weight}
use Rattle.emit_simulation_laws.proofs.GuestFollows.Weights.{whole-both}
use Rattle.emit_spans_laws.specs.Counting.{SparesMoves}

module _ (order : Order) (weight : Instruction → ℕ) where
  abbrev weighs : List Step → ℕ
  weighs code = whole_weight order code weight

  -- code weighs the same when it is laid down
  pub laid-weighs : (span : Extent) (targets : List ℕ) (otherwise : ℕ) (code : List Step)
      → weighs (map (laid_step span targets otherwise) code) ≡ weighs code
  laid-weighs span targets otherwise [] = refl
  laid-weighs span targets otherwise (Does i ∷ code) =
      ap (λ n. weight i + called_weight order weight (Does i) + n) (laid-weighs span targets otherwise code)
  laid-weighs span targets otherwise (Skips name k ∷ code) =
      ap (λ n. step_weight weight (Skips name k) + 0 + n) (laid-weighs span targets otherwise code)
  laid-weighs span targets otherwise (Leaves at ∷ code) =
      ap (λ n. step_weight weight (Leaves at) + 0 + n) (laid-weighs span targets otherwise code)
  laid-weighs span targets otherwise (Selects s ∷ code) =
      ap (λ n. step_weight weight (Selects s) + 0 + n) (laid-weighs span targets otherwise code)

  module _ (spares : SparesMoves weight) where
    returns-weigh : weighs (returns ∷ []) ≡ 0
    returns-weigh = let e = spares.give_back return_names.Return in omega (arith, e)

    module _ (span : Extent) (behind : Option ℕ) where
      arrive-weighs : (goal : ℕ) (code : List Step) → weighs code ≡ 0 → weighs (arrive span goal ∷ code) ≡ 0
      arrive-weighs goal code none = by_test (has span goal)
        where
          by_test : (h : Bool) → weighs ((if h then Leaves goal else returns) ∷ code) ≡ 0
          by_test true = let e = spares.branch Goto 0 in omega (arith, e, none)
          by_test false = let e = spares.give_back return_names.Return in omega (arith, e, none)

      last-weighs : (goal : ℕ) → weighs (last_way span behind goal) ≡ 0
      last-weighs goal = by_test (follows behind goal)
        where
          by_test : (f : Bool) → weighs (if f then [] else arrive span goal ∷ []) ≡ 0
          by_test true = refl
          by_test false = arrive-weighs goal [] refl

      two-weigh : (first second : ℕ) → weighs (two_ways span behind first second) ≡ 0
      two-weigh first second = by_test (has span first || has span second)
        where
          by_test : (b : Bool)
              → weighs (if b then Does (Load local_kinds.Int 0) ∷ push_word first ∷ Skips IfIcmpne 1 ∷ arrive span first ∷ last_way span behind second
              else returns ∷ []) ≡ 0
          by_test true =
              let a = spares.load local_kinds.Int 0 in
              let b = spares.push (constants.Int first) in
              let c = spares.branch IfIcmpne 0 in
              let d = arrive-weighs first (last_way span behind second) (last-weighs second) in
              omega (arith, a, b, c, d)
          by_test false = returns-weigh

      next-weighs : (next : ℕ) → weighs (next_exit span behind next) ≡ 0
      next-weighs next = by_tests (follows behind next) (has span next)
        where
          by_tests : (f h : Bool)
              → weighs (if f then [] else if h then Leaves next ∷ [] else push_word next ∷ put_field pc_field ∷ returns ∷ []) ≡ 0
          by_tests true h = refl
          by_tests false true = let e = spares.branch Goto 0 in omega (arith, e)
          by_tests false false =
              let a = spares.push (constants.Int next) in
              let b = spares.put pc_field kinds.Int (omega arith) in
              let c = returns-weigh in
              omega (arith, a, b, c)

      go-weighs : (goal : ℕ) → weighs (go span goal) ≡ 0
      go-weighs goal = by_test (has span goal)
        where
          by_test : (h : Bool) → weighs (if h then Leaves goal ∷ [] else push_word goal ∷ put_field pc_field ∷ returns ∷ []) ≡ 0
          by_test true = let e = spares.branch Goto 0 in omega (arith, e)
          by_test false =
              let a = spares.push (constants.Int goal) in
              let b = spares.put pc_field kinds.Int (omega arith) in
              let c = returns-weigh in
              omega (arith, a, b, c)

      conditional-weighs : (likely : Bool) (test : BranchName) (target second : ℕ)
          → weighs (conditional_exit span behind likely test target second) ≡ 0
      conditional-weighs true test target second = two-weigh target second
      conditional-weighs false test target second =
          let a = spares.branch (unless test) 0 in
          let b = go-weighs target in
          let c = next-weighs second in
          let both = whole-both order weight (go span target) (next_exit span behind second) in
          omega (arith, a, b, c, both)

      jump-weighs : weighs (put_field pc_field ∷ returns ∷ []) ≡ 0
      jump-weighs =
          let a = spares.put pc_field kinds.Int (omega arith) in
          let b = returns-weigh in
          omega (arith, a, b)

      branch-weighs : (i : Inst) (at : ℕ) → weighs (branch_exit span behind i at) ≡ 0
      branch-weighs (inst.BranchSign name rs imm) at =
          conditional-weighs (sign_likely name) (sign_test name) (branch_target at imm) (behind_slot at)
      branch-weighs (inst.BranchEqual name rs rt imm) at =
          conditional-weighs (equal_likely name) (equal_test name) (branch_target at imm) (behind_slot at)
      branch-weighs (inst.BranchZero name rs imm) at =
          conditional-weighs (zero_likely name) (zero_test name) (branch_target at imm) (behind_slot at)
      branch-weighs (inst.Jump name index) at = next-weighs (jump_target at index)
      branch-weighs (inst.JumpRegister rs) at = jump-weighs
      branch-weighs (inst.JumpAndLinkRegister rs rd) at = jump-weighs
      branch-weighs _ at = returns-weigh

      passing-weighs : (i : Inst) (at : ℕ) → weighs (passing_exit span behind i at) ≡ 0
      passing-weighs i at = by_test (is_likely i)
        where
          by_test : (b : Bool) → weighs (if b then last_way span behind (behind_slot at) else returns ∷ []) ≡ 0
          by_test true = last-weighs (behind_slot at)
          by_test false = returns-weigh

      pub exit-weighs : (unit : Word) (at : ℕ) → weighs (exit_code span behind unit at) ≡ 0
      exit-weighs (units.Plain i) at = next-weighs (next_address at)
      exit-weighs (units.Branch i slot) at = branch-weighs i at
      exit-weighs (units.SlotMissing i) at = passing-weighs i at
      exit-weighs (units.SlotIsBranch i word) at = passing-weighs i at
      exit-weighs units.Call at = next-weighs (next_address at)
      exit-weighs (units.Trap kind value) at = returns-weigh

    -- code with an exit behind it weighs what the code weighs
    with-exit : (code : List Step) (span : Extent) (behind : Option ℕ) (unit : Word) (at : ℕ)
        → weighs (code ++ exit_code span behind unit at) ≡ weighs code
    with-exit code span behind unit at =
        let both = whole-both order weight code (exit_code span behind unit at) in
        let none = exit-weighs span behind unit at in
        omega (arith, both, none)

    -- ---- what fetches registers and puts them back

    some-weighs : (b : Bool) (code : List Step) → weighs code ≡ 0 → weighs (if b then code else []) ≡ 0
    some-weighs true code none = none
    some-weighs false code none = refl

    each-weighs : (test : ℕ → Bool) (code : ℕ → List Step) → ((r : ℕ) → r < 32 → weighs (code r) ≡ 0) → (rs : List ℕ)
        → list_all (λ r. nat_lt r 32) rs ≡ true → weighs (flat_map (λ r. if test r then code r else []) rs) ≡ 0
    each-weighs test code each [] below = refl
    each-weighs test code each (r ∷ rs) below =
        let parts = and_parts (nat_lt r 32) (list_all (λ r. nat_lt r 32) rs) below in
        let here : List Step = if test r then code r else [] in
        let others : List Step = flat_map (λ r. if test r then code r else []) rs in
        let both = whole-both order weight here others in
        let a = some-weighs (test r) (code r) (each r (ltb-true r 32 parts.0)) in
        let b = each-weighs test code each rs parts.1 in
        omega (arith, both, a, b)

    pub fetching-weighs : (test : ℕ → Bool) → weighs (for_registers test fetched) ≡ 0
    fetching-weighs test = each-weighs test fetched
        (λ r few. let x = spares.get (register_field r) kinds.Int in let y = spares.store local_kinds.Int r in omega (arith, x, y)) (range_with_len 1 31)
        refl

    pub putting-weighs : (test : ℕ → Bool) → weighs (for_registers test put_back) ≡ 0
    putting-weighs test = each-weighs test put_back
        (λ r few. let x = spares.load local_kinds.Int r in let y = spares.put (register_field r) kinds.Int (omega (arith, few)) in omega (arith, x, y))
        (range_with_len 1 31) refl

    warm-weighs : (piece : List Word) (at : ℕ) → weighs (warm_code piece at) ≡ weighs (units_code (bank_of piece) piece at)
    warm-weighs piece at =
        let front = for_registers (is_needed piece) fetched in
        let middle = units_code (bank_of piece) piece at in
        let back = for_registers (is_written piece) put_back in
        let outer = whole-both order weight (front ++ middle) back in
        let inner = whole-both order weight front middle in
        let a : weighs front ≡ 0 = fetching-weighs (is_needed piece) in
        let b : weighs back ≡ 0 = putting-weighs (is_written piece) in
        omega (arith, outer, inner, a, b)

    module _ (unit_list : List Word) (leads : ℕ → Bool) (span : SpanWords) (k : ℕ) where
      part-weighs : (b : Bool) → begins leads span k ≡ b
          → weighs (laid_part unit_list leads span k) ≡ weighs (if b then warm_part unit_list leads span k else cold_part unit_list leads span k)
      part-weighs b is =
          laid-weighs (extent span) (targets_of unit_list leads span) (return_offset unit_list leads span)
          (if begins leads span k then warm_part unit_list leads span k else cold_part unit_list leads span k)
          ∙ ap (λ c. weighs (if c then warm_part unit_list leads span k else cold_part unit_list leads span k)) is

      pub word-weighs : begins leads span k ≡ false
          → weighs (laid_part unit_list leads span k)
          ≡ weighs (front_of span.metered (unit_at unit_list k) (address span k)) + weighs (unit_code 0 (unit_at unit_list k) (address span k))
      word-weighs inner =
          let front = front_of span.metered (unit_at unit_list k) (address span k) in
          part-weighs false inner ∙ whole-both order weight front (unit_part unit_list leads span k)
          ∙ ap (λ n. weighs front + n)
          (with-exit (unit_code 0 (unit_at unit_list k) (address span k)) (extent span) (next_such (is_inner leads span) span k)
          (unit_at unit_list k) (address span k))

      pub piece-weighs : begins leads span k ≡ true → weighs (laid_part unit_list leads span k)
          ≡ weighs (units_code (bank_of (piece_units unit_list (piece_at unit_list leads span k)))
          (piece_units unit_list (piece_at unit_list leads span k)) (address span k))
      piece-weighs begin =
          part-weighs true begin
          ∙ with-exit (warm_code (piece_units unit_list (piece_at unit_list leads span k)) (address span k)) (extent span)
          (next_such (begins leads span) span k) (unit_at unit_list (k + length (piece_units unit_list (piece_at unit_list leads span k)) - 1))
          (address span (k + length (piece_units unit_list (piece_at unit_list leads span k)) - 1))
          ∙ warm-weighs (piece_units unit_list (piece_at unit_list leads span k)) (address span k)

-- ---- where the warm code of a piece stands

module _ (unit_list : List Word) (leads : ℕ → Bool) (span : SpanWords) (k : ℕ) (begin : begins leads span k ≡ true) where
  pub stretch-from : (stretch_at unit_list leads span k).from ≡ entry_at unit_list leads span k
  stretch-from = sym (ap (λ b. if b then base span + size (warm_before unit_list leads span k)
      else cold_base unit_list leads span + size (cold_before unit_list leads span k)) begin)

  pub stretch-to : (stretch_at unit_list leads span k).to ≡ entry_at unit_list leads span k + size (laid_part unit_list leads span k)
  stretch-to =
      let from = stretch-from in
      let sizes : size (laid_part unit_list leads span k) ≡ size (warm_part unit_list leads span k) =
      size-laid (extent span) (targets_of unit_list leads span) (return_offset unit_list leads span)
      (if begins leads span k then warm_part unit_list leads span k else cold_part unit_list leads span k)
      ∙ ap (λ b. size (if b then warm_part unit_list leads span k else cold_part unit_list leads span k)) begin in
      omega (arith, from, sizes)
