-- The code behind a unit leads to where the classes go on.
use Rattle.std.proofs.Common.{◌≡◌, ℕ, zero, suc, ◌+◌, ◌-◌, ◌/◌, ◌%◌, ◌<◌, ◌≤◌, ◌==◌, ◌&&◌, ◌||◌, not, nat_le, nat_lt, Bool, true, false, if◌then◌else◌, ◌⊎◌, inl, inr, List, [], ◌∷◌, ◌++◌, length, length-append, map, take, slice_get, get_or, Option, Some, None, unwrap_or, refl, ap, subst, sym, ◌∙◌, arith}
use Rattle.std.proofs.lemmas.Bool.{and_from, and_parts, le-leb, eqb-true, leb-true, ltb-true, eq-eqb, or_parts, true≢false}
use Rattle.std.proofs.lemmas.Grind.{common_steps}
use Rattle.std.proofs.lemmas.List.{map-append, length-map}
use Rattle.std.proofs.lemmas.List.FromFn.{get_or-map-range_with_len}
use Rattle.run_definition.specs.Words.{IsWord, signed_of}
use Rattle.run_definition.specs.declared.order.Order.{Order}
use Rattle.mips_definition.specs.State.{State}
use Rattle.mips_definition.specs.Branches.{equal_likely, zero_likely, sign_likely}
use Rattle.mips_definition.specs.Targets.{branch_target, jump_target}
use Rattle.mips_definition.specs.declared.inst.Inst.{Inst}
use Rattle.mips_definition.specs.declared.inst.Inst.TheVariants as inst
use Rattle.delay_slots.specs.declared.unit.Unit.{Unit as Word}
use Rattle.delay_slots.specs.declared.unit.Unit.TheVariants as units
use Rattle.jvm_definition.specs.declared.branch_name.BranchName.{BranchName}
use Rattle.jvm_definition.specs.declared.branch_name.BranchName.TheVariants.{IfIcmpne}
use Rattle.jvm_definition.specs.declared.return_name.ReturnName.TheVariants as return_names
use Rattle.jvm_definition.specs.declared.local_kind.LocalKind.TheVariants as local_kinds
use Rattle.jvm_definition.specs.declared.instruction.Instruction.{Instruction}
use Rattle.jvm_definition.specs.declared.instruction.Instruction.TheVariants.{Load, Return}
use Rattle.jvm_definition.specs.declared.value.Value.{Value}
use Rattle.jvm_definition.specs.declared.value.Value.TheVariants.{Int as int}
use Rattle.jvm_definition.specs.Program.{Program}
use Rattle.jvm_definition.specs.Effect.{Workspace, with_field, with_operands, moves_value, pushes, wrong, branches, chooses, same_integer}
use Rattle.emit_steps.specs.declared.step.Step.{Step}
use Rattle.emit_steps.specs.declared.step.Step.TheVariants.{Does, Skips, Leaves}
use Rattle.emit_steps.specs.Widths.{width, bytes_before, size}
use Rattle.emit_steps.specs.Outcomes.{Outcome, ended, left, stopped, later, beyond, after_branch, after_instruction, outcome, outcome_from, stays_within}
use Rattle.emit_steps.specs.Placing.{placed_line, LiesAt}
use Rattle.emit_layout.specs.FieldNumbers.{pc_field}
use Rattle.emit_instructions.specs.Access.{push_word, put_field}
use Rattle.emit_instructions.specs.Branching.{behind_slot, equal_test, zero_test, sign_test}
use Rattle.emit_instructions.specs.Units.{next_address}
use Rattle.word_emitter.specs.Pieces.{is_likely}
use Rattle.emit_steps.specs.Returning.{returns}
use Rattle.word_emitter.specs.Exits.{has, follows, go, next_exit, unless, chosen_ways, arrive, last_way, two_ways, conditional_exit, branch_exit, passing_exit, exit_code}
use Rattle.emit_spans.specs.declared.span_words.SpanWords.{SpanWords}
use Rattle.emit_spans.specs.Neighbours.{address}
use Rattle.emit_spans.specs.Parts.{extent}
use Rattle.emit_spans.specs.Laying.{entry_at, entry_of, targets_of, return_offset, laid_step}
use Rattle.emit_paths_laws.specs.Paths.{Path, PathWithin, weigh}
use Rattle.emit_paths_laws.proofs.Joining.{path-wider}
use Rattle.emit_paths_laws.proofs.Weighing.{weigh-front}
use Rattle.emit_paths_laws.specs.Guest.{is_register_jump}
use Rattle.emit_simulation_laws.proofs.Signs.{same-signed}
use Rattle.emit_simulation_laws.specs.Behind.{IsSettled, IsCompared, ConditionalGoal, SaysGoal}
use Rattle.emit_simulation_laws.specs.Holding.{IsLink, reached}
use Rattle.emit_simulation_laws.specs.Sites.{Site, stands, whole_weight}
use Rattle.emit_simulation_laws.specs.Laws.{PathLaws}
use Rattle.emit_simulation_laws.proofs.GuestFollows.Weights.{weigh-whole}
use Rattle.emit_instructions_laws.specs.Pieces.{HoldsAll, UnitGoal}
use Rattle.emit_instructions_laws.proofs.UnitLaws.Reaching.{says-from}
use Rattle.emit_spans_laws.specs.Resuming.{IsAtRest, IsEntryOf, GoesOut, Resumes, ComesTo, jumps_by_register}
use Rattle.emit_spans_laws.proofs.SpanCodeLaws.Leading.{GoalIs, LeadsTo}

bytes-within : (k : ℕ) (code : List Step) → bytes_before code k ≤ size code
bytes-within zero code = omega arith
bytes-within (suc k) [] = omega arith
bytes-within (suc k) (s ∷ code) = let rest = bytes-within k code in omega (arith, rest)

nothing : (s : Step) → None ≡ Some s → ⊥
nothing s e = cc

-- a return that stands in code lies where it stands
step-lies : (program : Program) (m i : ℕ) (code : List Step) (at : ℕ) (instruction : Instruction) → LiesAt program m at code
    → slice_get code i ≡ Some (Does instruction) → LiesAt program m (at + bytes_before code i) (Does instruction ∷ [])
step-lies program m zero [] at instruction lies is = absurd (nothing (Does instruction) is)
step-lies program m (suc i) [] at instruction lies is = absurd (nothing (Does instruction) is)
step-lies program m zero (s ∷ code) at instruction lies is =
    let here : at ≡ at + 0 = omega arith in
    subst (λ a. LiesAt program m a (Does instruction ∷ [])) here
    (lies.0 ∙ ap (λ o. Some (placed_line at (unwrap_or o s) code)) is, tt)
step-lies program m (suc i) (s ∷ code) at instruction lies is =
    let sum : at + width s + bytes_before code i ≡ at + (width s + bytes_before code i) = omega arith in
    subst (λ a. LiesAt program m a (Does instruction ∷ [])) sum (step-lies program m i code (at + width s) instruction lies.1 is)

-- ---- field pc changes nothing else

reach-pc : (w : Workspace) (n r : ℕ) → 0 < r → r < 32 → reached 0 (with_field w pc_field (int n) []) r ≡ reached 0 w r
reach-pc w n r above below = grind (arith, common_steps)

link-pc : (w : Workspace) (n : ℕ) (link : Option ℕ) → IsLink w.fields link → IsLink (with_field w pc_field (int n) []).fields link
link-pc w n None is = is
link-pc w n (Some at) is = is

pc-held : (w : Workspace) (n : ℕ) (t : State) → HoldsAll w t → HoldsAll (with_field w pc_field (int n) []) t
pc-held w n t h = record {
  register_is = λ r above below known. reach-pc w n r above below ∙ h.register_is r above below known;
  register_word = h.register_word;
  hi_is = h.hi_is;
  hi_word = h.hi_word;
  lo_is = h.lo_is;
  lo_word = h.lo_word;
  pc = n;
  pc_is = refl;
  link_is = link-pc w n t.load_link h.link_is;
  readable = h.readable;
  readable_is = h.readable_is;
  writable = h.writable;
  writable_is = h.writable_is;
  memory_held = h.memory_held;
}

-- a likely branch settles its goal
settled-by : (likely : Bool) (test : BranchName) (target behind : ℕ) (before after : Workspace) (goal : ℕ) → likely ≡ true
    → ConditionalGoal likely test target behind before after goal → IsSettled before after goal
settled-by true test target behind before after goal is says = says
settled-by false test target behind before after goal is says = absurd (true≢false (sym is))

likely-settled : (i : Inst) (at : ℕ) (before after : Workspace) (goal : ℕ) → is_likely i ≡ true → SaysGoal i at before after goal
    → IsSettled before after goal
likely-settled (inst.BranchSign name rs imm) at before after goal likely says =
    settled-by (sign_likely name) (sign_test name) (branch_target at imm) (behind_slot at) before after goal likely says
likely-settled (inst.BranchEqual name rs rt imm) at before after goal likely says =
    settled-by (equal_likely name) (equal_test name) (branch_target at imm) (behind_slot at) before after goal likely says
likely-settled (inst.BranchZero name rs imm) at before after goal likely says =
    settled-by (zero_likely name) (zero_test name) (branch_target at imm) (behind_slot at) before after goal likely says
likely-settled _ at before after goal likely says = absurd (true≢false (sym likely))

-- behind a unit at an address there are no operands but those by which a branch says where the guest is
abbrev pub SaysEnd : Word → ℕ → Workspace → State → Type 0
SaysEnd unit at u t = UnitGoal unit at (with_operands u []) u t

pub says-end : (unit : Word) (at : ℕ) (w u : Workspace) (t : State) → w.operands ≡ [] → UnitGoal unit at w u t → SaysEnd unit at u t
says-end (units.Plain i) at w u t none goal = goal ∙ none
says-end (units.Branch i slot) at w u t none goal = says-from i at (with_operands u []) w u t.pc none goal
says-end (units.SlotMissing i) at w u t none goal = says-from i at (with_operands u []) w u t.pc none goal
says-end (units.SlotIsBranch i word) at w u t none goal = says-from i at (with_operands u []) w u t.pc none goal
says-end units.Call at w u t none goal = goal ∙ none
says-end (units.Trap kind value) at w u t none goal = goal ∙ none

module _ (unit_list : List Word) (leads : ℕ → Bool) (span : SpanWords) where
  abbrev IsEntry : ℕ → ℕ → Type 0
  IsEntry at a = IsEntryOf unit_list leads span at a

  abbrev targets : List ℕ
  targets = targets_of unit_list leads span

  abbrev otherwise : ℕ
  otherwise = return_offset unit_list leads span

  abbrev L : Step → Step
  L = laid_step (extent span) targets otherwise

  -- ---- no branch of such code goes past its end

  arrive-stays : (goal : ℕ) (code : List Step) → stays_within code ≡ true → stays_within (L (arrive (extent span) goal) ∷ code) ≡ true
  arrive-stays goal code stays = by_test (has (extent span) goal)
    where
      by_test : (h : Bool) → stays_within (L (if h then Leaves goal else returns) ∷ code) ≡ true
      by_test true = stays
      by_test false = stays

  last-stays : (behind : Option ℕ) (goal : ℕ) → stays_within (map L (last_way (extent span) behind goal)) ≡ true
  last-stays behind goal = by_test (follows behind goal)
    where
      by_test : (f : Bool) → stays_within (map L (if f then [] else arrive (extent span) goal ∷ [])) ≡ true
      by_test true = refl
      by_test false = arrive-stays goal [] refl

  -- the two ways behind the choice, and the code with it
  abbrev ways : Option ℕ → ℕ → ℕ → List Step
  ways behind first second = L (arrive (extent span) first) ∷ map L (last_way (extent span) behind second)

  abbrev two_code : Option ℕ → ℕ → ℕ → List Step
  two_code behind first second = Does (Load local_kinds.Int 0) ∷ push_word first ∷ Skips IfIcmpne 1 ∷ ways behind first second

  two-stays : (behind : Option ℕ) (first second : ℕ) → stays_within (map L (two_ways (extent span) behind first second)) ≡ true
  two-stays behind first second = by_test (has (extent span) first || has (extent span) second)
    where
      by_test : (b : Bool) → stays_within (map L (if b then Does (Load local_kinds.Int 0) ∷ push_word first ∷ Skips IfIcmpne 1 ∷ arrive
          (extent span) first ∷ last_way (extent span) behind second else returns ∷ [])) ≡ true
      by_test true = and_from (nat_le 1 (length (ways behind first second))) (stays_within (ways behind first second))
          (le-leb 1 (length (ways behind first second)) (omega arith))
          (arrive-stays first (map L (last_way (extent span) behind second)) (last-stays behind second))
      by_test false = refl

  abbrev go_code : ℕ → Bool → List Step
  go_code goal h = map L (if h then Leaves goal ∷ [] else push_word goal ∷ put_field pc_field ∷ returns ∷ [])

  go-stays : (goal : ℕ) (code : List Step) → stays_within code ≡ true → stays_within (map L (go (extent span) goal) ++ code) ≡ true
  go-stays goal code stays = by_test (has (extent span) goal)
    where
      by_test : (h : Bool) → stays_within (go_code goal h ++ code) ≡ true
      by_test true = stays
      by_test false = stays

  abbrev next_code : ℕ → Bool → Bool → List Step
  next_code next f h = map L (if f then [] else if h then Leaves next ∷ [] else push_word next ∷ put_field pc_field ∷ returns ∷ [])

  next-stays : (behind : Option ℕ) (next : ℕ) → stays_within (map L (next_exit (extent span) behind next)) ≡ true
  next-stays behind next = by_tests (follows behind next) (has (extent span) next)
    where
      by_tests : (f h : Bool) → stays_within (next_code next f h) ≡ true
      by_tests true h = refl
      by_tests false true = refl
      by_tests false false = refl

  -- a test over the way to the target, and then to the other address
  abbrev chosen_code : Option ℕ → ℕ → ℕ → List Step
  chosen_code behind target second = map L (go (extent span) target) ++ map L (next_exit (extent span) behind second)

  chosen-is : (behind : Option ℕ) (test : BranchName) (target second : ℕ)
      → map L (chosen_ways (extent span) behind test target second)
      ≡ Skips (unless test) (length (go (extent span) target)) ∷ chosen_code behind target second
  chosen-is behind test target second =
      ap (λ code. Skips (unless test) (length (go (extent span) target)) ∷ code)
      (map-append L (go (extent span) target) (next_exit (extent span) behind second))

  chosen-stays : (behind : Option ℕ) (test : BranchName) (target second : ℕ)
      → stays_within (map L (chosen_ways (extent span) behind test target second)) ≡ true
  chosen-stays behind test target second =
      let rest = chosen_code behind target second in
      let both = length-append (map L (go (extent span) target)) (map L (next_exit (extent span) behind second)) in
      let same = length-map (go (extent span) target) L in
      subst (λ code. stays_within code ≡ true) (sym (chosen-is behind test target second))
      (and_from (nat_le (length (go (extent span) target)) (length rest)) (stays_within rest)
      (le-leb (length (go (extent span) target)) (length rest) (omega (arith, both, same)))
      (go-stays target (map L (next_exit (extent span) behind second)) (next-stays behind second)))

  conditional-stays : (likely : Bool) (behind : Option ℕ) (test : BranchName) (target second : ℕ)
      → stays_within (map L (conditional_exit (extent span) behind likely test target second)) ≡ true
  conditional-stays true behind test target second = two-stays behind target second
  conditional-stays false behind test target second = chosen-stays behind test target second

  branch-stays : (behind : Option ℕ) (i : Inst) (at : ℕ) → stays_within (map L (branch_exit (extent span) behind i at)) ≡ true
  branch-stays behind (inst.BranchSign name rs imm) at =
      conditional-stays (sign_likely name) behind (sign_test name) (branch_target at imm) (behind_slot at)
  branch-stays behind (inst.BranchEqual name rs rt imm) at =
      conditional-stays (equal_likely name) behind (equal_test name) (branch_target at imm) (behind_slot at)
  branch-stays behind (inst.BranchZero name rs imm) at =
      conditional-stays (zero_likely name) behind (zero_test name) (branch_target at imm) (behind_slot at)
  branch-stays behind (inst.Jump name index) at = next-stays behind (jump_target at index)
  branch-stays behind _ at = refl

  passing-stays : (behind : Option ℕ) (i : Inst) (at : ℕ) → stays_within (map L (passing_exit (extent span) behind i at)) ≡ true
  passing-stays behind i at = by_test (is_likely i)
    where
      by_test : (b : Bool) → stays_within (map L (if b then last_way (extent span) behind (behind_slot at) else returns ∷ [])) ≡ true
      by_test true = last-stays behind (behind_slot at)
      by_test false = refl

  pub exit-stays : (behind : Option ℕ) (unit : Word) (at : ℕ) → stays_within (map L (exit_code (extent span) behind unit at)) ≡ true
  exit-stays behind (units.Plain i) at = next-stays behind (next_address at)
  exit-stays behind (units.Branch i slot) at = branch-stays behind i at
  exit-stays behind (units.SlotMissing i) at = passing-stays behind i at
  exit-stays behind (units.SlotIsBranch i word) at = passing-stays behind i at
  exit-stays behind units.Call at = next-stays behind (next_address at)
  exit-stays behind (units.Trap kind value) at = refl

  -- where a step goes that leaves to an address
  abbrev goal_of : ℕ → ℕ
  goal_of a = entry_of (extent span) targets otherwise a

  -- the address of a word of the span is one of its words
  goal-is : (a : ℕ) → has (extent span) a ≡ true → IsEntry (goal_of a) a
  goal-is a inside =
      let first : ℕ = address span span.first in
      let parts = and_parts (nat_le first a && nat_lt a (address span span.end)) (a % 4 == first % 4) inside in
      let rest = and_parts (nat_le first a) (nat_lt a (address span span.end)) parts.0 in
      let low : first ≤ a = leb-true first a rest.0 in
      let high : a < address span span.end = ltb-true a (address span span.end) rest.1 in
      let like : a % 4 ≡ first % 4 = eqb-true (a % 4) (first % 4) parts.1 in
      let j : ℕ = (a - first) / 4 in
      let below : span.first + j < span.end = omega (arith, low, high, like) in
      let told : get_or targets j otherwise ≡ entry_at unit_list leads span (span.first + j) =
      get_or-map-range_with_len (entry_at unit_list leads span) span.first (span.end - span.first) j (span.first + j) otherwise
      (omega (arith, below)) refl in
      record {
        word = span.first + j;
        above = omega arith;
        below = below;
        is_there = omega (arith, low, like);
        entry = sym (ap (λ b. if b then get_or targets j otherwise else otherwise) inside ∙ told);
      }

  -- ---- good outcomes of such code: `end` is the offset behind it, and a return has a reason

  module _ (end : ℕ) (t : State) (Reason : Type 0) where
    abbrev Good : ℕ → List Step → Outcome → Type 0
    Good most code (ended n w) = (n ≤ most) × IsAtRest w t × IsEntry end t.pc
    Good most code (left n target w) = (n ≤ most) × IsAtRest w t × IsEntry target t.pc
    Good most code (stopped n i w e) = (n ≤ most) × IsAtRest w t × (w.fields pc_field ≡ int t.pc) × (slice_get code i ≡ Some returns) × Reason

    few-more : (n most : ℕ) → n ≤ most → suc n ≤ suc most
    few-more n most less = omega (arith, less)

    few-still : (n few most : ℕ) → n ≤ few → few ≤ most → n ≤ most
    few-still n few most less more = omega (arith, less, more)

    good-later : (most : ℕ) (s : Step) (code : List Step) (o : Outcome) → Good most code o → Good (suc most) (s ∷ code) (later o)
    good-later most s code (ended n w) g = (few-more n most g.0, g.1, g.2)
    good-later most s code (left n target w) g = (few-more n most g.0, g.1, g.2)
    good-later most s code (stopped n i w e) g = (few-more n most g.0, g.1, g.2, g.3, g.4)

    good-beyond : (most : ℕ) (s : Step) (code : List Step) (o : Outcome) → Good most code o → Good most (s ∷ code) (beyond o)
    good-beyond most s code (ended n w) g = g
    good-beyond most s code (left n target w) g = g
    good-beyond most s code (stopped n i w e) g = g

    good-past : (program : Program) (words most : ℕ) (first second : List Step) (u : Workspace) → Good most second (outcome program words second u)
        → Good most (first ++ second) (outcome_from program words (first ++ second) (length first) u)
    good-past program words most [] second u g = g
    good-past program words most (s ∷ first) second u g =
        good-beyond most s (first ++ second) (outcome_from program words (first ++ second) (length first) u)
        (good-past program words most first second u g)

    module _ (site : Site) (behind : Option ℕ) (next_is : (a : ℕ) → follows behind a ≡ true
        → IsEntry end a) (outside : has (extent span) t.pc ≡ false → Reason) where
      abbrev runs_from : Workspace → List Step → Outcome
      runs_from v code = outcome site.program site.words code v

      -- field pc is put before a return
      put-rests : (v : Workspace) (n : ℕ) → IsAtRest v t → IsAtRest (with_field v pc_field (int n) v.operands) t
      put-rests v n rests = record {
        held = subst (λ operands. HoldsAll (with_field v pc_field (int n) operands) t) (sym rests.no_operands) (pc-held v n t rests.held);
        no_operands = rests.no_operands;
      }

      -- ---- to an address that is known

      go-good : (v : Workspace) (goal : ℕ) (code : List Step) → IsAtRest v t → t.pc ≡ goal
          → Good 3 (map L (go (extent span) goal) ++ code) (runs_from v (map L (go (extent span) goal) ++ code))
      go-good v goal code rests there = by_test (has (extent span) goal) refl
        where
          by_test : (h : Bool) → has (extent span) goal ≡ h → Good 3 (go_code goal h ++ code) (runs_from v (go_code goal h ++ code))
          by_test true inside = (omega arith, rests, subst (λ a. IsEntry (goal_of goal) a) (sym there) (goal-is goal inside))
          by_test false inside = (
            omega arith,
            put-rests v goal rests,
            sym (ap int there),
            refl,
            outside (subst (λ a. has (extent span) a ≡ false) (sym there) inside),
          )

      next-good : (v : Workspace) (next : ℕ) → IsAtRest v t → t.pc ≡ next
          → Good 3 (map L (next_exit (extent span) behind next)) (runs_from v (map L (next_exit (extent span) behind next)))
      next-good v next rests there = by_tests (follows behind next) (has (extent span) next) refl refl
        where
          by_tests : (f h : Bool) → follows behind next ≡ f → has (extent span) next ≡ h
              → Good 3 (next_code next f h) (runs_from v (next_code next f h))
          by_tests true h is inside = (omega arith, rests, subst (λ a. IsEntry end a) (sym there) (next_is next is))
          by_tests false true is inside = (omega arith, rests, subst (λ a. IsEntry (goal_of next) a) (sym there) (goal-is next inside))
          by_tests false false is inside = (
            omega arith,
            put-rests v next rests,
            sym (ap int there),
            refl,
            outside (subst (λ a. has (extent span) a ≡ false) (sym there) inside),
          )

      -- more turns may be granted
      more-good : (few most : ℕ) (code : List Step) (o : Outcome) → few ≤ most → Good few code o → Good most code o
      more-good few most code (ended n w) less g = (few-still n few most g.0 less, g.1, g.2)
      more-good few most code (left n target w) less g = (few-still n few most g.0 less, g.1, g.2)
      more-good few most code (stopped n i w e) less g = (few-still n few most g.0 less, g.1, g.2, g.3, g.4)

      -- ---- behind a likely branch

      module _ (u : Workspace) (rests : IsAtRest u t) (field_is : u.fields pc_field ≡ int t.pc) where
        abbrev runs : List Step → Outcome
        runs code = outcome site.program site.words code u

        returns-good : Reason → (code : List Step) → Good 1 (returns ∷ code) (runs (returns ∷ code))
        returns-good because code = (omega arith, rests, field_is, refl, because)

        arrive-good : (goal : ℕ) (code : List Step) → t.pc ≡ goal → Good 1 (L (arrive (extent span) goal) ∷ code)
            (runs (L (arrive (extent span) goal) ∷ code))
        arrive-good goal code there = by_test (has (extent span) goal) refl
          where
            by_test : (h : Bool) → has (extent span) goal ≡ h → Good 1 (L (if h then Leaves goal else returns) ∷ code)
                (runs (L (if h then Leaves goal else returns) ∷ code))
            by_test true inside = (omega arith, rests, subst (λ a. IsEntry (goal_of goal) a) (sym there) (goal-is goal inside))
            by_test false inside = returns-good (outside (subst (λ a. has (extent span) a ≡ false) (sym there) inside)) code

        last-good : (goal : ℕ) → t.pc ≡ goal → Good 1 (map L (last_way (extent span) behind goal)) (runs (map L (last_way (extent span) behind goal)))
        last-good goal there = by_test (follows behind goal) refl
          where
            by_test : (f : Bool) → follows behind goal ≡ f → Good 1 (map L (if f then [] else arrive (extent span) goal ∷ []))
                (runs (map L (if f then [] else arrive (extent span) goal ∷ [])))
            by_test true is = (omega arith, rests, subst (λ a. IsEntry end a) (sym there) (next_is goal is))
            by_test false is = arrive-good goal [] there

        two-good : (first second : ℕ) → u.locals 0 ≡ int t.pc → IsWord first → IsWord second → (t.pc ≡ first) ⊎ (t.pc ≡ second)
            → Good 4 (map L (two_ways (extent span) behind first second)) (runs (map L (two_ways (extent span) behind first second)))
        two-good first second local_is first_word second_word either = by_test (has (extent span) first || has (extent span) second) refl
          where
            word : IsWord t.pc
            word = elim either [ inl e ↦ subst IsWord (sym e) first_word | inr e ↦ subst IsWord (sym e) second_word ]

            -- the two (ways behind first second) are chosen by the goal
            chosen : (b : Bool) → same_integer (signed_of t.pc) (signed_of first) ≡ b
                → runs (two_code behind first second) ≡ later (later (later (outcome_from site.program site.words (ways behind first second)
                (if b then 0 else 1) u)))
            chosen b is =
                ap (λ v. after_instruction u (if moves_value local_kinds.Int v then pushes u v u.operands else wrong)
                (outcome_from site.program site.words (push_word first ∷ Skips IfIcmpne 1 ∷ (ways behind first second)) 0)) local_is
                ∙ ap (λ c. later (later (after_branch (with_operands u (int first ∷ int t.pc ∷ u.operands))
                (chooses (not c) (with_operands u (int first ∷ int t.pc ∷ u.operands)) u.operands)
                (outcome_from site.program site.words (ways behind first second) 0)
                (outcome_from site.program site.words (ways behind first second) 1)))) is
                ∙ by_choice b
              where
                by_choice : (c : Bool) → later (later (after_branch (with_operands u (int first ∷ int t.pc ∷ u.operands))
                    (chooses (not c) (with_operands u (int first ∷ int t.pc ∷ u.operands)) u.operands)
                    (outcome_from site.program site.words (ways behind first second) 0)
                    (outcome_from site.program site.words (ways behind first second) 1)))
                    ≡ later (later (later (outcome_from site.program site.words (ways behind first second) (if c then 0 else 1) u)))
                by_choice true = refl
                by_choice false = refl

            three : (o : Outcome) → Good 1 (ways behind first second) o → Good 4 (two_code behind first second) (later (later (later o)))
            three o g = good-later 3 (Does (Load local_kinds.Int 0)) (push_word first ∷ Skips IfIcmpne 1 ∷ (ways behind first second))
                (later (later o))
                (good-later 2 (push_word first) (Skips IfIcmpne 1 ∷ (ways behind first second)) (later o) (good-later 1 (Skips IfIcmpne 1)
                (ways behind first second) o g))

            by_goal : (b : Bool) → (t.pc == first) ≡ b → Good 4 (two_code behind first second) (runs (two_code behind first second))
            by_goal true is =
                subst (Good 4 (two_code behind first second)) (sym (chosen true (same-signed t.pc first word first_word ∙ is)))
                (three (runs (ways behind first second)) (arrive-good first (map L (last_way (extent span) behind second)) (eqb-true t.pc first is)))
            by_goal false is =
                let there : t.pc ≡ second = elim either [ inl e ↦ absurd (true≢false (sym (eq-eqb t.pc first e) ∙ is)) | inr e ↦ e ] in
                subst (Good 4 (two_code behind first second)) (sym (chosen false (same-signed t.pc first word first_word ∙ is)))
                (three (outcome_from site.program site.words (ways behind first second) 1 u)
                (good-beyond 1 (L (arrive (extent span) first)) (map L (last_way (extent span) behind second))
                (runs (map L (last_way (extent span) behind second))) (last-good second there)))

            neither : (has (extent span) first || has (extent span) second) ≡ false → Reason
            neither none =
                let parts = or_parts (has (extent span) first) (has (extent span) second) none in
                outside (elim either [
                  | inl e ↦ subst (λ a. has (extent span) a ≡ false) (sym e) parts.0
                  | inr e ↦ subst (λ a. has (extent span) a ≡ false) (sym e) parts.1
                ])

            by_test : (b : Bool) → (has (extent span) first || has (extent span) second) ≡ b
                → Good 4 (map L (if b then Does (Load local_kinds.Int 0) ∷ push_word first ∷ Skips IfIcmpne 1 ∷ arrive
                (extent span) first ∷ last_way (extent span) behind second else returns ∷ []))
                (runs (map L (if b then Does (Load local_kinds.Int 0) ∷ push_word first ∷ Skips IfIcmpne 1 ∷ arrive (extent span) first ∷ last_way
                (extent span) behind second else returns ∷ [])))
            by_test true some = by_goal (t.pc == first) refl
            by_test false none = more-good 1 4 (returns ∷ []) (runs (returns ∷ [])) (omega arith) (returns-good (neither none) [])

        passing-good : (i : Inst) (at : ℕ) → is_likely i ≡ true → t.pc ≡ behind_slot at
            → Good 4 (map L (passing_exit (extent span) behind i at)) (runs (map L (passing_exit (extent span) behind i at)))
        passing-good i at likely there = by_test (is_likely i) likely
          where
            by_test : (b : Bool) → b ≡ true → Good 4 (map L (if b then last_way (extent span) behind (behind_slot at) else returns ∷ []))
                (runs (map L (if b then last_way (extent span) behind (behind_slot at) else returns ∷ [])))
            by_test true is = more-good 1 4 (map L (last_way (extent span) behind (behind_slot at)))
                (runs (map L (last_way (extent span) behind (behind_slot at)))) (omega arith) (last-good (behind_slot at) there)
            by_test false is = absurd (true≢false (sym is))

      -- ---- behind other branches

      module _ (u : Workspace) (held : HoldsAll u t) where
        -- where the operands are taken
        abbrev popped : Workspace
        popped = with_operands u []

        popped-rests : IsAtRest popped t
        popped-rests = record { held = held; no_operands = refl }

        module _ (test : BranchName) (target second : ℕ) (says : IsCompared test target second popped u t.pc) where
          abbrev rest : List Step
          rest = chosen_code behind target second

          abbrev over : ℕ
          over = length (go (extent span) target)

          abbrev code : List Step
          code = Skips (unless test) over ∷ rest

          tested : branches (unless test) u ≡ chooses (not says.taken) u []
          tested =
              subst (λ (o : List Value). branches (unless test) (with_operands u o) ≡ chooses (not says.taken) (with_operands u o) [])
              (sym says.operands_are) (says.fails u [])

          chosen : (b : Bool) → says.taken ≡ b
              → outcome site.program site.words code u ≡ later (outcome_from site.program site.words rest (if b then 0 else over) popped)
          chosen true is = ap (λ e. after_branch u e (outcome_from site.program site.words rest 0) (outcome_from site.program site.words rest over))
              (tested ∙ ap (λ b. chooses (not b) u []) is)
          chosen false is = ap (λ e. after_branch u e (outcome_from site.program site.words rest 0) (outcome_from site.program site.words rest over))
              (tested ∙ ap (λ b. chooses (not b) u []) is)

          by_way : (b : Bool) → says.taken ≡ b → Good 4 code (outcome site.program site.words code u)
          by_way true is =
              subst (Good 4 code) (sym (chosen true is))
              (good-later 3 (Skips (unless test) over) rest (outcome site.program site.words rest popped)
              (go-good popped target (map L (next_exit (extent span) behind second)) popped-rests
              (says.goal_is ∙ ap (λ b. if b then target else second) is)))
          by_way false is =
              subst (Good 4 code) (sym (chosen false is))
              (good-later 3 (Skips (unless test) over) rest (outcome_from site.program site.words rest over popped)
              (subst (λ k. Good 3 rest (outcome_from site.program site.words rest k popped)) (length-map (go (extent span) target) L)
              (good-past site.program site.words 3 (map L (go (extent span) target)) (map L (next_exit (extent span) behind second)) popped
              (next-good popped second popped-rests (says.goal_is ∙ ap (λ b. if b then target else second) is)))))

          chosen-good : Good 4 (map L (chosen_ways (extent span) behind test target second))
              (outcome site.program site.words (map L (chosen_ways (extent span) behind test target second)) u)
          chosen-good =
              subst (λ whole. Good 4 whole (outcome site.program site.words whole u)) (sym (chosen-is behind test target second))
              (by_way says.taken refl)

        conditional-good : (likely : Bool) (test : BranchName) (target second : ℕ) → IsWord target → IsWord second
            → (t.pc ≡ target) ⊎ (t.pc ≡ second) → ConditionalGoal likely test target second popped u t.pc
            → Good 4 (map L (conditional_exit (extent span) behind likely test target second))
            (outcome site.program site.words (map L (conditional_exit (extent span) behind likely test target second)) u)
        conditional-good true test target second first_word second_word either says =
            two-good u (record { held = held; no_operands = says.operands_kept }) says.field_is target second says.local_is first_word second_word
            either
        conditional-good false test target second first_word second_word either says = chosen-good test target second says

        abbrev jump_code : List Step
        jump_code = put_field pc_field ∷ returns ∷ []

        -- the address is above the operands
        jump-good : Reason → u.operands ≡ int t.pc ∷ [] → Good 4 jump_code (outcome site.program site.words jump_code u)
        jump-good because is =
            subst (λ (o : List Value). Good 4 jump_code (outcome site.program site.words jump_code (with_operands u o))) (sym is)
            (omega arith, record { held = pc-held u t.pc t held; no_operands = refl }, refl, refl, because)

        known-good : (next : ℕ) → u.operands ≡ [] → t.pc ≡ next
            → Good 4 (map L (next_exit (extent span) behind next)) (outcome site.program site.words (map L (next_exit (extent span) behind next)) u)
        known-good next none there =
            more-good 3 4 (map L (next_exit (extent span) behind next))
            (outcome site.program site.words (map L (next_exit (extent span) behind next)) u) (omega arith)
            (next-good u next (record { held = held; no_operands = none }) there)

        branch-good : (i : Inst) (at : ℕ) → SaysGoal i at popped u t.pc → GoalIs i at t.pc → (is_register_jump i ≡ true → Reason)
            → Good 4 (map L (branch_exit (extent span) behind i at))
            (outcome site.program site.words (map L (branch_exit (extent span) behind i at)) u)
        branch-good (inst.BranchSign name rs imm) at says goal jumps =
            conditional-good (sign_likely name) (sign_test name) (branch_target at imm) (behind_slot at) (omega arith) (omega arith) goal says
        branch-good (inst.BranchEqual name rs rt imm) at says goal jumps =
            conditional-good (equal_likely name) (equal_test name) (branch_target at imm) (behind_slot at) (omega arith) (omega arith) goal says
        branch-good (inst.BranchZero name rs imm) at says goal jumps =
            conditional-good (zero_likely name) (zero_test name) (branch_target at imm) (behind_slot at) (omega arith) (omega arith) goal says
        branch-good (inst.Jump name index) at says goal jumps = known-good (jump_target at index) says.0 goal
        branch-good (inst.JumpRegister rs) at says goal jumps = jump-good (jumps refl) says
        branch-good (inst.JumpAndLinkRegister rs rd) at says goal jumps = jump-good (jumps refl) says
        branch-good _ at says goal jumps = absurd goal

        slot-good : (i : Inst) (at : ℕ) → SaysGoal i at popped u t.pc → is_likely i ≡ true → t.pc ≡ behind_slot at
            → Good 4 (map L (passing_exit (extent span) behind i at))
            (outcome site.program site.words (map L (passing_exit (extent span) behind i at)) u)
        slot-good i at says likely there =
            let settled = likely-settled i at popped u t.pc likely says in
            passing-good u (record { held = held; no_operands = settled.operands_kept }) settled.field_is i at likely there

        pub exit-good : (unit : Word) (at : ℕ) → (jumps_by_register unit ≡ true → Reason) → LeadsTo unit at t.pc → SaysEnd unit at u t
            → Good 4 (map L (exit_code (extent span) behind unit at))
            (outcome site.program site.words (map L (exit_code (extent span) behind unit at)) u)
        exit-good (units.Plain i) at jumps leads says = known-good (next_address at) says leads
        exit-good (units.Branch i slot) at jumps leads says = branch-good i at says leads jumps
        exit-good (units.SlotMissing i) at jumps leads says = slot-good i at says leads.0 leads.1
        exit-good (units.SlotIsBranch i word) at jumps leads says = slot-good i at says leads.0 leads.1
        exit-good units.Call at jumps leads says = known-good (next_address at) says leads
        exit-good (units.Trap kind value) at jumps leads says = absurd leads

  -- ---- code with a good outcome leads to where the classes go on

  module _ (laws : PathLaws) (site : Site) (order : Order) (at most : ℕ) (code : List Step) (unit : Word) (t : State) (u : Workspace)
      (lies : LiesAt site.program site.method at code) where
    goes : (o : Outcome) → outcome site.program site.words code u ≡ o → PathWithin site.program site.words site.method at 0 code site.others
        (stands site (at + 0) u) o
    goes o is = subst (PathWithin site.program site.words site.method at 0 code site.others (stands site (at + 0) u)) is
        (laws.paths site.program site.words site.method at 0 code u site.others lies)

    abbrev Arrives : ℕ → Type 0
    Arrives low = ComesTo site low (at + size code) 0 most (whole_weight order code) (λ y. Resumes site unit_list leads span unit y t) (stands site low u)

    by-outcome : (o : Outcome) → outcome site.program site.words code u ≡ o → Good (at + size code) t (GoesOut span unit t.pc) most code o → Arrives (at + 0)
    by-outcome (ended n w) is g = record {
      turns = n;
      after = stands site (at + size code) w;
      path = path-wider site.program site.words site.method (at + 0) (at + size code) (at + 0) (at + size code) n (λ weight. weigh weight code)
          (whole_weight order code) (stands site (at + 0) u) (stands site (at + size code) w) (omega arith) (omega arith)
          (λ weight still. weigh-whole order weight code) (goes (ended n w) is);
      no_sooner = omega arith;
      in_time = g.0;
      arrives = inl (record { at = at + size code; workspace = w; rests = g.1; entry = g.2; is_there = refl });
    }
    by-outcome (left n target w) is g = record {
      turns = n;
      after = stands site target w;
      path = path-wider site.program site.words site.method (at + 0) (at + size code) (at + 0) (at + size code) n (λ weight. weigh weight code)
          (whole_weight order code) (stands site (at + 0) u) (stands site target w) (omega arith) (omega arith)
          (λ weight still. weigh-whole order weight code) (goes (left n target w) is);
      no_sooner = omega arith;
      in_time = g.0;
      arrives = inl (record { at = target; workspace = w; rests = g.1; entry = g.2; is_there = refl });
    }
    by-outcome (stopped n i w e) is g = stops n i w (goes (stopped n i w e) is).0 g
      where
        stops : (n i : ℕ) (w : Workspace) → Path site.program site.words site.method (at + 0)
            (at + bytes_before code i) n (λ weight. weigh weight (take i code)) (stands site (at + 0) u) (stands site (at + bytes_before code i) w)
            → (n ≤ most) × IsAtRest w t × (w.fields pc_field ≡ int t.pc) × (slice_get code i ≡ Some returns) × GoesOut span unit t.pc → Arrives (at + 0)
        stops n i w path g = record {
          turns = n;
          after = stands site (at + bytes_before code i) w;
          path = path-wider site.program site.words site.method (at + 0) (at + bytes_before code i) (at + 0) (at + size code) n
              (λ weight. weigh weight (take i code)) (whole_weight order code) (stands site (at + 0) u) (stands site (at + bytes_before code i) w)
              (omega arith) (let all = bytes-within i code in omega (arith, all))
              (λ weight still. let a = weigh-front weight i code in let b = weigh-whole order weight code in omega (arith, a, b)) path;
          no_sooner = omega arith;
          in_time = g.0;
          arrives = inr (record {
            at = at + bytes_before code i;
            workspace = w;
            rests = g.1;
            pc_is = g.2;
            lies = step-lies site.program site.method i code at (Return return_names.Return) lies g.3;
            because = g.4;
            is_there = refl;
          });
        }

    pub good-comes : Good (at + size code) t (GoesOut span unit t.pc) most code (outcome site.program site.words code u) → Arrives at
    good-comes g = let here : at + 0 ≡ at = omega arith in subst Arrives here (by-outcome (outcome site.program site.words code u) refl g)
