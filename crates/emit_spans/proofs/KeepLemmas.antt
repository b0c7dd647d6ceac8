-- The parts keep to their span, so no switch but the method's own is in its code.
use Rattle.std.proofs.Common.{◌≡◌, ℕ, zero, suc, ◌+◌, ◌-◌, ◌*◌, ◌%◌, ◌≤◌, ◌==◌, Bool, true, false, ◌||◌, if◌then◌else◌, List, [], ◌∷◌, ◌++◌, length, map, replicate, Option, refl, ap, ◌∙◌, arith, append_assoc}
use Rattle.std.specs.List.{flat_map, list_all}
use Rattle.std.proofs.lemmas.Bool.{and_from, and_parts, eq-eqb}
use Rattle.mips_definition.specs.Branches.{equal_likely, zero_likely, sign_likely}
use Rattle.mips_definition.specs.Targets.{branch_target, jump_target}
use Rattle.mips_definition.specs.declared.inst.Inst.{Inst}
use Rattle.mips_definition.specs.declared.inst.Inst.TheVariants as inst
use Rattle.delay_slots.specs.declared.unit.Unit.{Unit}
use Rattle.delay_slots.specs.declared.unit.Unit.TheVariants.{Plain, Branch, SlotMissing, SlotIsBranch, Call, Trap}
use Rattle.block_builder.specs.Blocks.{unit_at}
use Rattle.jvm_definition.specs.declared.branch_name.BranchName.{BranchName}
use Rattle.jvm_definition.specs.declared.branch_name.BranchName.TheVariants.{IfIcmpne}
use Rattle.jvm_definition.specs.declared.local_kind.LocalKind.TheVariants as local_kinds
use Rattle.jvm_definition.specs.declared.instruction.Instruction.TheVariants as instructions
use Rattle.emit_steps.specs.declared.step.Step.{Step}
use Rattle.emit_steps.specs.declared.step.Step.TheVariants.{Does, Skips, Leaves, Selects}
use Rattle.emit_steps.specs.Widths.{width, size}
use Rattle.emit_steps.specs.Switches.{switches_are_placed}
use Rattle.emit_layout.specs.FieldNumbers.{pc_field}
use Rattle.emit_instructions.specs.Access.{push_word, put_field}
use Rattle.emit_instructions.specs.Branching.{behind_slot, equal_test, zero_test, sign_test}
use Rattle.emit_instructions.specs.Units.{unit_code, next_address}
use Rattle.word_emitter.specs.declared.extent.Extent.{Extent}
use Rattle.word_emitter.specs.Pieces.{is_likely, piece_units, warm_code}
use Rattle.emit_steps.specs.Returning.{returns}
use Rattle.word_emitter.specs.Exits.{has, follows, go, next_exit, arrive, last_way, two_ways, conditional_exit, branch_exit, passing_exit, exit_code}
use Rattle.emit_spans.specs.declared.span_words.SpanWords.{SpanWords}
use Rattle.emit_spans.specs.Pieces.{begins, piece_at}
use Rattle.emit_spans.specs.Neighbours.{address, is_inner, next_such}
use Rattle.emit_spans.specs.Parts.{extent, exit_of, warm_part, front_of, cold_part}
use Rattle.emit_spans.specs.Opening.{index_code, padding}
use Rattle.emit_spans.specs.Laying.{warm_before, cold_before, return_offset, targets_of, laid_step, switch, span_code}
use Rattle.emit_spans.specs.Keeping.{keeps_to}
use Rattle.emit_spans.proofs.StepMarks.{marks}
use Rattle.emit_spans.proofs.UnitMarks.{unit-marks, front-marks, warm-marks}

-- ---- codes one after the other

keep-append : (span : Extent) (code others : List Step) → list_all (keeps_to span) code ≡ true → list_all (keeps_to span) others ≡ true
    → list_all (keeps_to span) (code ++ others) ≡ true
keep-append span [] others front back = back
keep-append span (s ∷ code) others front back =
    let parts = and_parts (keeps_to span s) (list_all (keeps_to span) code) front in
    and_from (keeps_to span s) (list_all (keeps_to span) (code ++ others)) parts.0 (keep-append span code others parts.1 back)

keep-all : (span : Extent) (F : ℕ → List Step) → ((k : ℕ) → list_all (keeps_to span) (F k) ≡ true) → (ks : List ℕ)
    → list_all (keeps_to span) (flat_map F ks) ≡ true
keep-all span F each [] = refl
keep-all span F each (k ∷ ks) = keep-append span (F k) (flat_map F ks) (each k) (keep-all span F each ks)

keep-unmarked : (span : Extent) (code : List Step) → marks code ≤ 0 → list_all (keeps_to span) code ≡ true
keep-unmarked span [] none = refl
keep-unmarked span (Does instruction ∷ code) none = keep-unmarked span code (omega arith)
keep-unmarked span (Skips name k ∷ code) none = keep-unmarked span code (omega arith)
keep-unmarked span (Leaves target ∷ code) none = absurd (omega arith)
keep-unmarked span (Selects s ∷ code) none = absurd (omega arith)

keep-either : (span : Extent) (b : Bool) (code others : List Step) → list_all (keeps_to span) code ≡ true
    → list_all (keeps_to span) others ≡ true → list_all (keeps_to span) (if b then code else others) ≡ true
keep-either span true code others h k = h
keep-either span false code others h k = k

-- ---- exits

arrive-keeps : (span : Extent) (goal : ℕ) → keeps_to span (arrive span goal) ≡ true
arrive-keeps span goal = by_test (has span goal) refl
  where
    by_test : (b : Bool) → has span goal ≡ b → keeps_to span (if b then Leaves goal else returns) ≡ true
    by_test true is = is
    by_test false is = refl

last-keeps : (span : Extent) (behind : Option ℕ) (goal : ℕ) → list_all (keeps_to span) (last_way span behind goal) ≡ true
last-keeps span behind goal =
    keep-either span (follows behind goal) [] (arrive span goal ∷ []) refl
    (and_from (keeps_to span (arrive span goal)) true (arrive-keeps span goal) refl)

two-keeps : (span : Extent) (behind : Option ℕ) (first second : ℕ) → list_all (keeps_to span) (two_ways span behind first second) ≡ true
two-keeps span behind first second =
    let looks = Does (instructions.Load local_kinds.Int 0) ∷ push_word first ∷ Skips IfIcmpne 1 ∷ arrive span first ∷ last_way span behind
    second in
    keep-either span (has span first || has span second) looks (returns ∷ [])
    (and_from (keeps_to span (arrive span first)) (list_all (keeps_to span) (last_way span behind second)) (arrive-keeps span first)
    (last-keeps span behind second)) refl

go-keeps : (span : Extent) (goal : ℕ) → list_all (keeps_to span) (go span goal) ≡ true
go-keeps span goal = by_test (has span goal) refl
  where
    by_test : (b : Bool) → has span goal ≡ b
        → list_all (keeps_to span) (if b then Leaves goal ∷ [] else push_word goal ∷ put_field pc_field ∷ returns ∷ []) ≡ true
    by_test true is = and_from (has span goal) true is refl
    by_test false is = refl

next-keeps : (span : Extent) (behind : Option ℕ) (next : ℕ) → list_all (keeps_to span) (next_exit span behind next) ≡ true
next-keeps span behind next = keep-either span (follows behind next) [] (go span next) refl (go-keeps span next)

conditional-keeps : (span : Extent) (behind : Option ℕ) (likely : Bool) (test : BranchName) (target second : ℕ)
    → list_all (keeps_to span) (conditional_exit span behind likely test target second) ≡ true
conditional-keeps span behind true test target second = two-keeps span behind target second
conditional-keeps span behind false test target second =
    keep-append span (go span target) (next_exit span behind second) (go-keeps span target) (next-keeps span behind second)

branch-keeps : (span : Extent) (behind : Option ℕ) (i : Inst) (at : ℕ) → list_all (keeps_to span) (branch_exit span behind i at) ≡ true
branch-keeps span behind (inst.BranchSign name rs imm) at =
    conditional-keeps span behind (sign_likely name) (sign_test name) (branch_target at imm) (behind_slot at)
branch-keeps span behind (inst.BranchEqual name rs rt imm) at =
    conditional-keeps span behind (equal_likely name) (equal_test name) (branch_target at imm) (behind_slot at)
branch-keeps span behind (inst.BranchZero name rs imm) at =
    conditional-keeps span behind (zero_likely name) (zero_test name) (branch_target at imm) (behind_slot at)
branch-keeps span behind (inst.Jump name index) at = next-keeps span behind (jump_target at index)
branch-keeps span behind other at = refl

passing-keeps : (span : Extent) (behind : Option ℕ) (i : Inst) (at : ℕ) → list_all (keeps_to span) (passing_exit span behind i at) ≡ true
passing-keeps span behind i at =
    keep-either span (is_likely i) (last_way span behind (behind_slot at)) (returns ∷ []) (last-keeps span behind (behind_slot at)) refl

exit-keeps : (span : Extent) (behind : Option ℕ) (unit : Unit) (at : ℕ) → list_all (keeps_to span) (exit_code span behind unit at) ≡ true
exit-keeps span behind (Plain i) at = next-keeps span behind (next_address at)
exit-keeps span behind (Branch i slot) at = branch-keeps span behind i at
exit-keeps span behind (SlotMissing i) at = passing-keeps span behind i at
exit-keeps span behind (SlotIsBranch i word) at = passing-keeps span behind i at
exit-keeps span behind Call at = next-keeps span behind (next_address at)
exit-keeps span behind (Trap kind value) at = refl

-- ---- parts

warm-keeps : (units : List Unit) (leads : ℕ → Bool) (span : SpanWords) (k : ℕ)
    → list_all (keeps_to (extent span)) (warm_part units leads span k) ≡ true
warm-keeps units leads span k =
    let own = piece_units units (piece_at units leads span k) in
    let behind = next_such (begins leads span) span k in
    let last = k + length own - 1 in
    keep-append (extent span) (warm_code own (address span k)) (exit_of units span behind last)
    (keep-unmarked (extent span) (warm_code own (address span k)) (warm-marks own (address span k)))
    (exit-keeps (extent span) behind (unit_at units last) (address span last))

cold-keeps : (units : List Unit) (leads : ℕ → Bool) (span : SpanWords) (k : ℕ)
    → list_all (keeps_to (extent span)) (cold_part units leads span k) ≡ true
cold-keeps units leads span k =
    let unit = unit_at units k in
    let at = address span k in
    let behind = next_such (is_inner leads span) span k in
    let front = front_of span.metered unit at in
    let own = unit_code 0 unit at in
    keep-append (extent span) front (own ++ exit_of units span behind k)
    (keep-unmarked (extent span) front (front-marks span.metered unit at))
    (keep-append (extent span) own (exit_of units span behind k) (keep-unmarked (extent span) own (unit-marks 0 unit at))
    (exit-keeps (extent span) behind unit at))

pub parts-keep : (units : List Unit) (leads : ℕ → Bool) (span : SpanWords)
    → list_all (keeps_to (extent span)) (warm_before units leads span span.end ++ cold_before units leads span span.end) ≡ true
parts-keep units leads span =
    keep-append (extent span) (warm_before units leads span span.end) (cold_before units leads span span.end)
    (keep-all (extent span) (warm_part units leads span) (warm-keeps units leads span) _)
    (keep-all (extent span) (cold_part units leads span) (cold-keeps units leads span) _)

-- ---- the switch

placed-parts : (span : Extent) (targets : List ℕ) (otherwise at : ℕ) (code : List Step) → list_all (keeps_to span) code ≡ true
    → switches_are_placed at (map (laid_step span targets otherwise) code ++ returns ∷ []) ≡ true
placed-parts span targets otherwise at [] keeps = refl
placed-parts span targets otherwise at (Does instruction ∷ code) keeps = placed-parts span targets otherwise
    (at + width (Does instruction)) code keeps
placed-parts span targets otherwise at (Skips name k ∷ code) keeps = placed-parts span targets otherwise (at + 3) code keeps
placed-parts span targets otherwise at (Leaves goal ∷ code) keeps =
    placed-parts span targets otherwise (at + 5) code (and_parts (has span goal) (list_all (keeps_to span) code) keeps).1
placed-parts span targets otherwise at (Selects s ∷ code) keeps = cc

placed-nops : (n at : ℕ) (code : List Step)
    → switches_are_placed at (replicate n (Does instructions.Nop) ++ code) ≡ switches_are_placed (at + n) code
placed-nops zero at code = ap (λ a. switches_are_placed a code) (omega arith)
placed-nops (suc n) at code = placed-nops n (at + 1) code ∙ ap (λ a. switches_are_placed a code) (omega arith)

placed-index : (first at : ℕ) (code : List Step)
    → switches_are_placed at (index_code first ++ code) ≡ switches_are_placed (at + size (index_code first)) code
placed-index first at code = ap (λ a. switches_are_placed a code) (omega arith)

pub code-placed : (units : List Unit) (leads : ℕ → Bool) (span : SpanWords) → switches_are_placed 0 (span_code units leads span) ≡ true
code-placed units leads span =
    let first = (extent span).first in
    let targets = targets_of units leads span in
    let otherwise = return_offset units leads span in
    let parts = warm_before units leads span span.end ++ cold_before units leads span span.end in
    let behind = map (laid_step (extent span) targets otherwise) parts ++ returns ∷ [] in
    let rest = switch targets otherwise ∷ behind in
    let bytes = size (index_code first) in
    let nops = (3 * bytes + 3) % 4 in
    let here : (0 + nops + bytes) % 4 ≡ 3 = omega arith in
    ap (switches_are_placed 0) (append_assoc (padding bytes) (index_code first) rest)
    ∙ placed-nops nops 0 (index_code first ++ rest)
    ∙ placed-index first (0 + nops) rest
    ∙ and_from ((0 + nops + bytes) % 4 == 3) (switches_are_placed (0 + nops + bytes + width (switch targets otherwise)) behind)
    (eq-eqb ((0 + nops + bytes) % 4) 3 here)
    (placed-parts (extent span) targets otherwise (0 + nops + bytes + width (switch targets otherwise)) parts (parts-keep units leads span))
