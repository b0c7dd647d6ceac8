-- Code that is put together of two parts, where no branch of the first goes past its end.
use Rattle.std.proofs.Common.{◌≡◌, ℕ, zero, suc, ◌+◌, ◌≤◌, ◌^◌, Bool, true, false, ◌&&◌, ◌||◌, ◌==◌, nat_le, nat_lt, if◌then◌else◌, List, [], ◌∷◌, ◌++◌, length, Option, Some, is_some, refl, sym, ap, ◌∙◌, add-zero, add_assoc, le-leb, leb-true, length-append, arith}
use Rattle.std.proofs.lemmas.Bool.{and_parts}
use Rattle.jvm_definition.specs.declared.branch_name.BranchName.{BranchName}
use Rattle.jvm_definition.specs.declared.instruction.Instruction.TheVariants.{Branch}
use Rattle.jvm_definition.specs.declared.linked_line.LinkedLine.{LinkedLine}
use Rattle.jvm_definition.specs.Program.{line_in}
use Rattle.class_definition.specs.declared.class.Class.{Class}
use Rattle.emit_steps.specs.declared.step.Step.{Step}
use Rattle.emit_steps.specs.declared.step.Step.TheVariants.{Does, Skips, Leaves, Selects}
use Rattle.emit_steps.specs.Outcomes.{stays_within}
use Rattle.emit_steps.specs.Placing.{placed_instruction, placed_line, laid}
use Rattle.emit_steps.specs.Widths.{width, bytes_before, size}
use Rattle.emit_steps.specs.Switches.{needs_no_padding, switches_are_placed}
use Rattle.emit_assembly.specs.declared.references.References.{References}
use Rattle.emit_assembly.specs.Assembling.{step_has_operation, have_operations, AreKnown}

pub size-joined : (first second : List Step) → size (first ++ second) ≡ size first + size second
size-joined [] second = omega arith
size-joined (s ∷ first) second = omega (arith, size-joined first second)

bytes-front : (first second : List Step) (k : ℕ) → k ≤ length first → bytes_before (first ++ second) k ≡ bytes_before first k
bytes-front first second zero h = refl
bytes-front [] second (suc k) h = absurd (omega (arith, h))
bytes-front (s ∷ first) second (suc k) h = ap (λ n. width s + n) (bytes-front first second k (omega (arith, h)))

and-assoc : (a b c : Bool) → (a && (b && c)) ≡ ((a && b) && c)
and-assoc true b c = refl
and-assoc false b c = refl

-- ---- one step, with the second part behind the others of the first

module _ (first second : List Step) (k : ℕ) (within : k ≤ length first) where
  more : k ≤ length (first ++ second)
  more = omega (arith, within, length-append first second)

  skips-so : (r : References) (name : BranchName) → step_has_operation r (Skips name k) (first ++ second) ≡ step_has_operation r (Skips name k) first
  skips-so r name =
      ap (λ b. b && nat_lt (3 + bytes_before (first ++ second) k) (2 ^ 15)) (le-leb k (length (first ++ second)) more ∙ sym (le-leb k (length first) within))
      ∙ ap (λ n. nat_le k (length first) && nat_lt (3 + n) (2 ^ 15)) (bytes-front first second k within)

  skips-lie-so : (at : ℕ) (name : BranchName) → placed_instruction at (Skips name k) (first ++ second) ≡ placed_instruction at (Skips name k) first
  skips-lie-so at name = ap (λ n. Branch name (at + 3 + n)) (bytes-front first second k within)

-- ---- all steps

skip-parts : (k : ℕ) (first : List Step) → (nat_le k (length first) && stays_within first) ≡ true → (k ≤ length first) × (stays_within first ≡ true)
skip-parts k first within =
    let parts = and_parts (nat_le k (length first)) (stays_within first) within in
    (leb-true k (length first) parts.0, parts.1)

pub operations-joined : (r : References) (first second : List Step) → stays_within first ≡ true → have_operations r (first ++ second) ≡ (have_operations r first && have_operations r second)
operations-joined r [] second within = refl
operations-joined r (Does i ∷ first) second within =
    ap (λ b. step_has_operation r (Does i) first && b) (operations-joined r first second within)
    ∙ and-assoc (step_has_operation r (Does i) first) (have_operations r first) (have_operations r second)
operations-joined r (Skips name k ∷ first) second within =
    let parts = skip-parts k first within in
    (λ i. skips-so first second k parts.0 r name i && operations-joined r first second parts.1 i)
    ∙ and-assoc (step_has_operation r (Skips name k) first) (have_operations r first) (have_operations r second)
operations-joined r (Leaves target ∷ first) second within = operations-joined r first second within
operations-joined r (Selects s ∷ first) second within =
    ap (λ b. step_has_operation r (Selects s) first && b) (operations-joined r first second within)
    ∙ and-assoc (step_has_operation r (Selects s) first) (have_operations r first) (have_operations r second)

pub switches-joined : (at : ℕ) (first second : List Step) → switches_are_placed at (first ++ second) ≡ (switches_are_placed at first && switches_are_placed (at + size first) second)
switches-joined at [] second = ap (λ n. switches_are_placed n second) (sym (add-zero at))
switches-joined at (s ∷ first) second =
    ap (λ b. needs_no_padding at s && b) (switches-joined (at + width s) first second ∙ ap (λ n. switches_are_placed (at + width s) first && switches_are_placed n second) (add_assoc at (width s) (size first)))
    ∙ and-assoc (needs_no_padding at s) (switches_are_placed (at + width s) first) (switches_are_placed (at + (width s + size first)) second)

lines-behind : (at wide : ℕ) (first second : List Step) → laid (at + wide) (first ++ second) ≡ laid (at + wide) first ++ laid (at + wide + size first) second → laid (at + wide) (first ++ second) ≡ laid (at + wide) first ++ laid (at + (wide + size first)) second
lines-behind at wide first second so = so ∙ ap (λ n. laid (at + wide) first ++ laid n second) (add_assoc at wide (size first))

pub lines-joined : (at : ℕ) (first second : List Step) → stays_within first ≡ true → laid at (first ++ second) ≡ laid at first ++ laid (at + size first) second
lines-joined at [] second within = ap (λ n. laid n second) (sym (add-zero at))
lines-joined at (Does i ∷ first) second within =
    ap (λ ls. placed_line at (Does i) first ∷ ls) (lines-behind at (width (Does i)) first second (lines-joined (at + width (Does i)) first second within))
lines-joined at (Skips name k ∷ first) second within =
    let parts = skip-parts k first within in
    let behind = lines-behind at 3 first second (lines-joined (at + 3) first second parts.1) in
    λ i. record { at = at; next = at + 3; instruction = skips-lie-so first second k parts.0 at name i } ∷ behind i
lines-joined at (Leaves target ∷ first) second within =
    ap (λ ls. placed_line at (Leaves target) first ∷ ls) (lines-behind at 5 first second (lines-joined (at + 5) first second within))
lines-joined at (Selects s ∷ first) second within =
    ap (λ ls. placed_line at (Selects s) first ∷ ls) (lines-behind at (width (Selects s)) first second (lines-joined (at + width (Selects s)) first second within))

pub within-joined : (first second : List Step) → stays_within first ≡ true → stays_within (first ++ second) ≡ stays_within second
within-joined [] second within = refl
within-joined (Does i ∷ first) second within = within-joined first second within
within-joined (Skips name k ∷ first) second within =
    let parts = skip-parts k first within in
    ap (λ b. b && stays_within (first ++ second)) (le-leb k (length (first ++ second)) (more first second k parts.0)) ∙ within-joined first second parts.1
within-joined (Leaves target ∷ first) second within = within-joined first second within
within-joined (Selects s ∷ first) second within = within-joined first second within

-- ---- what is found at an offset

either-found : (b : Bool) (l : LinkedLine) (o p q : Option LinkedLine) → is_some o ≡ (is_some p || is_some q) → is_some (if b then Some l else o) ≡ (is_some (if b then Some l else p) || is_some q)
either-found true l o p q so = refl
either-found false l o p q so = so

found-either : (lines others : List LinkedLine) (target : ℕ) → is_some (line_in (lines ++ others) target) ≡ (is_some (line_in lines target) || is_some (line_in others target))
found-either [] others target = refl
found-either (l ∷ lines) others target =
    either-found (l.at == target) l (line_in (lines ++ others) target) (line_in lines target) (line_in others target) (found-either lines others target)

pub starts-joined : (at target : ℕ) (first second : List Step) → stays_within first ≡ true → is_some (line_in (laid at (first ++ second)) target) ≡ (is_some (line_in (laid at first) target) || is_some (line_in (laid (at + size first) second) target))
starts-joined at target first second within =
    ap (λ ls. is_some (line_in ls target)) (lines-joined at first second within) ∙ found-either (laid at first) (laid (at + size first) second) target

-- ---- names

pub known-joined : (r : References) (classes : List Class) (number : ℕ) (c : Class) (gives : Bool) (first second : List Step) → AreKnown r classes number c gives first → AreKnown r classes number c gives second → AreKnown r classes number c gives (first ++ second)
known-joined r classes number c gives [] second known also = also
known-joined r classes number c gives (s ∷ first) second known also = (known.0, known-joined r classes number c gives first second known.1 also)
