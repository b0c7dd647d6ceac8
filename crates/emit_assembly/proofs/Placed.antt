-- Operations that are placed one after the other are the lines of their steps.
use Rattle.std.proofs.Common.{◌≡◌, ℕ, zero, suc, ◌+◌, ◌-◌, ◌^◌, ◌≤◌, ◌<◌, Bool, true, false, ◌&&◌, ◌||◌, ◌==◌, nat_le, nat_lt, if◌then◌else◌, List, [], ◌∷◌, ◌++◌, map, length, get_or, drop, Option, Some, None, is_some, refl, sym, ap, ◌∙◌, subst, append_assoc, append-nil, add-one, zero-add, length-drop, lt-ltb, ltb-true, leb-true, arith}
use Rattle.std.specs.List.{list_all}
use Rattle.std.proofs.lemmas.Bool.{and_parts}
use Rattle.std.proofs.lemmas.List.{drop_all}
use Rattle.jvm_definition.specs.declared.branch_name.BranchName.{BranchName}
use Rattle.jvm_definition.specs.declared.linked_line.LinkedLine.{LinkedLine}
use Rattle.jvm_definition.specs.declared.instruction.Instruction.TheVariants.{Branch}
use Rattle.jvm_definition.specs.Program.{line_in, instruction_targets}
use Rattle.class_definition.specs.declared.entry.Entry.{Entry}
use Rattle.class_definition.specs.declared.class.Class.{Class}
use Rattle.class_definition.specs.declared.line.Line.{Line}
use Rattle.class_definition.specs.declared.op.Op.{Op}
use Rattle.class_definition.specs.declared.op.Op.TheVariants as ops
use Rattle.class_definition.specs.Code.{line_target_fault, is_line, targets_of as op_targets}
use Rattle.class_definition.specs.Targets.{near_bits, offset_to, bad_target}
use Rattle.class_definition.specs.Instructions.{operands_fit}
use Rattle.class_definition.specs.Sizes.{size_at}
use Rattle.jvm_code.specs.Writing.{AreLaid, AreCode}
use Rattle.class_definition.specs.Linking.{linked_instruction, linked_line}
use Rattle.emit_steps.specs.declared.step.Step.{Step}
use Rattle.emit_steps.specs.declared.step.Step.TheVariants.{Does, Skips, Leaves, Selects}
use Rattle.emit_steps.specs.Widths.{width, bytes_before, size}
use Rattle.emit_steps.specs.Placing.{placed_instruction, placed_line, laid}
use Rattle.emit_steps.specs.Switches.{needs_no_padding, switches_are_placed}
use Rattle.emit_steps.proofs.Offsets.{AreEnds, bytes-le, bytes-suc, rest-begins, target-is}
use Rattle.emit_assembly.specs.declared.references.References.{References}
use Rattle.emit_assembly.specs.Assembling.{Extends, StepIsKnown, AreKnown, lines_at, line_size, lines_size, step_has_operation, have_operations, pushed_by, constants_of, AreLinked, targets_are_lines, is_method}
use Rattle.emit_assembly.specs.Operations.{IsStepOperation, has_operation_at}
use Rattle.emit_assembly.proofs.Pools.{extends-itself, extends-further}
use Rattle.emit_assembly.proofs.Switches.{wide-fits, switch-fits, switch-wide}

-- ---- operations of code

-- the operation of a step at an offset, with others behind it
pub record IsPlaced (r : References) (pool : List Entry) (at : ℕ) (s : Step) (others : List Step) (op : Op) : Type 0 where
  pub wide : size_at at op ≡ width s
  pub fits : operands_fit at op ≡ true
  pub targets : op_targets op ≡ instruction_targets (placed_instruction at s others)
  pub linked : (classes : List Class) (number : ℕ) (c : Class) (gives : Bool) → Extends pool c.pool → StepIsKnown r classes number c gives s → linked_instruction classes number c gives op ≡ placed_instruction at s others

abbrev pub ArePlaced : References → List Entry → ℕ → List Step → List Op → Type 0
ArePlaced r pool at [] [] = Unit {0}
ArePlaced r pool at [] (op ∷ made) = ⊥
ArePlaced r pool at (s ∷ code) [] = ⊥
ArePlaced r pool at (s ∷ code) (op ∷ made) = IsPlaced r pool at s code op × ArePlaced r pool (at + width s) code made

placed-later : (r : References) (pool later : List Entry) (at : ℕ) (s : Step) (others : List Step) (op : Op) → Extends pool later → IsPlaced r pool at s others op → IsPlaced r later at s others op
placed-later r pool later at s others op x p = record {
  wide = p.wide;
  fits = p.fits;
  targets = p.targets;
  linked = λ classes number c gives y known. p.linked classes number c gives (extends-further pool later c.pool x y) known;
}

-- ---- what is known of them

lines-linked : (r : References) (pool : List Entry) (classes : List Class) (number : ℕ) (c : Class) (gives : Bool) → Extends pool c.pool → (at : ℕ) (code : List Step) (made : List Op) → ArePlaced r pool at code made → AreKnown r classes number c gives code → map (linked_line classes number c gives) (lines_at at made) ≡ laid at code
lines-linked r pool classes number c gives x at [] [] placed known = refl
lines-linked r pool classes number c gives x at [] (op ∷ made) placed known = absurd placed
lines-linked r pool classes number c gives x at (s ∷ code) [] placed known = absurd placed
lines-linked r pool classes number c gives x at (s ∷ code) (op ∷ made) placed known =
    let wide = placed.0.wide in
    let here = placed.0.linked classes number c gives x known.0 in
    let behind = ap (λ n. map (linked_line classes number c gives) (lines_at (at + n) made)) wide ∙ lines-linked r pool classes number c gives x (at + width s) code made placed.1 known.1 in
    λ i. record { at = at; next = at + wide i; instruction = here i } ∷ behind i

sizes-same : (r : References) (pool : List Entry) (at : ℕ) (code : List Step) (made : List Op) → ArePlaced r pool at code made → map line_size (lines_at at made) ≡ map width code
sizes-same r pool at [] [] placed = refl
sizes-same r pool at [] (op ∷ made) placed = absurd placed
sizes-same r pool at (s ∷ code) [] placed = absurd placed
sizes-same r pool at (s ∷ code) (op ∷ made) placed =
    let wide = placed.0.wide in
    let behind = ap (λ n. map line_size (lines_at (at + n) made)) wide ∙ sizes-same r pool (at + width s) code made placed.1 in
    λ i. wide i ∷ behind i

size-same : (r : References) (pool : List Entry) (at : ℕ) (code : List Step) (made : List Op) → ArePlaced r pool at code made → lines_size (lines_at at made) ≡ size code
size-same r pool at [] [] placed = refl
size-same r pool at [] (op ∷ made) placed = absurd placed
size-same r pool at (s ∷ code) [] placed = absurd placed
size-same r pool at (s ∷ code) (op ∷ made) placed =
    let wide = placed.0.wide in
    let behind = ap (λ n. lines_size (lines_at (at + n) made)) wide ∙ size-same r pool (at + width s) code made placed.1 in
    λ i. wide i + behind i

lines-laid : (r : References) (pool : List Entry) (at : ℕ) (code : List Step) (made : List Op) → ArePlaced r pool at code made → at + size code ≤ 65535 → AreLaid at (lines_at at made)
lines-laid r pool at [] [] placed few = let h : at ≤ 65535 = omega arith in h
lines-laid r pool at [] (op ∷ made) placed few = absurd placed
lines-laid r pool at (s ∷ code) [] placed few = absurd placed
lines-laid r pool at (s ∷ code) (op ∷ made) placed few =
    let less : at + width s + size code ≤ 65535 = omega arith in
    (refl, placed.0.fits, subst (λ n. AreLaid (at + n) (lines_at (at + n) made)) (sym placed.0.wide) (lines-laid r pool (at + width s) code made placed.1 less))

-- ---- the code of a method

found-here : (b x : Bool) (l : LinkedLine) (o : Option LinkedLine) → x ≡ is_some o → (b || x) ≡ is_some (if b then Some l else o)
found-here true x l o same = refl
found-here false x l o same = same

-- an operation stands where a line does
same-lines : (r : References) (pool : List Entry) (at : ℕ) (code : List Step) (made : List Op) (target : ℕ) → ArePlaced r pool at code made → is_line (lines_at at made) target ≡ is_some (line_in (laid at code) target)
same-lines r pool at [] [] target placed = refl
same-lines r pool at [] (op ∷ made) target placed = absurd placed
same-lines r pool at (s ∷ code) [] target placed = absurd placed
same-lines r pool at (s ∷ code) (op ∷ made) target placed =
    found-here (at == target) (is_line (lines_at (at + size_at at op) made) target) (placed_line at s code) (line_in (laid (at + width s) code) target)
    (ap (λ n. is_line (lines_at (at + n) made) target) placed.0.wide ∙ same-lines r pool (at + width s) code made target placed.1)

no-fault : (r : References) (pool : List Entry) (lines : List Line) (all : List LinkedLine) → ((target : ℕ) → is_line lines target ≡ is_some (line_in all target)) → (at : ℕ) (code : List Step) (made : List Op) → ArePlaced r pool at code made → list_all (λ (l : LinkedLine). list_all (λ target. is_some (line_in all target)) (instruction_targets l.instruction)) (laid at code) ≡ true → line_target_fault lines (lines_at at made) ≡ None
no-fault r pool lines all same at [] [] placed found = refl
no-fault r pool lines all same at [] (op ∷ made) placed found = absurd placed
no-fault r pool lines all same at (s ∷ code) [] placed found = absurd placed
no-fault r pool lines all same at (s ∷ code) (op ∷ made) placed found =
    let f : ℕ → Bool = λ target. is_some (line_in all target) in
    let parts = and_parts (list_all f (instruction_targets (placed_instruction at s code))) (list_all (λ (l : LinkedLine). list_all f (instruction_targets l.instruction)) (laid (at + width s) code)) found in
    let behind = ap (λ n. line_target_fault lines (lines_at (at + n) made)) placed.0.wide ∙ no-fault r pool lines all same (at + width s) code made placed.1 parts.1 in
    let here : list_all (is_line lines) (op_targets op) ≡ true = ap (list_all (is_line lines)) placed.0.targets ∙ (λ i. list_all (λ target. same target i) (instruction_targets (placed_instruction at s code))) ∙ parts.0 in
    ap (λ b. if b then line_target_fault lines (lines_at (at + size_at at op) made) else Some (record { at = at; kind = bad_target })) here ∙ behind

lines-some : (r : References) (pool : List Entry) (at : ℕ) (code : List Step) (made : List Op) → ArePlaced r pool at code made → 0 < length code → 0 < length (lines_at at made)
lines-some r pool at [] made placed some = absurd (omega (arith, some))
lines-some r pool at (s ∷ code) [] placed some = absurd placed
lines-some r pool at (s ∷ code) (op ∷ made) placed some = omega arith

-- ---- one step after the other

-- The operations of the first i steps, whatever comes behind them and into the pool.
pub record AreMade (r : References) (code : List Step) (i : ℕ) (pool : List Entry) (made : List Op) : Type 0 where
  pub rest : (later : List Entry) (more : List Op) → Extends pool later → ArePlaced r later (bytes_before code i) (drop i code) more → ArePlaced r later 0 code (made ++ more)

pub made-begins : (r : References) (code : List Step) (pool : List Entry) (made : List Op) → made ≡ [] → AreMade r code 0 pool made
made-begins r code pool made none = record {
  rest = λ later more x placed. subst (λ os. ArePlaced r later 0 code (os ++ more)) (sym none) placed;
}

pub made-goes-on : (r : References) (code : List Step) (i : ℕ) (s : Step) (pool new : List Entry) (op : Op) (made after : List Op) → i < length code → s ≡ get_or code i s → AreMade r code i pool made → Extends pool new → IsPlaced r new (bytes_before code i) s (drop (suc i) code) op → after ≡ made ++ op ∷ [] → AreMade r code (i + 1) new after
made-goes-on r code i s pool new op made after h is before x p more = subst (λ n. AreMade r code n new after) (sym (add-one i)) (record { rest = rest })
  where
    rest : (later : List Entry) (others : List Op) → Extends new later → ArePlaced r later (bytes_before code (suc i)) (drop (suc i) code) others → ArePlaced r later 0 code (after ++ others)
    rest later others y placed =
        let behind = subst (λ n. ArePlaced r later n (drop (suc i) code) others) (bytes-suc code i s h is) placed in
        let here = subst (λ cs. ArePlaced r later (bytes_before code i) cs (op ∷ others)) (sym (rest-begins code i s h is)) (placed-later r new later (bytes_before code i) s (drop (suc i) code) op y p, behind) in
        let same : made ++ (op ∷ others) ≡ after ++ others = sym (ap (λ os. os ++ others) more ∙ append_assoc made (op ∷ []) others) in
        subst (λ os. ArePlaced r later 0 code os) same (before.rest later (op ∷ others) (extends-further pool new later x y) here)

-- ---- one step

-- the step that is next can be assembled
next-can : (r : References) (code : List Step) (i : ℕ) (s : Step) → i < length code → s ≡ get_or code i s → have_operations r code ≡ true → step_has_operation r s (drop (suc i) code) ≡ true
next-can r [] i s h is can = absurd (omega (arith, h))
next-can r (x ∷ code) zero s h is can =
    subst (λ (y : Step). step_has_operation r y code ≡ true) (sym is) (and_parts (step_has_operation r x code) (have_operations r code) can).0
next-can r (x ∷ code) (suc i) s h is can =
    let less : i < length code = omega arith in
    next-can r code i s less is (and_parts (step_has_operation r x code) (have_operations r code) can).1

has-so : (r : References) (others : List Step) (count i : ℕ) (s : Step) → length others ≡ count - suc i → i < count → step_has_operation r s others ≡ true → has_operation_at r count i s ≡ true
has-so r others count i (Does instruction) left h can = can
has-so r others count i (Skips name k) left h can =
    let near : k ≤ length others = leb-true k (length others) (and_parts (nat_le k (length others)) (nat_lt (3 + bytes_before others k) (2 ^ 15)) can).0 in
    lt-ltb (i + k) count (omega arith)
has-so r others count i (Leaves target) left h can = refl
has-so r others count i (Selects s) left h can = refl

pub next-has-operation : (r : References) (code : List Step) (count i : ℕ) (s : Step) → count ≡ length code → i < length code → s ≡ get_or code i s → have_operations r code ≡ true → has_operation_at r count i s ≡ true
next-has-operation r code count i s all h is can =
    let left : length (drop (suc i) code) ≡ count - suc i = length-drop (suc i) code ∙ ap (λ n. n - suc i) (sym all) in
    let less : i < count = omega arith in
    has-so r (drop (suc i) code) count i s left less (next-can r code i s h is can)

-- a switch that is next needs no padding
next-stands : (at : ℕ) (code : List Step) (i : ℕ) (s : Step) → i < length code → s ≡ get_or code i s → switches_are_placed at code ≡ true → needs_no_padding (at + bytes_before code i) s ≡ true
next-stands at [] i s h is stand = absurd (omega (arith, h))
next-stands at (x ∷ code) zero s h is stand =
    let e : at ≡ at + 0 = omega arith in
    subst (λ n. needs_no_padding n s ≡ true) e (subst (λ (y : Step). needs_no_padding at y ≡ true) (sym is) (and_parts (needs_no_padding at x) (switches_are_placed (at + width x) code) stand).0)
next-stands at (x ∷ code) (suc i) s h is stand =
    let less : i < length code = omega arith in
    let e : at + width x + bytes_before code i ≡ at + (width x + bytes_before code i) = omega arith in
    subst (λ n. needs_no_padding n s ≡ true) e (next-stands (at + width x) code i s less is (and_parts (needs_no_padding at x) (switches_are_placed (at + width x) code) stand).1)

-- a branch of a short way forward can be spelled
near-fits : (name : BranchName) (at way target : ℕ) → target ≡ at + way → target < 2 ^ 32 → way < 2 ^ 15 → operands_fit at (ops.Branch name target) ≡ true
near-fits name at way target is low short =
    let e : offset_to at target ≡ way = omega arith in
    let f : nat_lt target (2 ^ 32) ≡ true = lt-ltb target (2 ^ 32) low in
    let g : near_bits (offset_to at target) ≡ Some way = ap near_bits e ∙ ap (λ b. if b then Some way else if nat_le (2 ^ 32 - 2 ^ 15) way then Some (way - (2 ^ 32 - 2 ^ 16)) else None) (lt-ltb way (2 ^ 15) short) in
    rw (f, g) (lt-ltb way (2 ^ 16) (omega arith))

step-placed : (r : References) (pool : List Entry) (ends : List ℕ) (i at : ℕ) (s : Step) (others : List Step) (op : Op) → ((name : BranchName) (k : ℕ) → s ≡ Skips name k → (get_or ends (i + k) 0 ≡ at + 3 + bytes_before others k) × (at + 3 + bytes_before others k < 2 ^ 32)) → step_has_operation r s others ≡ true → needs_no_padding at s ≡ true → IsStepOperation r pool ends i s op → IsPlaced r pool at s others op
step-placed r pool ends i at (Does instruction) others op ends_are can stands made = record {
  wide = made.wide at;
  fits = made.fits at;
  targets = made.targets;
  linked = made.linked;
}
step-placed r pool ends i at (Skips name k) others op ends_are can stands made =
    let way = 3 + bytes_before others k in
    let there = ends_are name k refl in
    let target : get_or ends (i + k) 0 ≡ at + way = omega (arith, there.0) in
    let low : get_or ends (i + k) 0 < 2 ^ 32 = omega (arith, there.0, there.1) in
    let short : way < 2 ^ 15 = ltb-true way (2 ^ 15) (and_parts (nat_le k (length others)) (nat_lt way (2 ^ 15)) can).1 in
    subst (λ (o : Op). IsPlaced r pool at (Skips name k) others o) (sym made)
    (record {
      wide = refl;
      fits = near-fits name at way (get_or ends (i + k) 0) target low short;
      targets = ap (λ n. n ∷ []) there.0;
      linked = λ classes number c gives x known. ap (Branch name) there.0;
    })
step-placed r pool ends i at (Leaves target) others op ends_are can stands made =
    subst (λ (o : Op). IsPlaced r pool at (Leaves target) others o) (sym made.0)
    (record {
      wide = refl;
      fits = wide-fits at target made.1;
      targets = refl;
      linked = λ classes number c gives x known. refl;
    })
step-placed r pool ends i at (Selects s) others op ends_are can stands made =
    subst (λ (o : Op). IsPlaced r pool at (Selects s) others o) (sym made)
    (record {
      wide = switch-wide at s stands;
      fits = switch-fits at s can;
      targets = refl;
      linked = λ classes number c gives x known. refl;
    })

-- the operation of the step that is next, by the table of ends
pub next-placed : (r : References) (code : List Step) (ends : List ℕ) (i : ℕ) (s : Step) (pool : List Entry) (op : Op) → AreEnds code ends (length code) → size code < 2 ^ 32 → i < length code → s ≡ get_or code i s → have_operations r code ≡ true → switches_are_placed 0 code ≡ true → IsStepOperation r pool ends i s op → IsPlaced r pool (bytes_before code i) s (drop (suc i) code) op
next-placed r code ends i s pool op ends_are few h is can stand made =
    step-placed r pool ends i (bytes_before code i) s (drop (suc i) code) op there now
    (subst (λ n. needs_no_padding n s ≡ true) (zero-add (bytes_before code i)) (next-stands 0 code i s h is stand)) made
  where
    now : step_has_operation r s (drop (suc i) code) ≡ true
    now = next-can r code i s h is can

    there : (name : BranchName) (k : ℕ) → s ≡ Skips name k → (get_or ends (i + k) 0 ≡ bytes_before code i + 3 + bytes_before (drop (suc i) code) k) × (bytes_before code i + 3 + bytes_before (drop (suc i) code) k < 2 ^ 32)
    there name k e =
        let skips : step_has_operation r (Skips name k) (drop (suc i) code) ≡ true = subst (λ (y : Step). step_has_operation r y (drop (suc i) code) ≡ true) e now in
        let near : k ≤ length (drop (suc i) code) = leb-true k (length (drop (suc i) code)) (and_parts (nat_le k (length (drop (suc i) code))) (nat_lt (3 + bytes_before (drop (suc i) code) k) (2 ^ 15)) skips).0 in
        let left : length (drop (suc i) code) ≡ length code - suc i = length-drop (suc i) code in
        let within : i + k < length code = omega arith in
        let three : width s ≡ 3 = ap width e in
        let target : bytes_before code (suc (i + k)) ≡ bytes_before code i + width s + bytes_before (drop (suc i) code) k = target-is code i k s h is in
        let low : bytes_before code (suc (i + k)) ≤ size code = bytes-le code (suc (i + k)) in
        (ends_are (i + k) within ∙ target ∙ ap (λ n. bytes_before code i + n + bytes_before (drop (suc i) code) k) three, omega arith)

-- ---- constants

pub constants-next : (code : List Step) (i : ℕ) (s : Step) → i < length code → s ≡ get_or code i s → constants_of (drop i code) ≡ pushed_by s ++ constants_of (drop (i + 1) code)
constants-next code i s h is = ap constants_of (rest-begins code i s h is) ∙ ap (λ n. pushed_by s ++ constants_of (drop n code)) (sym (add-one i))

-- ---- all steps

module _ (r : References) (code : List Step) (i : ℕ) (pool : List Entry) (made : List Op) (over : length code ≤ i) (all : AreMade r code i pool made) where
  all-placed : ArePlaced r pool 0 code made
  all-placed =
      let none : ArePlaced r pool (bytes_before code i) (drop i code) [] = subst (λ cs. ArePlaced r pool (bytes_before code i) cs []) (sym (drop_all i code over)) tt in
      subst (λ os. ArePlaced r pool 0 code os) (append-nil made) (all.rest pool [] (extends-itself pool) none)

  pub are-linked : AreLinked r pool code (lines_at 0 made)
  are-linked = λ classes number c gives x known. lines-linked r pool classes number c gives x 0 code made all-placed known

  pub widths-same : map line_size (lines_at 0 made) ≡ map width code
  widths-same = sizes-same r pool 0 code made all-placed

  pub size-is : lines_size (lines_at 0 made) ≡ size code
  size-is = size-same r pool 0 code made all-placed

  pub are-code : is_method code ≡ true → AreCode (lines_at 0 made)
  are-code method =
      let front = and_parts (nat_lt 0 (length code) && nat_le (size code) 65535) (targets_are_lines (laid 0 code)) method in
      let bounds = and_parts (nat_lt 0 (length code)) (nat_le (size code) 65535) front.0 in
      let some : 0 < length code = ltb-true 0 (length code) bounds.0 in
      let few : size code ≤ 65535 = leb-true (size code) 65535 bounds.1 in
      let within : 0 + size code ≤ 65535 = omega arith in (
        lines-some r pool 0 code made all-placed some,
        lines-laid r pool 0 code made all-placed within,
        no-fault r pool (lines_at 0 made) (laid 0 code) (λ target. same-lines r pool 0 code made target all-placed) 0 code made all-placed front.1,
      )
