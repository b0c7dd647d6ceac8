-- The lines that a part of a method's code is, and what they weigh.
use Rattle.std.proofs.Common.{◌≡◌, ℕ, ◌+◌, ◌<◌, ◌≤◌, false, nat_le, nat_lt, if◌then◌else◌, List, [], ◌∷◌, ◌++◌, Option, Some, unwrap_or, option_and_then, inl, inr, refl, ap, subst, sym, ◌∙◌, arith}
use Rattle.std.proofs.lemmas.Bool.{and_left, and_right, cases_eq, cases_lt, eq-eqb, le-leb, le-ltb, lt-leb, lt-ltb, ne_eqb}
use Rattle.std.proofs.lemmas.List.Sums.{sum_by-cons}
use Rattle.std.proofs.lemmas.Option.{none-some}
use Rattle.std.proofs.Math.Nat.{add_assoc}
use Rattle.jvm_definition.specs.declared.instruction.Instruction.{Instruction}
use Rattle.jvm_definition.specs.declared.linked_line.LinkedLine.{LinkedLine}
use Rattle.jvm_definition.specs.declared.linked_method.LinkedMethod.{LinkedMethod}
use Rattle.jvm_definition.specs.Program.{LaidFrom, Program, line_in}
use Rattle.emit_steps.specs.declared.step.Step.{Step}
use Rattle.emit_steps.specs.Placing.{LiesAt, laid, placed_line}
use Rattle.emit_steps.specs.Widths.{size, width}
use Rattle.emit_paths_laws.specs.Paths.{LooksAtNoTarget, weigh}
use Rattle.emit_paths_laws.proofs.Weighing.{laid-weighs}
use Rattle.emit_spans_laws.specs.Registers.{AreLines, lies_between, lines_between, weigh_lines}

-- ---- the lines of steps, with others behind them

abbrev pub laid_before : List Step → ℕ → List Step → List LinkedLine
laid_before behind at [] = []
laid_before behind at (s ∷ code) = placed_line at s (code ++ behind) ∷ laid_before behind (at + width s) code

pub before-lines : (program : Program) (m at : ℕ) (code behind : List Step) → LiesAt program m at (code ++ behind)
    → AreLines program m at (at + size code) (laid_before behind at code)
before-lines program m at [] behind lies = omega arith
before-lines program m at (s ∷ code) behind lies = (
  lies.0,
  subst (λ to. AreLines program m (at + width s) to (laid_before behind (at + width s) code)) (add_assoc at (width s) (size code))
      (before-lines program m (at + width s) code behind lies.1),
)

pub laid-lines : (program : Program) (m at : ℕ) (code : List Step) → LiesAt program m at code → AreLines program m at (at + size code) (laid at code)
laid-lines program m at [] lies = omega arith
laid-lines program m at (s ∷ code) lies = (
  lies.0,
  subst (λ to. AreLines program m (at + width s) to (laid (at + width s) code)) (add_assoc at (width s) (size code))
      (laid-lines program m (at + width s) code lies.1),
)

-- lines weigh what their steps weigh
module _ (weight : Instruction → ℕ) (still : LooksAtNoTarget weight) where
  pub before-weigh : (behind : List Step) (at : ℕ) (code : List Step) → weigh_lines weight (laid_before behind at code) ≡ weigh weight code
  before-weigh behind at [] = refl
  before-weigh behind at (s ∷ code) =
      let others = laid_before behind (at + width s) code in
      let cons = sum_by-cons (λ (l : LinkedLine). weight l.instruction) (placed_line at s (code ++ behind)) others in
      let here = laid-weighs weight still at s (code ++ behind) in
      let rest = before-weigh behind (at + width s) code in
      omega (arith, cons, here, rest)

  pub laid-weigh : (at : ℕ) (code : List Step) → weigh_lines weight (laid at code) ≡ weigh weight code
  laid-weigh at [] = refl
  laid-weigh at (s ∷ code) =
      let cons = sum_by-cons (λ (l : LinkedLine). weight l.instruction) (placed_line at s code) (laid (at + width s) code) in
      let here = laid-weighs weight still at s code in
      let rest = laid-weigh (at + width s) code in
      omega (arith, cons, here, rest)

-- ---- lines that stand one after the other

-- a line that is found stands where it is looked for
record IsThere (a b : ℕ) (l : LinkedLine) : Type 0 where
  above : a ≤ b
  at_is : l.at ≡ b
  some : b < l.next

found-there : (lines : List LinkedLine) (a b : ℕ) (l : LinkedLine) → LaidFrom a lines → line_in lines b ≡ Some l → IsThere a b l
found-there [] a b l stands is = absurd (none-some l is)
found-there (x ∷ lines) a b l stands is =
    elim (cases_eq x.at b) [
      | inl same ↦
          let one : x ≡ l = ap (λ (o : Option LinkedLine). unwrap_or o x) (rw (eq-eqb x.at b same) at is) in
          let start = stands.0 in
          let there : x.at < x.next = stands.1 in
          record {
            above = omega (arith, start, same);
            at_is = subst (λ (y : LinkedLine). y.at ≡ b) one same;
            some = subst (λ (y : LinkedLine). b < y.next) one (omega (arith, there, same));
          }
      | inr other ↦
          let later = found-there lines x.next b l stands.2 (rw (ne_eqb x.at b other) at is) in
          let start = stands.0 in
          let there : x.at < x.next = stands.1 in
          record { above = (let more = later.above in omega (arith, start, there, more)); at_is = later.at_is; some = later.some }
    ]

-- lines that are found from an offset up to another
abbrev Found : List LinkedLine → (from to : ℕ) → List LinkedLine → Type 0
Found lines from to [] = from ≡ to
Found lines from to (l ∷ part) = (line_in lines from ≡ Some l) × Found lines l.next to part

found-rises : (lines : List LinkedLine) (a from to : ℕ) (part : List LinkedLine) → LaidFrom a lines → Found lines from to part → from ≤ to
found-rises lines a from to [] stands is = omega (arith, is)
found-rises lines a from to (l ∷ part) stands is =
    let here = found-there lines a from l stands is.0 in
    let more : from < l.next = here.some in
    let rest = found-rises lines a l.next to part stands is.1 in
    omega (arith, more, rest)

-- those behind the first line are found among the others
found-behind : (x : LinkedLine) (lines : List LinkedLine) (from to : ℕ) (part : List LinkedLine) → LaidFrom x.at (x ∷ lines) → x.at < from
    → Found (x ∷ lines) from to part → Found lines from to part
found-behind x lines from to [] stands above is = is
found-behind x lines from to (l ∷ part) stands above is =
    let here : line_in lines from ≡ Some l = rw (ne_eqb x.at from (λ same. omega (arith, same, above))) at is.0 in
    let there = found-there lines x.next from l stands.2 here in
    let more : from < l.next = there.some in
    (here, found-behind x lines l.next to part stands (omega (arith, above, more)) is.1)

-- none lies between an offset and itself
none-between : (from : ℕ) (lines : List LinkedLine) → lines_between from from lines ≡ []
none-between from [] = refl
none-between from (x ∷ lines) = rw (outside x) (none-between from lines)
  where
    outside : (x : LinkedLine) → lies_between from from x ≡ false
    outside x =
        elim (cases_lt x.at from) [
          | inl below ↦ and_left (nat_le from x.at) (nat_lt x.at from) (lt-leb from x.at below)
          | inr above ↦ and_right (nat_le from x.at) (nat_lt x.at from) (le-ltb x.at from above)
        ]

-- where all lines lie behind two offsets, either may be the lower one
lower-alike : (lines : List LinkedLine) (a low high to : ℕ) → LaidFrom a lines → low ≤ a → high ≤ a
    → lines_between low to lines ≡ lines_between high to lines
lower-alike [] a low high to stands h k = refl
lower-alike (x ∷ lines) a low high to stands h k =
    let start : x.at ≡ a = stands.0 in
    let there : x.at < x.next = stands.1 in
    let rest = lower-alike lines x.next low high to stands.2 (omega (arith, start, there, h)) (omega (arith, start, there, k)) in
    rw (le-leb low x.at (omega (arith, start, h)), le-leb high x.at (omega (arith, start, k)))
    (ap (λ ls. if nat_lt x.at to then x ∷ ls else ls) rest)

-- lines that are found from an offset up to another are all that lie between them
found-between : (lines : List LinkedLine) (a from to : ℕ) (part : List LinkedLine) → LaidFrom a lines → Found lines from to part
    → lines_between from to lines ≡ part
found-between lines a from to [] stands is = subst (λ b. lines_between from b lines ≡ []) is (none-between from lines)
found-between [] a from to (l ∷ part) stands is = absurd (none-some l is.0)
found-between (x ∷ lines) a from to (l ∷ part) stands is =
    let start : x.at ≡ a = stands.0 in
    let there : x.at < x.next = stands.1 in
    let whole : LaidFrom x.at (x ∷ lines) = (refl, stands.1, stands.2) in
    elim (cases_eq x.at from) [
      | inl same ↦
          let one : x ≡ l = ap (λ (o : Option LinkedLine). unwrap_or o x) (rw (eq-eqb x.at from same) at is.0) in
          let rest : Found (x ∷ lines) x.next to part = subst (λ (y : LinkedLine). Found (x ∷ lines) y.next to part) (sym one) is.1 in
          let rises = found-rises (x ∷ lines) x.at x.next to part whole rest in
          let others = found-between lines x.next x.next to part stands.2 (found-behind x lines x.next to part whole there rest) in
          let alike = lower-alike lines x.next from x.next to stands.2 (omega (arith, same, there)) (omega arith) in
          rw (le-leb from x.at (omega (arith, same)), lt-ltb x.at to (omega (arith, there, rises)))
          (ap (λ ls. x ∷ ls) (alike ∙ others) ∙ ap (λ y. y ∷ part) one)
      | inr other ↦
          let here : line_in lines from ≡ Some l = rw (ne_eqb x.at from other) at is.0 in
          let found = found-there lines x.next from l stands.2 here in
          let above : x.at < from = (let more = found.above in omega (arith, there, more)) in
          rw (and_left (nat_le from x.at) (nat_lt x.at to) (lt-leb from x.at above))
          (found-between lines x.next from to (l ∷ part) stands.2 (found-behind x lines from to (l ∷ part) whole above is))
    ]

-- ---- in a program

found-in : (program : Program) (m : ℕ) (method : LinkedMethod) (from to : ℕ) (part : List LinkedLine) → program.method m ≡ Some method
    → AreLines program m from to part → Found method.lines from to part
found-in program m method from to [] is part_is = part_is
found-in program m method from to (l ∷ part) is part_is = (
  subst (λ o. option_and_then (λ (own : LinkedMethod). line_in own.lines from) o ≡ Some l) is part_is.0,
  found-in program m method l.next to part is part_is.1,
)

pub method-between : (program : Program) (m : ℕ) (method : LinkedMethod) (from to : ℕ) (part : List LinkedLine) → program.method m ≡ Some method
    → LaidFrom 0 method.lines → AreLines program m from to part → lines_between from to method.lines ≡ part
method-between program m method from to part is stands part_is =
    found-between method.lines 0 from to part stands (found-in program m method from to part is part_is)
