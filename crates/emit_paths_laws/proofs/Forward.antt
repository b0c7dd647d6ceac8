-- Code that goes only forward executes each line at most once.
use Rattle.std.proofs.Common.{◌≡◌, ℕ, zero, suc, ◌+◌, ◌==◌, ◌<◌, ◌≤◌, Bool, true, false, cond, nat_lt, nat_le, if◌then◌else◌, List, [], ◌∷◌, map, length, slice_get, Option, Some, None, option_and_then, refl, ap, sym, ◌∙◌, arith, unwrap_or}
use Rattle.std.specs.List.{list_all}
use Rattle.std.proofs.lemmas.Bool.{and_parts, ltb-true}
use Rattle.std.proofs.lemmas.Bool.Decides.{nat_tests}
use Rattle.std.proofs.lemmas.List.Sums.{sum_by-cons}
use Rattle.std.proofs.lemmas.Option.{none-some}
use Rattle.run_simulation_laws.specs.Places.{Rises}
use Rattle.run_simulation_laws.proofs.Places.{rises_from}
use Rattle.jvm_definition.specs.declared.linked_line.LinkedLine.{LinkedLine}
use Rattle.jvm_definition.specs.declared.instruction.Instruction.{Instruction}
use Rattle.jvm_definition.specs.Program.{Program, line_in, instruction_targets}
use Rattle.jvm_definition.specs.Effect.{Workspace, InstructionEffect, goes_on, jumps, enters, gives, asks_host, faults, traps, wrong, instruction_effect}
use Rattle.jvm_definition_laws.specs.Stretch.{Point, arrived, led, passed, stretch}
use Rattle.emit_paths_laws.specs.Code.{line_then, passes, weight_of, goes_forward, all_forward}
use Rattle.emit_paths_laws.proofs.Standing.{line_found}

-- ---- one line

all_then : {X : Type 0} (test : X → Bool) (xs : List X) (k : ℕ) (x : X) → list_all test xs ≡ true → slice_get xs k ≡ Some x → test x ≡ true
all_then test [] k x all is = absurd (none-some x is)
all_then test (y ∷ xs) zero x all is =
    let same : y ≡ x = ap (λ o. unwrap_or o x) is in
    ap test (sym same) ∙ (and_parts (test y) (list_all test xs) all).0
all_then test (y ∷ xs) (suc k) x all is =
    all_then test xs k x (and_parts (test y) (list_all test xs) all).1 is

arrived_forward : (from : ℕ) (w : Workspace) (target : Option ℕ) (q : Point) → ((t : ℕ) → target ≡ Some t → from < t) → arrived w target ≡ Some q → from < q.at
arrived_forward from w None q later is = absurd (none-some q is)
arrived_forward from w (Some t) q later is =
    let same : t ≡ q.at = ap (λ (o : Option Point). (unwrap_or o q).at) is in
    let past = later t refl in
    omega arith

led_forward : (line : LinkedLine) (e : InstructionEffect) (q : Point) → goes_forward line ≡ true → led e line ≡ Some q → line.at < q.at
led_forward line (goes_on w) q forward is =
    let next = ltb-true line.at line.next (and_parts (nat_lt line.at line.next) (list_all (λ t. nat_lt line.at t) (instruction_targets line.instruction)) forward).0 in
    let same : line.next ≡ q.at = ap (λ (o : Option Point). (unwrap_or o q).at) is in
    omega arith
led_forward line (jumps k w) q forward is =
    let targets = (and_parts (nat_lt line.at line.next) (list_all (λ t. nat_lt line.at t) (instruction_targets line.instruction)) forward).1 in
    arrived_forward line.at w (slice_get (instruction_targets line.instruction) k) q (λ t found. ltb-true line.at t (all_then (λ x. nat_lt line.at x) (instruction_targets line.instruction) k t targets found)) is
led_forward line (enters m given w) q forward is = absurd (none-some q is)
led_forward line (gives v w) q forward is = absurd (none-some q is)
led_forward line (asks_host call readable writable w) q forward is = absurd (none-some q is)
led_forward line (faults f) q forward is = absurd (none-some q is)
led_forward line (traps k) q forward is = absurd (none-some q is)
led_forward line wrong q forward is = absurd (none-some q is)

forward_by : (l line : LinkedLine) (others : Option LinkedLine) (b : Bool) → goes_forward l ≡ true → (others ≡ Some line → goes_forward line ≡ true) → (if b then Some l else others) ≡ Some line → goes_forward line ≡ true
forward_by l line others true first on h =
    let same : l ≡ line = ap (λ (o : Option LinkedLine). unwrap_or o line) h in
    ap goes_forward (sym same) ∙ first
forward_by l line others false first on h = on h

line_forward : (lines : List LinkedLine) (at : ℕ) (line : LinkedLine) → all_forward lines ≡ true → line_in lines at ≡ Some line → goes_forward line ≡ true
line_forward [] at line all is = absurd (none-some line is)
line_forward (l ∷ lines) at line all is =
    let parts = and_parts (goes_forward l) (list_all goes_forward lines) all in
    forward_by l line (line_in lines at) (l.at == at) parts.0 (line_forward lines at line parts.1) is

module _ (program : Program) (words : ℕ) (lines : List LinkedLine) (forward : all_forward lines ≡ true) where
  -- ---- places rise

  rise_first : (by n at : ℕ) (w : Workspace) (p : Point) (found : Option LinkedLine) (first : Option Point) → line_in lines at ≡ found → passed program words found w ≡ first → option_and_then (λ (q : Point). stretch program words lines n q.at q.workspace) first ≡ Some p → ((q : Point) → stretch program words lines n q.at q.workspace ≡ Some p → Rises (by + q.at) (map (λ (l : LinkedLine). by + l.at) (passes program words lines n q.at q.workspace)) (by + p.at)) → Rises (by + at) (map (λ (l : LinkedLine). by + l.at) (line_then found first (λ (q : Point). passes program words lines n q.at q.workspace))) (by + p.at)
  rise_first by n at w p None first is goes whole on =
      absurd (none-some p (ap (option_and_then (λ (q : Point). stretch program words lines n q.at q.workspace)) goes ∙ whole))
  rise_first by n at w p (Some line) None is goes whole on = absurd (none-some p whole)
  rise_first by n at w p (Some line) (Some q) is goes whole on =
      let here = line_found lines at line is in
      let past : line.at < q.at = led_forward line (instruction_effect program words line.instruction w) q (line_forward lines at line forward is) goes in
      (omega arith, rises_from (by + line.at + 1) (by + q.at) (map (λ (l : LinkedLine). by + l.at) (passes program words lines n q.at q.workspace)) (by + p.at) (omega arith) (on q whole))

  pub stretch_rises : (by n at : ℕ) (w : Workspace) (p : Point) → stretch program words lines n at w ≡ Some p → Rises (by + at) (map (λ (l : LinkedLine). by + l.at) (passes program words lines n at w)) (by + p.at)
  stretch_rises by zero at w p is =
      let same : at ≡ p.at = ap (λ (o : Option Point). (unwrap_or o p).at) is in
      omega arith
  stretch_rises by (suc n) at w p is =
      rise_first by n at w p (line_in lines at) (passed program words (line_in lines at) w) refl refl is (λ q whole. stretch_rises by n q.at q.workspace p whole)

-- ---- what is counted is at most what the lines count

-- the lines from an offset on
abbrev later : (Instruction → ℕ) → ℕ → List LinkedLine → ℕ
later weight at [] = 0
later weight at (l ∷ lines) = cond (nat_le at l.at) (weight l.instruction) 0 + later weight at lines

later_less : (weight : Instruction → ℕ) (a b : ℕ) (lines : List LinkedLine) → a ≤ b → later weight b lines ≤ later weight a lines
later_less weight a b [] less = omega arith
later_less weight a b (l ∷ lines) less =
    let rest = later_less weight a b lines less in grind (arith, nat_tests)

later_all : (weight : Instruction → ℕ) (at : ℕ) (lines : List LinkedLine) → later weight at lines ≤ weight_of weight lines
later_all weight at [] = omega arith
later_all weight at (l ∷ lines) =
    let rest = later_all weight at lines in
    let cons : weight_of weight (l ∷ lines) ≡ weight l.instruction + weight_of weight lines = sum_by-cons (λ (x : LinkedLine). weight x.instruction) l lines in
    grind (arith, nat_tests)

taken_by : (weight : Instruction → ℕ) (at : ℕ) (l line : LinkedLine) (lines : List LinkedLine) (b : Bool) → b ≡ (l.at == at) → (line_in lines at ≡ Some line → weight line.instruction + later weight (at + 1) lines ≤ later weight at lines) → (if b then Some l else line_in lines at) ≡ Some line → weight line.instruction + (cond (nat_le (at + 1) l.at) (weight l.instruction) 0 + later weight (at + 1) lines) ≤ cond (nat_le at l.at) (weight l.instruction) 0 + later weight at lines
taken_by weight at l line lines true e on h =
    let same : weight l.instruction ≡ weight line.instruction = ap (λ (o : Option LinkedLine). weight (unwrap_or o line).instruction) h in
    let rest = later_less weight at (at + 1) lines (omega arith) in
    grind (arith, nat_tests)
taken_by weight at l line lines false e on h =
    let rest = on h in
    grind (arith, nat_tests)

taken : (weight : Instruction → ℕ) (at : ℕ) (lines : List LinkedLine) (line : LinkedLine) → line_in lines at ≡ Some line → weight line.instruction + later weight (at + 1) lines ≤ later weight at lines
taken weight at [] line is = absurd (none-some line is)
taken weight at (l ∷ lines) line is =
    taken_by weight at l line lines (l.at == at) refl (taken weight at lines line) is

module _ (program : Program) (words : ℕ) (lines : List LinkedLine) (forward : all_forward lines ≡ true) (weight : Instruction → ℕ) where
  fewer_first : (n at : ℕ) (w : Workspace) (p : Point) (found : Option LinkedLine) (first : Option Point) → line_in lines at ≡ found → passed program words found w ≡ first → option_and_then (λ (q : Point). stretch program words lines n q.at q.workspace) first ≡ Some p → ((q : Point) → stretch program words lines n q.at q.workspace ≡ Some p → weight_of weight (passes program words lines n q.at q.workspace) ≤ later weight q.at lines) → weight_of weight (line_then found first (λ (q : Point). passes program words lines n q.at q.workspace)) ≤ later weight at lines
  fewer_first n at w p None first is goes whole on =
      absurd (none-some p (ap (option_and_then (λ (q : Point). stretch program words lines n q.at q.workspace)) goes ∙ whole))
  fewer_first n at w p (Some line) None is goes whole on = absurd (none-some p whole)
  fewer_first n at w p (Some line) (Some q) is goes whole on =
      let here = line_found lines at line is in
      let past : line.at < q.at = led_forward line (instruction_effect program words line.instruction w) q (line_forward lines at line forward is) goes in
      let rest = passes program words lines n q.at q.workspace in
      let cons : weight_of weight (line ∷ rest) ≡ weight line.instruction + weight_of weight rest = sum_by-cons (λ (l : LinkedLine). weight l.instruction) line rest in
      let a = on q whole in
      let b = later_less weight (at + 1) q.at lines (omega arith) in
      let c = taken weight at lines line is in
      omega (arith, cons, a, b, c)

  fewer_from : (n at : ℕ) (w : Workspace) (p : Point) → stretch program words lines n at w ≡ Some p → weight_of weight (passes program words lines n at w) ≤ later weight at lines
  fewer_from zero at w p is = omega arith
  fewer_from (suc n) at w p is =
      fewer_first n at w p (line_in lines at) (passed program words (line_in lines at) w) refl refl is (λ q whole. fewer_from n q.at q.workspace p whole)

  pub no_more : (n at : ℕ) (w : Workspace) (p : Point) → stretch program words lines n at w ≡ Some p → weight_of weight (passes program words lines n at w) ≤ weight_of weight lines
  no_more n at w p is =
      let a = fewer_from n at w p is in
      let b = later_all weight at lines in
      omega (arith, a, b)

-- ---- as many lines as instructions

many_first : (program : Program) (words n : ℕ) (lines : List LinkedLine) (w : Workspace) (p : Point) (found : Option LinkedLine) (first : Option Point) → passed program words found w ≡ first → option_and_then (λ (q : Point). stretch program words lines n q.at q.workspace) first ≡ Some p → ((q : Point) → stretch program words lines n q.at q.workspace ≡ Some p → length (passes program words lines n q.at q.workspace) ≡ n) → length (line_then found first (λ (q : Point). passes program words lines n q.at q.workspace)) ≡ suc n
many_first program words n lines w p None first goes whole on =
    absurd (none-some p (ap (option_and_then (λ (q : Point). stretch program words lines n q.at q.workspace)) goes ∙ whole))
many_first program words n lines w p (Some line) None goes whole on = absurd (none-some p whole)
many_first program words n lines w p (Some line) (Some q) goes whole on =
    let rest = on q whole in
    omega (arith, rest)

pub as_many : (program : Program) (words : ℕ) (lines : List LinkedLine) (n at : ℕ) (w : Workspace) (p : Point) → stretch program words lines n at w ≡ Some p → length (passes program words lines n at w) ≡ n
as_many program words lines zero at w p is = refl
as_many program words lines (suc n) at w p is =
    many_first program words n lines w p (line_in lines at) (passed program words (line_in lines at) w) refl is (λ q whole. as_many program words lines n q.at q.workspace p whole)

ones : (lines : List LinkedLine) → weight_of (λ i. 1) lines ≡ length lines
ones [] = refl
ones (l ∷ lines) =
    let rest = ones lines in
    let cons : weight_of (λ i. 1) (l ∷ lines) ≡ 1 + weight_of (λ i. 1) lines = sum_by-cons (λ (x : LinkedLine). 1) l lines in
    omega (arith, rest, cons)

pub no_more_lines : (program : Program) (words : ℕ) (lines : List LinkedLine) → all_forward lines ≡ true → (n at : ℕ) (w : Workspace) (p : Point) → stretch program words lines n at w ≡ Some p → n ≤ length lines
no_more_lines program words lines forward n at w p is =
    let a = no_more program words lines forward (λ i. 1) n at w p is in
    let b = as_many program words lines n at w p is in
    let c = ones (passes program words lines n at w) in
    let d = ones lines in
    omega (arith, a, b, c, d)
