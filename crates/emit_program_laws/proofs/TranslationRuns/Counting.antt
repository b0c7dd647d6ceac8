-- What is counted, and the credit with which a run begins.
use Rattle.std.proofs.Common.{◌≡◌, ℕ, ◌+◌, ◌≤◌, Bool, true, false, cond, if◌then◌else◌, List, [], ◌∷◌, refl, arith}
use Rattle.std.specs.List.{sum_by, count_by}
use Rattle.std.proofs.lemmas.List.Sums.{sum_by-cons}
use Rattle.jvm_definition.specs.declared.instruction.Instruction.{Instruction}
use Rattle.jvm_definition.specs.Step.{JvmState, Frame}
use Rattle.emit_paths_laws.specs.Paths.{LooksAtNoTarget}
use Rattle.trampoline_laws.specs.Classes.{CodeClass, is_span}
use Rattle.emit_loading_laws.specs.Made.{CountNothing}
use Rattle.emit_program_laws.specs.Counted.{Counted, one_if, weight, owed, credit}
use Rattle.emit_program_laws.specs.Counted.Counted.{Reads, Chars, Switches, Entries}
use Rattle.emit_program_laws.proofs.TranslationRuns.Given.{LoadingLaws}

-- an entry and its switch may be owed when the program first chooses
abbrev pub allowed : Counted → ℕ
allowed Reads = 0
allowed Chars = 0
allowed Switches = 1
allowed Entries = 1

if-few : (b : Bool) → (if b then 0 else 1) ≤ 1
if-few true = omega arith
if-few false = omega arith

owed-few : (classes : List CodeClass) (frames : List Frame) → owed classes frames ≤ 1
owed-few classes [] = omega arith
owed-few classes (f ∷ others) = if-few (is_span classes f.method)

pub credit-within : (classes : List CodeClass) (i : Counted) (x : JvmState) → credit classes i x ≤ allowed i
credit-within classes Reads x = omega arith
credit-within classes Chars x = omega arith
credit-within classes Switches x = owed-few classes x.frames
credit-within classes Entries x = owed-few classes x.frames

pub looks-at-no-target : (laws : LoadingLaws) (classes : List CodeClass) (i : Counted) → LooksAtNoTarget (weight classes i)
looks-at-no-target laws classes Reads = laws.looks.of_reads
looks-at-no-target laws classes Chars = laws.looks.of_chars
looks-at-no-target laws classes Switches = laws.looks.of_switches
looks-at-no-target laws classes Entries = laws.looks.of_entries (is_span classes)

pub counts-nothing : (classes : List CodeClass) (choose : ℕ) → is_span classes choose ≡ false → (i : Counted) (total : (Instruction → ℕ) → ℕ) → CountNothing choose total → total (weight classes i) ≡ 0
counts-nothing classes choose none Reads total c = c.no_reads
counts-nothing classes choose none Chars total c = c.no_chars
counts-nothing classes choose none Switches total c = c.no_switches
counts-nothing classes choose none Entries total c = c.no_entries (is_span classes) none

-- ---- sums of ones

one-is : (b : Bool) → one_if b ≡ cond b 1 0
one-is true = refl
one-is false = refl

pub sum-of-ones : {X : Type 0} (test : X → Bool) (xs : List X) → sum_by (λ x. one_if (test x)) xs ≡ count_by test xs
sum-of-ones test [] = refl
sum-of-ones test (x ∷ xs) =
    let here = one-is (test x) in
    let rest = sum-of-ones test xs in
    let first : sum_by (λ y. one_if (test y)) (x ∷ xs) ≡ one_if (test x) + sum_by (λ y. one_if (test y)) xs = sum_by-cons (λ y. one_if (test y)) x xs in
    let second : count_by test (x ∷ xs) ≡ cond (test x) 1 0 + count_by test xs = sum_by-cons (λ y. cond (test y) 1 0) x xs in
    omega (arith, here, rest, first, second)

pub sum-of-none : {X : Type 0} (xs : List X) → sum_by (λ (x : X). 0) xs ≡ 0
sum-of-none [] = refl
sum-of-none {X} (x ∷ xs) =
    let rest = sum-of-none xs in
    let first : sum_by (λ (y : X). 0) (x ∷ xs) ≡ 0 + sum_by (λ (y : X). 0) xs = sum_by-cons (λ (y : X). 0) x xs in
    omega (arith, rest, first)
