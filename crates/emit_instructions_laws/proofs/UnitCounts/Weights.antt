-- Code that counts nothing, and code with one call of a helper method.
use Rattle.std.proofs.Common.{◌≡◌, ℕ, ◌+◌, ◌≤◌, ◌==◌, nat_lt, Bool, true, false, if◌then◌else◌, List, [], ◌∷◌, ◌++◌, refl, ap, arith}
use Rattle.std.proofs.lemmas.Bool.{ltb-true}
use Rattle.run_definition.specs.declared.order.Order.{Order}
use Rattle.jvm_definition.specs.declared.array_name.ArrayName.TheVariants.{Iaload, Aaload, Iastore, Aastore}
use Rattle.jvm_definition.specs.declared.branch_name.BranchName.TheVariants.{Goto}
use Rattle.jvm_definition.specs.declared.stack_name.StackName.TheVariants.{Pop}
use Rattle.jvm_definition.specs.declared.local_kind.LocalKind.TheVariants as local_kinds
use Rattle.jvm_definition.specs.declared.instruction.Instruction.{Instruction}
use Rattle.jvm_definition.specs.declared.instruction.Instruction.TheVariants as instructions
use Rattle.emit_steps.specs.declared.step.Step.{Step}
use Rattle.emit_steps.specs.declared.step.Step.TheVariants.{Does, Skips, Leaves, Selects}
use Rattle.emit_layout.specs.FieldNumbers.{register_field}
use Rattle.emit_instructions.specs.Access.{push_word, get_field, put_field, keeps, get_register, put_register}
use Rattle.emit_paths_laws.specs.Classes.{reads, chars, switches, entries}
use Rattle.emit_paths_laws.specs.Paths.{step_weight, weigh}
use Rattle.emit_simulation_laws.specs.Sites.{helper_weight, whole_weight}
use Rattle.emit_simulation_laws.proofs.GuestFollows.Weights.{whole-both}
use Rattle.emit_instructions_laws.specs.Counting.{Counts, SparesHelpers}

abbrev pub one : Bool → ℕ
one b = if b then 1 else 0

-- ---- instructions that may count something

abbrev pub loud : Instruction → ℕ
loud (instructions.Array name) = 1
loud instructions.CharAt = 1
loud (instructions.TableSwitch s) = 1
loud (instructions.LookupSwitch s) = 1
loud (instructions.Call m) = 1
loud _ = 0

-- no instruction weighs more than that
abbrev pub IsBelowLoud : (Instruction → ℕ) → Type 0
IsBelowLoud weight = (i : Instruction) → weight i ≤ loud i

reads-below : IsBelowLoud reads
reads-below (instructions.Array Iaload) = omega arith
reads-below (instructions.Array Aaload) = omega arith
reads-below (instructions.Array Iastore) = omega arith
reads-below (instructions.Array Aastore) = omega arith
reads-below _ = omega arith

chars-below : IsBelowLoud chars
chars-below instructions.CharAt = omega arith
chars-below _ = omega arith

switches-below : IsBelowLoud switches
switches-below (instructions.TableSwitch s) = omega arith
switches-below (instructions.LookupSwitch s) = omega arith
switches-below _ = omega arith

one-below : (b : Bool) → one b ≤ 1
one-below true = omega arith
one-below false = omega arith

entries-below : (is_span : ℕ → Bool) → IsBelowLoud (entries is_span)
entries-below is_span (instructions.Call m) = one-below (is_span m)
entries-below is_span _ = omega arith

-- ---- code without one of them

pub quiet-whole : (order : Order) (weight : Instruction → ℕ) → IsBelowLoud weight → (code : List Step) → weigh loud code ≡ 0 → whole_weight order code weight ≡ 0
quiet-whole order weight below [] quiet = refl
quiet-whole order weight below (Does (instructions.Call h) ∷ code) quiet = absurd (omega (arith, quiet))
quiet-whole order weight below (Does i ∷ code) quiet =
    let here = below i in
    let rest = quiet-whole order weight below code (omega (arith, quiet)) in
    omega (arith, here, rest, quiet)
quiet-whole order weight below (Skips name k ∷ code) quiet =
    let here = below (instructions.Branch name 0) in
    let rest = quiet-whole order weight below code (omega (arith, quiet)) in
    omega (arith, here, rest)
quiet-whole order weight below (Leaves target ∷ code) quiet =
    let here = below (instructions.Branch Goto 0) in
    let rest = quiet-whole order weight below code (omega (arith, quiet)) in
    omega (arith, here, rest)
quiet-whole order weight below (Selects s ∷ code) quiet = absurd (omega (arith, quiet))

-- ---- steps that reach registers

pub code-either : (b : Bool) (first second : List Step) → weigh loud first ≡ 0 → weigh loud second ≡ 0 → weigh loud (if b then first else second) ≡ 0
code-either true first second h k = h
code-either false first second h k = k

step-either : (b : Bool) (s t : Step) → step_weight loud s ≡ 0 → step_weight loud t ≡ 0 → step_weight loud (if b then s else t) ≡ 0
step-either true s t h k = h
step-either false s t h k = k

pub get-quiet : (bank r : ℕ) → step_weight loud (get_register bank r) ≡ 0
get-quiet bank r =
    step-either (r == 0) (push_word 0) (if keeps bank r then Does (instructions.Load local_kinds.Int r) else get_field (register_field r)) refl
    (step-either (keeps bank r) (Does (instructions.Load local_kinds.Int r)) (get_field (register_field r)) refl refl)

pub put-quiet : (bank r : ℕ) → step_weight loud (put_register bank r) ≡ 0
put-quiet bank r =
    step-either (r == 0) (Does (instructions.Stack Pop)) (if keeps bank r then Does (instructions.Store local_kinds.Int r) else put_field (register_field r)) refl
    (step-either (keeps bank r) (Does (instructions.Store local_kinds.Int r)) (put_field (register_field r)) refl refl)

-- ---- calls of methods that may be spans

abbrev pub strange : Instruction → ℕ
strange (instructions.Call m) = if nat_lt m 20 then 0 else 1
strange _ = 0

module _ (is_span : ℕ → Bool) (spares : SparesHelpers is_span) where
  helper-entry : (m n : ℕ) (b : Bool) → nat_lt m 20 ≡ b → (if b then 0 else 1) + n ≡ 0 → one (is_span m) ≡ 0
  helper-entry m n true is none = ap one (spares m (ltb-true m 20 is))
  helper-entry m n false is none = absurd (omega (arith, none))

  pub known-entries : (code : List Step) → weigh strange code ≡ 0 → weigh (entries is_span) code ≡ 0
  known-entries [] none = refl
  known-entries (Does (instructions.Call m) ∷ code) none =
      let rest = known-entries code (omega (arith, none)) in
      let here = helper-entry m (weigh strange code) (nat_lt m 20) refl none in
      omega (arith, rest, here)
  known-entries (Does i ∷ code) none = let rest = known-entries code (omega (arith, none)) in omega (arith, rest)
  known-entries (Skips name k ∷ code) none = let rest = known-entries code (omega (arith, none)) in omega (arith, rest)
  known-entries (Leaves target ∷ code) none = let rest = known-entries code (omega (arith, none)) in omega (arith, rest)
  known-entries (Selects s ∷ code) none = let rest = known-entries code (omega (arith, none)) in omega (arith, rest)

-- ---- what code counts

-- by each weight that is counted, one total is no more than another
abbrev pub IsNoMore : (ℕ → Bool) → ((Instruction → ℕ) → ℕ) → ((Instruction → ℕ) → ℕ) → Type 0
IsNoMore is_span total all = (weight : Instruction → ℕ) → IsBelowLoud weight → total weight ≤ all weight

module _ (is_span : ℕ → Bool) where
  pub counts-fewer : (n : ℕ) (total all : (Instruction → ℕ) → ℕ) → IsNoMore is_span total all → Counts is_span n 0 all → Counts is_span n 0 total
  counts-fewer n total all less c =
      let a = less reads reads-below in
      let b = less chars chars-below in
      let d = less switches switches-below in
      let e = less (entries is_span) (entries-below is_span) in
      record {
        few_reads = omega (arith, a, c.few_reads);
        no_chars = omega (arith, b, c.no_chars);
        few_switches = omega (arith, d, c.few_switches);
        few_entries = omega (arith, e, c.few_entries);
      }

  pub counts-nothing : Counts is_span 0 0 (λ weight. 0)
  counts-nothing = record { few_reads = omega arith; no_chars = refl; few_switches = omega arith; few_entries = omega arith }

  pub quiet-counts : (order : Order) (code : List Step) → weigh loud code ≡ 0 → Counts is_span 0 0 (whole_weight order code)
  quiet-counts order code quiet =
      counts-fewer 0 (whole_weight order code) (λ weight. 0)
      (λ weight below. let none = quiet-whole order weight below code quiet in omega (arith, none)) counts-nothing

  -- a front part that counts nothing
  pub counts-behind : (order : Order) (n : ℕ) (front code : List Step) → weigh loud front ≡ 0 → Counts is_span n 0 (whole_weight order code) → Counts is_span n 0 (whole_weight order (front ++ code))
  counts-behind order n front code quiet c =
      counts-fewer n (whole_weight order (front ++ code)) (whole_weight order code)
      (λ weight below.
      let both = whole-both order weight front code in
      let none = quiet-whole order weight below front quiet in
      omega (arith, both, none)) c

  -- a call, and code behind it that counts nothing
  pub call-counts : (order : Order) (n h : ℕ) (code : List Step) → is_span h ≡ false → weigh loud code ≡ 0 → Counts is_span n 0 (λ weight. helper_weight order weight h) → Counts is_span n 0 (whole_weight order (Does (instructions.Call h) ∷ code))
  call-counts order n h code apart quiet c =
      let r = quiet-whole order reads reads-below code quiet in
      let k = quiet-whole order chars chars-below code quiet in
      let s = quiet-whole order switches switches-below code quiet in
      let e = quiet-whole order (entries is_span) (entries-below is_span) code quiet in
      let none : one (is_span h) ≡ 0 = ap one apart in
      record {
        few_reads = omega (arith, r, c.few_reads);
        no_chars = omega (arith, k, c.no_chars);
        few_switches = omega (arith, s, c.few_switches);
        few_entries = omega (arith, e, none, c.few_entries);
      }
