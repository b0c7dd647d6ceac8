-- When steps have operations.
use Rattle.std.proofs.Common.{◌≡◌, ℕ, zero, suc, ◌+◌, ◌<◌, ◌≤◌, ◌^◌, Bool, true, false, nat_le, nat_lt, List, [], ◌∷◌, ◌++◌, length, map, length-append, refl, ap, arith}
use Rattle.std.specs.Prelude.{if◌then◌else◌}
use Rattle.std.specs.List.{list_all, flat_map}
use Rattle.std.proofs.lemmas.Bool.{and_from, and_parts, eqb-true, false≢true, lt-ltb, le-leb, ltb-true, leb-true}
use Rattle.std.proofs.lemmas.List.{length-map}
use Rattle.std.proofs.lemmas.List.Elements.{All-head}
use Rattle.jvm_definition.specs.declared.instruction.Instruction.{Instruction}
use Rattle.jvm_definition.specs.declared.instruction.Instruction.TheVariants as instructions
use Rattle.jvm_definition.specs.Program.{Program, instruction_targets}
use Rattle.jvm_definition.specs.Typing.{TypeFrame, same_kind}
use Rattle.class_definition.specs.Linking.{descriptor_kind}
use Rattle.emit_steps.specs.declared.step.Step.{Step}
use Rattle.emit_steps.specs.declared.step.Step.TheVariants.{Does, Skips, Leaves, Selects}
use Rattle.emit_steps.specs.Widths.{width, bytes_before, size}
use Rattle.emit_steps.specs.Switches.{needs_no_padding, switches_are_placed}
use Rattle.emit_layout.specs.Fields.{field_descriptor}
use Rattle.word_emitter.specs.declared.extent.Extent.{Extent}
use Rattle.emit_spans.specs.Laying.{laid_step}
use Rattle.emit_assembly.specs.declared.references.References.{References}
use Rattle.emit_assembly.specs.Assembling.{has_method, has_operation, reaches, step_has_operation, have_operations}
use Rattle.emit_types_laws.specs.Judging.{Rules, Fits, Types, goes_straight, is_no_switch, Meets}
use Rattle.emit_types_laws.specs.Methods.{owes_nothing}
use Rattle.emit_methods_laws.specs.Naming.{names_well_of, step_names_well_of, all_well_of}
use Rattle.emit_methods_laws.proofs.WholeCode.Targets.{within}

-- ---- code without a switch

pub no-padding : (code : List Step) (at : ℕ) → list_all is_no_switch code ≡ true → switches_are_placed at code ≡ true
no-padding [] at is = refl
no-padding (s ∷ code) at is =
    let parts = and_parts (is_no_switch s) (list_all is_no_switch code) is in
    and_from (needs_no_padding at s) (switches_are_placed (at + width s) code) (by_step s parts.0) (no-padding code (at + width s) parts.1)
  where
    by_step : (s : Step) → is_no_switch s ≡ true → needs_no_padding at s ≡ true
    by_step (Does instruction) h = refl
    by_step (Skips name k) h = refl
    by_step (Leaves target) h = refl
    by_step (Selects s) h = absurd (false≢true h)

pub no-switch-append : (xs ys : List Step) → list_all is_no_switch xs ≡ true → list_all is_no_switch ys ≡ true
    → list_all is_no_switch (xs ++ ys) ≡ true
no-switch-append [] ys front back = back
no-switch-append (s ∷ xs) ys front back =
    let parts = and_parts (is_no_switch s) (list_all is_no_switch xs) front in
    and_from (is_no_switch s) (list_all is_no_switch (xs ++ ys)) parts.0 (no-switch-append xs ys parts.1 back)

-- typed code that leaves to no offset has none
pub no-switches : (program : Program) (code : List Step) (frames behind : List TypeFrame)
    → Types (record { program = program; owes = owes_nothing; more = 2 }) code frames behind → list_all is_no_switch code ≡ true
no-switches program [] frames behind t = refl
no-switches program (s ∷ code) [] behind t = absurd t
no-switches program (s ∷ code) (f ∷ frames) behind t =
    and_from (is_no_switch s) (list_all is_no_switch code) (by_step s t.1) (no-switches program code frames behind t.2)
  where
    by_step : (s : Step) → Fits (record { program = program; owes = owes_nothing; more = 2 }) s f (frames ++ behind) → is_no_switch s ≡ true
    by_step (Does instruction) fit = refl
    by_step (Skips name k) fit = refl
    by_step (Leaves target) fit = refl
    by_step (Selects s) fit = absurd (All-head (λ at. Meets fit.after (owes_nothing at)) s.default s.targets fit.owed)

-- ---- bytes

pub front-bytes : (code : List Step) (k : ℕ) → bytes_before code k ≤ size code
front-bytes code zero = omega arith
front-bytes [] (suc k) = omega arith
front-bytes (s ∷ code) (suc k) = let rest = front-bytes code k in omega (arith, rest)

same-bytes : (xs ys : List Step) (k : ℕ) → k ≤ length xs → bytes_before (xs ++ ys) k ≡ bytes_before xs k
same-bytes xs ys zero few = refl
same-bytes [] ys (suc k) few = absurd (omega (arith, few))
same-bytes (s ∷ xs) ys (suc k) few = ap (λ n. width s + n) (same-bytes xs ys k (omega (arith, few)))

pub reaches-from : (others : List Step) (k : ℕ) → k ≤ length others → 3 + bytes_before others k < 2 ^ 15 → reaches others k ≡ true
reaches-from others k few near =
    and_from (nat_le k (length others)) (nat_lt (3 + bytes_before others k) (2 ^ 15)) (le-leb k (length others) few)
    (lt-ltb (3 + bytes_before others k) (2 ^ 15) near)

-- ---- code that is well named and typed

-- the table has each method that is called
abbrev pub HasMethods : References → (ℕ → Bool) → Type 0
HasMethods r calls = (m : ℕ) → calls m ≡ true → has_method r m ≡ true

module _ (r : References) (fields : ℕ) (have : fields ≤ length r.fields) (calls : ℕ → Bool) (called : HasMethods r calls) (class : ℕ) (gives : Bool) where
  field-there : (f : ℕ) → nat_lt f fields ≡ true → nat_lt f (length r.fields) ≡ true
  field-there f is = let below = ltb-true f fields is in lt-ltb f (length r.fields) (omega (arith, below, have))

  pub named : (i : Instruction) → goes_straight (Does i) ≡ true → names_well_of fields calls class gives i ≡ true → has_operation r i ≡ true
  named (instructions.Increment i by) straight is = is
  named (instructions.Get f kind) straight is = field-there f (and_parts (nat_lt f fields) (same_kind kind (descriptor_kind (field_descriptor f))) is).0
  named (instructions.Put f kind) straight is = field-there f (and_parts (nat_lt f fields) (same_kind kind (descriptor_kind (field_descriptor f))) is).0
  named (instructions.Call m) straight is = called m is
  named (instructions.Branch name target) straight is = absurd (false≢true straight)
  named (instructions.TableSwitch s) straight is =
      let none = eqb-true (length (instruction_targets (instructions.TableSwitch s))) 0 straight in
      absurd (omega (arith, none))
  named (instructions.LookupSwitch s) straight is =
      let none = eqb-true (length (instruction_targets (instructions.LookupSwitch s))) 0 straight in
      absurd (omega (arith, none))
  named instructions.Wrong straight is = absurd (false≢true is)
  named other straight is = refl

  step : (rules : Rules) (s : Step) (code : List Step) (f : TypeFrame) (frames behind : List TypeFrame) → Fits rules s f (frames ++ behind)
      → Types rules code frames behind → length behind ≤ 1 → width s + size code < 2 ^ 15 → is_no_switch s ≡ true
      → step_names_well_of fields calls class gives s ≡ true → step_has_operation r s code ≡ true
  step rules (Does instruction) code f frames behind fit t one near plain is = named instruction fit.straight is
  step rules (Skips name k) code f frames behind fit t one near plain is =
      let place = within rules code frames behind fit.after k t fit.skipped in
      let front = front-bytes code k in
      reaches-from code k (omega (arith, place, one)) (omega (arith, front, near))
  step rules (Leaves target) code f frames behind fit t one near plain is = refl
  step rules (Selects s) code f frames behind fit t one near plain is = absurd (false≢true plain)

  pub operations : (rules : Rules) (code : List Step) (frames behind : List TypeFrame) → Types rules code frames behind → length behind ≤ 1
      → size code < 2 ^ 15 → list_all is_no_switch code ≡ true → all_well_of fields calls class gives code ≡ true → have_operations r code ≡ true
  operations rules [] frames behind t one near plain is = refl
  operations rules (s ∷ code) [] behind t one near plain is = absurd t
  operations rules (s ∷ code) (f ∷ frames) behind t one near plain is =
      let plains = and_parts (is_no_switch s) (list_all is_no_switch code) plain in
      let names = and_parts (step_names_well_of fields calls class gives s) (all_well_of fields calls class gives code) is in
      and_from (step_has_operation r s code) (have_operations r code)
      (step rules s code f frames behind t.1 t.2 one near plains.0 names.0)
      (operations rules code frames behind t.2 one (omega (arith, near)) plains.1 names.1)

-- ---- code behind code

module _ (r : References) where
  abbrev pub Operates : List Step → Type 0
  Operates code = have_operations r code ≡ true

  step-append : (s : Step) (xs ys : List Step) → step_has_operation r s xs ≡ true → step_has_operation r s (xs ++ ys) ≡ true
  step-append (Does instruction) xs ys is = is
  step-append (Skips name k) xs ys is =
      let parts = and_parts (nat_le k (length xs)) (nat_lt (3 + bytes_before xs k) (2 ^ 15)) is in
      let few = leb-true k (length xs) parts.0 in
      let near = ltb-true (3 + bytes_before xs k) (2 ^ 15) parts.1 in
      reaches-from (xs ++ ys) k (omega (arith, few, length-append xs ys)) (omega (arith, near, same-bytes xs ys k few))
  step-append (Leaves target) xs ys is = refl
  step-append (Selects s) xs ys is = is

  pub operates-append : (xs ys : List Step) → Operates xs → Operates ys → Operates (xs ++ ys)
  operates-append [] ys front back = back
  operates-append (s ∷ xs) ys front back =
      let parts = and_parts (step_has_operation r s xs) (have_operations r xs) front in
      and_from (step_has_operation r s (xs ++ ys)) (have_operations r (xs ++ ys)) (step-append s xs ys parts.0) (operates-append xs ys parts.1 back)

  pub operates-each : {A : Type 0} (F : A → List Step) → ((x : A) → Operates (F x)) → (xs : List A) → Operates (flat_map F xs)
  operates-each F each [] = refl
  operates-each F each (x ∷ xs) = operates-append (F x) (flat_map F xs) (each x) (operates-each F each xs)

  pub operates-either : (b : Bool) (xs ys : List Step) → Operates xs → Operates ys → Operates (if b then xs else ys)
  operates-either true xs ys h k = h
  operates-either false xs ys h k = k

-- ---- code that is laid down

module _ (r : References) (span : Extent) (targets : List ℕ) (otherwise : ℕ) where
  width-laid : (s : Step) → width (laid_step span targets otherwise s) ≡ width s
  width-laid (Does instruction) = refl
  width-laid (Skips name k) = refl
  width-laid (Leaves at) = refl
  width-laid (Selects s) = refl

  bytes-laid : (code : List Step) (k : ℕ) → bytes_before (map (laid_step span targets otherwise) code) k ≡ bytes_before code k
  bytes-laid code zero = refl
  bytes-laid [] (suc k) = refl
  bytes-laid (s ∷ code) (suc k) = λ i. width-laid s i + bytes-laid code k i

  step-laid : (s : Step) (code : List Step) → step_has_operation r s code ≡ true
      → step_has_operation r (laid_step span targets otherwise s) (map (laid_step span targets otherwise) code) ≡ true
  step-laid (Does instruction) code is = is
  step-laid (Skips name k) code is =
      let parts = and_parts (nat_le k (length code)) (nat_lt (3 + bytes_before code k) (2 ^ 15)) is in
      let few = leb-true k (length code) parts.0 in
      let near = ltb-true (3 + bytes_before code k) (2 ^ 15) parts.1 in
      reaches-from (map (laid_step span targets otherwise) code) k (omega (arith, few, length-map code (laid_step span targets otherwise)))
      (omega (arith, near, bytes-laid code k))
  step-laid (Leaves at) code is = refl
  step-laid (Selects s) code is = is

  pub operates-laid : (code : List Step) → have_operations r code ≡ true → have_operations r (map (laid_step span targets otherwise) code) ≡ true
  operates-laid [] is = refl
  operates-laid (s ∷ code) is =
      let parts = and_parts (step_has_operation r s code) (have_operations r code) is in
      and_from (step_has_operation r (laid_step span targets otherwise s) (map (laid_step span targets otherwise) code))
      (have_operations r (map (laid_step span targets otherwise) code)) (step-laid s code parts.0) (operates-laid code parts.1)
