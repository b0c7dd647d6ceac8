-- Steps one after the other, and registers.
use Rattle.std.proofs.Common.{◌≡◌, ℕ, ◌-◌, ◌<◌, ◌≤◌, ◌==◌, nat_lt, Bool, true, false, if◌then◌else◌, List, [], ◌∷◌, ◌++◌, refl, arith}
use Rattle.std.specs.List.{flat_map}
use Rattle.std.proofs.lemmas.Bool.{and_from, and_parts, lt-ltb, ltb-true, ne_eqb}
use Rattle.jvm_definition.specs.declared.stack_name.StackName.TheVariants.{Pop}
use Rattle.jvm_definition.specs.declared.kind.Kind.{Kind}
use Rattle.jvm_definition.specs.declared.kind.Kind.TheVariants.{Int}
use Rattle.jvm_definition.specs.declared.local_kind.LocalKind.TheVariants as local_kinds
use Rattle.jvm_definition.specs.declared.instruction.Instruction.{Instruction}
use Rattle.jvm_definition.specs.declared.instruction.Instruction.TheVariants as instructions
use Rattle.jvm_definition.specs.Typing.{same_kind}
use Rattle.class_definition.specs.Linking.{descriptor_kind}
use Rattle.emit_steps.specs.declared.step.Step.{Step}
use Rattle.emit_steps.specs.declared.step.Step.TheVariants.{Does, Skips, Leaves, Selects}
use Rattle.emit_layout.specs.FieldNumbers.{register_field}
use Rattle.emit_layout.specs.Fields.{field_descriptor}
use Rattle.emit_instructions.specs.Access.{keeps, get_register, put_register, push_word, get_field, put_field}
use Rattle.emit_methods_laws.specs.Naming.{fields_of, is_field, is_field_of, names_well, names_well_of, step_names_well, step_names_well_of, all_well, all_well_of}

pub field-is : (r : ℕ) → r < 32 → is_field (register_field r) Int ≡ true
field-is r h =
    let below = lt-ltb (r - 1) 38 (omega (arith, h)) in
    let readable = ne_eqb (r - 1) 34 (λ e. omega (arith, h, e)) in
    let writable = ne_eqb (r - 1) 35 (λ e. omega (arith, h, e)) in
    rw (below, readable, writable) refl

-- ---- whatever fields the main class has

module _ (fields : ℕ) (calls : ℕ → Bool) (class : ℕ) (gives : Bool) where
  abbrev pub WellOf : List Step → Type 0
  WellOf code = all_well_of fields calls class gives code ≡ true

  pub append-of : (xs ys : List Step) → WellOf xs → WellOf ys → WellOf (xs ++ ys)
  append-of [] ys front back = back
  append-of (s ∷ xs) ys front back =
      let parts = and_parts (step_names_well_of fields calls class gives s) (all_well_of fields calls class gives xs) front in
      and_from (step_names_well_of fields calls class gives s) (all_well_of fields calls class gives (xs ++ ys)) parts.0
      (append-of xs ys parts.1 back)

  pub each-of : {A : Type 0} (F : A → List Step) → ((x : A) → WellOf (F x)) → (xs : List A) → WellOf (flat_map F xs)
  each-of F each [] = refl
  each-of F each (x ∷ xs) = append-of (F x) (flat_map F xs) (each x) (each-of F each xs)

-- with more fields code names well too
module _ (fields more : ℕ) (few : fields ≤ more) (calls : ℕ → Bool) (class : ℕ) (gives : Bool) where
  field-more : (f : ℕ) (kind : Kind) → is_field_of fields f kind ≡ true → is_field_of more f kind ≡ true
  field-more f kind is =
      let parts = and_parts (nat_lt f fields) (same_kind kind (descriptor_kind (field_descriptor f))) is in
      let below = ltb-true f fields parts.0 in
      and_from (nat_lt f more) (same_kind kind (descriptor_kind (field_descriptor f))) (lt-ltb f more (omega (arith, below, few))) parts.1

  named-more : (i : Instruction) → names_well_of fields calls class gives i ≡ true → names_well_of more calls class gives i ≡ true
  named-more (instructions.Get f kind) is = field-more f kind is
  named-more (instructions.Put f kind) is = field-more f kind is
  named-more other is = is

  step-named : (s : Step) → step_names_well_of fields calls class gives s ≡ true → step_names_well_of more calls class gives s ≡ true
  step-named (Does instruction) is = named-more instruction is
  step-named (Skips name k) is = refl
  step-named (Leaves target) is = refl
  step-named (Selects s) is = refl

  pub fields-more : (code : List Step) → WellOf fields calls class gives code → WellOf more calls class gives code
  fields-more [] is = refl
  fields-more (s ∷ code) is =
      let parts = and_parts (step_names_well_of fields calls class gives s) (all_well_of fields calls class gives code) is in
      and_from (step_names_well_of more calls class gives s) (all_well_of more calls class gives code) (step-named s parts.0)
      (fields-more code parts.1)

-- with a meter or without it has 38 at least
module _ (metered : Bool) (calls : ℕ → Bool) (class : ℕ) (gives : Bool) where
  fields-few : 38 ≤ fields_of metered
  fields-few = by_meter metered
    where
      by_meter : (b : Bool) → 38 ≤ fields_of b
      by_meter true = omega arith
      by_meter false = omega arith

  pub plain-more : (code : List Step) → WellOf 38 calls class gives code → WellOf (fields_of metered) calls class gives code
  plain-more code is = fields-more 38 (fields_of metered) fields-few calls class gives code is

-- ---- where it has 38

module _ (calls : ℕ → Bool) (class : ℕ) (gives : Bool) where
  -- ---- steps one after the other

  abbrev pub Well : List Step → Type 0
  Well code = all_well calls class gives code ≡ true

  abbrev pub StepWell : Step → Type 0
  StepWell s = step_names_well calls class gives s ≡ true

  pub well-append : (xs ys : List Step) → Well xs → Well ys → Well (xs ++ ys)
  well-append xs ys front back = append-of 38 calls class gives xs ys front back

  pub well-either : (b : Bool) (xs ys : List Step) → Well xs → Well ys → Well (if b then xs else ys)
  well-either true xs ys h k = h
  well-either false xs ys h k = k

  pub step-either : (b : Bool) (s t : Step) → StepWell s → StepWell t → StepWell (if b then s else t)
  step-either true s t h k = h
  step-either false s t h k = k

  pub well-each : {A : Type 0} (F : A → List Step) → ((x : A) → Well (F x)) → (xs : List A) → Well (flat_map F xs)
  well-each F each xs = each-of 38 calls class gives F each xs

  -- ---- registers

  pub get-well : (bank r : ℕ) → r < 32 → StepWell (get_register bank r)
  get-well bank r h =
      step-either (r == 0) (push_word 0) (if keeps bank r then Does (instructions.Load local_kinds.Int r) else get_field (register_field r)) refl
      (step-either (keeps bank r) (Does (instructions.Load local_kinds.Int r)) (get_field (register_field r)) refl (field-is r h))

  pub put-well : (bank r : ℕ) → r < 32 → StepWell (put_register bank r)
  put-well bank r h =
      step-either (r == 0) (Does (instructions.Stack Pop))
      (if keeps bank r then Does (instructions.Store local_kinds.Int r) else put_field (register_field r)) refl
      (step-either (keeps bank r) (Does (instructions.Store local_kinds.Int r)) (put_field (register_field r)) refl (field-is r h))

-- ---- more methods may be called

module _ (calls more : ℕ → Bool) (class : ℕ) (gives : Bool) (also : (m : ℕ) → calls m ≡ true → more m ≡ true) where
  instruction-more : (i : Instruction) → names_well calls class gives i ≡ true → names_well more class gives i ≡ true
  instruction-more (instructions.Call m) is = also m is
  instruction-more other is = is

  step-more : (s : Step) → StepWell calls class gives s → StepWell more class gives s
  step-more (Does instruction) is = instruction-more instruction is
  step-more (Skips name k) is = refl
  step-more (Leaves target) is = refl
  step-more (Selects s) is = refl

  pub code-more : (code : List Step) → Well calls class gives code → Well more class gives code
  code-more [] is = refl
  code-more (s ∷ code) is =
      let parts = and_parts (step_names_well calls class gives s) (all_well calls class gives code) is in
      and_from (step_names_well more class gives s) (all_well more class gives code) (step-more s parts.0) (code-more code parts.1)
