-- What code weighs that names only what is there, by the writes of a field behind the layout's.
use Rattle.std.proofs.Common.{◌≡◌, ℕ, ◌<◌, ◌≤◌, ◌==◌, ◌&&◌, ◌||◌, nat_lt, Bool, true, false, if◌then◌else◌, List, [], ◌∷◌, refl, ap, sym, ◌∙◌, arith}
use Rattle.std.proofs.lemmas.Bool.{and_parts, eqb-true, ltb-true, ne_eqb}
use Rattle.run_definition.specs.declared.order.Order.{Order}
use Rattle.jvm_definition.specs.declared.instruction.Instruction.{Instruction}
use Rattle.jvm_definition.specs.declared.instruction.Instruction.TheVariants as instructions
use Rattle.jvm_definition.specs.declared.kind.Kind.{Kind}
use Rattle.jvm_definition.specs.Typing.{same_kind}
use Rattle.class_definition.specs.Linking.{gives_int, descriptor_kind}
use Rattle.emit_steps.specs.declared.step.Step.{Step}
use Rattle.emit_steps.specs.declared.step.Step.TheVariants.{Does, Skips, Leaves, Selects}
use Rattle.emit_layout.specs.Fields.{field_descriptor}
use Rattle.emit_layout.specs.Helpers.{helper_descriptor}
use Rattle.mem_helpers.specs.Methods.{helper_code}
use Rattle.emit_paths_laws.specs.Classes.{puts}
use Rattle.emit_paths_laws.specs.Paths.{step_weight, weigh}
use Rattle.emit_simulation_laws.specs.Sites.{called_weight, helper_weight, whole_weight}
use Rattle.emit_methods_laws.specs.Naming.{HelpersNameWell, all_well_of, is_fault, names_well_of, step_names_well_of}

module _ (fields f : ℕ) (other : fields ≤ f) where
  put-weighs : (g : ℕ) (kind : Kind) → (nat_lt g fields && same_kind kind (descriptor_kind (field_descriptor g))) ≡ true → puts f (instructions.Put g kind) ≡ 0
  put-weighs g kind is =
      let below = ltb-true g fields (and_parts (nat_lt g fields) (same_kind kind (descriptor_kind (field_descriptor g))) is).0 in
      ap (λ b. if b then 1 else 0) (ne_eqb g f (omega (arith, below, other)))

  module _ (calls : ℕ → Bool) (class : ℕ) (gives : Bool) where
    instruction-weighs : (i : Instruction) → names_well_of fields calls class gives i ≡ true → puts f i ≡ 0
    instruction-weighs (instructions.Put g kind) is = put-weighs g kind is
    instruction-weighs _ is = refl

    pub step-weighs : (s : Step) → step_names_well_of fields calls class gives s ≡ true → step_weight (puts f) s ≡ 0
    step-weighs (Does i) is = instruction-weighs i is
    step-weighs (Skips name k) is = refl
    step-weighs (Leaves target) is = refl
    step-weighs (Selects s) is = refl

    pub code-weighs : (code : List Step) → all_well_of fields calls class gives code ≡ true → weigh (puts f) code ≡ 0
    code-weighs [] is = refl
    code-weighs (s ∷ code) is =
        let parts = and_parts (step_names_well_of fields calls class gives s) (all_well_of fields calls class gives code) is in
        let here = step-weighs s parts.0 in
        let rest = code-weighs code parts.1 in
        omega (arith, here, rest)

-- ---- with the helpers that are called, which write the layout's alone

module _ (fields f : ℕ) (other : fields ≤ f) (layout : 38 ≤ f) where
  module _ (order : Order) (helpers : HelpersNameWell) where
    own-weighs : (number : ℕ) → number < 20 → weigh (puts f) (helper_code order number) ≡ 0
    own-weighs number below =
        code-weighs 38 f layout is_fault 0 (gives_int (helper_descriptor number)) (helper_code order number) (helpers order 0 number below)

    helper-weighs : (number : ℕ) → number < 20 → helper_weight order (puts f) number ≡ 0
    helper-weighs number below =
        let a = own-weighs number below in
        let b = own-weighs 18 (omega arith) in
        let c = own-weighs 19 (omega arith) in
        omega (arith, a, b, c)

    module _ (calls : ℕ → Bool) (class : ℕ) (gives : Bool) (are_helpers : (m : ℕ) → calls m ≡ true → m < 20) where
      called-weighs : (s : Step) → step_names_well_of fields calls class gives s ≡ true → called_weight order (puts f) s ≡ 0
      called-weighs (Does (instructions.Call h)) is = helper-weighs h (are_helpers h is)
      called-weighs (Does i) is = refl
      called-weighs (Skips name k) is = refl
      called-weighs (Leaves target) is = refl
      called-weighs (Selects s) is = refl

      pub whole-weighs : (code : List Step) → all_well_of fields calls class gives code ≡ true → whole_weight order code (puts f) ≡ 0
      whole-weighs [] is = refl
      whole-weighs (s ∷ code) is =
          let parts = and_parts (step_names_well_of fields calls class gives s) (all_well_of fields calls class gives code) is in
          let here = step-weighs fields f other calls class gives s parts.0 in
          let called = called-weighs s parts.0 in
          let rest = whole-weighs code parts.1 in
          omega (arith, here, called, rest)

-- each that a helper calls is a helper
pub faults-are-helpers : (m : ℕ) → is_fault m ≡ true → m < 20
faults-are-helpers m is = by_first (m == 18) refl
  where
    by_first : (b : Bool) → (m == 18) ≡ b → m < 20
    by_first true e = let same = eqb-true m 18 e in omega (arith, same)
    by_first false e = let same = eqb-true m 19 (sym (ap (λ b. b || (m == 19)) e) ∙ is) in omega (arith, same)
