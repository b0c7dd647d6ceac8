-- What code names well is known in a class whose slots mean it.
use Rattle.std.proofs.Common.{◌≡◌, ℕ, ◌<◌, Bool, true, false, ◌||◌, ◌==◌, if◌then◌else◌, List, [], ◌∷◌, codes, refl, subst}
use Rattle.std.proofs.lemmas.Bool.{and_parts, ltb-true, eqb-true}
use Rattle.std.specs.Prelude.{slice_index}
use Rattle.jvm_definition.specs.declared.return_name.ReturnName.{ReturnName}
use Rattle.jvm_definition.specs.declared.return_name.ReturnName.TheVariants as returns
use Rattle.jvm_definition.specs.declared.array_kind.ArrayKind.TheVariants.{Pages}
use Rattle.jvm_definition.specs.declared.constant.Constant.TheVariants as constants
use Rattle.jvm_definition.specs.declared.kind.Kind.{Kind}
use Rattle.jvm_definition.specs.declared.kind.Kind.TheVariants as kinds
use Rattle.jvm_definition.specs.declared.instruction.Instruction.{Instruction}
use Rattle.jvm_definition.specs.declared.instruction.Instruction.TheVariants as instructions
use Rattle.jvm_definition.specs.Typing.{same_kind}
use Rattle.class_definition.specs.declared.class.Class.{Class}
use Rattle.class_definition.specs.declared.pool_name.PoolName.TheVariants.{Getstatic, Putstatic}
use Rattle.class_definition.specs.Linking.{descriptor_kind, pool_instruction, return_instruction}
use Rattle.emit_steps.specs.declared.step.Step.{Step}
use Rattle.emit_steps.specs.declared.step.Step.TheVariants.{Does, Skips, Leaves, Selects}
use Rattle.emit_layout.specs.Fields.{field_descriptor}
use Rattle.emit_assembly.specs.declared.references.References.{References}
use Rattle.emit_assembly.specs.Assembling.{IsKnown, StepIsKnown, AreKnown}
use Rattle.emit_methods_laws.specs.Naming.{is_field_of, is_return, names_well_of, step_names_well_of, all_well_of}
use Rattle.translate_classes_laws.specs.Meaning.{AreMeant, AreCalled}

kind-of-field : (tables : Bool) (kind : Kind) → same_kind kind (descriptor_kind (if tables then codes "[[I" else codes "I")) ≡ true
    → descriptor_kind (if tables then codes "[[I" else codes "I") ≡ kind
kind-of-field true kinds.Pages is = refl
kind-of-field true kind is = cc
kind-of-field false kinds.Int is = refl
kind-of-field false kind is = cc

return-known : (gives : Bool) (name : ReturnName) → is_return gives name ≡ true → return_instruction gives name ≡ instructions.Return name
return-known true returns.Ireturn is = refl
return-known true returns.Return is = cc
return-known false returns.Ireturn is = cc
return-known false returns.Return is = refl

module _ (fields : ℕ) (r : References) (classes : List Class) (number : ℕ) (c : Class) (calls : ℕ → Bool) (gives : Bool) (meant : AreMeant fields r classes number c) (called : AreCalled r classes number c calls) where
  field-kind : (f : ℕ) (kind : Kind) → is_field_of fields f kind ≡ true → (f < fields) × (descriptor_kind (field_descriptor f) ≡ kind)
  field-kind f kind is =
      let parts = and_parts _ (same_kind kind (descriptor_kind (field_descriptor f))) is in
      (ltb-true f fields parts.0, kind-of-field (f == 34 || f == 35) kind parts.1)

  instruction-known : (i : Instruction) → names_well_of fields calls number gives i ≡ true → IsKnown r classes number c gives i
  instruction-known (instructions.Get f kind) is =
      let field = field-kind f kind is in
      subst (λ k. pool_instruction classes number c Getstatic (slice_index r.fields f) ≡ instructions.Get f k) field.1 (meant.get f field.0)
  instruction-known (instructions.Put f kind) is =
      let field = field-kind f kind is in
      subst (λ k. pool_instruction classes number c Putstatic (slice_index r.fields f) ≡ instructions.Put f k) field.1 (meant.put f field.0)
  instruction-known (instructions.Call m) is = called m is
  instruction-known (instructions.Push (constants.Text owner slot)) is = eqb-true owner number is
  instruction-known (instructions.Push constant) is = tt
  instruction-known (instructions.Return name) is = return-known gives name is
  instruction-known instructions.Length is = meant.length
  instruction-known instructions.CharAt is = meant.char_at
  instruction-known instructions.CallHost is = meant.call
  instruction-known instructions.FaultHost is = meant.fault
  instruction-known (instructions.NewArray Pages) is = meant.ints
  instruction-known other is = tt

  step-known : (s : Step) → step_names_well_of fields calls number gives s ≡ true → StepIsKnown r classes number c gives s
  step-known (Does instruction) is = instruction-known instruction is
  step-known (Skips name k) is = tt
  step-known (Leaves target) is = tt
  step-known (Selects s) is = tt

  pub code-known : (code : List Step) → all_well_of fields calls number gives code ≡ true → AreKnown r classes number c gives code
  code-known [] is = tt
  code-known (s ∷ code) is =
      let parts = and_parts (step_names_well_of fields calls number gives s) (all_well_of fields calls number gives code) is in
      (step-known s parts.0, code-known code parts.1)
