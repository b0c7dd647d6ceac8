-- The code of a unit pushes the same constants whichever registers are in local variables.
use Rattle.std.proofs.Common.{◌≡◌, ℕ, ◌==◌, Bool, true, false, if◌then◌else◌, List, [], ◌∷◌, ◌++◌, map, refl, sym, ap, ◌∙◌}
use Rattle.std.proofs.lemmas.List.Concat.{flat_map-append}
use Rattle.delay_slots.specs.declared.unit.Unit.{Unit}
use Rattle.jvm_definition.specs.declared.stack_name.StackName.TheVariants.{Pop}
use Rattle.jvm_definition.specs.declared.local_kind.LocalKind.TheVariants as local_kinds
use Rattle.jvm_definition.specs.declared.instruction.Instruction.TheVariants as instructions
use Rattle.emit_steps.specs.declared.step.Step.TheVariants.{Does}
use Rattle.emit_layout.specs.FieldNumbers.{register_field}
use Rattle.emit_instructions.specs.Access.{push_word, get_field, put_field, keeps, get_register, put_register}
use Rattle.emit_instructions.specs.Units.{unit_code}
use Rattle.emit_instructions.proofs.Forms.{Part, Reads, Writes, step_of, Form, Straight, Both, Either, code_of}
use Rattle.emit_instructions.proofs.UnitForms.{unit_form, unit-is}
use Rattle.emit_assembly.specs.Assembling.{pushed_by, constants_of}

read-pushes : (bank r : ℕ) → pushed_by (get_register bank r) ≡ pushed_by (if r == 0 then push_word 0 else get_field (register_field r))
read-pushes bank r = by_test (r == 0) (keeps bank r)
  where
    by_test : (zero kept : Bool)
        → pushed_by (if zero then push_word 0 else if kept then Does (instructions.Load local_kinds.Int r) else get_field (register_field r))
        ≡ pushed_by (if zero then push_word 0 else get_field (register_field r))
    by_test true kept = refl
    by_test false true = refl
    by_test false false = refl

write-pushes : (bank r : ℕ) → pushed_by (put_register bank r) ≡ []
write-pushes bank r = by_test (r == 0) (keeps bank r)
  where
    by_test : (zero kept : Bool)
        → pushed_by (if zero then Does (instructions.Stack Pop) else if kept then Does (instructions.Store local_kinds.Int r)
        else put_field (register_field r)) ≡ []
    by_test true kept = refl
    by_test false true = refl
    by_test false false = refl

module _ (bank : ℕ) where
  part-alike : (p : Part) → pushed_by (step_of bank p) ≡ pushed_by (step_of 0 p)
  part-alike (Reads r) = read-pushes bank r ∙ sym (read-pushes 0 r)
  part-alike (Writes r) = write-pushes bank r ∙ sym (write-pushes 0 r)
  part-alike _ = refl

  parts-alike : (parts : List Part) → constants_of (map (step_of bank) parts) ≡ constants_of (map (step_of 0) parts)
  parts-alike [] = refl
  parts-alike (p ∷ parts) = λ i. part-alike p i ++ parts-alike parts i

  form-alike : (form : Form) → constants_of (code_of bank form) ≡ constants_of (code_of 0 form)
  form-alike (Straight parts) = parts-alike parts
  form-alike (Both first second) =
      flat_map-append pushed_by (code_of bank first) (code_of bank second)
      ∙ (λ i. form-alike first i ++ form-alike second i)
      ∙ sym (flat_map-append pushed_by (code_of 0 first) (code_of 0 second))
  form-alike (Either true first second) = form-alike first
  form-alike (Either false first second) = form-alike second

  pub unit-alike : (unit : Unit) (at : ℕ) → constants_of (unit_code bank unit at) ≡ constants_of (unit_code 0 unit at)
  unit-alike unit at =
      ap constants_of (unit-is bank unit at) ∙ form-alike (unit_form unit at) ∙ sym (ap constants_of (unit-is 0 unit at))
