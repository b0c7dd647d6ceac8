-- The methods of a class that are made by plans, once their class knows what the code names.
use Rattle.std.proofs.Common.{◌≡◌, ℕ, ◌+◌, List, [], Some, sym, ap, subst, ◌∙◌, slice_get}
use Rattle.std.specs.Prelude.{unwrap_or}
use Rattle.std.specs.List.{AllZip}
use Rattle.class_definition.specs.declared.class.Class.{Class}
use Rattle.class_definition.specs.declared.method.Method.{Method}
use Rattle.class_definition.specs.MemberNames.{slot_text}
use Rattle.class_definition.specs.Linking.{gives_int, parameters_of, linked_method, linked_methods, program_of}
use Rattle.emit_assembly.specs.Assembling.{AreKnown}
use Rattle.emit_assembly.proofs.Pools.{extends-itself}
use Rattle.emit_classes.specs.Named.{IsTextAt}
use Rattle.translate_classes.specs.Making.{Plan, IsMade}
use Rattle.translate_classes_laws.specs.Before.{methods_before}
use Rattle.translate_classes_laws.proofs.LinkedNumbers.Programs.{method-linked}
use Rattle.nv_translate.specs.Linked.{IsPlanned, ArePlanned}
use Rattle.nv_translate.proofs.LinkedTranslations.Lists.{zip-second}

pub text-is : (c : Class) (slot : ℕ) (text : List ℕ) → IsTextAt c.pool slot text → slot_text c slot ≡ text
text-is c slot text is = ap (λ o. unwrap_or o []) is

module _ (classes : List Class) (n : ℕ) (c : Class) (there : slice_get classes n ≡ Some c) where
  -- it knows what the code of a plan names
  abbrev pub Knows : Plan → Type 0
  Knows p = AreKnown p.references classes n c (gives_int p.descriptor) p.code

  is-planned : (m : Method) (p : Plan) (number : ℕ) → IsMade c.pool m p → slice_get (linked_methods classes) number ≡ Some (linked_method classes n c m)
      → Knows p → IsPlanned (program_of classes) number p
  unfolding linked_method
  is-planned m p number made at known =
      let is : slot_text c m.desc ≡ p.descriptor = text-is c m.desc p.descriptor made.descriptor_is in
      record {
        method = linked_method classes n c m;
        there = at;
        lines_are =
            made.lines classes n c (gives_int (slot_text c m.desc)) (extends-itself c.pool)
            (subst (λ d. AreKnown p.references classes n c (gives_int d) p.code) (sym is) known);
        parameters_are = ap parameters_of is;
        gives_is = ap gives_int is;
        stack_is = made.stack;
        locals_are = made.locals_are;
      }

  pub are-planned : (first : ℕ) (plans : List Plan) → AllZip (IsMade c.pool) c.methods plans → methods_before classes n ≡ first
      → ((k : ℕ) (p : Plan) → slice_get plans k ≡ Some p → Knows p) → ArePlanned (program_of classes) first plans
  are-planned first plans made before knows k p is =
      let found = zip-second (IsMade c.pool) c.methods plans k p made is in
      let place = ap (λ b. slice_get (linked_methods classes) (b + k)) before in
      is-planned found.0 p (first + k) found.2 (sym place ∙ method-linked classes n k c found.0 there found.1) (knows k p is)
