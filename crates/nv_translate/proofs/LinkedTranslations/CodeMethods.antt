-- The methods of a class of code are what they were planned to be.
use Rattle.std.proofs.Common.{◌≡◌, ℕ, ◌+◌, ◌-◌, ◌<◌, ◌≤◌, true, false, List, [], ◌∷◌, ◌++◌, map, length, Some, None, refl, ap, subst, ◌∙◌, slice_get, inl, inr, arith}
use Rattle.std.specs.Prelude.{codes}
use Rattle.std.specs.List.{All, range_with_len}
use Rattle.std.specs.Cmp.Derive.{both_true}
use Rattle.std.proofs.lemmas.Bool.{le-leb, lt-ltb}
use Rattle.std.proofs.lemmas.List.{map-append}
use Rattle.std.proofs.lemmas.Simd.{map-map}
use Rattle.class_definition.specs.declared.class.Class.{Class}
use Rattle.class_definition.specs.MemberNames.{Signature, signature, reference_to, methods_of, method_number}
use Rattle.class_definition.specs.LinkFault.{twice_fault}
use Rattle.class_definition.specs.Linking.{program_of}
use Rattle.emit_layout.specs.Helpers.{helper_name, helper_descriptor}
use Rattle.emit_layout.specs.ClassNames.{code_class_name, span_name}
use Rattle.emit_spans.specs.Pieces.{flagged, span_of}
use Rattle.emit_assembly.specs.declared.references.References.{References}
use Rattle.emit_assembly.specs.Assembling.{has_method}
use Rattle.emit_assembly.proofs.Pools.{extends-itself}
use Rattle.emit_program_laws.specs.SpanCodeLaws.Lawful.{IsLawful}
use Rattle.emit_methods_laws.specs.Naming.{fields_of}
use Rattle.emit_methods_laws.proofs.NamedCode.Steps.{plain-more}
use Rattle.emit_methods_laws.proofs.NamedCode.Spans.{span-well}
use Rattle.emit_methods_laws.proofs.NamedCode.Choosing.{IsCalled, class-well}
use Rattle.translate_classes.specs.Tables.{references_of}
use Rattle.translate_classes.specs.Making.{Plan, nothing}
use Rattle.translate_classes.specs.Code.{IsCodeClass, span_at, code_of_span, span_plan, span_plans, start_at, starts_of, address, run_plan}
use Rattle.translate_classes_laws.specs.Before.{methods_before}
use Rattle.translate_classes_laws.specs.Planned.{planned, numbered}
use Rattle.translate_classes_laws.specs.Translated.{methods_of_code}
use Rattle.translate_classes_laws.proofs.LinkedNumbers.Made.{methods-made}
use Rattle.translate_classes_laws.proofs.LinkedNumbers.Programs.{get-front, get-behind}
use Rattle.translate_classes_laws.specs.Naming.{is_helper}
use Rattle.translate_classes_laws.specs.Meaning.{AreCalled, AreMeant, NamesAreMeant}
use Rattle.translate_classes_laws.proofs.NamedCode.Meant.{members-called, helpers-called}
use Rattle.translate_classes_laws.proofs.NamedCode.Known.{code-known}
use Rattle.translate_program.specs.Classes.{Placed, run_of}
use Rattle.nv_translate.specs.Linked.{HasCodeClass}
use Rattle.nv_translate.proofs.LinkedTranslations.Lists.{mapped-get, mapped-length, mapped-from, range-member, get-either, get-one, all-got}
use Rattle.nv_translate.proofs.LinkedTranslations.Knowing.{HasMain, fewer-fields, slot-law, owner-no-host, methods-numbered, method-at}
use Rattle.nv_translate.proofs.LinkedTranslations.Planned.{Knows, are-planned}

-- the names of its methods
module _ (name : List ℕ) (c : Placed) (bytes : List ℕ) (is : IsCodeClass name c.number c.part c.spans c.first_method bytes) where
  abbrev spans_by : References
  spans_by = references_of is.names 0 is.helpers

  abbrev run_by : References
  run_by = references_of is.names c.first_method is.own_methods

  abbrev spans_planned : List Plan
  spans_planned = span_plans c.part c.spans spans_by (length c.spans)

  abbrev run_planned : Plan
  run_planned = run_plan c.part c.spans c.first_method run_by

  pub code-methods-are : methods_of is.class ≡ methods_of_code (length c.spans)
  code-methods-are =
      methods-made is.class is.class.methods (spans_planned ++ run_planned ∷ []) is.methods
      ∙ map-append planned spans_planned (run_planned ∷ [])
      ∙ ap (λ (front : List Signature). front ++ signature (codes "run") nothing ∷ [])
      (map-map planned (span_plan c.part c.spans spans_by) (range_with_len 0 (length c.spans)))

  abbrev span_signature : ℕ → Signature
  span_signature k = numbered span_name (λ j. nothing) k

  span-method : (k : ℕ) → k < length c.spans → slice_get (methods_of is.class) k ≡ Some (span_signature k)
  span-method k below =
      ap (λ (ms : List Signature). slice_get ms k) code-methods-are
      ∙ get-front (map span_signature (range_with_len 0 (length c.spans))) (signature (codes "run") nothing ∷ []) k (span_signature k)
      (mapped-get span_signature (length c.spans) k below)

  pub run-method : slice_get (methods_of is.class) (length c.spans) ≡ Some (signature (codes "run") nothing)
  run-method =
      let front = map span_signature (range_with_len 0 (length c.spans)) in
      let long : length c.spans ≡ length front + 0 = omega (arith, mapped-length span_signature (length c.spans)) in
      ap (λ (ms : List Signature). slice_get ms (length c.spans)) code-methods-are
      ∙ ap (slice_get (methods_of_code (length c.spans))) long
      ∙ get-behind front (signature (codes "run") nothing ∷ []) 0

  -- ---- in the program

  module _ (law : NamesAreMeant) (classes : List Class) (count : ℕ) (few : fields_of c.part.metered ≤ count) (has : HasMain count classes name) (once : twice_fault [] 0 classes ≡ None) (n : ℕ)
      (there : slice_get classes n ≡ Some is.class) (before : methods_before classes n ≡ c.first_method) (lawful : All IsLawful c.part.units.now) where
    abbrev own_fields : ℕ
    own_fields = fields_of c.part.metered

    meant : (first : ℕ) (methods : List ℕ) → AreMeant own_fields (references_of is.names first methods) classes n is.class
    meant first methods =
        law own_fields classes n is.class is.class.pool name is.names first methods (extends-itself is.class.pool) is.names_are
        (fewer-fields count own_fields classes name few has)

    helpers-are-called : AreCalled spans_by classes n is.class is_helper
    helpers-are-called =
        helpers-called slot-law spans_by classes n is.class is.class.pool (extends-itself is.class.pool) is.names.main 20 name helper_name
        helper_descriptor is.names_are.main_is has.no_host is.helpers_are has.helpers refl refl

    abbrev own : List ℕ
    own = code_class_name name c.number

    spans-are-called : AreCalled run_by classes n is.class (has_method run_by)
    spans-are-called =
        members-called slot-law run_by classes n is.class is.class.pool (extends-itself is.class.pool) is.own (length c.spans) own span_name
        (λ k. nothing) is.own_is (owner-no-host classes once n is.class there own is.named) is.own_are
        (methods-numbered classes once n is.class there own is.named span_name (λ k. nothing) c.first_method (length c.spans) before span-method)

    -- the number of the method that is called of the class
    pub run-number : method_number classes (reference_to own (signature (codes "run") nothing)) ≡ Some (run_of c)
    run-number =
        method-at classes once n is.class there own is.named (length c.spans) (signature (codes "run") nothing) run-method
        ∙ ap (λ b. Some (b + length c.spans)) before

    span-knows : (k : ℕ) → Knows classes n is.class there (span_plan c.part c.spans spans_by k)
    span-knows k =
        let s = span_at c.spans k in
        let at = span_of c.part.metered c.part.start (c.part.first + s.first) s.words in
        code-known own_fields spans_by classes n is.class is_helper false (meant 0 is.helpers) helpers-are-called (code_of_span c.part s)
        (span-well n c.part.units.now (flagged c.part.leads.now) at lawful)

    start-has : (k : ℕ) → k < length c.spans → has_method run_by (c.first_method + k) ≡ true
    start-has k below =
        let within : (c.first_method + k) - c.first_method < length is.own_methods = omega (arith, below, is.own_are.count_is) in
        both_true (le-leb c.first_method (c.first_method + k) (omega arith)) (lt-ltb ((c.first_method + k) - c.first_method) (length is.own_methods) within)

    starts-have : All (IsCalled (has_method run_by) n) (starts_of c.part c.spans c.first_method (length c.spans))
    starts-have = all-got (IsCalled (has_method run_by) n) (starts_of c.part c.spans c.first_method (length c.spans)) (λ k s e.
        let from = mapped-from (start_at c.part c.spans c.first_method) (range_with_len 0 (length c.spans)) k s e in
        subst (IsCalled (has_method run_by) n) from.2 (start-has from.0 (range-member (length c.spans) k from.0 from.1)))

    run-knows : Knows classes n is.class there run_planned
    run-knows =
        code-known own_fields run_by classes n is.class (has_method run_by) false (meant c.first_method is.own_methods) spans-are-called run_planned.code
        (plain-more c.part.metered (has_method run_by) n false run_planned.code
        (class-well (has_method run_by) n (starts_of c.part c.spans c.first_method (length c.spans)) (address c.part 0) (address c.part c.part.words) starts-have))

    knows : (k : ℕ) (p : Plan) → slice_get (spans_planned ++ run_planned ∷ []) k ≡ Some p → Knows classes n is.class there p
    knows k p e = elim (get-either spans_planned (run_planned ∷ []) k p e) [
      | inl front ↦ let from = mapped-from (span_plan c.part c.spans spans_by) (range_with_len 0 (length c.spans)) k p front in
          subst (Knows classes n is.class there) from.2 (span-knows from.0)
      | inr behind ↦ subst (Knows classes n is.class there) (get-one run_planned p behind.0 behind.2) run-knows
    ]

    pub has-code : HasCodeClass (program_of classes) c
    has-code = record {
      spans_by = spans_by;
      run_by = run_by;
      planned = are-planned classes n is.class there c.first_method (spans_planned ++ run_planned ∷ []) is.methods before knows;
    }
