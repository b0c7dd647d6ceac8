-- Classes of code: a method for each span of the class's words, and behind them the method that chooses among these.
use Rattle.std.specs.Prelude.{◌≡◌, ℕ, ◌+◌, ◌*◌, List, [], ◌∷◌, ◌++◌, map, length, codes, slice_index_or}
use Rattle.delay_slots.specs.Places.{Address}
use Rattle.std.specs.List.{range_with_len, AllZip}
use Rattle.class_definition.specs.declared.class.Class.{Class}
use Rattle.class_definition.specs.ClassFile.{Spells}
use Rattle.emit_steps.specs.declared.step.Step.{Step}
use Rattle.emit_layout.specs.ClassNames.{code_class_name, span_name}
use Rattle.method_splitter.specs.declared.span.Span.{Span}
use Rattle.emit_spans.specs.Pieces.{flagged, span_of}
use Rattle.emit_spans.specs.Laying.{span_code}
use Rattle.emit_spans.specs.Locals.{locals_of}
use Rattle.trampoline.specs.declared.start.Start.{Start}
use Rattle.trampoline.specs.Choosers.{class_chooser}
use Rattle.emit_assembly.specs.declared.references.References.{References}
use Rattle.emit_classes.specs.Named.{IsClassAt}
use Rattle.emit_classes.specs.Mentioned.{Mentions}
use Rattle.emit_methods_laws.specs.Naming.{fields_of}
use Rattle.translate_classes.specs.declared.names.Names.{Names}
use Rattle.translate_classes.specs.Named.{AreNames, AreHelpers}
use Rattle.translate_classes.specs.Tables.{references_of}
use Rattle.translate_classes.specs.declared.part.Part.{Part}
use Rattle.translate_classes.specs.Making.{Plan, IsMade, nothing}
use Rattle.translate_classes.specs.CodeNaming.{AreSpanMethods, code_mentions}

abbrev pub span_at : List Span → ℕ → Span
span_at spans k = slice_index_or spans k (record { first = 0; words = 0 })

-- ---- the methods of spans

abbrev pub code_of_span : Part → Span → List Step
code_of_span part s =
    span_code part.units.now (flagged part.leads.now)
    (span_of part.metered part.start (part.first + s.first) s.words)

abbrev pub span_plan : Part → List Span → References → ℕ → Plan
span_plan part spans references k = record {
  name = span_name k;
  descriptor = nothing;
  locals = locals_of (code_of_span part (span_at spans k));
  references = references;
  code = code_of_span part (span_at spans k);
}

abbrev pub span_plans : Part → List Span → References → ℕ → List Plan
span_plans part spans references count =
    map (span_plan part spans references) (range_with_len 0 count)

-- ---- the method that chooses among them

-- the address of a word of the part
abbrev pub address : Part → ℕ → Address
address part k = part.start + 4 * (part.first + k)

-- where the method of a span begins, whose number in the program follows that of the span before
abbrev pub start_at : Part → List Span → ℕ → ℕ → Start
start_at part spans first_method k = record {
  first = address part (span_at spans k).first;
  method = first_method + k;
}

abbrev pub starts_of : Part → List Span → ℕ → ℕ → List Start
starts_of part spans first_method count =
    map (start_at part spans first_method) (range_with_len 0 count)

abbrev pub run_plan : Part → List Span → ℕ → References → Plan
run_plan part spans first_method references = record {
  name = codes "run";
  descriptor = nothing;
  locals = 1;
  references = references;
  code = class_chooser (starts_of part spans first_method (length spans)) (address part 0)
      (address part part.words);
}

-- ---- the class

-- The class of code of a number: what it names, and its methods. The number of its first method in the program is given.
pub record IsCodeClass (main : List ℕ) (number : ℕ) (part : Part) (spans : List Span)
    (first_method : ℕ) (bytes : List ℕ) : Type 0 where
  pub class : Class
  pub spells : Spells bytes class
  pub named : IsClassAt class.pool class.this_class (code_class_name main number)
  pub no_fields : class.fields ≡ []
  pub names : Names
  pub names_are : AreNames (fields_of part.metered) class.pool main names
  pub helpers : List ℕ
  pub helpers_are : AreHelpers class.pool names.main helpers 20
  pub own : ℕ
  pub own_is : IsClassAt class.pool own (code_class_name main number)
  pub own_methods : List ℕ
  pub own_are : AreSpanMethods class.pool own own_methods (length spans)
  pub mentions : Mentions class.pool
      (code_mentions (fields_of part.metered) (code_class_name main number) main (length spans))
  pub methods : AllZip (IsMade class.pool) class.methods
      (span_plans part spans (references_of names 0 helpers) (length spans)
      ++ run_plan part spans first_method (references_of names first_method own_methods) ∷ [])
