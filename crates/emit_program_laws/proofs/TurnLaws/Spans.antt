-- The spans of the classes of a translated program.
use Rattle.std.proofs.Common.{◌≡◌, ℕ, ◌<◌, Bool, List, length, slice_get, Option, Some, arith}
use Rattle.run_definition.specs.declared.order.Order.{Order}
use Rattle.jvm_definition.specs.Program.{Program}
use Rattle.jvm_definition.specs.Step.{Frame}
use Rattle.emit_spans_laws.specs.GuestCodeLaws.Counting.{SparesHelpers}
use Rattle.emit_spans_laws.specs.GuestCodeLaws.Instructions.{IsReady}
use Rattle.emit_spans_laws.specs.Spans.{HasSpan}
use Rattle.trampoline_laws.specs.Classes.{CodeClass, LiesInClass, is_span, span_words}
use Rattle.trampoline_laws.specs.Programs.{IsTranslated, StandsInProgram, TellsSpans}
use Rattle.emit_program_laws.specs.Standing.{span_site}
use Rattle.emit_program_laws.proofs.TurnLaws.Given.{ProgramLaws}

module _ {metered : Bool} (laws : ProgramLaws) (program : Program) (order : Order) (choose missing : ℕ) (classes : List CodeClass) (code : ℕ → Option ℕ)
    (is_in : IsTranslated metered program order choose missing classes code) where
  pub told : TellsSpans is_in.low classes
  told = laws.numbered metered program order choose missing classes code is_in

  pub spares-helpers : SparesHelpers (is_span classes)
  spares-helpers h less = told.lower h (omega (arith, less, is_in.helpers_low))

  module _ (number : ℕ) (c : CodeClass) (there : slice_get classes number ≡ Some c) where
    pub stands-in : StandsInProgram program code c
    stands-in = laws.stand metered program order choose missing classes code is_in number c there

    module _ (words j : ℕ) (j_below : j < length c.spans) (others : List Frame) where
      pub lies-in : LiesInClass c j
      lies-in = laws.lie c j stands-in.has.is_class j_below

      pub has-span : HasSpan (span_site program words c j others) c.words c.leads (span_words c j)
      has-span =
          let class = stands-in.has in
          let is_class = class.is_class in
          let low = is_class.low in
          record {
            lies = class.spans_lie j j_below;
            are_words = is_class.are_words;
            no_float = is_class.no_float;
            within = lies-in.in_range;
            below = omega (arith, low);
          }

      pub is-ready : length others < 62 → IsReady (span_site program words c j others) order
      is-ready few = record {
        helpers = is_in.helpers;
        no_helper = let above = told.above number c there in omega (arith, above, is_in.helpers_low);
        few = few;
      }
