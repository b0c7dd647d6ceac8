-- The code of a span is that of a method, and takes few slots.
use Rattle.std.proofs.Common.{◌≡◌, ℕ, suc, ◌+◌, ◌*◌, ◌<◌, ◌≤◌, Bool, true, false, List, [], ◌∷◌, length, All, refl, ap, sym, arith, subst}
use Rattle.delay_slots.specs.declared.unit.Unit.{Unit}
use Rattle.delay_slots.specs.Units.{units_of}
use Rattle.class_definition.specs.declared.entry.Entry.{Entry}
use Rattle.emit_steps.specs.Widths.{size}
use Rattle.emit_simulation_laws.specs.UnitLaws.{UnitsAreLawful}
use Rattle.emit_simulation_laws.specs.Lawful.{IsLawful}
use Rattle.method_splitter.specs.declared.span.Span.{Span}
use Rattle.emit_spans.specs.declared.span_words.SpanWords.{SpanWords}
use Rattle.emit_spans.specs.Pieces.{flagged, span_of}
use Rattle.emit_spans.specs.Laying.{span_code}
use Rattle.emit_assembly.specs.declared.references.References.{References}
use Rattle.emit_assembly.specs.Assembling.{slots_of}
use Rattle.emit_classes.specs.Code.{is_code}
use Rattle.emit_limits.specs.Laws.{SpansTakeFewSlots}
use Rattle.emit_methods_laws.specs.Naming.{SpansNameWell, fields_of, is_helper}
use Rattle.emit_methods_laws.specs.Whole.{CanBeMethod, HasHelpers, SpansAreWhole}
use Rattle.translate_classes.specs.declared.part.Part.{Part}
use Rattle.translate_classes.specs.Parts.{IsCode, IsSpan}
use Rattle.translate_classes.specs.Code.{code_of_span}
use Rattle.translate_classes.proofs.Rooms.CodeLemmas.{no-texts, whole-code}

units-length : (words : List ℕ) → length (units_of words) ≡ length words
units-length [] = refl
units-length (w ∷ words) = ap suc (units-length words)

span-whole : SpansAreWhole → (r : References) (units : List Unit) (leads : ℕ → Bool) (span : SpanWords) → HasHelpers r → IsCode units
    → fields_of span.metered ≤ length r.fields → span.end ≤ length units → span.first < span.end → size (span_code units leads span) ≤ 65535
    → CanBeMethod r (span_code units leads span)
span-whole whole r units leads span helpers code fields within some small =
    subst (λ u. CanBeMethod r (span_code u leads span)) (sym code.units_are)
    (whole r code.words leads span helpers fields code.are_words code.no_float
    (omega (arith, within, ap length code.units_are, units-length code.words)) some
    (subst (λ u. size (span_code u leads span) ≤ 65535) code.units_are small))

pub span-is-code : UnitsAreLawful → SpansNameWell → SpansAreWhole → (r : References) (pool : List Entry) (part : Part) (s : Span) → HasHelpers r
    → fields_of part.metered ≤ length r.fields → IsCode part.units.now → IsSpan part.words s → size (code_of_span part s) ≤ 65535
    → is_code r pool (code_of_span part s) ≡ true
span-is-code lawful well whole r pool part s helpers fields code own small =
    let units = part.units.now in
    let leads = flagged part.leads.now in
    let span = span_of part.metered part.start (part.first + s.first) s.words in
    let all = subst (All IsLawful) (sym code.units_are) (lawful code.words code.are_words code.no_float) in
    whole-code r pool (code_of_span part s)
    (span-whole whole r units leads span helpers code fields (omega (arith, part.within, own.within)) (omega (arith, own.some)) small)
    (no-texts (fields_of part.metered) pool is_helper false (code_of_span part s) (well 0 units leads span all) (well 1 units leads span all))

pub span-slots : SpansTakeFewSlots → (part : Part) (s : Span) → slots_of (code_of_span part s) ≤ 2 + 9 * s.words
span-slots few part s =
    let span = span_of part.metered part.start (part.first + s.first) s.words in
    omega (arith, few part.units.now (flagged part.leads.now) span)
