use Rattle.std.proofs.Common.{◌≡◌, ℕ, ◌+◌, ◌≤◌, List, [], ◌∷◌, All, length, Some, sym, subst, ◌∙◌, arith}
use Rattle.std.specs.Prelude.{is_some}
use Rattle.std.proofs.lemmas.List.Elements.{All-nil, All-cons}
use Rattle.std.proofs.lemmas.Option.{slice_get-get_or}
use Rattle.elf_definition.specs.Start.{image_of}
use Rattle.jvm_definition.specs.declared.linked_line.LinkedLine.{LinkedLine}
use Rattle.jvm_definition.specs.declared.linked_method.LinkedMethod.{LinkedMethod}
use Rattle.jvm_definition.specs.Program.{Program}
use Rattle.class_definition.specs.Linking.{program_of}
use Rattle.emit_steps.specs.declared.step.Step.{Step}
use Rattle.emit_steps.specs.Placing.{laid, placed_line}
use Rattle.emit_steps.specs.Widths.{size, width}
use Rattle.emit_spans.specs.Pieces.{flagged}
use Rattle.translate_classes.specs.Code.{code_of_span, run_plan, span_at, span_plan, span_plans}
use Rattle.translate_classes.specs.Making.{Plan}
use Rattle.translate_program.specs.Classes.{IsPlaced}
use Rattle.translate_program.specs.Places.{places_of}
use Rattle.emit_program_laws.proofs.TrampolineLaws.Elements.{all-at}
use Rattle.nv_translate.specs.Linked.{IsPlanned}
use Rattle.nv_translate.specs.Sizes.{HasBytes}
use Rattle.nv_translate.proofs.LinkedTranslations.Lists.{mapped-get, zip-second}
use Rattle.nv_translate.proofs.WarmTranslations.Lists.{get-left}
use Rattle.nv_translate.proofs.sized_translations.translated_spans_keep_to_the_limit.Goals as goal

-- lines that are laid down end within their bytes
lines-within : (at limit : ℕ) (code : List Step) → at + size code ≤ limit → All (λ (l : LinkedLine). l.next ≤ limit) (laid at code)
lines-within at limit [] within = All-nil (λ (l : LinkedLine). l.next ≤ limit)
lines-within at limit (s ∷ code) within =
    All-cons (λ (l : LinkedLine). l.next ≤ limit) (placed_line at s code) (laid (at + width s) code) (omega (arith, within))
    (lines-within (at + width s) limit code (omega (arith, within)))

planned-within : (program : Program) (m limit : ℕ) (p : Plan) (method : LinkedMethod) → IsPlanned program m p → program.method m ≡ Some method
    → size p.code ≤ limit → HasBytes limit method
planned-within program m limit p method is there within =
    let both : Some is.method ≡ Some method = sym is.there ∙ there in
    let one : is.method ≡ method = cc in
    subst (HasBytes limit) one (subst (All (λ (l : LinkedLine). l.next ≤ limit)) (sym is.lines_are) (lines-within 0 limit p.code (omega (arith, within))))

pub returns : goal.returns
returns c meter source name method_bytes built l i k class method there below at =
    let part = class.part in
    let placed = zip-second (IsPlaced (is_some meter) (image_of source).code method_bytes) (places_of l.code_is.ranges) l.code i class l.code_is.placed.each there in
    let sizes = c.divided_words_keep_to_the_limit.ensures part.metered part.units.now (flagged part.leads.now) part.start part.first part.words method_bytes class.spans
    placed.2.spans_are.cuts in
    let few : size (code_of_span part (span_at class.spans k)) ≤ method_bytes =
    all-at (λ s. size (code_of_span part s) ≤ method_bytes) class.spans k (span_at class.spans k) sizes
    (slice_get-get_or class.spans k (record { first = 0; words = 0 }) below) in
    let has = l.code_has i class there in
    let plan = span_plan part class.spans has.spans_by k in
    let plans = span_plans part class.spans has.spans_by (length class.spans) in
    let run = run_plan part class.spans class.first_method has.run_by in
    let planned : IsPlanned (program_of l.classes) (class.first_method + k) plan =
    has.planned k plan (get-left plans (run ∷ []) k plan (mapped-get (span_plan part class.spans has.spans_by) (length class.spans) k below)) in
    planned-within (program_of l.classes) (class.first_method + k) method_bytes plan method planned at few
