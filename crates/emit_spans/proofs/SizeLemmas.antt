-- How many bytes the method has.
use Rattle.std.proofs.Common.{◌≡◌, ℕ, ◌+◌, ◌*◌, Bool, List, [], ◌∷◌, ◌++◌, length, map, refl, ◌∙◌, arith}
use Rattle.delay_slots.specs.declared.unit.Unit.{Unit}
use Rattle.emit_steps.specs.declared.step.Step.{Step}
use Rattle.emit_steps.specs.declared.step.Step.TheVariants.{Does, Skips, Leaves, Selects}
use Rattle.emit_steps.specs.Widths.{width, size}
use Rattle.word_emitter.specs.declared.extent.Extent.{Extent}
use Rattle.emit_steps.specs.Returning.{returns}
use Rattle.emit_spans.specs.declared.span_words.SpanWords.{SpanWords}
use Rattle.emit_spans.specs.Parts.{extent}
use Rattle.emit_spans.specs.Opening.{opening}
use Rattle.emit_spans.specs.Laying.{switch, laid_step, laid_out, warm_before, cold_before, entry_at, targets_of, return_offset, span_code}
use Rattle.emit_spans.proofs.BodyLemmas.{size-append}
use Rattle.emit_spans.proofs.TargetLemmas.{told-length}

width-laid : (span : Extent) (targets : List ℕ) (otherwise : ℕ) (s : Step) → width (laid_step span targets otherwise s) ≡ width s
width-laid span targets otherwise (Does instruction) = refl
width-laid span targets otherwise (Skips name k) = refl
width-laid span targets otherwise (Leaves at) = refl
width-laid span targets otherwise (Selects s) = refl

pub size-laid : (span : Extent) (targets : List ℕ) (otherwise : ℕ) (code : List Step)
    → size (map (laid_step span targets otherwise) code) ≡ size code
size-laid span targets otherwise [] = refl
size-laid span targets otherwise (s ∷ code) = λ i. width-laid span targets otherwise s i + size-laid span targets otherwise code i

size-out : (span : Extent) (targets : List ℕ) (otherwise : ℕ) (parts : List Step)
    → size (laid_out span targets otherwise parts) ≡ size (opening span.first) + (13 + 4 * length targets + (size parts + 1))
size-out span targets otherwise parts =
    let body = map (laid_step span targets otherwise) parts in
    let rest : size (body ++ returns ∷ []) ≡ size parts + 1 = size-append body (returns ∷ [])
    ∙ (λ i. size-laid span targets otherwise parts i + 1) in
    size-append (opening span.first) (switch targets otherwise ∷ (body ++ returns ∷ []))
    ∙ (λ i. size (opening span.first) + (13 + 4 * length targets + rest i))

-- the return is the last byte
pub span-size : (units : List Unit) (leads : ℕ → Bool) (span : SpanWords)
    → size (span_code units leads span) ≡ return_offset units leads span + 1
span-size units leads span =
    let warm = warm_before units leads span span.end in
    let cold = cold_before units leads span span.end in
    let targets = targets_of units leads span in
    let out = size-out (extent span) targets (return_offset units leads span) (warm ++ cold) in
    omega (arith, out, told-length (entry_at units leads span) span targets refl, size-append warm cold)
