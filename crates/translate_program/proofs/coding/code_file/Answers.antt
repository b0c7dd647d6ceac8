use Rattle.std.proofs.Common.{◌<◌, ◌≤◌, length, refl, ap, sym, ◌∙◌, arith, subst}
use Rattle.std.proofs.lemmas.List.Elements.{All-weaker}
use Rattle.std.proofs.lemmas.List.FromFn.{length-map-range_with_len}
use Rattle.emit_layout.specs.ClassNames.{code_class_name, file_name}
use Rattle.translate_classes.specs.Code.{IsCodeClass}
use Rattle.translate_classes.specs.declared.piece.Piece.{Piece}
use Rattle.translate_classes.specs.Blocks.{pieces_of_class}
use Rattle.translate_program.specs.Classes.{Placed, span_info, span_infos}
use Rattle.translate_program.proofs.coding.code_file.Goals as goal

pub returns-clause-value : goal.returns-clause-value
returns-clause-value c =
    let name = c.args.name.now in
    let part = c.args.part.now in
    let first = c.args.first_method in
    let spans = c.in_ok-spans.spans.items in
    let number = c.args.classes in
    let class : Placed = record { number = number; part = part; spans = spans; first_method = first } in
    record {
      class = class;
      class_is = record { number_is = refl; first_is = refl; part_is = refl; spans_are = c.in_ok-spans.ensures.value };
      file_is = record {
        named = c.in_ok-file_name.ensures ∙ ap file_name (c.as_str-2.ensures.value ∙ c.in_ok-class_name.ensures ∙ ap (λ main. code_class_name main number) c.as_str.ensures.value);
        class = subst (λ bytes. IsCodeClass name number part spans first bytes) (sym c.shrink_to_fit.ensures.items)
            (subst (λ s. IsCodeClass name number part s first c.in_ok-made.made.bytes.items) c.as_slice-2.ensures.value c.in_ok-made.ensures.class);
      };
      spans_are = c.in_ok-infos.ensures ∙ ap (λ s. span_infos number part s (length s)) c.as_slice-3.ensures.value;
      pieces_are = c.in_ok-made.ensures.pieces ∙ ap (pieces_of_class part) c.as_slice-2.ensures.value;
      run_is = omega (arith, ap length c.as_slice.ensures.value);
    }

pub returns-clause-run : goal.returns-clause-run
returns-clause-run c = omega (arith, ap length c.as_slice.ensures.value, c.in_ok-spans.ensures.few)

pub returns-clause-spans : goal.returns-clause-spans
returns-clause-spans c =
    let spans = c.as_slice-3.result.now in
    omega (
      arith,
      ap length c.in_ok-infos.ensures,
      length-map-range_with_len (span_info c.args.classes c.args.part.now spans) 0 (length spans),
      ap length c.as_slice-3.ensures.value,
      c.in_ok-spans.ensures.few,
    )

pub returns-clause-pieces : goal.returns-clause-pieces
returns-clause-pieces c =
    let spans = c.as_slice-2.result.now in
    let few : length spans ≤ 2048 = omega (arith, ap length c.as_slice-2.ensures.value, c.in_ok-spans.ensures.few) in
    All-weaker (λ (p : Piece). p.span < length spans) (λ (p : Piece). p.span < 2048) (λ p within. omega (arith, within, few))
    c.in_ok-made.made.pieces.items c.in_ok-made.ensures.pieces_within
