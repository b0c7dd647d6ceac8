use Rattle.std.proofs.Common.{◌≤◌, refl, subst, sym}
use Rattle.delay_slots.specs.Units.{units_of}
use Rattle.emit_types_laws.proofs.TypedSpans.Whole.{PartLaws, span-typed, units-length}
use Rattle.emit_types_laws.proofs.typed_spans.spans_are_typed.Goals as goal

pub returns : goal.returns
returns c program words leads span helpers are_words no_float within =
    let laws : PartLaws = record {
      warm = c.parts_of_spans_are_typed.ensures.warm;
      cold = c.parts_of_spans_are_typed.ensures.cold;
      guards = c.guards_are_typed.ensures;
      keep = c.words_keep_to_their_span.ensures;
      pieces = c.pieces_are_of_blocks.ensures;
    } in
    span-typed laws program helpers (units_of words) (record { words = words; are = refl }) (c.units_are_lawful.ensures.all words are_words no_float) leads span
    (subst (λ n. span.end ≤ n) (sym (units-length words)) within)
