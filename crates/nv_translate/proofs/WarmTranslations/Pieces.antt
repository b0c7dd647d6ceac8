-- Each block of a layout is a piece of its classes, and each piece has one.
use Rattle.std.proofs.Common.{◌≡◌, ℕ, ◌+◌, ◌<◌, ◌≤◌, ◌&&◌, Bool, true, false, not, List, length, slice_get, Some, refl, sym, ap, subst, ◌∙◌, arith}
use Rattle.std.specs.List.{AllZip}
use Rattle.std.proofs.lemmas.Bool.{and_parts, true≢false}
use Rattle.delay_slots.specs.Units.{units_of}
use Rattle.emit_layout.specs.Numbers.{main_methods}
use Rattle.emit_spans.specs.Pieces.{begins, flagged, piece_words}
use Rattle.emit_spans.specs.Laying.{stretch_at}
use Rattle.emit_program_laws.specs.TrampolineLaws.Classes.{CodeClass, span_words}
use Rattle.translate_classes.specs.Blocks.{is_slot, piece_of}
use Rattle.translate_program.specs.declared.block_info.BlockInfo.{BlockInfo}
use Rattle.translate_program.specs.declared.layout.Layout.{Layout}
use Rattle.translate_program.specs.declared.span_info.SpanInfo.{SpanInfo}
use Rattle.translate_program.specs.Classes.{Placed, Follow, spans_of}
use Rattle.translate_program.specs.Blocks.{block_of, blocks_of}
use Rattle.nv_translate.specs.Standing.{class_of, IsClassOf}
use Rattle.nv_translate.specs.Warm.{told_span, IsPieceOf, HasBlock}
use Rattle.nv_translate.proofs.LinkedTranslations.Lists.{zip-first, zip-second}
use Rattle.nv_translate.proofs.LinkedTranslations.Whole.{number-follows}
use Rattle.nv_translate.proofs.WarmTranslations.Blocks.{IsPieceAt, StandsAt, class-stands, is-block, block-there}
use Rattle.nv_translate.proofs.WarmTranslations.Apart.{stretches-apart}

not-false : (b : Bool) → not b ≡ true → b ≡ false
not-false true is = absurd (true≢false (sym is))
not-false false is = refl

true-and-not : (a b : Bool) → a ≡ true → b ≡ false → (a && not b) ≡ true
true-and-not true false is isnt = refl
true-and-not true true is isnt = absurd (true≢false isnt)
true-and-not false b is isnt = absurd (true≢false (sym is))

module _ (layout : Layout) (code : List Placed) (classes : List CodeClass) (of : AllZip IsClassOf code classes) (follow : Follow 0 main_methods code)
    (spans_are : layout.spans.items ≡ spans_of code) (blocks_are : layout.blocks.items ≡ blocks_of 0 code) where
  -- a piece of a class that is told
  piece-of : (n : ℕ) (p : Placed) (words : List ℕ) (spans j k : ℕ) → slice_get code n ≡ Some p → slice_get classes n ≡ Some (class_of p words)
      → p.part.units.now ≡ units_of words → StandsAt code p spans → IsPieceAt p j k
      → IsPieceOf classes layout (block_of spans (piece_of p.part p.spans j k))
  piece-of n p words spans j k at there units s is =
      let leads = flagged p.part.leads.now in
      let own = span_words (class_of p words) j in
      let none : 0 + n ≡ n = omega arith in
      let number : p.number ≡ n = number-follows 0 main_methods code follow n p at ∙ none in
      let parts = and_parts (begins leads own k) (not (is_slot p.part.units.now leads k)) is.has in
      record {
        number = n;
        class = class_of p words;
        there = there;
        span = j;
        span_below = is.span_below;
        info =
            ap (λ (infos : List SpanInfo). slice_get infos (spans + j)) spans_are ∙ s.told j is.span_below
            ∙ ap (λ m. Some (told_span m (class_of p words) j)) number;
        method_is = (let methods = s.methods 0 main_methods follow in omega (arith, methods, number));
        word = k;
        above = is.above;
        below = is.below;
        begin = parts.0;
        no_slot = ap (λ us. is_slot us leads k) (sym units) ∙ not-false (is_slot p.part.units.now leads k) parts.1;
        first_is = refl;
        words_are = ap (λ us. piece_words us leads own k) units;
        from_is = ap (λ us. (stretch_at us leads own k).from) units;
        to_is = ap (λ us. (stretch_at us leads own k).to) units;
      }

  pub block-piece : (i : ℕ) (b : BlockInfo) → slice_get layout.blocks.items i ≡ Some b → IsPieceOf classes layout b
  block-piece i b at =
      let is = is-block code i b (ap (λ (bs : List BlockInfo). slice_get bs i) (sym blocks_are) ∙ at) in
      let p = is.class in
      let c = zip-first IsClassOf code classes is.number p of is.there in
      let there : slice_get classes is.number ≡ Some (class_of p c.0.words) = c.1 ∙ ap (λ (d : CodeClass). Some d) c.2.is in
      subst (IsPieceOf classes layout) is.is
      (piece-of is.number p c.0.words is.spans is.span is.word is.there there c.2.units_are is.stands is.at)

  pub piece-block : (n : ℕ) (c : CodeClass) (j k : ℕ) → slice_get classes n ≡ Some c → j < length c.spans → (span_words c j).first ≤ k
      → k < (span_words c j).end → begins c.leads (span_words c j) k ≡ true → is_slot (units_of c.words) c.leads k ≡ false
      → HasBlock classes layout n j k
  unfolding piece-of
  piece-block n c j k at below from to begin no_slot =
      let side = zip-second IsClassOf code classes n c of at in
      let p = side.0 in
      let is = side.2.is in
      let units = side.2.units_are in
      let leads = flagged p.part.leads.now in
      let same : is_slot p.part.units.now leads k ≡ false =
      ap (λ us. is_slot us leads k) units ∙ ap (λ (d : CodeClass). is_slot (units_of c.words) d.leads k) (sym is) ∙ no_slot in
      let starts : begins leads (span_words (class_of p c.words) j) k ≡ true =
      ap (λ (d : CodeClass). begins d.leads (span_words d j) k) (sym is) ∙ begin in
      let piece : IsPieceAt p j k = record {
        span_below = subst (λ (d : CodeClass). j < length d.spans) is below;
        above = subst (λ (d : CodeClass). (span_words d j).first ≤ k) is from;
        below = subst (λ (d : CodeClass). k < (span_words d j).end) is to;
        has = true-and-not (begins leads (span_words (class_of p c.words) j) k) (is_slot p.part.units.now leads k) starts same;
      } in
      let stands = class-stands code n p side.1 in
      let there = block-there code p stands.0 j k stands.1 piece in
      record {
        place = there.0;
        block = block_of stands.0 (piece_of p.part p.spans j k);
        there = ap (λ (bs : List BlockInfo). slice_get bs there.0) blocks_are ∙ there.1;
        is = piece-of n p c.words stands.0 j k side.1 (at ∙ ap (λ (d : CodeClass). Some d) is) units stands.1 piece;
        number_is = refl;
        span_is = refl;
        word_is = refl;
      }

-- ---- blocks of one span

pub record InOneSpan (classes : List CodeClass) (layout : Layout) (b d : BlockInfo) (p : IsPieceOf classes layout b)
    (q : IsPieceOf classes layout d) : Type 0 where
  pub numbers : p.number ≡ q.number
  pub classes_are : p.class ≡ q.class
  pub spans : p.span ≡ q.span

module _ (classes : List CodeClass) (layout : Layout) (b d : BlockInfo) (p : IsPieceOf classes layout b) (q : IsPieceOf classes layout d)
    (same : b.span ≡ d.span) where
  told-same : told_span p.number p.class p.span ≡ told_span q.number q.class q.span
  told-same =
      let one : Some (told_span p.number p.class p.span) ≡ Some (told_span q.number q.class q.span) =
      sym p.info ∙ ap (slice_get layout.spans.items) same ∙ q.info in
      cc

  pub one-span : InOneSpan classes layout b d p q
  one-span =
      let numbers : p.number ≡ q.number = ap (λ (s : SpanInfo). s.class) told-same in
      record {
        numbers = numbers;
        classes_are = (let both : Some p.class ≡ Some q.class = sym p.there ∙ ap (slice_get classes) numbers ∙ q.there in cc);
        spans = ap (λ (s : SpanInfo). s.method) told-same;
      }

  -- that of the lower address ends first
  pub pieces-apart : b.first < d.first → b.to ≤ d.from
  pieces-apart less =
      let one = one-span in
      let own : span_words q.class q.span ≡ span_words p.class p.span = λ i. span_words (sym one.classes_are i) (sym one.spans i) in
      let starts : q.class.start ≡ p.class.start = ap (λ (c : CodeClass). c.start) (sym one.classes_are) in
      let lower : p.word < q.word = omega (arith, less, p.first_is, q.first_is, starts) in
      let from : d.from ≡ (stretch_at (units_of p.class.words) p.class.leads (span_words p.class p.span) q.word).from =
      q.from_is ∙ (λ i. (stretch_at (units_of (sym one.classes_are i).words) (sym one.classes_are i).leads (own i) q.word).from) in
      let apart = stretches-apart (units_of p.class.words) p.class.leads (span_words p.class p.span) p.word q.word p.above lower p.begin in
      omega (arith, apart, p.to_is, from)
