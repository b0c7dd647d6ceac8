-- The classes of code of a program are one list, but for where the units and leaders of their ranges are kept.
use Rattle.std.proofs.Common.{◌≡◌, ℕ, ◌+◌, List, [], ◌∷◌, length, Option, refl, ap, sym, ◌∙◌, subst, Bool, arith}
use Rattle.std.specs.List.{AllZip}
use Rattle.elf_definition.specs.Start.{Source, image_of}
use Rattle.elf_image.proofs.RunsLemmas.{runs_one}
use Rattle.elf_definition.specs.Area.{area}
use Rattle.method_splitter.specs.Cuts.{Cuts, Fills}
use Rattle.emit_layout.specs.Numbers.{main_methods}
use Rattle.translate_program.specs.Classes.{Placed, run_of, methods_behind, Follow, IsPlaced, AreCodeClasses}
use Rattle.translate_program.specs.Places.{Place, places_of}
use Rattle.translate_program.specs.Spans.{weights_of, AreSpans}
use Rattle.translate_program.proofs.OneCode.Parts.{AreAlike, alike_at, parts_alike}
use Rattle.translate_program.proofs.OneCode.Spans.{spans_one}

-- two classes have the same numbers, words and spans
pub record AreSame (c d : Placed) : Type 0 where
  pub number : c.number ≡ d.number
  pub first : c.first_method ≡ d.first_method
  pub parts : AreAlike c.part d.part
  pub spans : c.spans ≡ d.spans

placed_spans : (method_bytes : ℕ) (c d : Placed) → AreAlike c.part d.part → AreSpans c.part method_bytes c.spans
    → AreSpans d.part method_bytes d.spans → c.spans ≡ d.spans
placed_spans method_bytes c d alike are are' =
    let weights : weights_of c.part c.part.words ≡ weights_of d.part d.part.words = alike_at (λ p. weights_of p p.words) c.part d.part alike (λ same_len low within. refl) in
    spans_one 0 (weights_of c.part c.part.words) method_bytes c.spans d.spans are.cuts are.fills
    (subst (λ w. Cuts 0 w method_bytes d.spans) (sym weights) are'.cuts)
    (subst (λ w. Fills w method_bytes d.spans) (sym weights) are'.fills)

runs_same : (c d : Placed) → AreSame c d → run_of c ≡ run_of d
runs_same c d same = ap (λ n. n + length c.spans) same.first ∙ ap (λ l. d.first_method + length l) same.spans

classes_same : (metered : Bool) (code : ℕ → Option ℕ) (method_bytes : ℕ) (places : List Place) (number first : ℕ) (a b : List Placed) → Follow number first a
    → Follow number first b → AllZip (IsPlaced metered code method_bytes) places a → AllZip (IsPlaced metered code method_bytes) places b → AllZip AreSame a b
classes_same metered code method_bytes [] number first [] [] follow follow' each each' = tt
classes_same metered code method_bytes [] number first [] (d ∷ b) follow follow' each each' = absurd each'
classes_same metered code method_bytes [] number first (c ∷ a) b follow follow' each each' = absurd each
classes_same metered code method_bytes (place ∷ places) number first [] b follow follow' each each' = absurd each
classes_same metered code method_bytes (place ∷ places) number first (c ∷ a) [] follow follow' each each' = absurd each'
classes_same metered code method_bytes (place ∷ places) number first (c ∷ a) (d ∷ b) follow follow' each each' =
    let alike = parts_alike code place c.part d.part each.0.part_is each'.0.part_is (each.0.metered_is ∙ sym each'.0.metered_is) in
    let same : AreSame c d = record {
      number = follow.0 ∙ sym follow'.0;
      first = follow.1 ∙ sym follow'.1;
      parts = alike;
      spans = placed_spans method_bytes c d alike each.0.spans_are each'.0.spans_are;
    } in
    let next = subst (λ n. Follow (number + 1) (n + 1) b) (sym (runs_same c d same)) follow'.2 in
    (same, classes_same metered code method_bytes places (number + 1) (run_of c + 1) a b follow.2 next each.1 each'.1)

-- they are as many, with as many methods
pub same-many : (a b : List Placed) → AllZip AreSame a b → length a ≡ length b
same-many [] [] same = refl
same-many [] (d ∷ b) same = absurd same
same-many (c ∷ a) [] same = absurd same
same-many (c ∷ a) (d ∷ b) same = omega (arith, same-many a b same.1)

pub same-methods : (first : ℕ) (a b : List Placed) → AllZip AreSame a b → methods_behind first a ≡ methods_behind first b
same-methods first [] [] same = refl
same-methods first [] (d ∷ b) same = absurd same
same-methods first (c ∷ a) [] same = absurd same
same-methods first (c ∷ a) (d ∷ b) same =
    ap (λ n. methods_behind (n + 1) a) (runs_same c d same.0) ∙ same-methods (run_of d + 1) a b same.1

-- ---- those of a program

module _ {metered : Bool} (source : Source) (method_bytes : ℕ) (a b : List Placed) (are : AreCodeClasses metered source method_bytes a)
    (are' : AreCodeClasses metered source method_bytes b) where
  pub classes-one : AllZip AreSame a b
  classes-one =
      let ranges = runs_one (area source.file) are.ranges are'.ranges are.ranges_are are'.ranges_are in
      let each = subst (λ l. AllZip (IsPlaced metered (image_of source).code method_bytes) (places_of l) b) (sym ranges) are'.placed.each in
      classes_same metered (image_of source).code method_bytes (places_of are.ranges) 0 _ a b are.placed.follow are'.placed.follow
      are.placed.each each

  pub many-one : length a ≡ length b
  many-one = same-many a b classes-one

  pub methods-one : methods_behind main_methods a ≡ methods_behind main_methods b
  methods-one = same-methods main_methods a b classes-one
