-- The spans of a layout are those of the classes of its translation.
use Rattle.std.proofs.Common.{◌≡◌, ℕ, zero, suc, ◌+◌, ◌<◌, ◌≤◌, ◌==◌, ◌&&◌, ◌||◌, nat_le, nat_lt, Bool, true, false, List, [], ◌∷◌, ◌++◌, map, length, refl, ap, sym, subst, ◌∙◌, arith}
use Rattle.std.specs.List.{AllZip, list_any, range_with_len}
use Rattle.std.proofs.lemmas.Bool.{and_parts, false≢true, leb-true, ltb-true}
use Rattle.std.proofs.lemmas.Bool.Decides.{nat_tests}
use Rattle.std.proofs.lemmas.List.{map-append}
use Rattle.std.proofs.lemmas.Simd.{map-map}
use Rattle.emit_layout.specs.Numbers.{main_methods}
use Rattle.method_splitter.specs.declared.span.Span.{Span}
use Rattle.emit_program_laws.specs.TrampolineLaws.Classes.{CodeClass, is_span_of, is_span, counted_span, counted_spans}
use Rattle.translate_classes.specs.declared.part.Part.{Part}
use Rattle.translate_program.specs.declared.layout.Layout.{Layout}
use Rattle.translate_program.specs.declared.span_info.SpanInfo.{SpanInfo}
use Rattle.translate_program.specs.Classes.{Placed, Follow, methods_behind, run_of, span_info, spans_of_class, spans_of}
use Rattle.nv_translate.specs.Standing.{IsClassOf}
use Rattle.nv_translate.proofs.TranslatedLoading.Others.{no-fewer}
use Rattle.nv_translate.specs.Counts.{counted, layout_spans, span_numbers, is_span_method}

-- ---- their words

counted-class : (p : Placed) (c : CodeClass) → IsClassOf p c
    → map counted (spans_of_class p) ≡ map (counted_span c) (range_with_len 0 (length c.spans))
counted-class p c is =
    subst (λ (d : CodeClass). map counted (spans_of_class p) ≡ map (counted_span d) (range_with_len 0 (length d.spans))) (sym is.is)
    (map-map counted (span_info p.number p.part p.spans) (range_with_len 0 (length p.spans)))

pub counted-are : (placed : List Placed) (classes : List CodeClass) → AllZip IsClassOf placed classes
    → map counted (spans_of placed) ≡ counted_spans classes
counted-are [] [] are = refl
counted-are [] (c ∷ classes) are = absurd are
counted-are (p ∷ placed) [] are = absurd are
counted-are (p ∷ placed) (c ∷ classes) are =
    map-append counted (spans_of_class p) (spans_of placed) ∙ (λ i. counted-class p c are.0 i ++ counted-are placed classes are.1 i)

-- ---- their methods

-- a number is one of so many from one on
abbrev is_within : ℕ → ℕ → ℕ → Bool
is_within low count m = nat_le low m && nat_lt m (low + count)

none-within : (low m : ℕ) (other : Bool) → other ≡ (is_within low 0 m || other)
none-within low m other = grind (arith, nat_tests)

one-more : (low count m : ℕ) (other : Bool) → (low == m || (is_within (low + 1) count m || other)) ≡ (is_within low (suc count) m || other)
one-more low count m other = grind (arith, nat_tests)

-- those of a class's spans before those of others
numbers-of : (m number : ℕ) (part : Part) (spans : List Span) (others : List SpanInfo) (count at before low : ℕ)
    → main_methods + before + number ≡ low
    → list_any (λ n. n == m) (span_numbers before (map (span_info number part spans) (range_with_len at count) ++ others))
    ≡ (is_within low count m || list_any (λ n. n == m) (span_numbers (before + count) others))
numbers-of m number part spans others zero at before low same =
    let here : before ≡ before + 0 = omega arith in
    ap (λ n. list_any (λ k. k == m) (span_numbers n others)) here ∙ none-within low m (list_any (λ n. n == m) (span_numbers (before + 0) others))
numbers-of m number part spans others (suc count) at before low same =
    let next : main_methods + (before + 1) + number ≡ low + 1 = omega (arith, same) in
    let behind : before + 1 + count ≡ before + suc count = omega arith in
    let rest : Bool = list_any (λ n. n == m) (span_numbers (before + suc count) others) in
    (λ i. same i == m || numbers-of m number part spans others count (at + 1) (before + 1) (low + 1) next i)
    ∙ ap (λ n. low == m || (is_within (low + 1) count m || list_any (λ k. k == m) (span_numbers n others))) behind
    ∙ one-more low count m rest

is-span-of : (m : ℕ) (p : Placed) (c : CodeClass) → IsClassOf p c → is_within p.first_method (length p.spans) m ≡ is_span_of c m
is-span-of m p c is = sym (ap (λ (d : CodeClass). is_span_of d m) is.is)

methods-are : (m : ℕ) (placed : List Placed) (classes : List CodeClass) → AllZip IsClassOf placed classes → (number first before : ℕ)
    → Follow number first placed → main_methods + before + number ≡ first
    → list_any (λ n. n == m) (span_numbers before (spans_of placed)) ≡ is_span classes m
methods-are m [] [] are number first before follow same = refl
methods-are m [] (c ∷ classes) are number first before follow same = absurd are
methods-are m (p ∷ placed) [] are number first before follow same = absurd are
methods-are m (p ∷ placed) (c ∷ classes) are number first before follow same =
    let count : ℕ = length p.spans in
    let here : main_methods + before + p.number ≡ p.first_method = omega (arith, follow.0, follow.1, same) in
    let behind : main_methods + (before + count) + (number + 1) ≡ p.first_method + count + 1 = omega (arith, follow.1, same) in
    let others = methods-are m placed classes are.1 (number + 1) (p.first_method + count + 1) (before + count) follow.2 behind in
    numbers-of m p.number p.part p.spans (spans_of placed) count 0 before p.first_method here
    ∙ (λ i. is-span-of m p c are.0 i || others i)

-- each is one of the methods of classes of code
pub number-within : (m : ℕ) (placed : List Placed) (classes : List CodeClass) → AllZip IsClassOf placed classes → (number first : ℕ)
    → Follow number first placed → is_span classes m ≡ true → (first ≤ m) × (m < methods_behind first placed)
number-within m [] [] are number first follow is = absurd (false≢true is)
number-within m [] (c ∷ classes) are number first follow is = absurd are
number-within m (p ∷ placed) [] are number first follow is = absurd are
number-within m (p ∷ placed) (c ∷ classes) are number first follow is =
    by-class (number-within m placed classes are.1 (number + 1) (run_of p + 1) follow.2) (is_span_of c m) refl
  where
    more : run_of p + 1 ≤ methods_behind (run_of p + 1) placed
    more = no-fewer (number + 1) (run_of p + 1) placed follow.2

    Rest : Type 0
    Rest = is_span classes m ≡ true → (run_of p + 1 ≤ m) × (m < methods_behind (run_of p + 1) placed)

    by-class : Rest → (b : Bool) → is_span_of c m ≡ b → (first ≤ m) × (m < methods_behind first (p ∷ placed))
    by-class others true own =
        let parts = and_parts (nat_le p.first_method m) (nat_lt m (p.first_method + length p.spans)) (is-span-of m p c are.0 ∙ own) in
        let low = leb-true p.first_method m parts.0 in
        let high = ltb-true m (p.first_method + length p.spans) parts.1 in
        (omega (arith, low, follow.1), omega (arith, high, more))
    by-class others false other =
        let rest = others (sym (ap (λ b. b || is_span classes m) other) ∙ is) in
        let low = rest.0 in
        (omega (arith, low, follow.1), rest.1)

module _ (layout : Layout) (placed : List Placed) (classes : List CodeClass) (are : AllZip IsClassOf placed classes)
    (spans_are : layout.spans.items ≡ spans_of placed) where
  pub spans-counted : counted_spans classes ≡ layout_spans layout
  spans-counted = sym (ap (map counted) spans_are ∙ counted-are placed classes are)

  pub spans-tested : Follow 0 main_methods placed → is_span classes ≡ is_span_method layout
  spans-tested follow =
      sym (ap (λ spans m. list_any (λ n. n == m) (span_numbers 0 spans)) spans_are
      ∙ (λ i m. methods-are m placed classes are 0 main_methods 0 follow refl i))
