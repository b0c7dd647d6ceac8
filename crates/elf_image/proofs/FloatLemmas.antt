-- The first floating-point instruction of ranges that are looked at one after the other.
use Rattle.std.proofs.Common.{◌≡◌, ℕ, ◌+◌, ◌<◌, ◌≤◌, List, length, get_or, drop, Some, None, sym, ap, ◌∙◌}
use Rattle.std.specs.Option.{option_or}
use Rattle.std.proofs.lemmas.List.{at_drop_more, at_drop_all}
use Rattle.elf_definition.specs.declared.segment.Segment.{Segment}
use Rattle.elf_definition.specs.declared.range.Range.{Range}
use Rattle.elf_definition.specs.ImageFault.{float_in, first_float}

step : (file : List ℕ) (segments : List Segment) (code : List Range) (i : ℕ) (d : Range) → i < length code
    → first_float file segments (drop i code) ≡ option_or (float_in file segments (get_or code i d)) (first_float file segments (drop (i + 1) code))
unfolding first_float
step file segments code i d within = at_drop_more (first_float file segments) code i d within

pub float_found : (file : List ℕ) (segments : List Segment) (code : List Range) (i at : ℕ) (d : Range) → i < length code
    → Some at ≡ float_in file segments (get_or code i d) → first_float file segments (drop i code) ≡ Some at
float_found file segments code i at d within found =
    step file segments code i d within ∙ ap (λ o. option_or o (first_float file segments (drop (i + 1) code))) (sym found)

pub float_next : (file : List ℕ) (segments : List Segment) (code : List Range) (i : ℕ) (d : Range) → i < length code
    → None ≡ float_in file segments (get_or code i d) → first_float file segments (drop i code) ≡ first_float file segments (drop (i + 1) code)
float_next file segments code i d within none =
    step file segments code i d within ∙ ap (λ o. option_or o (first_float file segments (drop (i + 1) code))) (sym none)

pub float_done : (file : List ℕ) (segments : List Segment) (code : List Range) (i : ℕ) → length code ≤ i
    → first_float file segments (drop i code) ≡ None
unfolding first_float
float_done file segments code i past = at_drop_all (first_float file segments) code i past
