-- The checks of an image, made in three groups.
use Rattle.std.proofs.Common.{◌≡◌, ℕ, Bool, List, length, Option, Some, None, refl, sym, ap, ◌∙◌}
use Rattle.std.specs.Option.{option_or}
use Rattle.elf_definition.specs.Segments.{live}
use Rattle.elf_definition.specs.declared.segment.Segment.{Segment}
use Rattle.elf_definition.specs.declared.range.Range.{Range}
use Rattle.elf_definition.specs.declared.image_fault.ImageFault.{ImageFault}
use Rattle.elf_image.specs.declared.image_error.ImageError.{ImageError}
use Rattle.elf_image.specs.declared.image_error.ImageError.TheVariants.{Refused, NoMemory}
use Rattle.elf_image.specs.Answer.{IsAnswer, IsAnswerTo}
use Rattle.elf_definition.specs.ImageFault.{size_fault, pages_fault, data_fault, layout_fault, float_fault, image_fault, exceeds}
use Rattle.elf_definition.specs.Pages.{count_below}
use Rattle.elf_definition.specs.Content.{is_filled_page}
use Rattle.elf_image.specs.PageTable.{marked}
use Rattle.elf_image.proofs.MarkLemmas.{count_same_tests}

first_two : (a b rest : Option ImageFault) (x : ImageFault) → option_or a b ≡ Some x → option_or a (option_or b rest) ≡ Some x
first_two (Some y) b rest x is = is
first_two None (Some y) rest x is = is
first_two None None rest x is = absurd (cc)

past_two : (a b rest : Option ImageFault) → option_or a b ≡ None → option_or a (option_or b rest) ≡ rest
past_two (Some y) b rest none = absurd (cc)
past_two None (Some y) rest none = absurd (cc)
past_two None None rest none = refl

-- the first group is the first checks
pub first_answer : (file : List ℕ) (code : List Range) (heap stack : ℕ) (e : ImageError)
    → IsAnswer (option_or (size_fault (length file) code) (pages_fault (live file) heap stack)) e → IsAnswerTo file code heap stack e
unfolding image_fault
first_answer file code heap stack (Refused x) is = first_two (size_fault (length file) code) (pages_fault (live file) heap stack) _ x is
first_answer file code heap stack NoMemory is = tt

-- the second group comes where the first passes
pub second_answer : (file : List ℕ) (code : List Range) (segments : List Segment) (heap stack heap' stack' : ℕ) (e : ImageError)
    → option_or (size_fault (length file) code) (pages_fault (live file) heap stack) ≡ None
    → segments ≡ live file → heap' ≡ heap → stack' ≡ stack
    → IsAnswer (option_or (data_fault file segments) (layout_fault segments heap' stack')) e → IsAnswerTo file code heap stack e
unfolding image_fault
second_answer file code segments heap stack heap' stack' (Refused x) passed same same_heap same_stack is =
    let here : option_or (data_fault file (live file)) (layout_fault (live file) heap stack) ≡ Some x =
    ap (λ s. option_or (data_fault file s) (layout_fault s heap stack)) (sym same)
    ∙ ap (λ h. option_or (data_fault file segments) (layout_fault segments h stack)) (sym same_heap)
    ∙ ap (λ k. option_or (data_fault file segments) (layout_fault segments heap' k)) (sym same_stack) ∙ is in
    past_two (size_fault (length file) code) (pages_fault (live file) heap stack) _ passed
    ∙ first_two (data_fault file (live file)) (layout_fault (live file) heap stack) (float_fault file (live file) code) x here
second_answer file code segments heap stack heap' stack' NoMemory passed same same_heap same_stack is = tt

second_passed : (file : List ℕ) (segments : List Segment) (heap stack heap' stack' : ℕ) → segments ≡ live file → heap' ≡ heap → stack' ≡ stack
    → option_or (data_fault file segments) (layout_fault segments heap' stack') ≡ None
    → option_or (data_fault file (live file)) (layout_fault (live file) heap stack) ≡ None
second_passed file segments heap stack heap' stack' same same_heap same_stack none =
    ap (λ s. option_or (data_fault file s) (layout_fault s heap stack)) (sym same)
    ∙ ap (λ h. option_or (data_fault file segments) (layout_fault segments h stack)) (sym same_heap)
    ∙ ap (λ k. option_or (data_fault file segments) (layout_fault segments heap' k)) (sym same_stack) ∙ none

-- where both pass the answer is the last check's
pub last_fault : (file file' : List ℕ) (code code' : List Range) (segments stored : List Segment) (heap stack heap' stack' : ℕ)
    → option_or (size_fault (length file) code) (pages_fault (live file) heap stack) ≡ None
    → option_or (data_fault file segments) (layout_fault segments heap' stack') ≡ None
    → segments ≡ live file → heap' ≡ heap → stack' ≡ stack → file' ≡ file → stored ≡ segments → code' ≡ code
    → float_fault file' stored code' ≡ image_fault file code heap stack
unfolding image_fault
last_fault file file' code code' segments stored heap stack heap' stack' passed passed' same same_heap same_stack same_file same_segments same_code =
    ap (λ f. float_fault f stored code') same_file ∙ ap (λ s. float_fault file s code') (same_segments ∙ same) ∙ ap (λ r. float_fault file (live file) r) same_code
    ∙ sym (past_two (data_fault file (live file)) (layout_fault (live file) heap stack) (float_fault file (live file) code)
    (second_passed file segments heap stack heap' stack' same same_heap same_stack passed'))
    ∙ sym (past_two (size_fault (length file) code) (pages_fault (live file) heap stack) _ passed)

pub last_answer : (file : List ℕ) (code : List Range) (heap stack : ℕ) (found : Option ImageFault) (e : ImageError)
    → found ≡ image_fault file code heap stack → IsAnswer found e → IsAnswerTo file code heap stack e
last_answer file code heap stack found (Refused x) same is = sym same ∙ is
last_answer file code heap stack found NoMemory same is = tt

-- an answer of the first of two checks, and of the second where the first passes
pub answer_first : (a b found : Option ImageFault) (e : ImageError) → found ≡ a → IsAnswer found e → IsAnswer (option_or a b) e
answer_first (Some y) b found (Refused x) same is = sym same ∙ is
answer_first None b found (Refused x) same is = absurd (let none = sym same ∙ is in cc)
answer_first a b found NoMemory same is = tt

pub answer_second : (a b found : Option ImageFault) (e : ImageError) → a ≡ None → found ≡ b → IsAnswer found e → IsAnswer (option_or a b) e
answer_second None b found (Refused x) none same is = sym same ∙ is
answer_second (Some y) b found (Refused x) none same is = absurd (cc)
answer_second a b found NoMemory none same is = tt

pub none_both : (a b : Option ImageFault) → a ≡ None → b ≡ None → option_or a b ≡ None
none_both None b e e' = e'
none_both (Some x) b e e' = absurd (cc)

-- the check of filled pages, where these are marked
pub data_same : (file : List ℕ) (segments : List Segment) (marks given : List Bool) (n : ℕ) → n ≡ 524288 → given ≡ marks
    → ((p : ℕ) → marked marks p ≡ is_filled_page file segments p)
    → exceeds 5 16_384 (count_below (marked given) n) ≡ data_fault file segments
data_same file segments marks given n all same filled =
    ap (λ ms. exceeds 5 16_384 (count_below (marked ms) n)) same
    ∙ ap (λ c. exceeds 5 16_384 c) (count_same_tests (marked marks) (is_filled_page file segments) n filled ∙ ap (count_below (is_filled_page file segments)) all)
