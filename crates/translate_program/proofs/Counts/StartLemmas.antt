-- The places at which classes begin, or a range ends, are few, and the methods there have low numbers.
use Rattle.std.proofs.Common.{ℕ, ◌+◌, ◌*◌, ◌<◌, ◌≤◌, Bool, true, false, if◌then◌else◌, List, [], ◌∷◌, map, length, All, arith, length-append}
use Rattle.std.proofs.lemmas.List.Elements.{All-nil, All-cons, All-append}
use Rattle.emit_layout.specs.Numbers.{missing_number}
use Rattle.trampoline.specs.declared.start.Start.{Start}
use Rattle.translate_classes.specs.Content.{RiseFrom, behind}
use Rattle.translate_classes.specs.Code.{address}
use Rattle.translate_program.specs.Classes.{Placed, Follow, run_of, is_last, starts_of_class, starts_of}
use Rattle.translate_program.proofs.ProgramTranslation.RiseLemmas.{rise-runs}

-- where a range ends, if there
abbrev end_of : Bool → ℕ → List Start
end_of last first = if last then record { first = first; method = missing_number } ∷ [] else []

end-few : (last : Bool) (first : ℕ) → length (end_of last first) ≤ 1
end-few true first = omega arith
end-few false first = omega arith

class-starts : (c : Placed) → (1 ≤ length (starts_of_class c)) × (length (starts_of_class c) ≤ 2)
class-starts c = let few = end-few (is_last c.part) (address c.part c.part.words) in (omega arith, omega (arith, few))

pub starts-some : (classes : List Placed) → 1 ≤ length classes → 1 ≤ length (starts_of classes)
starts-some [] some = absurd (omega (arith, some))
starts-some (c ∷ classes) some = omega (arith, (class-starts c).0, length-append (starts_of_class c) (starts_of classes))

pub starts-few : (classes : List Placed) → length (starts_of classes) ≤ 2 * length classes
starts-few [] = omega arith
starts-few (c ∷ classes) = omega (arith, (class-starts c).1, length-append (starts_of_class c) (starts_of classes), starts-few classes)

-- ---- the methods there

behind-least : (low : ℕ) (numbers : List ℕ) → RiseFrom low numbers → low ≤ behind low numbers
behind-least low [] rise = omega arith
behind-least low (n ∷ numbers) rise = omega (arith, rise.0, behind-least (n + 1) numbers rise.1)

end-known : (last : Bool) (first bound : ℕ) → missing_number < bound → All (λ (s : Start). s.method < bound) (end_of last first)
end-known true first bound low =
    All-cons (λ (s : Start). s.method < bound) (record { first = first; method = missing_number }) [] low
    (All-nil (λ (s : Start). s.method < bound))
end-known false first bound low = All-nil (λ (s : Start). s.method < bound)

pub starts-known : (number first : ℕ) (classes : List Placed) → missing_number < first → Follow number first classes
    → All (λ (s : Start). s.method < behind first (map run_of classes)) (starts_of classes)
starts-known number first [] low follow = All-nil (λ (s : Start). s.method < first)
starts-known number first (c ∷ classes) low follow =
    let bound = behind (run_of c + 1) (map run_of classes) in
    let least : run_of c + 1 ≤ bound = behind-least (run_of c + 1) (map run_of classes) (rise-runs (number + 1) (run_of c + 1) classes follow.2) in
    let above : missing_number < run_of c + 1 = omega (arith, low, follow.1) in
    let own : Start = record { first = address c.part 0; method = run_of c } in
    let end = end_of (is_last c.part) (address c.part c.part.words) in
    All-append (λ (s : Start). s.method < bound) (own ∷ end) (starts_of classes)
    (All-cons (λ (s : Start). s.method < bound) own end (omega (arith, least))
    (end-known (is_last c.part) (address c.part c.part.words) bound (omega (arith, above, least))))
    (starts-known (number + 1) (run_of c + 1) classes above follow.2)
