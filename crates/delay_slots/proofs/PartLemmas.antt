-- The units of a range, one by one and in parts.
use Rattle.std.proofs.Common.{◌≡◌, ℕ, zero, suc, ◌+◌, ◌-◌, ◌<◌, ◌≤◌, List, [], ◌∷◌, ◌++◌, length, get_or, take, drop, refl, ap, ◌∙◌, arith}
use Rattle.std.proofs.lemmas.List.{take_more, get_or-drop, length-drop, drop-take, take-take, drop-drop}
use Rattle.mips_definition.specs.Table.{inst}
use Rattle.delay_slots.specs.declared.unit.Unit.{Unit}
use Rattle.delay_slots.specs.Units.{unit_of, units_of}

pub unit_count : (words : List ℕ) → length (units_of words) ≡ length words
unit_count [] = refl
unit_count (word ∷ words) = ap suc (unit_count words)

unit_found : (words : List ℕ) (k : ℕ) (d : Unit) → k < length words → unit_of (inst (get_or words k 0)) (drop (suc k) words) ≡ get_or (units_of words) k d
unit_found [] k d lt = absurd (omega arith)
unit_found (word ∷ words) zero d lt = refl
unit_found (word ∷ words) (suc k) d lt = unit_found words k d (omega arith)

-- the unit of a word, by the word and those that follow it
pub unit_there : (words : List ℕ) (k : ℕ) (d : Unit) → k < length words → unit_of (inst (get_or words k 0)) (drop (k + 1) words) ≡ get_or (units_of words) k d
unit_there words k d lt =
    let on : k + 1 ≡ suc k = omega arith in
    ap (λ n. unit_of (inst (get_or words k 0)) (drop n words)) on ∙ unit_found words k d lt

-- one more unit of a part
pub part_more : (units : List Unit) (first k : ℕ) (d : Unit) → first + k < length units
    → take (k + 1) (drop first units) ≡ take k (drop first units) ++ get_or units (first + k) d ∷ []
part_more units first k d lt =
    take_more (drop first units) k d (omega (arith, length-drop first units))
    ∙ ap (λ (unit : Unit). take k (drop first units) ++ unit ∷ []) (get_or-drop first units k d)

-- units of a part that is kept
pub part_kept : (units kept : List Unit) (from first count : ℕ) → kept ≡ take (length kept) (drop from units) → from ≤ first → first - from + count ≤ length kept
    → take count (drop (first - from) kept) ≡ take count (drop first units)
part_kept units kept from first count is le within =
    let past = first - from in
    let rest = length kept - past in
    let split : length kept ≡ past + rest = omega arith in
    let there : from + past ≡ first = omega arith in
    ap (λ (us : List Unit). take count (drop past us)) is
    ∙ ap (λ n. take count (drop past (take n (drop from units)))) split
    ∙ ap (take count) (drop-take past rest (drop from units))
    ∙ take-take count rest (drop past (drop from units)) (omega arith)
    ∙ ap (take count) (drop-drop past from units)
    ∙ ap (λ n. take count (drop n units)) there
