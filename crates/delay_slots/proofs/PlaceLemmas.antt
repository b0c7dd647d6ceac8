-- What stands at a word of a range and after it.
use Rattle.std.proofs.Common.{◌≡◌, ℕ, suc, ◌+◌, ◌*◌, ◌%◌, ◌^◌, ◌<◌, List, [], ◌∷◌, length, Option, Some, ap, sym, subst, ◌∙◌, arith, eq-eqb}
use Rattle.std.proofs.Math.Nat.{mod-eq_of_lt}
use Rattle.std.proofs.lemmas.Option.{get_or_from_slice_get, slice_get_within}
use Rattle.std.specs.List.{slice_get}
use Rattle.run_definition.specs.Words.{IsWord}
use Rattle.mips_definition.specs.Table.{inst}
use Rattle.mips_decode.specs.Encoding.{word_of}
use Rattle.mips_definition.specs.State.{State}
use Rattle.delay_slots.specs.declared.unit.Unit.{Unit}
use Rattle.delay_slots.specs.Units.{units_of}
use Rattle.delay_slots.specs.Turns.{HasRange, StandsAt, unit_turns, AreMade}
use Rattle.delay_slots.proofs.UnitLemmas.{first_of, Found, found}
use Rattle.delay_slots.proofs.TurnLemmas.{Placed, turns_made}

-- a word of the range is a word
is_word : (code : ℕ → Option ℕ) (first : ℕ) (words : List ℕ) (k w : ℕ) → HasRange code first words → slice_get words k ≡ Some w → IsWord w
is_word code first words k w range there =
    subst (λ (v : ℕ). IsWord v) (get_or_from_slice_get words k w 0 there) (range.are_words k (slice_get_within words k w there))

-- what follows a word of the range
next_there : (code : ℕ → Option ℕ) (first : ℕ) (words : List ℕ) (i : ℕ) (following : List ℕ) → HasRange code first words → slice_get words (suc i) ≡ first_of following → length words ≡ suc i + length following → code (first + 4 * suc i) ≡ first_of following
next_there code first words i [] range next count =
    let e : length words ≡ suc i = omega arith in
    ap (λ n. code (first + 4 * n)) (sym e) ∙ range.ends
next_there code first words i (word ∷ rest) range next count =
    let within : suc i < length words = omega arith in
    range.there (suc i) within ∙ next

placed : (encodes : (w : ℕ) → IsWord w → word_of (inst w) ≡ w) (x : State) (first : ℕ) (words : List ℕ) (i : ℕ) (unit : Unit) → StandsAt x first words i → (at : Found words i unit) → Placed x at.word at.following
placed encodes x first words i unit stands at =
    let range : HasRange x.code first words = stands.range in
    let aligned : first % 4 ≡ 0 = range.aligned in
    let below : first + 4 * length words < 2 ^ 32 = range.below_end in
    let count : length words ≡ suc i + length at.following = at.count in
    let pc : x.pc ≡ first + 4 * i = stands.pc in
    let pc_aligned : x.pc % 4 ≡ 0 = omega arith in
    let fits : x.pc + 4 < 2 ^ 32 = omega arith in
    let wraps : (x.pc + 4) % 2 ^ 32 ≡ x.pc + 4 = mod-eq_of_lt fits in
    let next_aligned : (x.pc + 4) % 4 ≡ 0 = omega arith in
    let next : x.pc + 4 ≡ first + 4 * suc i = omega arith in
    record {
      begun = stands.begun;
      pending = stands.pending;
      aligned = eq-eqb (x.pc % 4) 0 pc_aligned;
      there = ap (λ n. x.code n) pc ∙ range.there i stands.in_range ∙ at.there;
      encodes = encodes at.word (is_word x.code first words i at.word range at.there);
      next_aligned = eq-eqb ((x.pc + 4) % 2 ^ 32 % 4) 0 (ap (λ n. n % 4) wraps ∙ next_aligned);
      next_there = ap (λ n. x.code n) (wraps ∙ next) ∙ next_there x.code first words i at.following range at.next at.count;
      next_encodes = λ w h. encodes w (is_word x.code first words (suc i) w range (at.next ∙ h));
    }

pub unit_turns_made : (encodes : (w : ℕ) → IsWord w → word_of (inst w) ≡ w) (x : State) (first : ℕ) (words : List ℕ) (i : ℕ) (unit : Unit) → StandsAt x first words i → slice_get (units_of words) i ≡ Some unit → AreMade x (unit_turns unit x)
unit_turns_made encodes x first words i unit stands there =
    let at : Found words i unit = found words i unit there in
    subst (λ (u : Unit). AreMade x (unit_turns u x)) at.unit_is (turns_made x at.word at.following (placed encodes x first words i unit stands at))
