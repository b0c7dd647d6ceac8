-- The unit at a place of a range, by the word there and the words that follow it.
use Rattle.std.proofs.Common.{◌≡◌, ℕ, zero, suc, ◌+◌, List, [], ◌∷◌, length, Option, Some, None, refl, arith}
use Rattle.std.specs.List.{slice_get}
use Rattle.mips_definition.specs.Table.{inst}
use Rattle.delay_slots.specs.declared.unit.Unit.{Unit}
use Rattle.delay_slots.specs.Units.{unit_of, units_of}

abbrev pub first_of : List ℕ → Option ℕ
first_of [] = None
first_of (word ∷ words) = Some word

pub record Found (words : List ℕ) (i : ℕ) (unit : Unit) : Type 0 where
  pub word : ℕ
  pub following : List ℕ
  pub there : slice_get words i ≡ Some word
  pub unit_is : unit_of (inst word) following ≡ unit
  pub next : slice_get words (suc i) ≡ first_of following
  pub count : length words ≡ suc i + length following

first_of-get : (words : List ℕ) → slice_get words zero ≡ first_of words
first_of-get [] = refl
first_of-get (word ∷ words) = refl

pub found : (words : List ℕ) (i : ℕ) (unit : Unit) → slice_get (units_of words) i ≡ Some unit → Found words i unit
found [] i unit h = cc
found (word ∷ words) zero unit h = record {
  word = word;
  following = words;
  there = refl;
  unit_is = cc;
  next = first_of-get words;
  count = omega arith;
}
found (word ∷ words) (suc i) unit h =
    let later : Found words i unit = found words i unit h in
    record {
      word = later.word;
      following = later.following;
      there = later.there;
      unit_is = later.unit_is;
      next = later.next;
      count = omega (arith, later.count);
    }
