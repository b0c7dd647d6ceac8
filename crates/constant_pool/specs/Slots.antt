-- The slots of a pool that is made.
use Rattle.std.specs.Prelude.{◌≡◌, ℕ, ◌+◌, ◌≤◌, if◌then◌else◌, Bool, true, false, List, [], ◌∷◌, length, Some}
use Rattle.std.specs.List.{flat_map}
use Rattle.class_definition.specs.declared.entry.Entry.{Entry}
use Rattle.class_definition.specs.declared.entry.Entry.TheVariants.{LongRest}
use Rattle.class_definition.specs.PoolEntries.{is_long_entry}
use Rattle.class_definition.specs.PoolChecks.{entry_at}

-- the slots that an entry takes
abbrev pub slots_of_entry : Entry → List Entry
slots_of_entry e = e ∷ (if is_long_entry e then LongRest ∷ [] else [])

abbrev pub is_rest : Entry → Bool
is_rest LongRest = true
is_rest _ = false

-- an entry stands in a slot; slots are counted from 1
abbrev pub IsAt : List Entry → ℕ → Entry → Type 0
IsAt pool slot e = entry_at pool slot ≡ Some e

-- it stands in none
abbrev pub IsMissing : List Entry → Entry → Type 0
IsMissing pool e = (slot : ℕ) → IsAt pool slot e → ⊥

-- ---- the map from entries to slots that a pool keeps

abbrev pub slots_of_map : List (Entry × ℕ) → List Entry
slots_of_map entries = flat_map (λ p. slots_of_entry p.0) entries

-- each entry has the slot behind those of the entries before it
abbrev pub AreSlots : ℕ → List (Entry × ℕ) → Type 0
AreSlots first [] = Unit {0}
AreSlots first (p ∷ entries) =
    (p.1 ≡ first) × (is_rest p.0 ≡ false) × AreSlots (first + length (slots_of_entry p.0)) entries

-- what holds of a pool's map and the next slot
pub record IsKeptPool (entries : List (Entry × ℕ)) (next : ℕ) : Type 0 where
  pub slots : AreSlots 1 entries
  pub next_is : next ≡ 1 + length (slots_of_map entries)
  pub few : next ≤ 65535
