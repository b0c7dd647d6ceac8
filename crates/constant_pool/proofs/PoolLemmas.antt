-- The entries are tested one after the other.
use Rattle.std.proofs.Common.{◌≡◌, ℕ, ◌+◌, ◌-◌, List, [], ◌∷◌, Option, Some, None, refl, sym, ◌∙◌}
use Rattle.class_definition.specs.declared.miss.Miss.{Miss}
use Rattle.class_definition.specs.declared.entry.Entry.{Entry}
use Rattle.class_definition.specs.PoolChecks.{pool_entry_fault, pool_entries_fault, slot_size}
use Rattle.constant_pool.specs.Answer.{missed_by}

pub entry_missed : (pool rest others : List Entry) (e : Entry) (size at left kind : ℕ) (total : Option Miss) → rest ≡ e ∷ others → left ≡ size - at
    → pool_entry_fault pool e ≡ Some kind → missed_by size (pool_entries_fault pool rest at) ≡ total → Some (record { kind = kind; left = left }) ≡ total
unfolding pool_entries_fault
entry_missed pool rest others e size at left kind total first place fault so_far =
    let one : missed_by size (pool_entries_fault pool rest at) ≡ Some (record { kind = kind; left = left }) = rw (first, fault, place) refl in
    sym one ∙ so_far

pub entry_passed : (pool rest others : List Entry) (e : Entry) (size at : ℕ) (total : Option Miss) → rest ≡ e ∷ others
    → pool_entry_fault pool e ≡ None → missed_by size (pool_entries_fault pool rest at) ≡ total → missed_by size (pool_entries_fault pool others (at + slot_size e)) ≡ total
unfolding pool_entries_fault
entry_passed pool rest others e size at total first fault so_far =
    let one : missed_by size (pool_entries_fault pool rest at) ≡ missed_by size (pool_entries_fault pool others (at + slot_size e)) = rw (first, fault) refl in
    sym one ∙ so_far

pub entries_passed : (pool rest : List Entry) (size at : ℕ) (total : Option Miss) → rest ≡ [] → missed_by size (pool_entries_fault pool rest at) ≡ total → None ≡ total
unfolding pool_entries_fault
entries_passed pool rest size at total none so_far =
    let one : missed_by size (pool_entries_fault pool rest at) ≡ None = rw none refl in
    sym one ∙ so_far
