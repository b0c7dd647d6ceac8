-- The map from keys to numbers that members keep.
use Rattle.std.specs.Prelude.{◌≡◌, ℕ, List, position}
use Rattle.std.specs.Map.{lookup}
use Rattle.class_names.specs.declared.key.Key.{Key}
use Rattle.class_names.specs.Keys.{same_key}

-- each key has the number of the first member with it
abbrev pub IsMemberMap : List Key → List (Key × ℕ) → Type 0
IsMemberMap keys entries = (k : Key) → lookup (same_key k) entries ≡ position (same_key k) keys
