-- Things that are divided into shares of one size, the last of which may be smaller. They are numbered from 0.
use Rattle.std.specs.Prelude.{ℕ, ◌-◌, ◌*◌, min, List, map, take, drop}
use Rattle.std.specs.List.{range_with_len}
use Rattle.std.specs.Int.{div_ceil}
use Rattle.method_splitter.specs.declared.share.Share.{Share}

-- how many shares there are
abbrev pub share_count : ℕ → ℕ → ℕ
share_count size things = div_ceil things size

-- the share of a number
abbrev pub share_at : ℕ → ℕ → ℕ → Share
share_at size things k = record { first = size * k; count = min size (things - size * k) }

abbrev pub shares : ℕ → ℕ → List Share
shares size things = map (share_at size things) (range_with_len 0 (share_count size things))

-- the elements of a list that are in a share
abbrev pub shared : {A : Type 0} → List A → Share → List A
shared elements s = take s.count (drop s.first elements)
