use Rattle.std.specs.Prelude.{ℕ, option_map, String, Vec}
use Rattle.std.specs.BTreeMap.{BTreeMap, get_by_text}
use Rattle.std.specs.declared.alloc.Global.{Global}
use Rattle.nv_outside.specs.Files.{Files}

-- the files that a map has
abbrev pub files_in : BTreeMap (String Global) (Vec ℕ Global) → Files
files_in m name = option_map (λ v. v.items) (get_by_text m name)
