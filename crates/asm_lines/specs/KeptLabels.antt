-- Labels as a map from names to addresses keeps them.
use Rattle.std.specs.Prelude.{ℕ, List, map}
use Rattle.std.specs.BTreeMap.{BTreeMap}
use Rattle.asm_lines.specs.Operands.{LabelList}
use denote.Ref.{Bor}

abbrev pub kept_labels : BTreeMap (Bor (List ℕ)) ℕ → LabelList
kept_labels m = map (λ e. (e.0.now, e.1)) m.entries
