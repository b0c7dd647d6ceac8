use Rattle.std.specs.Prelude.{ℕ, List}
use Rattle.nv_outside.specs.Script.{Script}

-- a source in memory: the bytes not yet read, and its calls
pub record MemInput : Type 0 where
  pub rest : List ℕ
  pub calls : Script
