-- What a sink gained where a writing was cut short.
use Rattle.std.specs.Prelude.{◌≡◌, ℕ, List, ◌∷◌, ◌++◌, Option}
use Rattle.std.specs.Io.KnownBytes.{Appends}

-- known bytes grow by a front part of these, but not by all of them
pub record AppendsProperPart (old new : Option (List ℕ)) (bytes : List ℕ) : Type 0 where
  pub front : List ℕ
  pub next : ℕ
  pub rest : List ℕ
  pub splits : bytes ≡ front ++ next ∷ rest
  pub gained : Appends old new front
