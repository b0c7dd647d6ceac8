-- The run of a machine over a system whose input comes piece by piece.
use Rattle.std.specs.Prelude.{ℕ, List, [], ◌∷◌, ◌++◌, Option, option_map}
use Rattle.run_definition.specs.Answer.{Answer}
use Rattle.run_definition.specs.Question.{Question}
use Rattle.run_definition.specs.Run.{Run, run_of}
use Rattle.run_definition.specs.Turn.{Turn}
use Rattle.unix_definition.specs.System.{System, with_console}
use Rattle.unix_definition.specs.Unix.{reply}

-- a system, and the pieces of input that come before its next calls, one before each
pub record Arriving : Type 0 where
  pub system : System
  pub pieces : List (List ℕ)

abbrev pub arriving : System → List (List ℕ) → Arriving
arriving system pieces = record { system = system; pieces = pieces }

-- a system to which one more piece has come
abbrev pub arrived : System → List ℕ → System
arrived s piece = with_console s (record {
  rest = s.console.rest
      ++ piece;
  output = s.console.output;
  error_output = s.console.error_output;
})

-- A call is answered by the definition, behind the next piece.
abbrev pub reply_behind : System → List (List ℕ) → Question → Option (Answer × Arriving)
reply_behind s [] q = option_map (λ given. (given.0, arriving given.1 [])) (reply s q)
reply_behind s (piece ∷ pieces) q =
    option_map (λ given. (given.0, arriving given.1 pieces)) (reply (arrived s piece) q)

abbrev pub reply_arriving : Arriving → Question → Option (Answer × Arriving)
reply_arriving a q = reply_behind a.system a.pieces q

-- the same run, without the pieces that are left
abbrev pub without_pieces : {S : Type 0} → Run S Arriving → Run S System
without_pieces r = record {
  questions = r.questions;
  outcome = r.outcome;
  last = r.last;
  system = r.system.system;
}

-- at most n turns over such a system
abbrev pub run_arriving : {S : Type 0} → (S → Turn S) → ℕ → S → System → List (List ℕ)
    → Run S System
run_arriving turn n s system pieces =
    without_pieces (run_of turn reply_arriving n s (arriving system pieces))
