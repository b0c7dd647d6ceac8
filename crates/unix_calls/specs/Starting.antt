-- The system before its first call.
use Rattle.std.specs.Prelude.{◌≡◌, ℕ, ◌≤◌, ◌<◌, ◌-◌, ◌^◌, List, [], length}
use Rattle.unix_definition.specs.Unix.{system_start, blocks_needed}
use Rattle.unix_calls.specs.Held.{Held, limited}

-- so many blocks, the moment, files by name and arguments, as `start` of the definition has them
abbrev pub held_at_start : ℕ → ℕ → List (List ℕ × List ℕ) → List (List ℕ) → Held
held_at_start blocks moment files args =
    let s = system_start blocks moment files args [] in
    record {
      files = s.files;
      blocks = blocks;
      opened = s.opened;
      heap = s.heap;
      args = args;
      moment = moment;
      order = s.order;
      most = s.most;
      ahead = [];
    }

-- No call was served, and the files so far fit the blocks. A read of input gives at most so many bytes.
pub record BeginsLimited (most : ℕ) (held : Held) (blocks moment : ℕ)
    (files : List (List ℕ × List ℕ)) (args : List (List ℕ)) : Type 0 where
  pub is : held ≡ limited (held_at_start blocks moment files args) most
  pub fits : blocks_needed files ≤ blocks

-- the same of a system whose reads were not limited
abbrev pub Begins : Held → ℕ → ℕ → List (List ℕ × List ℕ) → List (List ℕ) → Type 0
Begins = BeginsLimited (2 ^ 32 - 1)

-- no call was served
pub record IsFresh (held : Held) : Type 0 where
  pub most : ℕ
  pub blocks : ℕ
  pub moment : ℕ
  pub files : List (List ℕ × List ℕ)
  pub args : List (List ℕ)
  pub begins : BeginsLimited most held blocks moment files args

-- A further file may be added: no call was served, and there are fewer than 64 files.
pub record IsOpenToFiles (held : Held) : Type 0 where
  pub most : ℕ
  pub blocks : ℕ
  pub moment : ℕ
  pub files : List (List ℕ × List ℕ)
  pub args : List (List ℕ)
  pub begins : BeginsLimited most held blocks moment files args
  pub few : length files < 64
