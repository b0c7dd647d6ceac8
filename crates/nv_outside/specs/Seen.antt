-- What is seen of a part of the outside, and how it changes.
use Rattle.std.specs.Prelude.{◌≡◌, ℕ, List, Option}
use Rattle.std.specs.Io.KnownBytes.{Appends}
use Rattle.nv_outside.specs.Faults.{Rises}
use Rattle.nv_outside.specs.Files.{Files}
use Rattle.nv_outside.specs.Gains.{AppendsProperPart}
use Rattle.nv_outside.specs.declared.shelf.Shelf as shelf
use Rattle.nv_outside.specs.declared.sink.Sink as sink
use Rattle.nv_outside.specs.declared.source.Source as source

-- what it tells of its content, and how often it failed
pub record Seen (A : Type 0) : Type 0 where
  pub told : Option A
  pub faults : ℕ

abbrev pub shelf_seen : {H : Type 0} → shelf.Ghosts H → H → Seen Files
shelf_seen H s = record { told = H.files s; faults = H.faults s }

abbrev pub input_seen : {S : Type 0} → source.Ghosts S → S → Seen (List ℕ)
input_seen S s = record { told = S.rest s; faults = S.faults s }

abbrev pub output_seen : {O : Type 0} → sink.Ghosts O → O → Seen (List ℕ)
output_seen O s = record { told = O.taken s; faults = O.faults s }

-- a sink took a text, and did not fail
abbrev pub Takes : Seen (List ℕ) → Seen (List ℕ) → List ℕ → Type 0
Takes old new text = Appends old.told new.told text × (new.faults ≡ old.faults)

-- a sink failed before it had taken all of a text
abbrev pub FailsIn : Seen (List ℕ) → Seen (List ℕ) → List ℕ → Type 0
FailsIn old new text = AppendsProperPart old.told new.told text × Rises old.faults new.faults
