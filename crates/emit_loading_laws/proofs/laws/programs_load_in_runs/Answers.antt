use Rattle.std.proofs.Common.{ℕ, refl}
use Rattle.mips_definition.specs.State as guest
use Rattle.jvm_definition.specs.Program.{Program}
use Rattle.jvm_definition.specs.Step.{JvmState}
use Rattle.emit_loading_laws.specs.Made.{Begins, HasBegun, begun_at}
use Rattle.emit_loading_laws.proofs.LoadingCodeLaws.Runs.{loads-in-runs}
use Rattle.emit_loading_laws.proofs.laws.programs_load_in_runs.Goals as goal

begun : (program : Program) (words own m choose : ℕ) (x : JvmState) (t : guest.State) (b : Begins program words own m choose 8 x t) → HasBegun own choose t (begun_at program words own m choose 8 x t b)
begun program words own m choose x t b = record {
  workspace = b.workspace;
  below = b.below;
  stands = refl;
  held = b.held;
  pc_is = b.pc_is;
  no_operands = b.no_operands;
  waits_in = b.waits_in;
}

pub returns : goal.returns
returns g c program words own m choose is_span most limit s p allowed weight pair at_start l time credit =
    loads-in-runs program words own m choose is_span most limit s p (HasBegun own choose) allowed weight pair.guest_is pair.classes_are pair.looks pair.tally_is pair.nothing at_start l time (begun program words own m choose) (λ i x t b. credit i t (begun_at program words own m choose 8 x t b) (begun program words own m choose x t b))
