use Rattle.std.proofs.Common.{drop}
use Rattle.elf_definition.specs.Start.{image_of}
use Rattle.command_deeds.specs.World.{output_seen}
use Rattle.command_guest.specs.Listing.{runs_lines}
use Rattle.command_guest.proofs.ListingLemmas.{Leads}
use Rattle.command_guest.proofs.listing.write_runs.Given as goal

abbrev pub invariant-loop-run : goal.invariant-loop-run
invariant-loop-run g l =
    Leads (output_seen g.O.Sink l.initial.out) (output_seen g.O.Sink l.out) (runs_lines ((image_of l.image).code) l.runs)
    (runs_lines ((image_of l.image).code) (drop l.run-index l.runs))
