use Rattle.std.proofs.Common.{◌-◌}
use Rattle.elf_definition.specs.Start.{image_of}
use Rattle.command_deeds.specs.World.{output_seen}
use Rattle.command_guest.specs.Listing.{run_lines}
use Rattle.command_guest.proofs.ListingLemmas.{Leads}
use Rattle.command_guest.proofs.listing.write_run.Given as goal

abbrev pub invariant-loop : goal.invariant-loop
invariant-loop g l =
    Leads (output_seen g.O.Sink l.initial.out) (output_seen g.O.Sink l.out) (run_lines ((image_of l.image).code) l.fn.run.first l.fn.run.words)
    (run_lines ((image_of l.image).code) l.at (l.end - l.counter))
