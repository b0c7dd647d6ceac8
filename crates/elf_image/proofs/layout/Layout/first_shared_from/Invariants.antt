use Rattle.std.proofs.Common.{◌≡◌, None}
use Rattle.elf_definition.specs.Check.{least_below}
use Rattle.elf_definition.specs.Pages.{is_shared}
use Rattle.elf_image.proofs.layout.Layout.first_shared_from.Given as goal

abbrev pub invariant-loop-page : goal.invariant-loop-page
invariant-loop-page l = least_below (is_shared l.self.segments.value.items l.self.heap l.self.stack) l.page ≡ None
