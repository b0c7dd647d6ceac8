use Rattle.elf_definition.specs.Area.{address_pages}
use Rattle.elf_reader.proofs.PageLemmas.{pages_filled, shared_least}
use Rattle.elf_reader.proofs.area_checks.shared_page.Goals as goal

pub least_shared-requires-clause-filled : goal.least_shared-requires-clause-filled
least_shared-requires-clause-filled c =
    pages_filled c.args.segments.now c.in_ok-data_pages.field-0.items c.in_ok-pages.pages.items c.as_slice.result.now
    c.requires.live c.in_ok-data_pages.ensures c.in_ok-pages.ensures.filled c.as_slice.ensures.value

pub returns-clause-least : goal.returns-clause-least
returns-clause-least c =
    shared_least c.args.ranges.now c.args.segments.now c.in_ok-data_pages.field-0.items c.in_ok-pages.pages.items c.as_slice.result.now
    c.least_shared.result address_pages
    c.requires.live c.in_ok-data_pages.ensures c.in_ok-pages.ensures.same c.as_slice.ensures.value
    c.least_shared.ensures.least c.least_shared.ensures.bound
