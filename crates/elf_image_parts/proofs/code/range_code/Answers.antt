use Rattle.std.proofs.Common.{◌≡◌, ap, ◌∙◌}
use Rattle.delay_slots.specs.Units.{units_of}
use Rattle.elf_definition.specs.Start.{image_of}
use Rattle.elf_image_parts.proofs.RangeLemmas.{unit_count, ends_low}
use Rattle.elf_image_parts.proofs.code.range_code.Goals as goal

pub leader_flags-requires-clause-below_end : goal.leader_flags-requires-clause-below_end
leader_flags-requires-clause-below_end c =
    let code = (image_of c.args.image.now).code in
    let words = c.in_ok-words.words.items in
    let units = c.in_ok-units.units in
    let are : units ≡ units_of words = c.in_ok-units.ensures ∙ ap units_of c.as_slice.ensures.value in
    ends_low code c.args.range units c.requires (unit_count code c.args.range words units c.in_ok-words.ensures.words are)

pub returns-clause-code : goal.returns-clause-code
returns-clause-code c = record {
  words = c.in_ok-words.words.items;
  are_words = c.in_ok-words.ensures.words;
  units_are = c.in_ok-units.ensures ∙ ap units_of c.as_slice.ensures.value;
  leads_are = c.in_ok-leads.ensures;
}

pub returns-clause-count : goal.returns-clause-count
returns-clause-count c =
    let are = c.in_ok-units.ensures ∙ ap units_of c.as_slice.ensures.value in
    unit_count (image_of c.args.image.now).code c.args.range c.in_ok-words.words.items c.in_ok-units.units c.in_ok-words.ensures.words are
