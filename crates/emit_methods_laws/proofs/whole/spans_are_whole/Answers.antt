use Rattle.delay_slots.specs.Units.{units_of}
use Rattle.emit_methods_laws.proofs.WholeCode.Programs.{of_helpers, helper-types}
use Rattle.emit_methods_laws.proofs.WholeCode.Units.{UnitLaws}
use Rattle.emit_methods_laws.proofs.WholeCode.Spans.{span-can-be}
use Rattle.emit_methods_laws.proofs.whole.spans_are_whole.Goals as goal

pub returns : goal.returns
returns c r words leads span has have are_words no_float within some small =
    let laws : UnitLaws = record {
      typed = c.units_are_typed.ensures;
      known = c.needed_is_known.ensures.unit;
      well = c.units_name_well.ensures.one;
      small = c.unit_code_keeps_to_its_bytes.ensures;
      guards = c.guards_are_typed.ensures;
    } in
    let units = units_of words in
    span-can-be units leads span r has have laws (c.units_are_lawful.ensures.all words are_words no_float)
    (c.spans_are_typed.ensures of_helpers words leads span helper-types are_words no_float within)
    (c.no_switch_needs_padding.ensures units leads span) some small
