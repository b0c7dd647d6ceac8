use Rattle.std.proofs.Common.{◌≡◌, ◌+◌, ◌-◌, ◌*◌, if◌then◌else◌, length, refl, ap, subst, ◌∙◌}
use Rattle.delay_slots.specs.Turns.{unit_turns, turn_count, last_turn}
use Rattle.delay_slots.specs.Units.{units_of}
use Rattle.block_builder.specs.Blocks.{unit_at}
use Rattle.emit_steps.specs.Widths.{size}
use Rattle.word_emitter.specs.Pieces.{piece_units}
use Rattle.emit_spans.specs.Laying.{entry_at, return_offset, targets_of}
use Rattle.emit_spans.specs.Parts.{cold_part, extent, unit_part, warm_part}
use Rattle.emit_spans.specs.Pieces.{begins, piece_at}
use Rattle.emit_spans.specs.Standing.{laid_part, unit_entry}
use Rattle.emit_paths_laws.specs.Classes.{puts}
use Rattle.emit_simulation_laws.specs.Sites.{stands, whole_weight}
use Rattle.emit_instructions_laws.specs.Pieces.{piece_turns}
use Rattle.emit_spans_laws.specs.Resuming.{Resumes}
use Rattle.emit_spans_laws.proofs.SpanCodeLaws.Counting.{laid-weighs}
use Rattle.emit_methods_laws.specs.Naming.{fields_of}
use Rattle.emit_metered_laws.specs.Writing.{AllWritesFirst}
use Rattle.emit_metered_laws.proofs.FieldLaws.InSpans.{follows-leaving-in-span}
use Rattle.emit_metered_laws.proofs.field_laws.spans_leave_other_fields.Goals as goal

pub returns-clause-words : goal.returns-clause-words
returns-clause-words c site order words leads span k f w x other has ready at inner plain =
    let own = units_of words in
    let unit = unit_at own k in
    let turns = unit_turns unit x in
    let from = entry_at own leads span k in
    let laid = laid_part own leads span k in
    let written = (c.code_writes_the_layout.ensures.parts order k own leads span (c.units_are_lawful.ensures.all words has.are_words has.no_float)).word in
    let cold = subst (λ m. AllWritesFirst (fields_of m) order (cold_part own leads span k)) plain written f other in
    let none : whole_weight order laid (puts f) ≡ 0 =
    laid-weighs order (puts f) (extent span) (targets_of own leads span) (return_offset own leads span)
    (if begins leads span k then warm_part own leads span k else cold_part own leads span k)
    ∙ ap (λ b. whole_weight order (if b then warm_part own leads span k else cold_part own leads span k) (puts f)) inner
    ∙ cold in
    follows-leaving-in-span site (from + size laid) (264 * turn_count turns) f (whole_weight order laid) none w.fields
    (Resumes site own leads span unit) from (turn_count turns) (stands site from w) (last_turn turns) refl
    (c.words_follow.ensures.plain site order words leads span k w x has ready at inner plain)

pub returns-clause-behind_fronts : goal.returns-clause-behind_fronts
returns-clause-behind_fronts c site order words leads span k f w x other has ready at inner =
    let own = units_of words in
    let unit = unit_at own k in
    let turns = unit_turns unit x in
    let from = unit_entry own leads span k in
    let code = unit_part own leads span k in
    let none = (c.code_writes_the_layout.ensures.parts order k own leads span (c.units_are_lawful.ensures.all words has.are_words has.no_float)).unit f other in
    follows-leaving-in-span site (from + size code) (264 * turn_count turns) f (whole_weight order code) none w.fields
    (Resumes site own leads span unit) from (turn_count turns) (stands site from w) (last_turn turns) refl
    (c.words_follow.ensures.behind_fronts site order words leads span k w x has ready at inner)

pub returns-clause-pieces : goal.returns-clause-pieces
returns-clause-pieces c site order words leads span k f w x other has ready at begin =
    let own = units_of words in
    let piece = piece_units own (piece_at own leads span k) in
    let turns = piece_turns piece x in
    let from = entry_at own leads span k in
    let laid = laid_part own leads span k in
    let warm = (c.code_writes_the_layout.ensures.parts order k own leads span (c.units_are_lawful.ensures.all words has.are_words has.no_float)).piece f other in
    let none : whole_weight order laid (puts f) ≡ 0 =
    laid-weighs order (puts f) (extent span) (targets_of own leads span) (return_offset own leads span)
    (if begins leads span k then warm_part own leads span k else cold_part own leads span k)
    ∙ ap (λ b. whole_weight order (if b then warm_part own leads span k else cold_part own leads span k) (puts f)) begin
    ∙ warm in
    follows-leaving-in-span site (from + size laid) (264 * turns.0) f (whole_weight order laid) none w.fields
    (Resumes site own leads span (unit_at own (k + length piece - 1))) from turns.0 (stands site from w) turns.1 refl
    (c.pieces_follow.ensures site order words leads span k w x has ready at begin)
