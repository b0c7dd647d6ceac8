use Rattle.std.proofs.Common.{◌+◌, ◌*◌, ◌≤◌, length}
use Rattle.translate_classes.specs.Fields.{AddsFields}
use Rattle.translate_classes.proofs.main_fields.add_fields.Given as goal

abbrev pub invariant-loop-field : goal.invariant-loop-field
invariant-loop-field l =
    AddsFields l.initial.class l.class l.field × (length l.class.pool ≤ length l.initial.class.pool + 2 * l.field)
