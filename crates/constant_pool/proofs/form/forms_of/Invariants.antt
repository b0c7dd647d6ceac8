use Rattle.std.proofs.Common.{◌≡◌, take}
use Rattle.std.specs.Prelude.{map}
use Rattle.constant_pool.specs.Forms.{form_of}
use Rattle.constant_pool.proofs.form.forms_of.Given as goal

abbrev pub invariant-loop-entry : goal.invariant-loop-entry
invariant-loop-entry l = l.forms.items ≡ map form_of (take l.entry-index l.entries)
