-- What the texts of a pool can be, slot by slot.
use Rattle.std.specs.Prelude.{ℕ, min, ◌-◌, ◌||◌, ◌==◌, Bool, if◌then◌else◌, List, slice_get, Option, Some, None}
use Rattle.std.specs.Option.{option_and_then}
use Rattle.class_definition.specs.Kinds.{index, utf8}
use Rattle.class_definition.specs.declared.entry.Entry.{Entry}
use Rattle.class_definition.specs.declared.entry.Entry.TheVariants.{Utf8}
use Rattle.constant_pool.specs.declared.form.Form.{Form}
use Rattle.class_definition.specs.NameGrammar.{is_member_name, is_class_file_name, is_array_name, is_field_descriptor, is_method_descriptor}
use Rattle.class_definition.specs.Named.{is_own_descriptor}

abbrev pub form_of_text : List ℕ → Form
form_of_text cs = record {
  class_name = is_class_file_name cs || is_array_name cs;
  member_name = is_member_name cs;
  field_descriptor = is_field_descriptor cs;
  method_descriptor = is_method_descriptor cs;
  own_descriptor = is_own_descriptor cs;
}

abbrev pub form_of : Entry → Option Form
form_of (Utf8 cs) = Some (form_of_text cs)
form_of _ = None

-- the form in a slot; slots are counted from 1
abbrev pub form_at : List (Option Form) → ℕ → Option Form
form_at forms n = if n == 0 then None else option_and_then (λ form. form) (slice_get forms (n - 1))

-- the kind of what is wrong with a text that passes a test or does not, if there is one
abbrev pub fault_unless : Option Bool → Option ℕ
fault_unless None = Some index
fault_unless (Some passes) = if passes then None else Some utf8

-- the kind that is first of two
abbrev pub least_kind : Option ℕ → Option ℕ → Option ℕ
least_kind None kind = kind
least_kind (Some kind) None = Some kind
least_kind (Some first) (Some second) = Some (min first second)
