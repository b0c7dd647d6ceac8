-- Names as tables for code.
use Rattle.std.specs.Prelude.{ℕ, List}
use Rattle.emit_assembly.specs.declared.references.References.{References}
use Rattle.translate_classes.specs.declared.names.Names.{Names}

-- the table of these with the slots of methods, whose numbers in the program follow each other from a first one on
abbrev pub references_of : Names → ℕ → List ℕ → References
references_of names first methods = record {
  fields = names.fields.items;
  first_method = first;
  methods = methods;
  host_call = names.host.first;
  host_fault = names.host.second;
  string_length = names.strings.first;
  string_char_at = names.strings.second;
  ints_class = names.ints;
}
