use Rattle.std.specs.Prelude.{slice_index}
use Rattle.emit_layout.specs.Fields.{field_name, field_descriptor}
use Rattle.translate_classes_laws.proofs.named_code.names_are_meant.Goals as goal

pub returns : goal.returns
returns c fields classes number d pool main names first methods goes_on are numbers = record {
  get = λ f below. c.fields_are_meant.ensures.get classes number d pool (slice_index names.fields.items f) names.main f main (field_name f)
      (field_descriptor f) goes_on are.main_is (are.fields_are.each f below) (numbers f below);
  put = λ f below. c.fields_are_meant.ensures.put classes number d pool (slice_index names.fields.items f) names.main f main (field_name f)
      (field_descriptor f) goes_on are.main_is (are.fields_are.each f below) (numbers f below);
  call = c.host_is_meant.ensures.call classes number d pool names.host.first names.host.class goes_on are.host_is.class_is are.host_is.first_is;
  fault = c.host_is_meant.ensures.fault classes number d pool names.host.second names.host.class goes_on are.host_is.class_is
      are.host_is.second_is;
  length = c.strings_are_meant.ensures.length classes number d pool names.strings.first names.strings.class goes_on are.strings_are.class_is
      are.strings_are.first_is;
  char_at = c.strings_are_meant.ensures.char_at classes number d pool names.strings.second names.strings.class goes_on
      are.strings_are.class_is are.strings_are.second_is;
  ints = c.arrays_are_meant.ensures classes number d pool names.ints goes_on are.ints_is;
}
