use Rattle.std.proofs.Common.{◌+◌, ◌||◌, []}
use Rattle.std.proofs.lemmas.Bool.{or_parts}
use Rattle.class_definition.specs.NameGrammar.{same_text}
use Rattle.class_definition.specs.MemberNames.{own_name, object_name, string_name, host_name}
use Rattle.emit_assembly.proofs.Pools.{extends-itself}
use Rattle.translate_classes_laws.specs.Before.{fields_before, methods_before}
use Rattle.translate_classes_laws.proofs.LinkedNumbers.Numbers.{own-unknown}
use Rattle.translate_classes_laws.proofs.linked_numbers.members_are_meant.Goals as goal

pub returns-clause-fields : goal.returns-clause-fields
returns-clause-fields c classes number n k slot class d owner s once names =
    let has_number = c.fields_have_numbers.ensures.number classes n k owner s once names.owner_there names.field_there in
    record {
      get = c.fields_are_meant.ensures.get classes number d d.pool slot class (fields_before classes n + k) (own_name owner) s.name s.descriptor
          (extends-itself d.pool) names.class_is names.slot_is has_number;
      put = c.fields_are_meant.ensures.put classes number d d.pool slot class (fields_before classes n + k) (own_name owner) s.name s.descriptor
          (extends-itself d.pool) names.class_is names.slot_is has_number;
    }

pub returns-clause-methods : goal.returns-clause-methods
returns-clause-methods c classes number n k slot class d owner s once names =
    let unknown = own-unknown [] 0 classes n owner once names.owner_there in
    let other = or_parts (same_text (own_name owner) object_name || same_text (own_name owner) string_name) (same_text (own_name owner) host_name)
    unknown in
    c.methods_are_meant.ensures classes number d d.pool slot class (methods_before classes n + k) (own_name owner) s.name s.descriptor
    (extends-itself d.pool) names.class_is names.slot_is other.1
    (c.methods_have_numbers.ensures.number classes n k owner s once names.owner_there names.method_there)
