use Rattle.std.proofs.Common.{[]}
use Rattle.class_definition.specs.MemberNames.{own_name, known_methods, fields_of, methods_of}
use Rattle.class_definition.specs.LinkFault.{no_field, no_method}
use Rattle.translate_classes_laws.proofs.LinkedNumbers.Found.{class-found, member-found, members-known}
use Rattle.translate_classes_laws.proofs.linked_numbers.names_find_what_they_name.Goals as goal

pub returns-clause-class : goal.returns-clause-class
returns-clause-class c classes n d there = class-found classes n d there

pub returns-clause-field : goal.returns-clause-field
returns-clause-field c classes n k d s once there here = member-found fields_of [] no_field classes n k d s once there here

pub returns-clause-method : goal.returns-clause-method
returns-clause-method c classes n k d s once there here =
    member-found methods_of (known_methods (own_name d)) no_method classes n k d s once there here

pub returns-clause-known : goal.returns-clause-known
returns-clause-known c classes name once known = members-known methods_of (known_methods name) [] 0 classes name once known
