use Rattle.std.proofs.Common.{codes}
use Rattle.class_definition.specs.MemberNames.{string_name}
use Rattle.class_definition.specs.Linking.{string_call}
use Rattle.emit_classes.proofs.Meant.{method-meant}
use Rattle.emit_classes.proofs.laws.strings_are_meant.Goals as goal

pub returns-clause-length : goal.returns-clause-length
returns-clause-length c =
    λ classes number d pool slot class x of m. method-meant d pool x string_call slot class string_name (codes "length") (codes "()I") of m

pub returns-clause-char_at : goal.returns-clause-char_at
returns-clause-char_at c =
    λ classes number d pool slot class x of m. method-meant d pool x string_call slot class string_name (codes "charAt") (codes "(I)C") of m
