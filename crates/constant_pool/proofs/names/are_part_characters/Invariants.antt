use Rattle.std.proofs.Common.{◌≡◌, length}
use Rattle.std.specs.List.{list_all}
use Rattle.class_definition.specs.NameGrammar.{is_part_character}
use Rattle.constant_pool.proofs.names.are_part_characters.Given as goal

abbrev pub invariant-loop-c : goal.invariant-loop-c
invariant-loop-c l = list_all is_part_character l.rest ≡ list_all is_part_character l.text

abbrev pub decreases-loop-c : goal.decreases-loop-c
decreases-loop-c l = length l.rest
