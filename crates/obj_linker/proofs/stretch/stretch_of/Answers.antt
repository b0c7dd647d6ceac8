use Rattle.std.proofs.Common.{ap, ◌∙◌, drop}
use Rattle.obj_reader.specs.Files.{files_of}
use Rattle.obj_linker.proofs.NamingLemmas.{stretch_is}
use Rattle.obj_linker.proofs.stretch.stretch_of.Goals as goal

pub returns-clause-stretch : goal.returns-clause-stretch
returns-clause-stretch c =
    stretch_is (files_of c.args.objects.now) c.numbers_within.new.texts.keys
    (record { object = c.args.object; first = c.args.reach.first; numbers = c.in_ok-numbers.numbers })
    c.names_in-bytes.result.now c.rest_of-rest.result.now
    (c.rest_of-rest.ensures ∙ ap (drop c.args.reach.first) c.object_bytes.ensures) c.names_in-bytes.ensures.front
    c.names_in-bytes.ensures.ended c.in_ok-numbers.ensures.numbers
