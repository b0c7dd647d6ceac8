use Rattle.std.proofs.Common.{subst}
use Rattle.obj_reader.specs.Files.{files_of}
use Rattle.obj_linker.specs.Names.{object_bytes, text_in_file}
use Rattle.obj_linker.specs.Texts.{IsNumber}
use Rattle.obj_linker.proofs.NamingLemmas.{in_stretch, name_there}
use Rattle.obj_linker.proofs.named_symbols.read_number.Goals as goal

pub returns-in-Some-clause-number : goal.returns-in-Some-clause-number
returns-in-Some-clause-number c =
    let files = files_of c.args.objects.now in
    let letters = c.stretch_of.new.texts.keys in
    let s = c.args.s.now in
    let found = c.in-Some.ensures in
    let there = in_stretch files letters c.in_ok-read.read s.object c.place_of.result c.in-Some.number c.in_ok-read.ensures.stretch found.object found.behind found.number in
    name_there files letters s c.in-Some.number
    (subst (λ p. IsNumber letters c.in-Some.number (text_in_file (object_bytes files s.object) p)) c.place_of.ensures there)
