use Rattle.std.proofs.Common.{sym, ap, subst, ◌∙◌}
use Rattle.obj_reader.specs.Files.{files_of}
use Rattle.obj_linker.specs.Names.{object_bytes, text_in_file}
use Rattle.obj_linker.specs.Texts.{IsNumber}
use Rattle.obj_linker.proofs.NamingLemmas.{in_stretch, local_name, name_there, shared_there}
use Rattle.obj_linker.proofs.named_symbols.name_number.Goals as goal

pub returns-then-is_local-clause-number : goal.returns-then-is_local-clause-number
returns-then-is_local-clause-number c =
    local_name (files_of c.args.objects.now) c.args.texts.now.keys c.args.s.now (sym c.is_local.ensures ∙ c.if-is_local.true)

pub returns-in-Some-clause-number : goal.returns-in-Some-clause-number
returns-in-Some-clause-number c =
    let files = files_of c.args.objects.now in
    let letters = c.args.texts.now.keys in
    let s = c.args.s.now in
    let found = c.in-Some.ensures in
    let there = in_stretch files letters c.args.stretch.now s.object c.place_of.result c.in-Some.number c.requires.stretch found.object found.behind found.number in
    shared_there files letters s c.in-Some.number (sym c.is_local.ensures ∙ c.if-is_local.false)
    (name_there files letters s c.in-Some.number
    (subst (λ p. IsNumber letters c.in-Some.number (text_in_file (object_bytes files s.object) p)) c.place_of.ensures there))
