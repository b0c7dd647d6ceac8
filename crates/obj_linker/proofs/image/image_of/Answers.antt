use Rattle.std.proofs.Common.{ap, arith}
use Rattle.obj_linker.specs.declared.group.Group.TheVariants.{Constants}
use Rattle.obj_reader.specs.Files.{files_of}
use Rattle.obj_linker.specs.Layout.{code_end, data_end, group_end, text_end}
use Rattle.obj_linker.proofs.ImageLemmas.{short_appended}
use Rattle.obj_linker.proofs.image.image_of.Goals as goal

pub append_group-requires : goal.append_group-requires
unfolding code_end
append_group-requires c = omega (arith, c.requires.behind_code, c.requires.short_text)

pub append_group-requires-2 : goal.append_group-requires-2
unfolding text_end
append_group-requires-2 c = omega (arith, ap (λ n. group_end Constants n c.args.sections.now) c.requires.code, c.requires.short_text)

pub append_group-requires-3 : goal.append_group-requires-3
unfolding data_end
append_group-requires-3 c = omega (arith, c.requires.short_data)

pub returns-clause-short : goal.returns-clause-short
returns-clause-short c =
    short_appended (files_of c.args.objects.now) c.args.sections.now c.args.ends.now c.new-image.result.items c.append_group.new.image.items
    c.append_group-2.new.image.items c.append_group-3.new.image.items c.requires c.new-image.ensures.items c.in_ok-append_group.ensures
    c.in_ok-append_group-2.ensures c.in_ok-append_group-3.ensures
