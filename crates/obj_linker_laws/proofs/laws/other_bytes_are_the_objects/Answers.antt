use Rattle.std.proofs.Common.{◌+◌, slice_index, ap, ◌∙◌, arith}
use Rattle.obj_linker.specs.Image.{linked_bytes}
use Rattle.obj_linker.specs.Link.{linked_image}
use Rattle.obj_linker_laws.specs.Held.{image_in, relocations_in, sections_in, sites_in, symbols_in}
use Rattle.obj_linker_laws.proofs.Images.{stands}
use Rattle.obj_linker_laws.proofs.Linked.{inside_objects, not_large, sited}
use Rattle.obj_linker_laws.proofs.Sites.{all_away, all_outside, away}
use Rattle.obj_linker_laws.proofs.Words.{away_from}
use Rattle.obj_linker_laws.proofs.laws.other_bytes_are_the_objects.Goals as goal

pub returns : goal.returns
unfolding linked_image
returns c files entry none i s has k lt free =
    let all = sections_in files in
    let rs = relocations_in files in
    let inside = inside_objects files entry none in
    let small = not_large files entry none in
    let there = stands files all i s inside small has.0 has.1 in
    let sites = all_away files all (symbols_in files) (there.0 + k) rs
    (away files all i k there.0 s rs inside small has.0 has.1 there.1 lt (sited files entry none) (all_outside i k rs free)) in
    ap (slice_index (image_in files)) (there.1.range.each k (omega (arith, lt)))
    ∙ away_from (linked_bytes files all) (there.0 + k) (sites_in files) sites ∙ there.1.bytes k lt
