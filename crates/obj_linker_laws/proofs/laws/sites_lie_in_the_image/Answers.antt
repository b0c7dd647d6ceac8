use Rattle.std.proofs.Common.{◌≡◌, arith}
use Rattle.obj_linker.specs.Image.{linked_bytes}
use Rattle.obj_linker.specs.Link.{linked_image}
use Rattle.obj_linker_laws.specs.Held.{byte_place, relocations_in, sections_in, sites_in}
use Rattle.obj_linker_laws.proofs.Facts.{Sited}
use Rattle.obj_linker_laws.proofs.Images.{stands}
use Rattle.obj_linker_laws.proofs.Linked.{inside_objects, not_large, sited, site_is}
use Rattle.obj_linker_laws.proofs.Lists.{at_place}
use Rattle.obj_linker_laws.proofs.Words.{relocated_size}
use Rattle.obj_linker_laws.proofs.laws.sites_lie_in_the_image.Goals as goal

pub returns : goal.returns
unfolding linked_image
returns c files entry none j r site at here =
    let all = sections_in files in
    let is = at_place (Sited all) (relocations_in files) j r (sited files entry none) at in
    let there = stands files all r.section is.0 (inside_objects files entry none) (not_large files entry none) is.1 is.2 in
    let place : site.at ≡ byte_place all r.section r.r_offset = site_is files j r site at here in
    let range = there.1.range.each r.r_offset (omega (arith, is.4)) in
    record {
      place = place;
      section = (is.0, (is.1, is.2), is.4);
      image = omega (arith, place, range, relocated_size (linked_bytes files all) (sites_in files), there.1.range.short, is.4);
    }
