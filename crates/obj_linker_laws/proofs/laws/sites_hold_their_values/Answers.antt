use Rattle.std.proofs.Common.{◌≡◌, ◌+◌, ◌&&◌, ◌≤◌, true, slice_get, sym, ap, ◌∙◌, arith}
use Rattle.obj_reader.specs.declared.section.Section.{Section}
use Rattle.obj_reader.specs.Sections.{has_bytes, is_placed}
use Rattle.obj_linker.specs.Link.{linked_image}
use Rattle.obj_linker.specs.Sites.{site_word}
use Rattle.obj_linker_laws.specs.Held.{image_before, low_offset, relocations_in, sections_in, symbols_in}
use Rattle.obj_linker_laws.proofs.Facts.{Sited}
use Rattle.obj_linker_laws.proofs.Linked.{inside_objects, low_is, low_within, not_large, sited, site_is, the_one}
use Rattle.obj_linker_laws.proofs.Lists.{at_place}
use Rattle.obj_linker_laws.proofs.Values.{last_word, own_before}
use Rattle.obj_linker_laws.proofs.laws.sites_hold_their_values.Goals as goal

pub returns : goal.returns
unfolding linked_image
returns c files entry none j r s site at in_s here =
    let all = sections_in files in
    let rs = relocations_in files in
    let symbols = symbols_in files in
    let inside = inside_objects files entry none in
    let small = not_large files entry none in
    let each = sited files entry none in
    let is = at_place (Sited all) rs j r each at in
    let same : is.0 ≡ s = the_one (slice_get all r.section) is.0 s is.1 in_s in
    let bytes : (is_placed s && has_bytes s) ≡ true = ap (λ (t : Section). is_placed t && has_bytes t) (sym same) ∙ is.2 in
    let within : r.r_offset + 4 ≤ s.sh_size = omega (arith, is.4, ap (λ (t : Section). t.sh_size) same) in
    let place = site_is files j r site at here in
    record {
      last = λ free. last_word files all symbols rs j r.section r.r_offset s site inside small in_s bytes each is.3 within here place free;
      own = λ free.
          ap (site_word (image_before files j)) place
          ∙ own_before files all symbols rs j r.section r.r_offset s inside small in_s bytes each is.3 within free;
      own_low = λ high free.
          let low = low_within files entry j r s none at in_s high in
          ap (site_word (image_before files j)) (low_is files j r site at here)
          ∙ own_before files all symbols rs j r.section (low_offset files j r) s inside small in_s bytes each low.0 low.1 free;
    }
