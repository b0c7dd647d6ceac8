use Rattle.std.proofs.lemmas.Result.{err_from_is_err_and}
use Rattle.command_deeds.specs.Ends.{end_of}
use Rattle.command_deeds.specs.World.{shelf_seen}
use Rattle.command_guest.proofs.ImagingLemmas.{image_gives, lacks_image}
use Rattle.command_guest.proofs.imaging.load_image.Goals as goal

pub returns-in_err-file : goal.returns-in_err-file
returns-in_err-file g c =
    let p = err_from_is_err_and c.from_residual.result c.from_residual.ensures.1 in
    rw (p.1, p.2) (record {
      gives = lacks_image c.args.input.now c.args.pages c.as_str.result.now (shelf_seen g.H.Shelf c.args.shelf.now)
          (shelf_seen g.H.Shelf c.load.new.shelf) (end_of c.in_err-file.field-0.0) c.as_str.ensures c.in_err-file.ensures.gives;
    })

pub returns : goal.returns
returns g c = record {
  gives =
      image_gives c.args.input.now c.args.pages c.as_str.result.now c.in_ok-file.file.items c.as_slice.result.now
      (shelf_seen g.H.Shelf c.args.shelf.now) (shelf_seen g.H.Shelf c.load.new.shelf) c.image_of_file.result
      c.as_str.ensures c.as_slice.ensures.value c.in_ok-file.ensures.gives c.image_of_file.ensures.makes;
}
