use Rattle.std.proofs.Common.{length, map, sym, ap, subst, ◌∙◌}
use Rattle.std.proofs.lemmas.Result.{err_from_is_err_and}
use Rattle.class_sets.specs.Kept.{IsKeptSet}
use Rattle.class_sets.proofs.KeptLaws.{plain-kept}
use Rattle.command_deeds.specs.Ends.{end_of}
use Rattle.command_frames.specs.Frames.{AreWritten, deed_of}
use Rattle.command_frames.proofs.FramesLemmas.{tables-refused, all-written, loaded-framed, names-as-many}
use Rattle.command_frames.proofs.framed_sets.framed_set.Goals as goal

pub framed_loaded-requires : goal.framed_loaded-requires
framed_loaded-requires c = record { kept = subst IsKeptSet (sym c.apart-names.ensures.loaded) (plain-kept c.args.set c.requires.kept) }

pub write_classes-requires-clause-count : goal.write_classes-requires-clause-count
write_classes-requires-clause-count c =
    let l = loaded-framed c.args.named.now c.apart-names.result.1 c.in_ok-framed.framed.items c.in_ok-framed.ensures.makes in
    names-as-many c.args.named.now c.args.set c.apart-names.result.1 l.0 c.apart-names.result.0 c.as_slice.result.now c.in_ok-framed.framed.items c.apart-names.ensures.loaded
    c.requires.kept l.1 c.apart-names.ensures.names c.as_slice.ensures l.2
    ∙ ap length (sym c.deref.ensures.value)

pub returns-in_err-framed : goal.returns-in_err-framed
returns-in_err-framed c =
    let p = err_from_is_err_and c.from_residual.result c.from_residual.ensures.1 in
    record {
      makes = rw (p.1, p.2) (tables-refused c.args.named.now c.args.set c.apart-names.result.1 (end_of c.in_err-framed.field-0.0) c.apart-names.ensures.loaded c.in_err-framed.ensures.makes);
    }

pub returns : goal.returns
returns c =
    let names = c.as_slice.result.now in
    let files = c.in_ok-write_classes.field-0.items in
    let l = loaded-framed c.args.named.now c.apart-names.result.1 c.in_ok-framed.framed.items c.in_ok-framed.ensures.makes in
    record {
      makes = all-written c.args.named.now c.args.set c.apart-names.result.1 l.0 c.in_ok-framed.framed.items names (map deed_of files) c.apart-names.ensures.loaded
          l.1 l.2 (c.as_slice.ensures ∙ c.apart-names.ensures.names)
          (subst (λ fs. AreWritten names fs (map deed_of files)) c.deref.ensures.value c.in_ok-write_classes.ensures);
    }
