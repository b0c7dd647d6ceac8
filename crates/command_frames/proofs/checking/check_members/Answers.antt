use Rattle.std.proofs.Common.{◌∙◌, refl, sym, subst}
use Rattle.std.specs.Prelude.{All}
use Rattle.class_names.specs.Kept.{IsClass}
use Rattle.class_sets.specs.declared.version.Version.TheVariants.{V51}
use Rattle.class_sets.proofs.KeptLaws.{classes-kept}
use Rattle.command_frames.proofs.CheckLemmas.{link-refused, linked-makes, tables-kept}
use Rattle.command_frames.proofs.checking.check_members.Goals as goal

pub link-requires : goal.link-requires
link-requires c = record { kept = subst (All IsClass) (sym c.into_vec.ensures) (classes-kept V51 c.args.members c.requires.kept) }

pub check_linked-requires : goal.check_linked-requires
check_linked-requires c = record {
  tables = tables-kept c.args.members c.in-Ok.linked.classes c.as_slice.result.now c.requires.kept (c.in-Ok.ensures.linked ∙ c.into_vec.ensures) c.as_slice.ensures;
}

pub returns-in-Ok : goal.returns-in-Ok
returns-in-Ok c = record {
  makes = linked-makes c.args.members c.as_slice.result.now c.in-Ok.linked c.check_linked.result (c.in-Ok.ensures.linked ∙ c.into_vec.ensures) c.as_slice.ensures c.check_linked.ensures.makes;
}

pub returns-in-Err-Refused : goal.returns-in-Err-Refused
returns-in-Err-Refused c = record {
  makes = (
    refl,
    rw c.in-Err-Refused.field-0-is (link-refused c.args.members c.into_vec.result.items c.in-Err-Refused.fault c.into_vec.ensures
        (rw c.in-Err-Refused.field-0-is at c.in-Err-Refused.ensures.refused)),
  );
}
