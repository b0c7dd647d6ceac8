use Rattle.std.proofs.Common.{◌≡◌, ◌++◌, [], take, drop}
use Rattle.obj_linker.specs.Layout.{group_end, places_from, code_end, data_end, text_start, data_start}
use Rattle.obj_linker.specs.declared.group.Group.TheVariants.{Code, Constants, Data, Zeros}
use Rattle.obj_linker.proofs.layout.places_of.Given as goal

-- the groups end behind the sections so far, and what is left gives the places that are not there yet
abbrev pub invariant-loop-s : goal.invariant-loop-s
invariant-loop-s l = record {
  code : l.cursors.code ≡ group_end Code text_start (take l.s-index l.sections);
  constants : l.cursors.constants ≡ group_end Constants (code_end l.sections) (take l.s-index l.sections);
  data_at : l.cursors.data_at ≡ group_end Data data_start (take l.s-index l.sections);
  zeros : l.cursors.zeros ≡ group_end Zeros (data_end l.sections) (take l.s-index l.sections);
  places :
      l.places.items ++ places_from l.sections (take l.s-index l.sections) (drop l.s-index l.sections)
      ≡ places_from l.sections [] l.sections;
}
