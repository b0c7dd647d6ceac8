-- The set of the files in which classes are stored with tables.
use Rattle.std.proofs.Common.{◌≡◌, ℕ, List, map}
use Rattle.std.specs.Prelude.{All}
use Rattle.std.specs.List.{AllZip}
use Rattle.nv_outside.specs.Files.{Files}
use Rattle.class_definition.specs.declared.framed_class.FramedClass.{FramedClass}
use Rattle.class_definition.specs.FramedClassFile.{SpellsFramed}
use Rattle.class_names.specs.Kept.{IsClass}
use Rattle.class_sets.specs.NamedSets.{named_set}
use Rattle.class_sets.specs.declared.members.Members.{Members}
use Rattle.class_sets.specs.declared.named_set.NamedSet.TheVariants.{Classes}
use Rattle.class_sets.specs.declared.version.Version.TheVariants.{V48, V51}
use Rattle.stackmap_laws.specs.Framed.{AreFramed}
use Rattle.stackmap_laws.proofs.ClassLaws.{all-like}
use Rattle.stackmap_laws.proofs.FramedLaws.{fit-of-all}
use Rattle.stackmap_maker.specs.Refusals.{class_without_tables}
use Rattle.command_frames_laws.specs.StoredSets.{AreStored, framed_members}
use Rattle.command_frames_laws.proofs.AskedLaws.{all-same}
use Rattle.command_frames_laws.proofs.GrowthLaws.{same-set}

pub stored-loaded : (files later : Files) (name : List ℕ) (members : Members) (framed : List FramedClass) (stored : List (List ℕ)) → named_set V48 files name ≡ Classes members → All IsClass members.classes → AreFramed members.classes (map class_without_tables framed) → AllZip SpellsFramed stored framed → AreStored files members stored later → named_set V51 later name ≡ Classes (framed_members members.names framed)
stored-loaded files later name members framed stored is kept are spelled s =
    let like = all-like members.classes 0 members.classes (map class_without_tables framed) (fit-of-all members.classes kept) are in
    same-set files later name members framed stored is (all-same members.classes framed like) spelled s
