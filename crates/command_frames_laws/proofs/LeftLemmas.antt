-- The files that are left where some are stored and then a line is printed.
use Rattle.std.proofs.Common.{◌≡◌, ◌∙◌, ℕ, Bool, true, false, List, [], ◌∷◌, ◌++◌, Option, Some, None, refl, sym, ap, subst}
use Rattle.std.specs.List.{list_all}
use Rattle.nv_outside.specs.Files.{Files, SameFiles, SetsFile}
use Rattle.class_sets.specs.NamedSets.{named_set}
use Rattle.class_sets.specs.declared.version.Version.TheVariants.{V48}
use Rattle.command_words.specs.declared.named_class.NamedClass.{NamedClass}
use Rattle.command_deeds.proofs.DeedLemmas.{same_then_shelf}
use Rattle.command_deeds.specs.Deeds.{Deed, DoesAll, prints, stores}
use Rattle.command_deeds.specs.Ends.{Due}
use Rattle.command_deeds.specs.World.{SameShelf, Seen, Takes, World}
use Rattle.command_frames.specs.Frames.{all_stored}
use Rattle.command_frames_laws.specs.Counted.{StoresSet}
use Rattle.command_frames_laws.specs.Stored.{Leave}
use Rattle.command_frames_laws.proofs.StoredLemmas.{of-members}

-- ---- deeds that store

abbrev pub is_store : Deed → Bool
is_store (stores name bytes) = true
is_store other = false

names-store : (names files : List (List ℕ)) → list_all is_store (all_stored names files) ≡ true
names-store [] files = refl
names-store (name ∷ names) [] = refl
names-store (name ∷ names) (bytes ∷ files) = names-store names files

-- so are those of a set
pub set-stores : (class : NamedClass) (files : Files) (due : Due) (s : StoresSet class files due) → list_all is_store s.deeds ≡ true
set-stores class files due s =
    let o = of-members class (named_set V48 files class.name) s.deeds s.are in
    subst (λ ds. list_all is_store ds ≡ true) (sym o.stored.are) (names-store o.members.names o.stored.stored)

-- ---- told files are still told

still-told : (before : Files) (old new : Option Files) → old ≡ Some before → SameFiles old new → (left : Files) × (new ≡ Some left) × ((name : List ℕ) → left name ≡ before name)
still-told before None new told same = cc
still-told before (Some files) None told same = absurd same
still-told before (Some files) (Some left) told same =
    let one : files ≡ before = cc in
    (left, refl, λ name. same name ∙ ap (λ (f : Files). f name) one)

set-told : (before : Files) (name bytes : List ℕ) (old new : Option Files) → old ≡ Some before → SetsFile old new name bytes
    → (between : Files) × (new ≡ Some between) × SetsFile (Some before) (Some between) name bytes
set-told before name bytes None new told sets = cc
set-told before name bytes (Some files) None told sets = absurd sets
set-told before name bytes (Some files) (Some between) told sets =
    let one : files ≡ before = cc in
    (between, refl, subst (λ fs. SetsFile (Some fs) (Some between) name bytes) one sets)

-- ---- the files that are left

-- they are told, and the line is written
pub record Leaves (before : Files) (deeds : List Deed) (text : List ℕ) (w v : World) (shelf : Seen Files) : Type 0 where
  pub left : Files
  pub left_told : shelf.told ≡ Some left
  pub leaves : Leave before deeds left
  pub line : Takes w.out v.out text

pub left-behind : (deeds : List Deed) (text : List ℕ) (before : Files) (w v : World) (shelf : Seen Files) → list_all is_store deeds ≡ true
    → w.shelf.told ≡ Some before → DoesAll (deeds ++ prints text ∷ []) w v → SameShelf v.shelf shelf → Leaves before deeds text w v shelf
left-behind [] text before w v shelf store told does same =
    let all : SameShelf w.shelf shelf =
    same_then_shelf w.shelf does.0.shelf shelf does.1.1.0 (same_then_shelf does.0.shelf v.shelf shelf does.2.0 same) in
    let still = still-told before w.shelf.told shelf.told told all.0 in
    record {
      left = still.0;
      left_told = still.1;
      leaves = still.2;
      line = subst (λ (s : Seen (List ℕ)). Takes w.out s text) (sym does.2.1.1) does.1.0;
    }
left-behind (stores name bytes ∷ deeds) text before w v shelf store told does same =
    let set = set-told before name bytes w.shelf.told does.0.shelf.told told does.1.0.0 in
    let more = left-behind deeds text set.0 does.0 v shelf store set.1 does.2 same in
    record {
      left = more.left;
      left_told = more.left_told;
      leaves = (set.0, set.2, more.leaves);
      line = subst (λ (s : Seen (List ℕ)). Takes s v.out text) does.1.1.1 more.line;
    }
left-behind (other ∷ deeds) text before w v shelf store told does same = cc
