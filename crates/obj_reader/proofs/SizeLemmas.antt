-- The first object that is too long.
use Rattle.std.proofs.Common.{◌≡◌, ℕ, ◌+◌, false, cond, List, [], ◌∷◌, Option, Some, None, IfNone, Vec, refl, sym, ap, ◌∙◌, arith, position}
use Rattle.std.specs.List.{All, position_from}
use Rattle.std.proofs.lemmas.Bool.Decides.{nat_tests}
use Rattle.std.proofs.lemmas.Iterator.Adapters.{position_from-zero}
use Rattle.elf_reader.proofs.FaultLemmas.{position_none_all}
use Rattle.obj_reader.specs.Files.{files_of, IsShort, is_long_file, is_long_object}

same_from : {Z : Type 0} (n : ℕ) (objects : List (Vec ℕ Z))
    → position_from is_long_object n objects ≡ position_from is_long_file n (files_of objects)
same_from n [] = refl
same_from n (o ∷ objects) = ap (λ r. cond (is_long_file o.items) (Some n) r) (same_from (n + 1) objects)

-- among the objects and among their bytes
pub same_first : {Z : Type 0} (objects : List (Vec ℕ Z)) → position is_long_object objects ≡ position is_long_file (files_of objects)
same_first objects =
    position_from-zero is_long_object objects ∙ same_from 0 objects ∙ sym (position_from-zero is_long_file (files_of objects))

not_long : (file : List ℕ) → is_long_file file ≡ false → IsShort file
not_long file h = grind (arith, nat_tests)

-- where none is, all are short
pub all_short : (files : List (List ℕ)) → position is_long_file files ≡ None → All IsShort files
all_short files none k d lt = not_long _ (position_none_all is_long_file files none k d lt)

pub if_none : {Z : Type 0} (objects : List (Vec ℕ Z)) (place : Option ℕ) → place ≡ position is_long_object objects
    → IfNone place (All IsShort (files_of objects))
if_none objects None is = all_short (files_of objects) (sym (same_first objects) ∙ sym is)
if_none objects (Some i) is = tt
