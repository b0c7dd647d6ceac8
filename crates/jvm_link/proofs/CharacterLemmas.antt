-- The texts of classes that keep the rules of the format are short.
use Rattle.std.specs.Prelude.{slice_get}
use Rattle.std.proofs.Common.{◌≡◌, ℕ, zero, suc, ◌<◌, List, [], ◌∷◌, length, get_or, Option, Some, None, refl, subst, arith}
use Rattle.std.specs.List.{All}
use Rattle.std.proofs.lemmas.Option.{get_or_from_slice_get}
use Rattle.class_definition.specs.declared.class.Class.{Class}
use Rattle.class_names.specs.Kept.{IsClass}
use Rattle.class_definition.specs.MemberNames.{slot_text}
use Rattle.class_names.proofs.KeptLemmas.{kept_text}
use Rattle.class_definition.specs.Linking.{class_characters}

within : (xs : List Class) (k : ℕ) (x : Class) → slice_get xs k ≡ Some x → k < length xs
within [] k x e = absurd cc
within (y ∷ ys) zero x e = omega arith
within (y ∷ ys) (suc k) x e = omega (arith, within ys k x e)

pub kept_characters : (cs : List Class) → All IsClass cs → (at n : ℕ) → length (class_characters (slice_get cs at) n) < 65536
kept_characters cs kept at n = by (slice_get cs at) refl
  where
    by : (o : Option Class) → slice_get cs at ≡ o → length (class_characters o n) < 65536
    by None e = omega arith
    by (Some c) e =
        let is : get_or cs at c ≡ c = get_or_from_slice_get cs at c c e in
        let P : Class → Type 0 = λ x. length (slot_text x n) < 65536 in
        subst P is (kept_text (get_or cs at c) (kept at c (within cs at c e)) n)
