-- What operands take, and how many of them have no type.
use Rattle.std.proofs.Common.{◌≡◌, ℕ, suc, ◌+◌, ◌*◌, ◌≤◌, Bool, true, false, List, [], ◌∷◌, length, drop, refl, sym, ap, ◌∙◌, arith}
use Rattle.std.specs.Prelude.{if◌then◌else◌, nat_eq}
use Rattle.std.proofs.lemmas.Bool.{ne_eqb}
use Rattle.std.proofs.lemmas.List.{drop-drop}
use Rattle.jvm_definition.specs.declared.kind.Kind.{Kind}
use Rattle.jvm_definition.specs.declared.kind.Kind.TheVariants.{Top, Int, Long, Null, Ints, Pages, Text}
use Rattle.jvm_definition.specs.Typing.{is_long_kind, slots_of, no_top}
use Rattle.jvm_type_inference.specs.Joins.{is_top}
use Rattle.jvm_type_inference.specs.Working.{tops_of}

size-most : (k : Kind) → (if is_long_kind k then 2 else 1) ≤ 2
size-most k = by-test (is_long_kind k)
  where
    by-test : (b : Bool) → (if b then 2 else 1) ≤ 2
    by-test true = omega arith
    by-test false = omega arith

pub slots-most : (ks : List Kind) → slots_of ks ≤ 2 * length ks
slots-most [] = omega arith
slots-most (k ∷ ks) = omega (arith, slots-most ks, size-most k)

one-most : (k : Kind) → (if is_top k then 1 else 0) ≤ 1
one-most k = by-test (is_top k)
  where
    by-test : (b : Bool) → (if b then 1 else 0) ≤ 1
    by-test true = omega arith
    by-test false = omega arith

pub tops-most : (ks : List Kind) → tops_of ks ≤ length ks
tops-most [] = omega arith
tops-most (k ∷ ks) = omega (arith, tops-most ks, one-most k)

none-more : (ks : List Kind) (b : Bool) → nat_eq (tops_of ks) 0 ≡ b → nat_eq (0 + tops_of ks) 0 ≡ b
none-more ks b h = ap (λ n. nat_eq n 0) (zero-plus (tops_of ks)) ∙ h
  where
    zero-plus : (n : ℕ) → 0 + n ≡ n
    zero-plus n = omega arith

pub no_tops : (ks : List Kind) → nat_eq (tops_of ks) 0 ≡ no_top ks
no_tops [] = refl
no_tops (Top ∷ ks) = ne_eqb (1 + tops_of ks) 0 (λ e. omega (arith, e))
no_tops (Int ∷ ks) = none-more ks (no_top ks) (no_tops ks)
no_tops (Long ∷ ks) = none-more ks (no_top ks) (no_tops ks)
no_tops (Null ∷ ks) = none-more ks (no_top ks) (no_tops ks)
no_tops (Ints ∷ ks) = none-more ks (no_top ks) (no_tops ks)
no_tops (Pages ∷ ks) = none-more ks (no_top ks) (no_tops ks)
no_tops (Text ∷ ks) = none-more ks (no_top ks) (no_tops ks)

pub drop_next : (n : ℕ) (xs ys : List Kind) (x : Kind) → drop n xs ≡ x ∷ ys → drop (n + 1) xs ≡ ys
drop_next n xs ys x e = sym (drop-drop 1 n xs) ∙ ap (drop 1) e
