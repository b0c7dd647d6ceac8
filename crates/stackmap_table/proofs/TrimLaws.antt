-- Local variables without those at the end of which nothing is known.
use Rattle.std.proofs.Common.{◌≡◌, suc, ◌≤◌, true, List, [], ◌∷◌, ◌++◌, length, refl, ap, ◌∙◌, arith}
use Rattle.std.proofs.lemmas.Bool.{false≢true}
use Rattle.jvm_definition.specs.declared.kind.Kind.{Kind}
use Rattle.jvm_definition.specs.declared.kind.Kind.TheVariants as kinds
use Rattle.stackmap_table.specs.Shortest.{before_others, trimmed_locals, has_no_long}

-- one at the end
pub trim-top : (ks : List Kind) → trimmed_locals (ks ++ kinds.Top ∷ []) ≡ trimmed_locals ks
trim-top [] = refl
trim-top (k ∷ ks) = ap (before_others k) (trim-top ks)

-- behind one of which something is known none is left out
before-some : (k : Kind) (o : Kind) (others : List Kind) → before_others k (o ∷ others) ≡ k ∷ (o ∷ others)
before-some kinds.Top o others = refl
before-some kinds.Int o others = refl
before-some kinds.Long o others = refl
before-some kinds.Null o others = refl
before-some kinds.Ints o others = refl
before-some kinds.Pages o others = refl
before-some kinds.Text o others = refl

before-end : (k : Kind) (ks : List Kind) (last : Kind) → before_others k (ks ++ last ∷ []) ≡ k ∷ (ks ++ last ∷ [])
before-end k [] last = before-some k last []
before-end k (o ∷ ks) last = before-some k o (ks ++ last ∷ [])

abbrev pub IsTop : Kind → Type 0
IsTop k = k ≡ kinds.Top

known-alone : (k : Kind) → (k ≡ kinds.Top → ⊥) → before_others k [] ≡ k ∷ []
known-alone kinds.Top h = absurd (h refl)
known-alone kinds.Int h = refl
known-alone kinds.Long h = refl
known-alone kinds.Null h = refl
known-alone kinds.Ints h = refl
known-alone kinds.Pages h = refl
known-alone kinds.Text h = refl

pub trim-known : (ks : List Kind) (last : Kind) → (last ≡ kinds.Top → ⊥) → trimmed_locals (ks ++ last ∷ []) ≡ ks ++ last ∷ []
trim-known [] last h = known-alone last h
trim-known (k ∷ ks) last h = ap (before_others k) (trim-known ks last h) ∙ before-end k ks last

-- ---- what holds of those that are left

before-length : (k : Kind) (ks : List Kind) → length (before_others k ks) ≤ suc (length ks)
before-length k [] = by-kind k
  where
    by-kind : (o : Kind) → length (before_others o []) ≤ 1
    by-kind kinds.Top = omega arith
    by-kind kinds.Int = omega arith
    by-kind kinds.Long = omega arith
    by-kind kinds.Null = omega arith
    by-kind kinds.Ints = omega arith
    by-kind kinds.Pages = omega arith
    by-kind kinds.Text = omega arith
before-length k (o ∷ ks) = omega (arith, ap length (before-some k o ks))

pub trimmed-length : (ks : List Kind) → length (trimmed_locals ks) ≤ length ks
trimmed-length [] = omega arith
trimmed-length (k ∷ ks) = omega (arith, before-length k (trimmed_locals ks), trimmed-length ks)

before-short : (k : Kind) (ks others : List Kind) → has_no_long (k ∷ ks) ≡ true → (has_no_long ks ≡ true → has_no_long others ≡ true) → has_no_long (before_others k others) ≡ true
before-short kinds.Long ks others h f = absurd (false≢true h)
before-short kinds.Top ks [] h f = refl
before-short kinds.Top ks (o ∷ others) h f = f h
before-short kinds.Int ks others h f = f h
before-short kinds.Null ks others h f = f h
before-short kinds.Ints ks others h f = f h
before-short kinds.Pages ks others h f = f h
before-short kinds.Text ks others h f = f h

pub trimmed-short : (ks : List Kind) → has_no_long ks ≡ true → has_no_long (trimmed_locals ks) ≡ true
trimmed-short [] h = refl
trimmed-short (k ∷ ks) h = before-short k ks (trimmed_locals ks) h (trimmed-short ks)
