-- Classes with their tables are determined, and so is why classes get none.
use Rattle.std.proofs.Common.{◌≡◌, ℕ, zero, suc, ◌<◌, ◌≤◌, Bool, true, false, ltb, List, [], ◌∷◌, length, map, get_or, drop, Some, refl, sym, ap, subst, ◌∙◌, arith}
use Rattle.std.specs.Prelude.{slice_get, All}
use Rattle.std.proofs.lemmas.Bool.{ltb-true, ltb-false}
use Rattle.std.proofs.lemmas.Option.{same_Some, none-some, slice_get-get_or, slice_get_within}
use Rattle.class_definition.specs.declared.class.Class.{Class}
use Rattle.class_definition.specs.declared.framed_class.FramedClass.{FramedClass}
use Rattle.frame_maps.specs.declared.frame_error.FrameError.{FrameError}
use Rattle.frame_maps.specs.declared.frame_error.FrameError.TheVariants.{Refused, TooLarge, NoMemory}
use Rattle.stackmap_pool.specs.Longer.{framed_pool}
use Rattle.stackmap_laws.specs.Framed.{AreFramedFrom, AreTables}
use Rattle.stackmap_laws.proofs.DeterminedLaws.{framed-same, all-tables-same}
use Rattle.stackmap_maker.specs.Full.{IsFull}
use Rattle.stackmap_maker.specs.Refusals.{class_without_tables, tables_of, AreWithTables, IsTooLarge, IsFramesRefusal}
use Rattle.stackmap_maker.specs.Sizes.{file_size, most, IsFirstLarge}

-- ---- classes with their tables

parts-same : (first second : List FramedClass) → map class_without_tables first ≡ map class_without_tables second → map tables_of first ≡ map tables_of second → first ≡ second
parts-same [] [] c t = refl
parts-same [] (s ∷ second) c t = absurd (omega (arith, ap length c))
parts-same (f ∷ first) [] c t = absurd (omega (arith, ap length c))
parts-same (f ∷ first) (s ∷ second) c t =
    let class : f.class ≡ s.class = ap (λ xs. get_or xs 0 f.class) c in
    let tables : f.tables ≡ s.tables = ap (λ xs. get_or xs 0 f.tables) t in
    let others = parts-same first second (ap (λ xs. drop 1 xs) c) (ap (λ xs. drop 1 xs) t) in
    λ i. record { class = class i; tables = tables i } ∷ others i

pub with-tables-same : (cs : List Class) (first second : List FramedClass) → AreWithTables cs first → AreWithTables cs second → first ≡ second
with-tables-same cs first second a b =
    let classes : map class_without_tables first ≡ map class_without_tables second = framed-same cs (map class_without_tables first) (map class_without_tables second) a.are b.are in
    parts-same first second classes
    (all-tables-same cs (map class_without_tables first) (map tables_of first) (map tables_of second) a.tabled
    (subst (λ ds. AreTables cs ds (map tables_of second)) (sym classes) b.tabled))

-- ---- why there are none

-- of two numbers neither is before the other
pub neither : (n m : ℕ) → (n < m → ⊥) → (m < n → ⊥) → n ≡ m
neither n m a b = by-tests (ltb n m) refl (ltb m n) refl
  where
    by-tests : (t : Bool) → ltb n m ≡ t → (u : Bool) → ltb m n ≡ u → n ≡ m
    by-tests true e u h = absurd (a (ltb-true n m e))
    by-tests false e true h = absurd (b (ltb-true m n h))
    by-tests false e false h = omega (arith, ltb-false n m e, ltb-false m n h)

full-same : (cs : List Class) (n m : ℕ) → IsFull cs n → IsFull cs m → n ≡ m
full-same cs n m a b =
    neither n m
    (λ less. let few = b.earlier n a.of less a.of_is in omega (arith, few, a.full))
    (λ less. let few = a.earlier m b.of less b.of_is in omega (arith, few, b.full))

record IsSameLarge (c n d m : ℕ) : Type 0 where
  class : c ≡ d
  bytes : n ≡ m

large-same : (framed : List FramedClass) (c n d m : ℕ) → IsFirstLarge framed c n → IsFirstLarge framed d m → IsSameLarge c n d m
large-same framed c n d m a b =
    let class : c ≡ d = neither c d
    (λ less. let few = b.earlier c a.of less a.of_is in omega (arith, few, a.size, a.more))
    (λ less. let few = a.earlier d b.of less b.of_is in omega (arith, few, b.size, b.more)) in
    let of : a.of ≡ b.of = same_Some a.of b.of (sym a.of_is ∙ (ap (slice_get framed) class ∙ b.of_is)) in
    record { class = class; bytes = a.size ∙ (ap file_size of ∙ sym b.size) }

too-large-same : (cs : List Class) (c n d m : ℕ) → IsTooLarge cs c n → IsTooLarge cs d m → IsSameLarge c n d m
too-large-same cs c n d m a b =
    let same = with-tables-same cs a.framed b.framed a.are b.are in
    large-same b.framed c n d m (subst (λ framed. IsFirstLarge framed c n) same a.large) b.large

-- where classes are framed each pool has room
room-from : (cs : List Class) (number : ℕ) (xs ys : List Class) (k : ℕ) (x : Class) → AreFramedFrom cs number xs ys → slice_get xs k ≡ Some x → length (framed_pool x.pool) ≤ 65534
room-from cs number [] ys k x f is = absurd (none-some x is)
room-from cs number (c ∷ xs) [] k x f is = absurd f
room-from cs number (c ∷ xs) (y ∷ ys) zero x f is = omega (arith, ap length f.0.pool, f.0.few, ap (λ z. length (framed_pool z.pool)) (same_Some c x is))
room-from cs number (c ∷ xs) (y ∷ ys) (suc k) x f is = room-from cs (suc number) xs ys k x f.1 is

not-full : (cs : List Class) (framed : List FramedClass) (n : ℕ) → AreWithTables cs framed → IsFull cs n → ⊥
not-full cs framed n w f = let room = room-from cs 0 cs (map class_without_tables framed) n f.of w.are f.of_is in omega (arith, room, f.full)

not-large : (cs : List Class) (framed : List FramedClass) (c n : ℕ) → AreWithTables cs framed → All (λ f. file_size f ≤ most) framed → IsTooLarge cs c n → ⊥
not-large cs framed c n w small t =
    let same = with-tables-same cs t.framed framed t.are w in
    let large = subst (λ fs. IsFirstLarge fs c n) same t.large in
    let within = slice_get_within framed c large.of large.of_is in
    let of : get_or framed c large.of ≡ large.of = same_Some (get_or framed c large.of) large.of (sym (slice_get-get_or framed c large.of within) ∙ large.of_is) in
    let fits : file_size (get_or framed c large.of) ≤ most = small c large.of within in
    omega (arith, fits, ap file_size of, large.size, large.more)

pub refusals-same : (cs : List Class) (first second : FrameError) → IsFramesRefusal cs first → IsFramesRefusal cs second → (first ≡ NoMemory → ⊥) → (second ≡ NoMemory → ⊥) → first ≡ second
refusals-same cs NoMemory second a b one two = absurd (one refl)
refusals-same cs first NoMemory a b one two = absurd (two refl)
refusals-same cs (Refused f) (Refused g) a b one two =
    let class : f.class ≡ g.class = full-same cs f.class g.class a.2 b.2 in
    let method : f.method ≡ g.method = a.1 ∙ sym b.1 in
    let kind : f.kind ≡ g.kind = a.0 ∙ sym b.0 in
    λ i. Refused (record { class = class i; method = method i; kind = kind i })
refusals-same cs (Refused f) (TooLarge c n) a b one two = absurd (not-full cs b.framed f.class b.are a.2)
refusals-same cs (TooLarge c n) (Refused f) a b one two = absurd (not-full cs a.framed f.class a.are b.2)
refusals-same cs (TooLarge c n) (TooLarge d m) a b one two =
    let same = too-large-same cs c n d m a b in
    λ i. TooLarge (same.class i) (same.bytes i)

-- classes that have their tables are refused for want of memory alone
pub made-or-refused : (cs : List Class) (framed : List FramedClass) (error : FrameError) → AreWithTables cs framed → All (λ f. file_size f ≤ most) framed → IsFramesRefusal cs error → error ≡ NoMemory
made-or-refused cs framed (Refused f) w small r = absurd (not-full cs framed f.class w r.2)
made-or-refused cs framed (TooLarge c n) w small r = absurd (not-large cs framed c n w small r)
made-or-refused cs framed NoMemory w small r = refl
