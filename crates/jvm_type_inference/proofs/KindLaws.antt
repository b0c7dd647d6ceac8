-- Laws of types, by trying all of them.
use Rattle.std.proofs.Common.{◌≡◌, ◌<◌, ◌≤◌, Bool, true, false, not, refl, ltb, leb}
use Rattle.std.proofs.lemmas.Bool.{false≢true, true≢false, ltb-true, leb-true}
use Rattle.std.specs.Bool.{beq}
use Rattle.jvm_definition.specs.declared.kind.Kind.{Kind}
use Rattle.jvm_definition.specs.declared.kind.Kind.TheVariants.{Top, Int, Long, Null, Ints, Pages, Text}
use Rattle.jvm_definition.specs.declared.local_kind.LocalKind.{LocalKind}
use Rattle.jvm_definition.specs.declared.local_kind.LocalKind.TheVariants as local_kinds
use Rattle.jvm_definition.specs.Typing.{below, is_long_kind, is_reference_kind, is_array_kind, moves_kind, same_kind}
use Rattle.jvm_definition_laws.proofs.KindTrials.{each, each-at, when, when-at}
use Rattle.jvm_type_inference.specs.Joins.{joined, is_top, rank}

each-at2 : (p : Kind → Kind → Bool) → each (λ a. each (λ b. p a b)) ≡ true → (a b : Kind) → p a b ≡ true
each-at2 p h a b = each-at (λ b. p a b) (each-at (λ a. each (λ b. p a b)) h a) b

each-at3 : (p : Kind → Kind → Kind → Bool) → each (λ a. each (λ b. each (λ c. p a b c))) ≡ true → (a b c : Kind) → p a b c ≡ true
each-at3 p h a b c = each-at (λ c. p a b c) (each-at2 (λ a b. each (λ c. p a b c)) h a b) c

when-not : (a b : Bool) → when (not a) b ≡ true → a ≡ false → b ≡ true
when-not true b h e = absurd (true≢false e)
when-not false b h e = h

when-no : (a b : Bool) → when a (not b) ≡ true → a ≡ true → b ≡ false
when-no true true h e = absurd (false≢true h)
when-no true false h e = refl
when-no false b h e = absurd (false≢true e)

not-when : (a b : Bool) → when (not a) (not b) ≡ true → a ≡ false → b ≡ false
not-when true b h e = absurd (true≢false e)
not-when false true h e = absurd (false≢true h)
not-when false false h e = refl

same-at : (a b : Bool) → beq a b ≡ true → a ≡ b
same-at true true h = refl
same-at true false h = absurd (false≢true h)
same-at false true h = absurd (false≢true h)
same-at false false h = refl

-- ---- the order

pub below-refl : (a : Kind) → below a a ≡ true
below-refl a = each-at (λ a. below a a) refl a

pub below-trans : (a b c : Kind) → below a b ≡ true → below b c ≡ true → below a c ≡ true
below-trans a b c h k =
    when-at (below b c) (below a c) (when-at (below a b) (when (below b c) (below a c)) (each-at3 (λ a b c. when (below a b) (when (below b c) (below a c))) refl a b c) h) k

pub below-top : (a : Kind) → below a Top ≡ true
below-top a = each-at (λ a. below a Top) refl a

pub joined-left : (a b : Kind) → below a (joined a b) ≡ true
joined-left a b = each-at2 (λ a b. below a (joined a b)) refl a b

pub joined-right : (a b : Kind) → below b (joined a b) ≡ true
joined-right a b = each-at2 (λ a b. below b (joined a b)) refl a b

pub joined-least : (a b c : Kind) → below a c ≡ true → below b c ≡ true → below (joined a b) c ≡ true
joined-least a b c h k =
    when-at (below b c) (below (joined a b) c) (when-at (below a c) (when (below b c) (below (joined a b) c)) (each-at3 (λ a b c. when (below a c) (when (below b c) (below (joined a b) c))) refl a b c) h) k

-- what is above Top is Top
pub top-below : (a b : Kind) → below a b ≡ true → is_top b ≡ false → is_top a ≡ false
top-below a b h k =
    not-when (is_top b) (is_top a) (when-at (below a b) (when (not (is_top b)) (not (is_top a))) (each-at2 (λ a b. when (below a b) (when (not (is_top b)) (not (is_top a)))) refl a b) h) k

-- ---- ranks

pub rank-joined : (a b : Kind) → rank (joined a b) ≤ rank a
rank-joined a b = leb-true (rank (joined a b)) (rank a) (each-at2 (λ a b. leb (rank (joined a b)) (rank a)) refl a b)

pub rank-falls : (a b : Kind) → below b a ≡ false → rank (joined a b) < rank a
rank-falls a b h =
    ltb-true (rank (joined a b)) (rank a) (when-not (below b a) (ltb (rank (joined a b)) (rank a)) (each-at2 (λ a b. when (not (below b a)) (ltb (rank (joined a b)) (rank a))) refl a b) h)

pub top-left : (a : Kind) → joined Top a ≡ Top
top-left a = elim a as (λ a. joined Top a ≡ Top) [ Top ↦ refl | Int ↦ refl | Long ↦ refl | Null ↦ refl | Ints ↦ refl | Pages ↦ refl | Text ↦ refl ]

pub top-right : (a : Kind) → joined a Top ≡ Top
top-right a = elim a as (λ a. joined a Top ≡ Top) [ Top ↦ refl | Int ↦ refl | Long ↦ refl | Null ↦ refl | Ints ↦ refl | Pages ↦ refl | Text ↦ refl ]

pub rank-above : (a : Kind) → below Top a ≡ false → 0 < rank a
rank-above a h = ltb-true 0 (rank a) (when-not (below Top a) (ltb 0 (rank a)) (each-at (λ a. when (not (below Top a)) (ltb 0 (rank a))) refl a) h)

pub rank-two : (a : Kind) → rank a ≤ 2
rank-two a = leb-true (rank a) 2 (each-at (λ a. leb (rank a) 2) refl a)

-- ---- tests that go down

pub long-below : (a b : Kind) → below a b ≡ true → is_top b ≡ false → is_long_kind a ≡ is_long_kind b
long-below a b h k =
    same-at (is_long_kind a) (is_long_kind b) (when-not (is_top b) (beq (is_long_kind a) (is_long_kind b)) (when-at (below a b) (when (not (is_top b)) (beq (is_long_kind a) (is_long_kind b))) (each-at2 (λ a b. when (below a b) (when (not (is_top b)) (beq (is_long_kind a) (is_long_kind b)))) refl a b) h) k)

abbrev pub GoesDown : (Kind → Bool) → Type 0
GoesDown test = (a b : Kind) → below a b ≡ true → test b ≡ true → test a ≡ true

goes-down : (test : Kind → Bool) → each (λ a. each (λ b. when (below a b) (when (test b) (test a)))) ≡ true → GoesDown test
goes-down test h a b k t = when-at (test b) (test a) (when-at (below a b) (when (test b) (test a)) (each-at2 (λ a b. when (below a b) (when (test b) (test a))) h a b) k) t

pub reference-below : GoesDown is_reference_kind
reference-below = goes-down is_reference_kind refl

pub array-below : GoesDown is_array_kind
array-below = goes-down is_array_kind refl

pub moves-below : (moved : LocalKind) → GoesDown (moves_kind moved)
moves-below local_kinds.Int = goes-down (moves_kind local_kinds.Int) refl
moves-below local_kinds.Reference = goes-down (moves_kind local_kinds.Reference) refl

pub int-below : GoesDown (λ k. same_kind k Int)
int-below = goes-down (λ k. same_kind k Int) refl

-- what is moved is no long
pub moved-long : (moved : LocalKind) (a : Kind) → moves_kind moved a ≡ true → is_long_kind a ≡ false
moved-long local_kinds.Int a h = when-no (moves_kind local_kinds.Int a) (is_long_kind a) (each-at (λ a. when (moves_kind local_kinds.Int a) (not (is_long_kind a))) refl a) h
moved-long local_kinds.Reference a h = when-no (moves_kind local_kinds.Reference a) (is_long_kind a) (each-at (λ a. when (moves_kind local_kinds.Reference a) (not (is_long_kind a))) refl a) h
