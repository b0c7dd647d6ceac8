-- Values along types, and along heaps that grow.
use Rattle.std.proofs.Common.{◌≡◌, ◌≢◌, ℕ, zero, suc, ◌+◌, ◌≤◌, ◌&&◌, Bool, true, false, if◌then◌else◌, List, [], ◌∷◌, ◌++◌, drop, Option, Some, None, slice_index_or, refl, sym, ap, subst, ◌∙◌, true≢false, arith}
use Rattle.jvm_definition.specs.declared.kind.Kind.{Kind}
use Rattle.jvm_definition.specs.declared.kind.Kind.TheVariants.{Top, Int, Long, Null, Ints, Pages, Text}
use Rattle.jvm_definition.specs.Values.{Heap, is_long_value, is_null, is_ints_reference, is_pages_reference, is_text_reference, conforms}
use Rattle.jvm_definition.specs.declared.value.Value.{Value}
use Rattle.jvm_definition.specs.declared.value.Value.TheVariants.{Unset as unset, Long as long, Null as null}
use Rattle.jvm_definition.specs.Typing.{below, stack_below, is_long_kind, no_top, slots_of, taken}
use Rattle.jvm_definition_laws.specs.Safety.{Conform, slots_in}

-- ---- along types

null_is_ints : (heap : Heap) (v : Value) → is_null v ≡ true → is_ints_reference heap v ≡ true
null_is_ints heap null e = refl
null_is_ints heap _ e = cc

null_is_pages : (heap : Heap) (v : Value) → is_null v ≡ true → is_pages_reference heap v ≡ true
null_is_pages heap null e = refl
null_is_pages heap _ e = cc

null_is_text : (v : Value) → is_null v ≡ true → is_text_reference v ≡ true
null_is_text null e = refl
null_is_text _ e = cc

-- a value of a type is of each type above it
pub conforms_above : (heap : Heap) (k l : Kind) (v : Value) → below k l ≡ true → conforms heap k v ≡ true → conforms heap l v ≡ true
conforms_above heap k Top v h c = refl
conforms_above heap Int Int v h c = c
conforms_above heap Long Long v h c = c
conforms_above heap Null Null v h c = c
conforms_above heap Ints Ints v h c = c
conforms_above heap Pages Pages v h c = c
conforms_above heap Text Text v h c = c
conforms_above heap Null Ints v h c = null_is_ints heap v c
conforms_above heap Null Pages v h c = null_is_pages heap v c
conforms_above heap Null Text v h c = null_is_text v c
conforms_above heap _ _ v h c = absurd (true≢false (sym h))

-- ---- tests

pub and_parts : (a b : Bool) → (a && b) ≡ true → (a ≡ true) × (b ≡ true)
and_parts true b h = (refl, h)
and_parts false b h = absurd (true≢false (sym h))

-- an option that is there only where a test holds
pub tested : {A : Type 0} (b : Bool) (x : Option A) (y : A) → (if b then x else None) ≡ Some y → (b ≡ true) × (x ≡ Some y)
tested true x y e = (refl, e)
tested false x y e = cc

pub some_same : {A : Type 0} (x y : A) → Some x ≡ Some y → x ≡ y
some_same x y e = cc

-- ---- lists of values

pub Conform-above : (heap : Heap) (kinds others : List Kind) (values : List Value) → stack_below kinds others ≡ true → Conform heap kinds values → Conform heap others values
Conform-above heap [] [] values h c = c
Conform-above heap [] (o ∷ others) values h c = absurd (true≢false (sym h))
Conform-above heap (k ∷ kinds) [] values h c = absurd (true≢false (sym h))
Conform-above heap (k ∷ kinds) (o ∷ others) [] h c = c
Conform-above heap (k ∷ kinds) (o ∷ others) (v ∷ values) h c =
    let parts = and_parts (below k o) (stack_below kinds others) h in
    (conforms_above heap k o v parts.0 c.0, Conform-above heap kinds others values parts.1 c.1)

-- operands below which others lie
pub Conform-taken : (heap : Heap) (kinds stack rest : List Kind) (values : List Value) → taken kinds stack ≡ Some rest → Conform heap stack values → Conform heap (kinds ++ rest) values
Conform-taken heap [] stack rest values e c = subst (λ s. Conform heap s values) (some_same stack rest e) c
Conform-taken heap (k ∷ kinds) [] rest values e c = cc
Conform-taken heap (k ∷ kinds) (s ∷ stack) rest [] e c = c
Conform-taken heap (k ∷ kinds) (s ∷ stack) rest (v ∷ values) e c =
    let parts = tested (below s k) (taken kinds stack) rest e in
    (conforms_above heap s k v parts.0 c.0, Conform-taken heap kinds stack rest values parts.1 c.1)

pub Conform-append : (heap : Heap) (kinds others : List Kind) (values rest : List Value) → Conform heap kinds values → Conform heap others rest → Conform heap (kinds ++ others) (values ++ rest)
Conform-append heap [] others [] rest c d = d
Conform-append heap [] others (v ∷ values) rest c d = absurd c
Conform-append heap (k ∷ kinds) others [] rest c d = absurd c
Conform-append heap (k ∷ kinds) others (v ∷ values) rest c d =
    (c.0, Conform-append heap kinds others values rest c.1 d)

pub Conform-drop : (heap : Heap) (n : ℕ) (kinds : List Kind) (values : List Value) → Conform heap kinds values → Conform heap (drop n kinds) (drop n values)
Conform-drop heap zero kinds values c = c
Conform-drop heap (suc n) [] [] c = c
Conform-drop heap (suc n) [] (v ∷ values) c = absurd c
Conform-drop heap (suc n) (k ∷ kinds) [] c = absurd c
Conform-drop heap (suc n) (k ∷ kinds) (v ∷ values) c = Conform-drop heap n kinds values c.1

-- the parameters in the first local variables
pub Conform-entry : (heap : Heap) (kinds : List Kind) (values : List Value) (i : ℕ) → Conform heap kinds values → conforms heap (slice_index_or kinds i Top) (slice_index_or values i unset) ≡ true
Conform-entry heap [] [] i c = refl
Conform-entry heap [] (v ∷ values) i c = absurd c
Conform-entry heap (k ∷ kinds) [] i c = absurd c
Conform-entry heap (k ∷ kinds) (v ∷ values) zero c = c.0
Conform-entry heap (k ∷ kinds) (v ∷ values) (suc i) c = Conform-entry heap kinds values i c.1

-- ---- longs, of which each counts as two operands

pub no_top-parts : (k : Kind) (kinds : List Kind) → no_top (k ∷ kinds) ≡ true → (k ≢ Top) × (no_top kinds ≡ true)
no_top-parts Top kinds h = absurd (true≢false (sym h))
no_top-parts _ kinds h = ((λ e. cc), h)

pub long_agrees : (heap : Heap) (k : Kind) (v : Value) → k ≢ Top → conforms heap k v ≡ true → is_long_value v ≡ is_long_kind k
long_agrees heap Top v h c = absurd (h refl)
long_agrees heap Int (long n) h c = cc
long_agrees heap Null (long n) h c = cc
long_agrees heap Ints (long n) h c = cc
long_agrees heap Pages (long n) h c = cc
long_agrees heap Text (long n) h c = cc
long_agrees heap Long v h c = c
long_agrees heap _ _ h c = refl

pub slots_agree : (heap : Heap) (kinds : List Kind) (values : List Value) → no_top kinds ≡ true → Conform heap kinds values → slots_in values ≡ slots_of kinds
slots_agree heap [] [] h c = refl
slots_agree heap [] (v ∷ values) h c = absurd c
slots_agree heap (k ∷ kinds) [] h c = absurd c
slots_agree heap (k ∷ kinds) (v ∷ values) h c =
    let parts = no_top-parts k kinds h in
    ap (λ b. (if b then 2 else 1) + slots_in values) (long_agrees heap k v parts.0 c.0)
    ∙ ap (λ n. (if is_long_kind k then 2 else 1) + n) (slots_agree heap kinds values parts.1 c.1)

-- types above others take no more room, and values of types no more than these
slot_above : (k l : Kind) → below k l ≡ true → (if is_long_kind l then 2 else 1) ≤ (if is_long_kind k then 2 else 1)
slot_above Long Long h = omega arith
slot_above Top Long h = cc
slot_above Int Long h = cc
slot_above Null Long h = cc
slot_above Ints Long h = cc
slot_above Pages Long h = cc
slot_above Text Long h = cc
slot_above Long Top h = omega arith
slot_above _ _ h = omega arith

pub slots_above : (kinds others : List Kind) → stack_below kinds others ≡ true → slots_of others ≤ slots_of kinds
slots_above [] [] h = omega arith
slots_above [] (o ∷ others) h = absurd (true≢false (sym h))
slots_above (k ∷ kinds) [] h = absurd (true≢false (sym h))
slots_above (k ∷ kinds) (o ∷ others) h =
    let parts = and_parts (below k o) (stack_below kinds others) h in
    omega (arith, slot_above k o parts.0, slots_above kinds others parts.1)
