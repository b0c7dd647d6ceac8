-- The instructions that move operands: what they do to types they do to values of these types.
use Rattle.std.proofs.Common.{◌≡◌, ℕ, zero, suc, ◌&&◌, Bool, true, false, not, if◌then◌else◌, List, [], ◌∷◌, ◌++◌, length, drop, Option, Some, None, slice_get, refl, sym, ap, subst, ◌∙◌, true≢false}
use Rattle.jvm_definition.specs.declared.kind.Kind.{Kind}
use Rattle.jvm_definition.specs.Values.{Heap, is_long_value}
use Rattle.jvm_definition.specs.declared.value.Value.{Value}
use Rattle.jvm_definition.specs.Shuffles.{Shuffle, fits_longs, item_before, picked, shuffled}
use Rattle.jvm_definition.specs.Typing.{is_long_kind, no_top}
use Rattle.jvm_definition_laws.specs.Safety.{Conform}
use Rattle.jvm_definition_laws.proofs.KindLaws.{some_same, Conform-append, Conform-drop, no_top-parts, long_agrees}

longs_agree : (heap : Heap) (longs : List Bool) (kinds : List Kind) (values : List Value) → no_top kinds ≡ true → Conform heap kinds values → fits_longs is_long_value longs values ≡ fits_longs is_long_kind longs kinds
longs_agree heap [] kinds values h c = refl
longs_agree heap (l ∷ longs) [] [] h c = refl
longs_agree heap (l ∷ longs) [] (v ∷ values) h c = absurd c
longs_agree heap (l ∷ longs) (k ∷ kinds) [] h c = absurd c
longs_agree heap (l ∷ longs) (k ∷ kinds) (v ∷ values) h c =
    let parts = no_top-parts k kinds h in
    ap (λ b. (if l then b else not b) && fits_longs is_long_value longs values) (long_agrees heap k v parts.0 c.0)
    ∙ ap (λ b. (if l then is_long_kind k else not (is_long_kind k)) && b) (longs_agree heap longs kinds values parts.1 c.1)

item_conforms : (heap : Heap) (k : ℕ) (kinds others : List Kind) (values rest : List Value) → Conform heap kinds values → Conform heap others rest → Conform heap (item_before (slice_get kinds k) others) (item_before (slice_get values k) rest)
item_conforms heap k [] others [] rest c d = d
item_conforms heap k [] others (v ∷ values) rest c d = absurd c
item_conforms heap k (kind ∷ kinds) others [] rest c d = absurd c
item_conforms heap zero (kind ∷ kinds) others (v ∷ values) rest c d = (c.0, d)
item_conforms heap (suc k) (kind ∷ kinds) others (v ∷ values) rest c d = item_conforms heap k kinds others values rest c.1 d

picked_conform : (heap : Heap) (ks : List ℕ) (kinds : List Kind) (values : List Value) → Conform heap kinds values → Conform heap (picked ks kinds) (picked ks values)
picked_conform heap [] kinds values c = tt
picked_conform heap (k ∷ ks) kinds values c =
    item_conforms heap k kinds (picked ks kinds) values (picked ks values) c (picked_conform heap ks kinds values c)

-- where there are types, there are values of them
abbrev pub AsTypes : Heap → Option (List Value) → Option (List Kind) → Type 0
AsTypes heap values kinds = (given : List Kind) → kinds ≡ Some given → (found : List Value) × (values ≡ Some found) × Conform heap given found

chosen : (heap : Heap) (a b : Bool) (x y : Option (List Value)) (k l : Option (List Kind)) → a ≡ b → AsTypes heap x k → AsTypes heap y l → AsTypes heap (if a then x else y) (if b then k else l)
chosen heap true true x y k l e h g = h
chosen heap true false x y k l e h g = absurd (true≢false e)
chosen heap false true x y k l e h g = absurd (true≢false (sym e))
chosen heap false false x y k l e h g = g

no_types : (heap : Heap) (values : Option (List Value)) → AsTypes heap values None
no_types heap values given e = cc

pub shuffled_conform : (heap : Heap) (forms : List Shuffle) (kinds : List Kind) (values : List Value) → no_top kinds ≡ true → Conform heap kinds values → AsTypes heap (shuffled is_long_value forms values) (shuffled is_long_kind forms kinds)
shuffled_conform heap [] kinds values h c = no_types heap None
shuffled_conform heap (f ∷ forms) kinds values h c =
    let moved = picked f.given values ++ drop (length f.longs) values in
    let types = picked f.given kinds ++ drop (length f.longs) kinds in
    let all : Conform heap types moved = Conform-append heap (picked f.given kinds) (drop (length f.longs) kinds) (picked f.given values) (drop (length f.longs) values) (picked_conform heap f.given kinds values c) (Conform-drop heap (length f.longs) kinds values c) in
    chosen heap (fits_longs is_long_value f.longs values) (fits_longs is_long_kind f.longs kinds) (Some moved) (shuffled is_long_value forms values) (Some types) (shuffled is_long_kind forms kinds)
    (longs_agree heap f.longs kinds values h c)
    (λ given e. (moved, refl, subst (λ s. Conform heap s moved) (some_same types given e) all))
    (shuffled_conform heap forms kinds values h c)
