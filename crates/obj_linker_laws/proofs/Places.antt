-- Where the sections are placed.
use Rattle.std.proofs.Common.{◌≡◌, ℕ, suc, zero, ◌+◌, ◌<◌, ◌≤◌, Bool, true, false, cond, not, ◌&&◌, ◌||◌, nat_lt, List, [], ◌∷◌, ◌++◌, take, slice_get, slice_index, Some, refl, sym, ap, ◌∙◌, subst, inl, inr, ◌⊎◌, arith, append_assoc}
use Rattle.std.proofs.lemmas.Bool.{cases_Bool}
use Rattle.std.proofs.lemmas.Bool.Decides.{nat_tests}
use Rattle.std.proofs.lemmas.List.{append-nil, take-take}
use Rattle.std.proofs.lemmas.Option.{get_or_from_slice_get, slice_get_within}
use Rattle.obj_reader.specs.declared.section.Section.{Section}
use Rattle.obj_reader.specs.Sections.{has_bytes, has_zeros, is_code_object_section, is_placed, is_variable}
use Rattle.obj_linker.specs.declared.group.Group.{Group}
use Rattle.obj_linker.specs.declared.group.Group.TheVariants.{Code, Constants, Data, Zeros}
use Rattle.obj_linker.specs.Layout.{code_end, data_end, data_start, group_end, is_in, is_too_large, max_data, max_text, max_zeros, next_end, section_place, places_from, places_of, section_start, text_end, text_start, zeros_end}
use Rattle.obj_linker.proofs.LayoutLemmas.{end_more, end_within, le_group_end, le_rounded}
use Rattle.obj_linker_laws.proofs.Lists.{and_both, or_neither}

-- ---- the place of a section
from_behind : (all before later : List Section) (i : ℕ) (s : Section) → slice_get later i ≡ Some s
    → slice_index (places_from all before later) i ≡ section_place all (before ++ take i later) s
from_behind all before [] i s at = absurd (cc)
from_behind all before (x ∷ later) zero s at =
    let same : x ≡ s = cc in ap (section_place all before) same ∙ ap (λ l. section_place all l s) (sym (append-nil before))
from_behind all before (x ∷ later) (suc i) s at =
    from_behind all (before ++ x ∷ []) later i s at ∙ ap (λ l. section_place all l s) (append_assoc before (x ∷ []) (take i later))

pub place_at : (all : List Section) (i : ℕ) (s : Section) → slice_get all i ≡ Some s → slice_index (places_of all) i ≡ section_place all (take i all) s
unfolding places_of
place_at all i s at = from_behind all [] all i s at

-- where a group begins
abbrev pub group_start : List Section → Group → ℕ
group_start all Code = text_start
group_start all Constants = code_end all
group_start all Data = data_start
group_start all Zeros = data_end all

-- the place by the group
abbrev by_groups : Bool → Bool → Bool → Bool → ℕ → ℕ → ℕ → ℕ → ℕ
by_groups a b c d w x y z = cond a w (cond b x (cond c y (cond d z 0)))

first_group : (a b c d : Bool) (w x y z : ℕ) → a ≡ true → by_groups a b c d w x y z ≡ w
first_group true b c d w x y z h = refl
first_group false b c d w x y z h = absurd (cc)

second_group : (a b c d : Bool) (w x y z : ℕ) → a ≡ false → b ≡ true → by_groups a b c d w x y z ≡ x
second_group true b c d w x y z g h = absurd (cc)
second_group false true c d w x y z g h = refl
second_group false false c d w x y z g h = absurd (cc)

third_group : (a b c d : Bool) (w x y z : ℕ) → a ≡ false → b ≡ false → c ≡ true → by_groups a b c d w x y z ≡ y
third_group true b c d w x y z f g h = absurd (cc)
third_group false true c d w x y z f g h = absurd (cc)
third_group false false true d w x y z f g h = refl
third_group false false false d w x y z f g h = absurd (cc)

fourth_group : (a b c d : Bool) (w x y z : ℕ) → a ≡ false → b ≡ false → c ≡ false → d ≡ true → by_groups a b c d w x y z ≡ z
fourth_group true b c d w x y z e f g h = absurd (cc)
fourth_group false true c d w x y z e f g h = absurd (cc)
fourth_group false false true d w x y z e f g h = absurd (cc)
fourth_group false false false true w x y z e f g h = refl
fourth_group false false false false w x y z e f g h = absurd (cc)

not_true : (a : Bool) → not a ≡ true → a ≡ false
not_true true h = absurd (cc)
not_true false h = refl

-- a section of one group is in no other
no_code : (s : Section) (a b : Bool) → (is_placed s && not (is_code_object_section s) && a) ≡ true → is_in Code s ≡ false
no_code s a b h = not_true (is_code_object_section s) (and_both (is_placed s) (not (is_code_object_section s)) (and_both (is_placed s && not (is_code_object_section s)) a h).0).1

no_constant : (s : Section) (b : Bool) → (is_placed s && not (is_code_object_section s) && is_variable s && b) ≡ true → is_in Constants s ≡ false
no_constant s b h =
    let variable = (and_both (is_placed s && not (is_code_object_section s)) (is_variable s) (and_both (is_placed s && not (is_code_object_section s) && is_variable s) b h).0).1 in
    ap (λ t. is_placed s && not (is_code_object_section s) && not t) variable ∙ off (is_placed s && not (is_code_object_section s))
  where
    off : (t : Bool) → (t && false) ≡ false
    off true = refl
    off false = refl

only_zeros : (s : Section) → is_in Zeros s ≡ true → is_in Data s ≡ false
only_zeros s h =
    let zeros = (and_both (is_placed s && not (is_code_object_section s) && is_variable s) (has_zeros s) h).1 in
    let bytes : has_bytes s ≡ false = grind (arith, nat_tests) in
    ap (λ t. is_placed s && not (is_code_object_section s) && is_variable s && t) bytes ∙ off (is_placed s && not (is_code_object_section s) && is_variable s)
  where
    off : (t : Bool) → (t && false) ≡ false
    off true = refl
    off false = refl

regroup : (a b c d : Bool) → (a && b && c && d) ≡ true → (a && b && c) ≡ true
regroup a b c d h = (and_both (a && b && c) d h).0

pub place_in : (all before : List Section) (g : Group) (s : Section) → is_in g s ≡ true
    → section_place all before s ≡ section_start (group_end g (group_start all g) before) s
place_in all before Code s h =
    first_group (is_in Code s) (is_in Constants s) (is_in Data s) (is_in Zeros s) _ _ _ _ h
place_in all before Constants s h =
    second_group (is_in Code s) (is_in Constants s) (is_in Data s) (is_in Zeros s) _ _ _ _ (no_code s (not (is_variable s)) true h) h
place_in all before Data s h =
    third_group (is_in Code s) (is_in Constants s) (is_in Data s) (is_in Zeros s) _ _ _ _
    (no_code s (is_variable s) true (regroup (is_placed s) (not (is_code_object_section s)) (is_variable s) (has_bytes s) h)) (no_constant s (has_bytes s) h) h
place_in all before Zeros s h =
    fourth_group (is_in Code s) (is_in Constants s) (is_in Data s) (is_in Zeros s) _ _ _ _
    (no_code s (is_variable s) true (regroup (is_placed s) (not (is_code_object_section s)) (is_variable s) (has_zeros s) h)) (no_constant s (has_zeros s) h) (only_zeros s h) h

-- ---- the range of a section
-- the place of a section in a group
abbrev pub start_in : List Section → Group → ℕ → Section → ℕ
start_in all g i s = section_start (group_end g (group_start all g) (take i all)) s

pub place_is : (all : List Section) (g : Group) (i : ℕ) (s : Section) → slice_get all i ≡ Some s → is_in g s ≡ true
    → slice_index (places_of all) i ≡ start_in all g i s
place_is all g i s at h = place_at all i s at ∙ place_in all (take i all) g s h

-- it begins behind the group's start
pub begins_behind : (all : List Section) (g : Group) (i : ℕ) (s : Section) → group_start all g ≤ start_in all g i s
begins_behind all g i s =
    omega (arith, le_group_end g (group_start all g) (take i all), le_rounded s.sh_addralign (group_end g (group_start all g) (take i all)))

end_is : (all : List Section) (g : Group) (i : ℕ) (s : Section) → slice_get all i ≡ Some s → is_in g s ≡ true
    → start_in all g i s + s.sh_size ≡ group_end g (group_start all g) (take (i + 1) all)
end_is all g i s at h =
    let more = end_more g (group_start all g) all i s (slice_get_within all i s at) in
    let here = get_or_from_slice_get all i s s at in
    sym (more ∙ ap (next_end g (group_end g (group_start all g) (take i all))) here ∙ ap (λ t. cond t (start_in all g i s + s.sh_size) (group_end g (group_start all g) (take i all))) h)

-- it ends before the group's end
pub ends_before : (all : List Section) (g : Group) (i : ℕ) (s : Section) → slice_get all i ≡ Some s → is_in g s ≡ true
    → start_in all g i s + s.sh_size ≤ group_end g (group_start all g) all
ends_before all g i s at h = omega (arith, end_is all g i s at h, end_within g (group_start all g) all (i + 1))

-- a later section of a group begins behind the earlier ones
pub later_behind : (all : List Section) (g : Group) (i j : ℕ) (s t : Section) → i < j → slice_get all i ≡ Some s → is_in g s ≡ true
    → start_in all g i s + s.sh_size ≤ start_in all g j t
later_behind all g i j s t lt at h =
    omega (
      arith,
      end_is all g i s at h,
      rising (i + 1) j (omega (arith, lt)),
      le_rounded t.sh_addralign (group_end g (group_start all g) (take j all)),
    )
  where
    rising : (n m : ℕ) → n ≤ m → group_end g (group_start all g) (take n all) ≤ group_end g (group_start all g) (take m all)
    rising n m le =
        subst (λ (l : List Section). group_end g (group_start all g) l ≤ group_end g (group_start all g) (take m all)) (take-take n m all le) (end_within g (group_start all g) (take m all) n)

-- ---- what is not too large
pub within_limits : (all : List Section) → is_too_large all ≡ false → (text_end all ≤ max_text) × (data_end all ≤ max_data) × (zeros_end all ≤ max_zeros)
unfolding is_too_large
within_limits all h =
    let a = or_neither (nat_lt max_text (text_end all) || nat_lt max_data (data_end all)) (nat_lt max_zeros (zeros_end all)) h in
    let b = or_neither (nat_lt max_text (text_end all)) (nat_lt max_data (data_end all)) a.0 in
    (within max_text (text_end all) b.0, within max_data (data_end all) b.1, within max_zeros (zeros_end all) a.1)
  where
    within : (limit n : ℕ) → nat_lt limit n ≡ false → n ≤ limit
    within limit n g = grind (arith, nat_tests)

-- the groups end one behind the other
pub in_order : (all : List Section) → (text_start ≤ code_end all) × (code_end all ≤ text_end all) × (data_start ≤ data_end all) × (data_end all ≤ zeros_end all)
unfolding code_end text_end data_end zeros_end
in_order all = (
  le_group_end Code text_start all,
  le_group_end Constants (group_end Code text_start all) all,
  le_group_end Data data_start all,
  le_group_end Zeros (group_end Data data_start all) all,
)

pub ends_are : (all : List Section)
    → (group_end Code (group_start all Code) all ≡ code_end all) × (group_end Constants (group_start all Constants) all ≡ text_end all)
    × (group_end Data (group_start all Data) all ≡ data_end all) × (group_end Zeros (group_start all Zeros) all ≡ zeros_end all)
unfolding code_end text_end data_end zeros_end
ends_are all = (refl, refl, refl, refl)

-- ---- the group of a section
pub group_of : (s : Section) → is_placed s ≡ true → (g : Group) × (is_in g s ≡ true)
group_of s placed = by (cases_Bool (is_code_object_section s)) (cases_Bool (is_variable s)) (cases_Bool (has_bytes s))
  where
    zeros_else : (a b c : Bool) → (a && (b || c)) ≡ true → b ≡ false → c ≡ true
    zeros_else true true c h g = absurd (cc)
    zeros_else true false c h g = h
    zeros_else false b c h g = absurd (cc)

    three : (a b c : Bool) → a ≡ true → b ≡ false → c ≡ false → (a && not b && not c) ≡ true
    three true true c x y z = absurd (cc)
    three true false true x y z = absurd (cc)
    three true false false x y z = refl
    three false b c x y z = absurd (cc)

    four : (a b c d : Bool) → a ≡ true → b ≡ false → c ≡ true → d ≡ true → (a && not b && c && d) ≡ true
    four true true c d x y z w = absurd (cc)
    four true false true d x y z w = w
    four true false false d x y z w = absurd (cc)
    four false b c d x y z w = absurd (cc)

    by : (is_code_object_section s ≡ true) ⊎ (is_code_object_section s ≡ false) → (is_variable s ≡ true) ⊎ (is_variable s ≡ false) → (has_bytes s ≡ true) ⊎ (has_bytes s ≡ false)
        → (g : Group) × (is_in g s ≡ true)
    by (inl code) v b = (Code, code)
    by (inr code) (inr variable) b = (Constants, three (is_placed s) (is_code_object_section s) (is_variable s) placed code variable)
    by (inr code) (inl variable) (inl bytes) = (Data, four (is_placed s) (is_code_object_section s) (is_variable s) (has_bytes s) placed code variable bytes)
    by (inr code) (inl variable) (inr bytes) =
        (Zeros, four (is_placed s) (is_code_object_section s) (is_variable s) (has_zeros s) placed code variable (zeros_else _ (has_bytes s) (has_zeros s) placed bytes))

pub in_is_placed : (g : Group) (s : Section) → is_in g s ≡ true → is_placed s ≡ true
in_is_placed Code s h = (and_both (is_placed s) _ h).0
in_is_placed Constants s h = (and_both (is_placed s) (not (is_code_object_section s)) (and_both (is_placed s && not (is_code_object_section s)) (not (is_variable s)) h).0).0
in_is_placed Data s h = (and_both (is_placed s) (not (is_code_object_section s)) (and_both (is_placed s && not (is_code_object_section s)) (is_variable s) (regroup (is_placed s) (not (is_code_object_section s)) (is_variable s) (has_bytes s) h)).0).0
in_is_placed Zeros s h = (and_both (is_placed s) (not (is_code_object_section s)) (and_both (is_placed s && not (is_code_object_section s)) (is_variable s) (regroup (is_placed s) (not (is_code_object_section s)) (is_variable s) (has_zeros s) h)).0).0

-- ---- no two sections share an address

-- one section ends behind another's group begins
abbrev Before : List Section → ℕ → ℕ → Section → Section → Type 0
Before all i j s t = slice_index (places_of all) i + s.sh_size ≤ slice_index (places_of all) j

groups_apart : (all : List Section) (g h : Group) (i j : ℕ) (s t : Section) → slice_get all i ≡ Some s → slice_get all j ≡ Some t
    → is_in g s ≡ true → is_in h t ≡ true → group_end g (group_start all g) all ≤ group_start all h → Before all i j s t
groups_apart all g h i j s t at to on in_h order =
    omega (arith, place_is all g i s at on, place_is all h j t to in_h, ends_before all g i s at on, begins_behind all h j t, order)

same_group : (all : List Section) (g : Group) (i j : ℕ) (s t : Section) → i < j → slice_get all i ≡ Some s → slice_get all j ≡ Some t
    → is_in g s ≡ true → is_in g t ≡ true → Before all i j s t
same_group all g i j s t lt at to on too =
    omega (arith, place_is all g i s at on, place_is all g j t to too, later_behind all g i j s t lt at on)

pub apart : (all : List Section) → is_too_large all ≡ false → (i j : ℕ) (s t : Section) → i < j → slice_get all i ≡ Some s → slice_get all j ≡ Some t
    → is_placed s ≡ true → is_placed t ≡ true → Before all i j s t ⊎ Before all j i t s
apart all small i j s t lt at to placed too = by (group_of s placed).0 (group_of t too).0 (group_of s placed).1 (group_of t too).1
  where
    order : (text_start ≤ code_end all) × (code_end all ≤ text_end all) × (data_start ≤ data_end all) × (data_end all ≤ zeros_end all)
    order = in_order all

    ends : (group_end Code (group_start all Code) all ≡ code_end all) × (group_end Constants (group_start all Constants) all ≡ text_end all)
        × (group_end Data (group_start all Data) all ≡ data_end all) × (group_end Zeros (group_start all Zeros) all ≡ zeros_end all)
    ends = ends_are all

    short : text_end all ≤ max_text
    short = (within_limits all small).0

    by : (g h : Group) → is_in g s ≡ true → is_in h t ≡ true → Before all i j s t ⊎ Before all j i t s
    by Code Code on in_h = inl (same_group all Code i j s t lt at to on in_h)
    by Constants Constants on in_h = inl (same_group all Constants i j s t lt at to on in_h)
    by Data Data on in_h = inl (same_group all Data i j s t lt at to on in_h)
    by Zeros Zeros on in_h = inl (same_group all Zeros i j s t lt at to on in_h)
    by Code Constants on in_h = inl (groups_apart all Code Constants i j s t at to on in_h (omega (arith, ends.0)))
    by Code Data on in_h = inl (groups_apart all Code Data i j s t at to on in_h (omega (arith, ends.0, order.1, short)))
    by Code Zeros on in_h = inl (groups_apart all Code Zeros i j s t at to on in_h (omega (arith, ends.0, order.1, order.2, short)))
    by Constants Data on in_h = inl (groups_apart all Constants Data i j s t at to on in_h (omega (arith, ends.1, short)))
    by Constants Zeros on in_h = inl (groups_apart all Constants Zeros i j s t at to on in_h (omega (arith, ends.1, order.2, short)))
    by Data Zeros on in_h = inl (groups_apart all Data Zeros i j s t at to on in_h (omega (arith, ends.2)))
    by Constants Code on in_h = inr (groups_apart all Code Constants j i t s to at in_h on (omega (arith, ends.0)))
    by Data Code on in_h = inr (groups_apart all Code Data j i t s to at in_h on (omega (arith, ends.0, order.1, short)))
    by Zeros Code on in_h = inr (groups_apart all Code Zeros j i t s to at in_h on (omega (arith, ends.0, order.1, order.2, short)))
    by Data Constants on in_h = inr (groups_apart all Constants Data j i t s to at in_h on (omega (arith, ends.1, short)))
    by Zeros Constants on in_h = inr (groups_apart all Constants Zeros j i t s to at in_h on (omega (arith, ends.1, order.2, short)))
    by Zeros Data on in_h = inr (groups_apart all Data Zeros j i t s to at in_h on (omega (arith, ends.2)))
