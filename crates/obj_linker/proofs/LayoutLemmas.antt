-- Where groups of sections end.
use Rattle.std.proofs.Common.{◌≡◌, ℕ, ◌+◌, ◌-◌, ◌*◌, ◌/◌, ◌%◌, ◌<◌, ◌≤◌, Bool, true, false, cond, ◌||◌, nat_lt, max, List, [], ◌∷◌, ◌++◌, length, take, drop, get_or, refl, sym, ap, ◌∙◌, subst, append_assoc, arith}
use Rattle.std.proofs.Math.Nat.{mul_comm}
use Rattle.std.proofs.lemmas.Bool.Decides.{nat_tests}
use Rattle.std.proofs.lemmas.List.{at_drop_more, take-append-drop, take_more}
use Rattle.obj_linker.specs.declared.cursors.Cursors.{Cursors}
use Rattle.obj_linker.specs.declared.group.Group.{Group}
use Rattle.obj_linker.specs.declared.group.Group.TheVariants.{Code, Constants, Data, Zeros}
use Rattle.obj_reader.specs.declared.section.Section.{Section}
use Rattle.obj_linker.specs.declared.layout.Ends.{Ends}
use Rattle.obj_linker.specs.Cursor.{HasRoom, IsEnds, place_at}
use Rattle.obj_linker.specs.Layout.{is_in, group_end, next_end, rounded, section_start, section_place, places_from, code_end, text_end, data_end, zeros_end, text_start, data_start, max_text, max_data, max_zeros, is_too_large}

-- a multiple of a number, from another number on
multiple_from : (a q r at : ℕ) → 1 ≤ a → a * q + r ≡ at + (a - 1) → r < a → at ≤ q * a
multiple_from a q r at some split small = omega (arith, split, small, mul_comm a q)

multiple_to : (a q r at : ℕ) → a * q + r ≡ at + (a - 1) → q * a ≤ at + (a - 1)
multiple_to a q r at split = omega (arith, split, mul_comm a q)

parts : (a n : ℕ) → 1 ≤ a → (a * (n / a) + n % a ≡ n) × (n % a < a)
parts a n some = (omega arith, omega arith)

rounded_from : (a at : ℕ) → 1 ≤ a → at ≤ (at + (a - 1)) / a * a
rounded_from a at some =
    let p = parts a (at + (a - 1)) some in multiple_from a ((at + (a - 1)) / a) ((at + (a - 1)) % a) at some p.0 p.1

rounded_to : (a at : ℕ) → 1 ≤ a → (at + (a - 1)) / a * a ≤ at + (a - 1)
rounded_to a at some =
    let p = parts a (at + (a - 1)) some in multiple_to a ((at + (a - 1)) / a) ((at + (a - 1)) % a) at p.0

-- a rounded address is not below it, and within an alignment above it
pub le_rounded : (alignment at : ℕ) → at ≤ rounded alignment at
le_rounded alignment at = rounded_from (max alignment 1) at (omega arith)

pub rounded_within : (alignment at : ℕ) → rounded alignment at ≤ at + (max alignment 1 - 1)
rounded_within alignment at = rounded_to (max alignment 1) at (omega arith)

le_next : (t : Bool) (alignment at size : ℕ) → at ≤ cond t (rounded alignment at + size) at
le_next true alignment at size = omega (arith, le_rounded alignment at)
le_next false alignment at size = omega arith

pub le_next_end : (group : Group) (at : ℕ) (s : Section) → at ≤ next_end group at s
le_next_end group at s = le_next (is_in group s) s.sh_addralign at s.sh_size

-- a group ends behind its start
pub le_group_end : (group : Group) (at : ℕ) (sections : List Section) → at ≤ group_end group at sections
le_group_end group at [] = omega arith
le_group_end group at (s ∷ sections) =
    omega (arith, le_next_end group at s, le_group_end group (next_end group at s) sections)

group_end-append : (group : Group) (at : ℕ) (xs ys : List Section)
    → group_end group at (xs ++ ys) ≡ group_end group (group_end group at xs) ys
group_end-append group at [] ys = refl
group_end-append group at (s ∷ xs) ys = group_end-append group (next_end group at s) xs ys

-- with one section more
pub end_more : (group : Group) (at : ℕ) (all : List Section) (i : ℕ) (d : Section) → i < length all
    → group_end group at (take (i + 1) all) ≡ next_end group (group_end group at (take i all)) (get_or all i d)
end_more group at all i d lt =
    ap (group_end group at) (take_more all i d lt) ∙ group_end-append group at (take i all) (get_or all i d ∷ [])

-- up to a section a group ends within its end
pub end_within : (group : Group) (at : ℕ) (all : List Section) (i : ℕ) → group_end group at (take i all) ≤ group_end group at all
end_within group at all i =
    subst (λ n. group_end group at (take i all) ≤ n)
    (sym (group_end-append group at (take i all) (drop i all)) ∙ ap (group_end group at) (take-append-drop i all))
    (le_group_end group (group_end group at (take i all)) (drop i all))

-- ---- limits
above : (limit n : ℕ) → (n ≤ limit → ⊥) → nat_lt limit n ≡ true
above limit n h = grind (arith, nat_tests)

within : (limit n : ℕ) → n ≤ limit → nat_lt limit n ≡ false
within limit n h = grind (arith, nat_tests)

or_first : (a b c : Bool) → a ≡ true → (a || b || c) ≡ true
or_first true b c h = refl
or_first false b c h = absurd (cc)

or_second : (a b c : Bool) → b ≡ true → (a || b || c) ≡ true
or_second true b c h = refl
or_second false true c h = refl
or_second false false c h = absurd (cc)

or_third : (a b c : Bool) → c ≡ true → (a || b || c) ≡ true
or_third true b c h = refl
or_third false true c h = refl
or_third false false c h = h

or_none : (a b c : Bool) → a ≡ false → b ≡ false → c ≡ false → (a || b || c) ≡ false
or_none true b c h g f = absurd (cc)
or_none false true c h g f = absurd (cc)
or_none false false c h g f = f

pub large_code : (sections : List Section) → (code_end sections ≤ max_text → ⊥) → is_too_large sections ≡ true
unfolding is_too_large text_end
large_code sections h =
    or_first (nat_lt max_text (text_end sections)) (nat_lt max_data (data_end sections)) (nat_lt max_zeros (zeros_end sections))
    (above max_text (text_end sections) (λ le. h (omega (arith, le, le_group_end Constants (code_end sections) sections))))

pub large_text : (sections : List Section) → (text_end sections ≤ max_text → ⊥) → is_too_large sections ≡ true
unfolding is_too_large
large_text sections h =
    or_first (nat_lt max_text (text_end sections)) (nat_lt max_data (data_end sections)) (nat_lt max_zeros (zeros_end sections))
    (above max_text (text_end sections) h)

pub large_data : (sections : List Section) → (data_end sections ≤ max_data → ⊥) → is_too_large sections ≡ true
unfolding is_too_large
large_data sections h =
    or_second (nat_lt max_text (text_end sections)) (nat_lt max_data (data_end sections)) (nat_lt max_zeros (zeros_end sections))
    (above max_data (data_end sections) h)

pub large_zeros : (sections : List Section) → (zeros_end sections ≤ max_zeros → ⊥) → is_too_large sections ≡ true
unfolding is_too_large
large_zeros sections h =
    or_third (nat_lt max_text (text_end sections)) (nat_lt max_data (data_end sections)) (nat_lt max_zeros (zeros_end sections))
    (above max_zeros (zeros_end sections) h)

pub not_large : (sections : List Section) → text_end sections ≤ max_text → data_end sections ≤ max_data → zeros_end sections ≤ max_zeros
    → is_too_large sections ≡ false
unfolding is_too_large
not_large sections a b d =
    or_none (nat_lt max_text (text_end sections)) (nat_lt max_data (data_end sections)) (nat_lt max_zeros (zeros_end sections))
    (within max_text (text_end sections) a) (within max_data (data_end sections) b) (within max_zeros (zeros_end sections) d)

pub ends_are : (sections : List Section) (e : Ends) → e.code ≡ code_end sections → e.text ≡ text_end sections → e.data_end ≡ data_end sections
    → e.zeros ≡ zeros_end sections → text_end sections ≤ max_text → data_end sections ≤ max_data → zeros_end sections ≤ max_zeros
    → IsEnds sections e
unfolding code_end text_end data_end
ends_are sections e c t d z a b f = record {
  code = c;
  text = t;
  data_is = d;
  zeros = z;
  behind_start = le_group_end Code text_start sections;
  behind_code = le_group_end Constants (code_end sections) sections;
  behind_data = le_group_end Data data_start sections;
  short_text = a;
  short_data = b;
  short_zeros = f;
}

-- a group that is above a limit with a section ends above it
pub too_far : (group : Group) (at limit whole : ℕ) (s : Section) (rest others : List Section) → rest ≡ s ∷ others → group_end group at rest ≡ whole
    → (next_end group at s ≤ limit → ⊥) → whole ≤ limit → ⊥
too_far group at limit whole s rest others first all far le =
    far (omega (arith, le, sym all ∙ ap (group_end group at) first, le_group_end group (next_end group at s) others))

-- ---- places
pub room : (group : Group) (at cursor limit : ℕ) (all : List Section) (i : ℕ) (d : Section) → i < length all
    → cursor ≡ group_end group at (take i all) → group_end group at all ≤ limit → next_end group cursor (get_or all i d) ≤ limit
room group at cursor limit all i d lt is short =
    subst (λ n. next_end group n (get_or all i d) ≤ limit) (sym is)
    (subst (λ n. n ≤ limit) (end_more group at all i d lt) (omega (arith, end_within group at all (i + 1), short)))

pub has_room : (all : List Section) (e : Ends) (c : Cursors) (i : ℕ) (d : Section) → i < length all → IsEnds all e
    → c.code ≡ group_end Code text_start (take i all) → c.constants ≡ group_end Constants (code_end all) (take i all)
    → c.data_at ≡ group_end Data data_start (take i all) → c.zeros ≡ group_end Zeros (data_end all) (take i all)
    → HasRoom c (get_or all i d)
unfolding code_end text_end data_end zeros_end
has_room all e c i d lt ends a b f g = record {
  code = omega (arith, room Code text_start c.code max_text all i d lt a (omega (arith, ends.behind_code, ends.short_text)));
  constants = omega (arith, room Constants (code_end all) c.constants max_text all i d lt b ends.short_text);
  data_at = omega (arith, room Data data_start c.data_at max_data all i d lt f ends.short_data);
  zeros = omega (arith, room Zeros (data_end all) c.zeros max_zeros all i d lt g ends.short_zeros);
}

pub cursor_more : (group : Group) (at cursor next : ℕ) (all : List Section) (i : ℕ) (d : Section) → i < length all
    → cursor ≡ group_end group at (take i all) → next ≡ next_end group cursor (get_or all i d) → next ≡ group_end group at (take (i + 1) all)
cursor_more group at cursor next all i d lt is step =
    step ∙ ap (λ n. next_end group n (get_or all i d)) is ∙ sym (end_more group at all i d lt)

place_is : (all : List Section) (c : Cursors) (before : List Section) (s : Section)
    → c.code ≡ group_end Code text_start before → c.constants ≡ group_end Constants (code_end all) before
    → c.data_at ≡ group_end Data data_start before → c.zeros ≡ group_end Zeros (data_end all) before
    → place_at c s ≡ section_place all before s
place_is all c before s a b f g = λ j.
    cond (is_in Code s) (section_start (a j) s)
    (cond (is_in Constants s) (section_start (b j) s)
    (cond (is_in Data s) (section_start (f j) s) (cond (is_in Zeros s) (section_start (g j) s) 0)))

pub places_more : (all : List Section) (c : Cursors) (i : ℕ) (d : Section) (old new whole : List ℕ) (place : ℕ) → i < length all
    → c.code ≡ group_end Code text_start (take i all) → c.constants ≡ group_end Constants (code_end all) (take i all)
    → c.data_at ≡ group_end Data data_start (take i all) → c.zeros ≡ group_end Zeros (data_end all) (take i all)
    → place ≡ place_at c (get_or all i d) → new ≡ old ++ place ∷ []
    → old ++ places_from all (take i all) (drop i all) ≡ whole
    → new ++ places_from all (take (i + 1) all) (drop (i + 1) all) ≡ whole
places_more all c i d old new whole place lt a b f g is pushed was =
    let s = get_or all i d in
    let later = places_from all (take i all ++ s ∷ []) (drop (i + 1) all) in
    ap (λ l. new ++ places_from all l (drop (i + 1) all)) (take_more all i d lt) ∙ ap (λ l. l ++ later) pushed
    ∙ append_assoc old (place ∷ []) later ∙ ap (λ p. old ++ (p ∷ later)) (is ∙ place_is all c (take i all) s a b f g)
    ∙ ap (λ l. old ++ l) (sym (at_drop_more (places_from all (take i all)) all i d lt)) ∙ was
