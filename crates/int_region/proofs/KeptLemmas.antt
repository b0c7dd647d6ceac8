-- How the words of a region change with its arrays.
use Rattle.std.proofs.Common.{◌≡◌, ℕ, ◌+◌, ◌-◌, ◌<◌, ◌≤◌, List, [], ◌∷◌, ◌++◌, length, get_or, set, take, drop, Some, refl, ap, sym, ◌∙◌, arith, append_assoc, length-append, suc, subst}
use Rattle.std.proofs.lemmas.List.{length-set, length-replicate, take_at, take-append-drop, length-take-le, get_or_at, get_or-append_right, get_or_append_left, get_or_default, set-append_right, set-append_left}
use Rattle.std.proofs.lemmas.List.{with_items_is}
use Rattle.std.proofs.lemmas.List.Edits.{length-paste, paste_all}
use Rattle.std.proofs.lemmas.Slice.{put_mid-paste}
use Rattle.std.specs.Prelude.{Vec}
use Rattle.std.specs.Vec.{with_items}
use lib.Seq.{paste}
use borrow.Rule.Slice.PartMut.{put_mid}
use Rattle.int_region.specs.Arrays.{Block, Contents, used_by, array_at, IsLive, kind_in, kind_at, values_in, values_at, zeros, with_element, with_value, IsSound}
use Rattle.int_region.specs.Kept.{words_of, spelled, read_after, contents_of, IsKeptRegion}
use Rattle.int_region.proofs.ArrayLemmas.{stands, live_within, used_by-added, IsSound-added, IsSound-with_value, IsSound-take, used_by-with_value}

abbrev pub region : ℕ → List Block → Contents
region size arrays = record { size = size; arrays = arrays }

length-spelled : (arrays : List Block) → length (spelled arrays) ≡ used_by arrays
length-spelled [] = refl
length-spelled (b ∷ rest) = omega (arith, length-spelled rest, length-append b.values (spelled rest))

spelled-append : (before after : List Block) → spelled (before ++ after) ≡ spelled before ++ spelled after
spelled-append [] after = refl
spelled-append (b ∷ before) after = ap (λ l. words_of b ++ l) (spelled-append before after) ∙ sym (append_assoc (words_of b) (spelled before) (spelled after))

-- what is spelled is read back
read_after-values : (values words : List ℕ) → read_after (length values) (values ++ words) ≡ read_after 0 words
read_after-values [] words = refl
read_after-values (x ∷ values) words = read_after-values values words

read_after-spelled : (arrays : List Block) → read_after 0 (spelled arrays) ≡ arrays
read_after-spelled [] = refl
read_after-spelled (b ∷ rest) =
    ap (λ values. record { kind = b.kind; values = values } ∷ read_after (length b.values) (b.values ++ spelled rest)) (take_at b.values (spelled rest) (length b.values) refl)
    ∙ ap (λ l. b ∷ l) (read_after-values b.values (spelled rest) ∙ read_after-spelled rest)

-- words that spell arrays, and go on, are a region of these arrays
front_of : (words : List ℕ) (used : ℕ) (arrays : List Block) (rest : List ℕ) → words ≡ spelled arrays ++ rest → used_by arrays ≡ used → take used words ≡ spelled arrays
front_of words used arrays rest is uses = ap (λ l. take used l) is ∙ take_at (spelled arrays) rest used (length-spelled arrays ∙ uses)

pub contents_of-spelled : (words : List ℕ) (used : ℕ) (arrays : List Block) (rest : List ℕ) → words ≡ spelled arrays ++ rest → used_by arrays ≡ used → contents_of words used ≡ region (length words) arrays
contents_of-spelled words used arrays rest is uses =
    ap (λ l. region (length words) l) (ap (λ l. read_after 0 l) (front_of words used arrays rest is uses) ∙ read_after-spelled arrays)

pub IsKept-spelled : (words : List ℕ) (used : ℕ) (arrays : List Block) (rest : List ℕ) → words ≡ spelled arrays ++ rest → used_by arrays ≡ used → IsSound (region (length words) arrays) → IsKeptRegion words used
IsKept-spelled words used arrays rest is uses sound =
    let same = contents_of-spelled words used arrays rest is uses in
    record {
      is_spelled = ap (λ c. spelled c.arrays) same ∙ sym (front_of words used arrays rest is uses);
      is_used = omega (arith, uses, sound.within);
      sound = subst IsSound (sym same) sound;
    }

-- and a region that is kept is such
abbrev pub arrays_of : List ℕ → ℕ → List Block
arrays_of words used = (contents_of words used).arrays

pub used_of : (words : List ℕ) (used : ℕ) → IsKeptRegion words used → used_by (arrays_of words used) ≡ used
used_of words used h = sym (length-spelled (arrays_of words used)) ∙ (ap length h.is_spelled ∙ length-take-le used words h.is_used)

pub words_are : (words : List ℕ) (used : ℕ) → IsKeptRegion words used → words ≡ spelled (arrays_of words used) ++ drop used words
words_are words used h = sym (ap (λ l. l ++ drop used words) h.is_spelled ∙ take-append-drop used words)

spelled_around : (before after : List Block) (here : Block) (more : List ℕ) → spelled (before ++ here ∷ after) ++ more ≡ spelled before ++ (words_of here ++ (spelled after ++ more))
spelled_around before after here more =
    ap (λ l. l ++ more) (spelled-append before (here ∷ after))
    ∙ (append_assoc (spelled before) (words_of here ++ spelled after) more ∙ ap (λ l. spelled before ++ l) (append_assoc (words_of here) (spelled after) more))

-- the words of a live array come after those of the arrays before it
pub record StandsIn (words : List ℕ) (arrays : List Block) (p : ℕ) : Type 0 where
  pub front : List ℕ
  pub here : Block
  pub rest : List ℕ
  pub is : words ≡ front ++ (words_of here ++ rest)
  pub place : length front ≡ p
  pub found : array_at arrays p ≡ Some here

stands_in : (words : List ℕ) (used p : ℕ) → IsKeptRegion words used → IsLive (arrays_of words used) p → StandsIn words (arrays_of words used) p
stands_in words used p h live =
    let s = stands (arrays_of words used) 0 p live in
    record {
      front = spelled s.before;
      here = s.here;
      rest = spelled s.after ++ drop used words;
      is = words_are words used h ∙ (ap (λ l. spelled l ++ drop used words) s.is ∙ spelled_around s.before s.after s.here (drop used words));
      place = length-spelled s.before ∙ omega (arith, s.place);
      found = s.found;
    }

-- so a word at its place is its kind, the next its length, and then come its values
pub live_room : (words : List ℕ) (used p : ℕ) → IsKeptRegion words used → IsLive (arrays_of words used) p → p + (length (values_at (arrays_of words used) p) + 2) ≤ length words
live_room words used p h live = omega (arith, live_within (arrays_of words used) p live, used_of words used h, h.is_used)

kind_read : (words : List ℕ) (arrays : List Block) (p x : ℕ) → StandsIn words arrays p → x ≡ get_or words p x → x ≡ kind_at arrays p
kind_read words arrays p x s read =
    read ∙ (ap (λ l. get_or l p x) s.is
    ∙ (get_or_at s.front s.here.kind (length s.here.values ∷ (s.here.values ++ s.rest)) x p s.place ∙ sym (ap kind_in s.found)))

-- a word behind the place of an array
word_read : (words : List ℕ) (arrays : List Block) (p n x : ℕ) (s : StandsIn words arrays p) → x ≡ get_or words (p + n) x → x ≡ get_or (words_of s.here ++ s.rest) n x
word_read words arrays p n x s read =
    let after : p + n - p ≡ n = omega arith in
    read ∙ (ap (λ l. get_or l (p + n) x) s.is
    ∙ (get_or-append_right s.front (words_of s.here ++ s.rest) p (p + n) x s.place (omega arith) ∙ ap (λ k. get_or (words_of s.here ++ s.rest) k x) after))

pub kind_kept : (words : List ℕ) (used p x : ℕ) → IsKeptRegion words used → IsLive (arrays_of words used) p → x ≡ get_or words p x → x ≡ kind_at (arrays_of words used) p
kind_kept words used p x h live read = kind_read words (arrays_of words used) p x (stands_in words used p h live) read

pub len_kept : (words : List ℕ) (used p x : ℕ) → IsKeptRegion words used → IsLive (arrays_of words used) p → x ≡ get_or words (p + 1) x → x ≡ length (values_at (arrays_of words used) p)
len_kept words used p x h live read =
    let s = stands_in words used p h live in
    word_read words (arrays_of words used) p 1 x s read ∙ sym (ap (λ o. length (values_in o)) s.found)

pub value_kept : (words : List ℕ) (used p i x : ℕ) → IsKeptRegion words used → IsLive (arrays_of words used) p → i < length (values_at (arrays_of words used) p) → x ≡ get_or words (p + 2 + i) x → x ≡ get_or (values_at (arrays_of words used) p) i 0
value_kept words used p i x h live within read =
    let s = stands_in words used p h live in
    let sum : p + 2 + i ≡ p + suc (suc i) = omega arith in
    let here : values_at (arrays_of words used) p ≡ s.here.values = ap values_in s.found in
    let short : i < length s.here.values = subst (λ l. i < length l) here within in
    word_read words (arrays_of words used) p (suc (suc i)) x s (read ∙ ap (λ n. get_or words n x) sum)
    ∙ (get_or_append_left s.here.values s.rest x i short
    ∙ (get_or_default s.here.values i x 0 short ∙ ap (λ l. get_or l i 0) (sym here)))

-- another value of a live array
set_words : (front values rest : List ℕ) (kind p i v : ℕ) → length front ≡ p → i < length values → set (front ++ (kind ∷ length values ∷ (values ++ rest))) (p + 2 + i) v ≡ front ++ (kind ∷ length (set values i v) ∷ (set values i v ++ rest))
set_words front values rest kind p i v place within =
    let after : p + 2 + i - p ≡ suc (suc i) = omega arith in
    let tail = kind ∷ length values ∷ (values ++ rest) in
    set-append_right front tail p (p + 2 + i) v place (omega arith)
    ∙ (ap (λ n. front ++ set tail n v) after
    ∙ (ap (λ l. front ++ (kind ∷ length values ∷ l)) (set-append_left values rest i v within)
    ∙ ap (λ n. front ++ (kind ∷ n ∷ (set values i v ++ rest))) (sym (length-set values i v))))

put_words : (words : List ℕ) (used p i v : ℕ) → IsKeptRegion words used → IsLive (arrays_of words used) p → i < length (values_at (arrays_of words used) p) → set words (p + 2 + i) v ≡ spelled (with_value (arrays_of words used) p i v) ++ drop used words
put_words words used p i v h live within =
    let s = stands (arrays_of words used) 0 p live in
    let short : i < length s.here.values = subst (λ o. i < length (values_in o)) s.found within in
    let place : length (spelled s.before) ≡ p = length-spelled s.before ∙ omega (arith, s.place) in
    ap (λ l. set l (p + 2 + i) v) (words_are words used h ∙ (ap (λ l. spelled l ++ drop used words) s.is ∙ spelled_around s.before s.after s.here (drop used words)))
    ∙ (set_words (spelled s.before) s.here.values (spelled s.after ++ drop used words) s.here.kind p i v place short
    ∙ (sym (spelled_around s.before s.after (with_element i v s.here) (drop used words)) ∙ ap (λ l. spelled l ++ drop used words) (sym (s.written i v))))

pub contents_of-put : (words : List ℕ) (used p i v : ℕ) → IsKeptRegion words used → IsLive (arrays_of words used) p → i < length (values_at (arrays_of words used) p) → contents_of (set words (p + 2 + i) v) used ≡ region (length words) (with_value (arrays_of words used) p i v)
contents_of-put words used p i v h live within =
    contents_of-spelled (set words (p + 2 + i) v) used (with_value (arrays_of words used) p i v) (drop used words) (put_words words used p i v h live within) (used_by-with_value (arrays_of words used) p i v ∙ used_of words used h)
    ∙ ap (λ n. region n (with_value (arrays_of words used) p i v)) (length-set words (p + 2 + i) v)

pub IsKept-put : (words : List ℕ) (used p i v : ℕ) → IsKeptRegion words used → IsLive (arrays_of words used) p → i < length (values_at (arrays_of words used) p) → IsKeptRegion (set words (p + 2 + i) v) used
IsKept-put words used p i v h live within =
    let arrays = with_value (arrays_of words used) p i v in
    let sound = IsSound-with_value (length words) (arrays_of words used) p i v h.sound in
    IsKept-spelled (set words (p + 2 + i) v) used arrays (drop used words) (put_words words used p i v h live within) (used_by-with_value (arrays_of words used) p i v ∙ used_of words used h) (subst (λ n. IsSound (region n arrays)) (sym (length-set words (p + 2 + i) v)) sound)

-- a new array behind the others
added_words : (words : List ℕ) (used : ℕ) (b : Block) (rest : List ℕ) → IsKeptRegion words used → take used words ++ (words_of b ++ rest) ≡ spelled (arrays_of words used ++ b ∷ []) ++ rest
added_words words used b rest h =
    ap (λ l. l ++ (words_of b ++ rest)) (sym h.is_spelled) ∙ sym (spelled_around (arrays_of words used) [] b rest)

used_till : (words : List ℕ) (used end kind len : ℕ) → end ≡ used + (len + 2) → IsKeptRegion words used → used_by (arrays_of words used ++ zeros kind len ∷ []) ≡ end
used_till words used end kind len till h = omega (arith, used_by-added (arrays_of words used) (zeros kind len), length-replicate {A = ℕ} len 0, used_of words used h)

pub contents_of-added : (words more : List ℕ) (used end kind len : ℕ) (rest : List ℕ) → more ≡ take used words ++ (words_of (zeros kind len) ++ rest) → length more ≡ length words → end ≡ used + (len + 2) → IsKeptRegion words used → contents_of more end ≡ region (length words) (arrays_of words used ++ zeros kind len ∷ [])
contents_of-added words more used end kind len rest is same till h =
    let arrays = arrays_of words used ++ zeros kind len ∷ [] in
    contents_of-spelled more end arrays rest (is ∙ added_words words used (zeros kind len) rest h) (used_till words used end kind len till h)
    ∙ ap (λ n. region n arrays) same

pub IsKept-added : (words more : List ℕ) (used end kind len : ℕ) (rest : List ℕ) → more ≡ take used words ++ (words_of (zeros kind len) ++ rest) → length more ≡ length words → end ≡ used + (len + 2) → end ≤ length words → kind < 2 → IsKeptRegion words used → IsKeptRegion more end
IsKept-added words more used end kind len rest is same till room low h =
    let arrays = arrays_of words used ++ zeros kind len ∷ [] in
    let sound = IsSound-added (length words) (arrays_of words used) kind len low (omega (arith, used_of words used h)) h.sound in
    IsKept-spelled more end arrays rest (is ∙ added_words words used (zeros kind len) rest h) (used_till words used end kind len till h) (subst (λ n. IsSound (region n arrays)) (sym same) sound)

-- the first of the arrays
taken_words : (words : List ℕ) (used k : ℕ) → IsKeptRegion words used → words ≡ spelled (take k (arrays_of words used)) ++ (spelled (drop k (arrays_of words used)) ++ drop used words)
taken_words words used k h =
    let arrays = arrays_of words used in
    words_are words used h
    ∙ (ap (λ l. spelled l ++ drop used words) (sym (take-append-drop k arrays))
    ∙ (ap (λ l. l ++ drop used words) (spelled-append (take k arrays) (drop k arrays)) ∙ append_assoc (spelled (take k arrays)) (spelled (drop k arrays)) (drop used words)))

pub contents_of-taken : (words : List ℕ) (used k m : ℕ) → used_by (take k (arrays_of words used)) ≡ m → IsKeptRegion words used → contents_of words m ≡ region (length words) (take k (arrays_of words used))
contents_of-taken words used k m uses h = contents_of-spelled words m (take k (arrays_of words used)) (spelled (drop k (arrays_of words used)) ++ drop used words) (taken_words words used k h) uses

pub IsKept-taken : (words : List ℕ) (used k m : ℕ) → used_by (take k (arrays_of words used)) ≡ m → IsKeptRegion words used → IsKeptRegion words m
IsKept-taken words used k m uses h = IsKept-spelled words m (take k (arrays_of words used)) (spelled (drop k (arrays_of words used)) ++ drop used words) (taken_words words used k h) uses (IsSound-take (length words) (arrays_of words used) k h.sound)

-- what is written over the words that a new array is to use
pub laid : {Z : Type 0} (v : Vec ℕ Z) (now room : List ℕ) (used n kind len : ℕ) → now ≡ v.items → room ≡ words_of (zeros kind len) → n ≡ len + 2 → used + (len + 2) ≤ v.len → (with_items v (put_mid used n now room)).items ≡ take used v.items ++ (words_of (zeros kind len) ++ drop (used + n) v.items)
laid v now room used n kind len is spelt wide fits =
    let array = words_of (zeros kind len) in
    let long : n ≡ length array = omega (arith, length-replicate {A = ℕ} len 0) in
    let pasted : put_mid used n now room ≡ paste v.items used array n = put_mid-paste used n now room array n spelt refl long ∙ ap (λ l. paste l used array n) is in
    let same : length (put_mid used n now room) ≡ v.len = ap length pasted ∙ (length-paste v.items used array n (omega (arith, v.ok.0)) (omega arith) ∙ sym v.ok.0) in
    with_items_is v (put_mid used n now room) same ∙ (pasted ∙ paste_all v.items used array n long)

pub laid_length : {Z : Type 0} (v : Vec ℕ Z) (ws : List ℕ) → length (with_items v ws).items ≡ length v.items
laid_length v ws = sym (with_items v ws).ok.0 ∙ v.ok.0
