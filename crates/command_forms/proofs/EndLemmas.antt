-- Where the words are cut.
use Rattle.std.proofs.Common.{◌≡◌, ◌∙◌, ◌≤◌, ◌+◌, ℕ, Bool, cond, true, false, not, suc, refl, sym, ap, arith, List, [], ◌∷◌, map, length, take, drop, Some, None, is_some, nat_lt, zero, drop_of_length-le}
use Rattle.std.specs.List.{list_any, position, position_or_len}
use Rattle.std.specs.Prelude.{string_bytes, String}
use Rattle.std.specs.declared.alloc.Global.{Global}
use Rattle.std.proofs.lemmas.List.Sums.{prefix_len-le-length}
use Rattle.std.proofs.lemmas.List.{take-map, length-map}
use Rattle.command_forms.specs.Word.{is_end_of_words, texts}
use Rattle.command_forms.specs.Forms.{after_end, before_end, has_end}
use Rattle.command_forms.proofs.WordLemmas.{whole, any_position, no_position, position_is}

place_of_map : {X Y : Type 0} (p : Y → Bool) (f : X → Y) (xs : List X) → position_or_len p (map f xs) ≡ position_or_len (λ x. p (f x)) xs
place_of_map p f [] = refl
place_of_map p f (x ∷ xs) = ap (λ k. cond (not (p (f x))) (1 + k) 0) (place_of_map p f xs)

any_of_map : {X Y : Type 0} (p : Y → Bool) (f : X → Y) (xs : List X) → list_any p (map f xs) ≡ list_any (λ x. p (f x)) xs
any_of_map p f [] = refl
any_of_map p f (x ∷ xs) = ap (λ b. Rattle.std.proofs.Common.◌||◌ (p (f x)) b) (any_of_map p f xs)

map_drop : {X Y : Type 0} (f : X → Y) (n : ℕ) (xs : List X) → drop n (map f xs) ≡ map f (drop n xs)
map_drop f zero xs = refl
map_drop f (suc n) [] = refl
map_drop f (suc n) (x ∷ xs) = map_drop f n xs

abbrev ends : String Global → Bool
ends w = is_end_of_words (string_bytes w)

pub cut_before : (words : List (String Global)) (i : ℕ) → position ends words ≡ Some i → texts (take i words) ≡ before_end (texts words)
cut_before words i found =
    sym (take-map string_bytes i words)
    ∙ ap (λ k. take k (texts words)) (sym (place_of_map is_end_of_words string_bytes words ∙ (position_is ends words i found).0))

pub cut_after : (words : List (String Global)) (i : ℕ) → position ends words ≡ Some i → texts (drop (i + 1) words) ≡ after_end (texts words)
cut_after words i found =
    sym (map_drop string_bytes (i + 1) words)
    ∙ ap (λ k. drop (k + 1) (texts words)) (sym (place_of_map is_end_of_words string_bytes words ∙ (position_is ends words i found).0))

pub whole_before : (words : List (String Global)) → position ends words ≡ None → texts words ≡ before_end (texts words)
whole_before words none =
    let past = no_position ends words none in
    let at : position_or_len is_end_of_words (texts words) ≡ position_or_len ends words = place_of_map is_end_of_words string_bytes words in
    let count : length (texts words) ≡ length words = simp length-map in
    sym (whole (texts words) (position_or_len is_end_of_words (texts words)) (omega (arith, past.0)) (prefix_len-le-length (λ w. not (is_end_of_words w)) (texts words)))

pub none_after : (words : List (String Global)) → position ends words ≡ None → [] ≡ after_end (texts words)
none_after words none =
    let past = no_position ends words none in
    let at : position_or_len is_end_of_words (texts words) ≡ position_or_len ends words = place_of_map is_end_of_words string_bytes words in
    let count : length (texts words) ≡ length words = simp length-map in
    let over : length (texts words) ≤ position_or_len is_end_of_words (texts words) + 1 = omega (arith, past.0) in
    sym (drop_of_length-le (texts words) over)

is_some_of : (b : Bool) (n : ℕ) → is_some (cond b (Some n) None) ≡ b
is_some_of true n = refl
is_some_of false n = refl

pub end_found : (words : List (String Global)) → is_some (position ends words) ≡ has_end (texts words)
end_found words = is_some_of (nat_lt (position_or_len ends words) (length words)) (position_or_len ends words) ∙ sym (any_position ends words) ∙ sym (any_of_map is_end_of_words string_bytes words)
