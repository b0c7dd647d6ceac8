-- Files written piece by piece.
use Rattle.std.proofs.Common.{◌≡◌, ℕ, ◌+◌, ◌-◌, ◌<◌, ◌≤◌, List, [], ◌++◌, length, take, drop, replicate, set, refl, ap, sym, ◌∙◌, arith, append_assoc, append-nil}
use Rattle.std.proofs.lemmas.List.{get_or-set_same, take_all, drop_all, length-take-le, set-set, drop-drop, replicate-append-replicate, length-append, length-replicate}
use Rattle.std.proofs.Math.Seq.{take-append_seam, drop-append-add}
use Rattle.unix_definition.specs.Files.{blocks_for}
use Rattle.unix_files.specs.Stored.{Contents, file_at, with_file, overwritten}

pub file_at-with_file : (c : Contents) (n : ℕ) (a : List ℕ) → n < length c.files → file_at (with_file c n a) n ≡ a
file_at-with_file c n a within = let none : List ℕ = [] in get_or-set_same c.files n a none within

-- what is written last stays
pub with_file-again : (c : Contents) (n : ℕ) (a b : List ℕ) → n < length c.files → blocks_for (length a) ≤ blocks_for (length (file_at c n)) + c.free → with_file (with_file c n a) n b ≡ with_file c n b
with_file-again c n a b within room =
    let files : set (set c.files n a) n b ≡ set c.files n b = set-set c.files n a b in
    let same : length (file_at (with_file c n a) n) ≡ length a = ap length (file_at-with_file c n a within) in
    let free : (with_file c n a).free + blocks_for (length (file_at (with_file c n a) n)) - blocks_for (length b) ≡ c.free + blocks_for (length (file_at c n)) - blocks_for (length b) = rw same (omega arith) in
    rw (files, free) refl

pub stored-again : (c s t : Contents) (n : ℕ) (a : List ℕ) (f : List ℕ → List ℕ) → n < length c.files → blocks_for (length a) ≤ blocks_for (length (file_at c n)) + c.free → s ≡ with_file c n a → t ≡ with_file s n (f (file_at s n)) → t ≡ with_file c n (f a)
stored-again c s t n a f within room before after =
    after
    ∙ (ap (λ x. with_file x n (f (file_at x n))) before
    ∙ (ap (λ l. with_file (with_file c n a) n (f l)) (file_at-with_file c n a within) ∙ with_file-again c n a (f a) within room))

-- further zeros
pub zeros-more : (file : List ℕ) (k m n : ℕ) → k + m ≡ n → (file ++ replicate k 0) ++ replicate m 0 ≡ file ++ replicate n 0
zeros-more file k m n next =
    let z : ℕ = 0 in
    append_assoc file (replicate k z) (replicate m z) ∙ (ap (λ l. file ++ l) (replicate-append-replicate k m z) ∙ ap (λ i. file ++ replicate i z) next)

-- what is written behind the last byte
pub overwritten-end : (file xs : List ℕ) → overwritten file (length file) xs ≡ file ++ xs
overwritten-end file xs =
    ap (λ l. l ++ xs ++ drop (length file + length xs) file) (take_all (length file) file (omega arith))
    ∙ (ap (λ l. file ++ xs ++ l) (drop_all (length file + length xs) file (omega arith)) ∙ append-nil (file ++ xs))

pub length-zeros_behind : (file : List ℕ) (k : ℕ) → length (file ++ replicate k 0) ≡ length file + k
length-zeros_behind file k = let z : ℕ = 0 in length-append file (replicate k z) ∙ ap (λ n. length file + n) (length-replicate k z)

-- further bytes behind those that were written
pub overwritten-more : (file xs ys : List ℕ) (place : ℕ) → place ≤ length file → overwritten (overwritten file place xs) (place + length xs) ys ≡ overwritten file place (xs ++ ys)
overwritten-more file xs ys place within =
    let front : List ℕ = take place file ++ xs in
    let behind : List ℕ = drop (place + length xs) file in
    let long : length front ≡ place + length xs = length-append (take place file) xs ∙ ap (λ n. n + length xs) (length-take-le place file within) in
    ap (λ k. overwritten (front ++ behind) k ys) (sym long)
    ∙ (ap (λ l. l ++ ys ++ drop (length front + length ys) (front ++ behind)) (take-append_seam front behind)
    ∙ (ap (λ l. front ++ ys ++ l) (drop-append-add front behind (length ys) ∙ (drop-drop (length ys) (place + length xs) file ∙ ap (λ k. drop k file) (let e : place + length xs + length ys ≡ place + length (xs ++ ys) = let p = length-append xs ys in omega arith in e)))
    ∙ ap (λ l. l ++ drop (place + length (xs ++ ys)) file) (append_assoc (take place file) xs ys)))
