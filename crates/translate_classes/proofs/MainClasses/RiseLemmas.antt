-- Numbers that rise, one list behind the other.
use Rattle.std.proofs.Common.{◌≡◌, ℕ, ◌+◌, ◌<◌, ◌≤◌, List, [], ◌∷◌, ◌++◌, length, get_or, take, drop, refl, ap, ◌∙◌, subst}
use Rattle.std.proofs.lemmas.List.{drop_more, take_more}
use Rattle.translate_classes.specs.Content.{RiseFrom, behind}

pub rise-front : (low : ℕ) (xs ys : List ℕ) → RiseFrom low (xs ++ ys) → RiseFrom low xs
rise-front low [] ys rise = tt
rise-front low (x ∷ xs) ys rise = (rise.0, rise-front (x + 1) xs ys rise.1)

pub rise-back : (low : ℕ) (xs ys : List ℕ) → RiseFrom low (xs ++ ys) → RiseFrom (behind low xs) ys
rise-back low [] ys rise = rise
rise-back low (x ∷ xs) ys rise = rise-back (x + 1) xs ys rise.1

pub rise-joined : (low : ℕ) (xs ys : List ℕ) → RiseFrom low xs → RiseFrom (behind low xs) ys → RiseFrom low (xs ++ ys)
rise-joined low [] ys first second = second
rise-joined low (x ∷ xs) ys first second = (first.0, rise-joined (x + 1) xs ys first.1 second)

pub behind-push : (low : ℕ) (xs : List ℕ) (n : ℕ) → behind low (xs ++ n ∷ []) ≡ n + 1
behind-push low [] n = refl
behind-push low (x ∷ xs) n = behind-push (x + 1) xs n

-- the next of numbers that are left
pub rise-next : (low : ℕ) (numbers : List ℕ) (k d : ℕ) → k < length numbers → RiseFrom low (drop k numbers)
    → (low ≤ get_or numbers k d) × RiseFrom (get_or numbers k d + 1) (drop (k + 1) numbers)
rise-next low numbers k d less rise = subst (RiseFrom low) (drop_more numbers k d less) rise

pub behind-more : (low : ℕ) (numbers : List ℕ) (k d : ℕ) → k < length numbers → behind low (take (k + 1) numbers) ≡ get_or numbers k d + 1
behind-more low numbers k d less =
    ap (behind low) (take_more numbers k d less) ∙ behind-push low (take k numbers) (get_or numbers k d)
