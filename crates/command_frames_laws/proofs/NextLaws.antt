-- The next file of a queue, in files that changed.
use Rattle.std.proofs.Common.{◌≡◌, ◌∙◌, ℕ, Bool, true, false, cond, List, [], ◌∷◌, ◌++◌, Option, Some, None, refl, sym, ap, subst}
use Rattle.std.specs.List.{AllByRecursion}
use Rattle.std.proofs.lemmas.Option.{same_Some, none-some}
use Rattle.nv_outside.specs.Files.{Files}
use Rattle.class_sets.specs.ClassSets.{Found, file_of, found_or, is_among, next}
use Rattle.class_sets.specs.Waiting.{last_of}
use Rattle.command_frames_laws.specs.StoredSets.{GetsNone}

abbrev pub Names : Type 0
Names = List (List ℕ)

abbrev pub AllOf : (List ℕ → Type 0) → Names → Type 0
AllOf P names = AllByRecursion P names

pub last-push : (names : Names) (name : List ℕ) → last_of (names ++ name ∷ []) ≡ name
last-push [] name = refl
last-push (n ∷ []) name = refl
last-push (n ∷ m ∷ names) name = last-push (m ∷ names) name

abbrev pub found-with : List ℕ → Names → Names → Found
found-with bytes asked waiting = record { bytes = bytes; asked = asked; waiting = waiting }

-- what was found, with other bytes
abbrev pub holding : Found → List ℕ → Found
holding found bytes = found-with bytes found.asked found.waiting

-- the name by which a file was found is that of the file
pub next-file : (files : Files) (asked ns : Names) (found : Found) → next files asked ns ≡ Some found → files (file_of (last_of found.asked)) ≡ Some found.bytes
unfolding next
next-file files asked [] found e = absurd (none-some found e)
next-file files asked (n ∷ ns) found e = by-asked (next-file files asked ns found) (next-file files more ns found) (is_among asked n) e
  where
    more : Names
    more = asked ++ n ∷ []

    Holds : Type 0
    Holds = files (file_of (last_of found.asked)) ≡ Some found.bytes

    by-file : (next files more ns ≡ Some found → Holds) → (file : Option (List ℕ)) → files (file_of n) ≡ file → found_or file more ns (next files more ns) ≡ Some found → Holds
    by-file others None is h = others h
    by-file others (Some bytes) is h =
        subst (λ (f : Found). files (file_of (last_of f.asked)) ≡ Some f.bytes) (same_Some (found-with bytes more ns) found h)
        (ap (λ name. files (file_of name)) (last-push asked n) ∙ is)

    by-asked : (next files asked ns ≡ Some found → Holds) → (next files more ns ≡ Some found → Holds) → (b : Bool) → cond b (next files asked ns) (found_or (files (file_of n)) more ns (next files more ns)) ≡ Some found → Holds
    by-asked same others true h = same h
    by-asked same others false h = by-file others (files (file_of n)) refl h

-- names that wait did so before
pub next-rest : (P : List ℕ → Type 0) (files : Files) (asked ns : Names) (found : Found) → AllOf P ns → next files asked ns ≡ Some found → AllOf P found.waiting
unfolding next
next-rest P files asked [] found all e = absurd (none-some found e)
next-rest P files asked (n ∷ ns) found all e = by-asked (next-rest P files asked ns found all.1) (next-rest P files more ns found all.1) (is_among asked n) e
  where
    more : Names
    more = asked ++ n ∷ []

    Holds : Type 0
    Holds = AllOf P found.waiting

    by-file : (next files more ns ≡ Some found → Holds) → (file : Option (List ℕ)) → found_or file more ns (next files more ns) ≡ Some found → Holds
    by-file others None h = others h
    by-file others (Some bytes) h = subst (λ (f : Found). AllOf P f.waiting) (same_Some (found-with bytes more ns) found h) all.1

    by-asked : (next files asked ns ≡ Some found → Holds) → (next files more ns ≡ Some found → Holds) → (b : Bool) → cond b (next files asked ns) (found_or (files (file_of n)) more ns (next files more ns)) ≡ Some found → Holds
    by-asked same others true h = same h
    by-asked same others false h = by-file others (files (file_of n)) h

module _ (files later : Files) where
  -- no file is found where none was
  pub next-none : (asked ns : Names) → AllOf (GetsNone files later) ns → next files asked ns ≡ None → next later asked ns ≡ None
  unfolding next
  next-none asked [] all e = refl
  next-none asked (n ∷ ns) all e = by-asked (next-none asked ns all.1) (next-none more ns all.1) (is_among asked n) e
    where
      more : Names
      more = asked ++ n ∷ []

      by-file : (next files more ns ≡ None → next later more ns ≡ None) → (file : Option (List ℕ)) → files (file_of n) ≡ file → found_or file more ns (next files more ns) ≡ None → found_or (later (file_of n)) more ns (next later more ns) ≡ None
      by-file others None is h = ap (λ o. found_or o more ns (next later more ns)) (all.0 is) ∙ others h
      by-file others (Some bytes) is h = absurd (none-some (found-with bytes more ns) (sym h))

      by-asked : (next files asked ns ≡ None → next later asked ns ≡ None) → (next files more ns ≡ None → next later more ns ≡ None) → (b : Bool) → cond b (next files asked ns) (found_or (files (file_of n)) more ns (next files more ns)) ≡ None → cond b (next later asked ns) (found_or (later (file_of n)) more ns (next later more ns)) ≡ None
      by-asked same others true h = same h
      by-asked same others false h = by-file others (files (file_of n)) refl h

  -- the same file is found, with the bytes that it has now
  pub next-same : (asked ns : Names) (found : Found) (bytes : List ℕ) → AllOf (GetsNone files later) ns → later (file_of (last_of found.asked)) ≡ Some bytes → next files asked ns ≡ Some found → next later asked ns ≡ Some (holding found bytes)
  unfolding next
  next-same asked [] found bytes all held e = absurd (none-some found e)
  next-same asked (n ∷ ns) found bytes all held e = by-asked (next-same asked ns found bytes all.1 held) (next-same more ns found bytes all.1 held) (is_among asked n) e
    where
      more : Names
      more = asked ++ n ∷ []

      by-file : (next files more ns ≡ Some found → next later more ns ≡ Some (holding found bytes)) → (file : Option (List ℕ)) → files (file_of n) ≡ file → found_or file more ns (next files more ns) ≡ Some found → found_or (later (file_of n)) more ns (next later more ns) ≡ Some (holding found bytes)
      by-file others None is h = ap (λ o. found_or o more ns (next later more ns)) (all.0 is) ∙ others h
      by-file others (Some old) is h =
          let same = same_Some (found-with old more ns) found h in
          let name : last_of found.asked ≡ n = ap (λ (f : Found). last_of f.asked) (sym same) ∙ last-push asked n in
          let now : later (file_of n) ≡ Some bytes = ap (λ m. later (file_of m)) (sym name) ∙ held in
          ap (λ o. found_or o more ns (next later more ns)) now ∙ ap (λ (f : Found). Some (holding f bytes)) same

      by-asked : (next files asked ns ≡ Some found → next later asked ns ≡ Some (holding found bytes)) → (next files more ns ≡ Some found → next later more ns ≡ Some (holding found bytes)) → (b : Bool) → cond b (next files asked ns) (found_or (files (file_of n)) more ns (next files more ns)) ≡ Some found → cond b (next later asked ns) (found_or (later (file_of n)) more ns (next later more ns)) ≡ Some (holding found bytes)
      by-asked same others true h = same h
      by-asked same others false h = by-file others (files (file_of n)) refl h
