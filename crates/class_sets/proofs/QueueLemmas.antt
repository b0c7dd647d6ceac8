-- How a queue of names moves on.
use Rattle.std.proofs.Common.{◌≡◌, ℕ, ◌+◌, ◌<◌, ◌≤◌, Bool, true, false, cond, List, [], ◌∷◌, ◌++◌, length, take, drop, Option, Some, None, option_map, String, Global, string_bytes, refl, sym, ap, ◌∙◌, subst, append_assoc, append-nil, get_or, arith}
use Rattle.std.specs.Prelude.{◌||◌, slice_get, is_some, flat_map, Vec}
use Rattle.std.specs.List.{list_any}
use Rattle.std.specs.String.{string_eq}
use Rattle.std.proofs.lemmas.List.{flat_map_more, take_more, drop_more, drop_all, drop-append-le, take-append-le, take-append-drop, map-append, length-map}
use Rattle.std.proofs.lemmas.Option.{get_or_from_slice_get, slice_get_within, slice_get-map}
use Rattle.indexmap.specs.IndexSet.{insert_key}
use Rattle.nv_outside.specs.Files.{Files}
use Rattle.class_definition.specs.declared.entry.Entry.{Entry}
use Rattle.class_sets.specs.ClassSets.{asked_in, file_of, is_among, Found, found_or, next}
use Rattle.class_sets.specs.Waiting.{fresh, texts, last_of, Queue, queue, IsOnce, file_found}
use Rattle.class_sets.proofs.WaitingLemmas.{fresh-append, fresh-fresh, fresh-head, next-first, next-none}

abbrev Names : Type 0
Names = List (List ℕ)

-- ---- a name is asked for

pub record Splits (names : Names) (i : ℕ) (name : List ℕ) : Type 0 where
  pub front : take (i + 1) names ≡ take i names ++ name ∷ []
  pub behind : drop i names ≡ name ∷ drop (i + 1) names

pub splits : (names : Names) (i : ℕ) (name : List ℕ) → slice_get names i ≡ Some name → Splits names i name
splits names i name at =
    let here = get_or_from_slice_get names i name [] at in
    let lt = slice_get_within names i name at in
    record {
      front = take_more names i [] lt ∙ ap (λ n. take i names ++ n ∷ []) here;
      behind = drop_more names i [] lt ∙ ap (λ n. n ∷ drop (i + 1) names) here;
    }

-- the last name that was asked for
last-push : (names : Names) (name : List ℕ) → last_of (names ++ name ∷ []) ≡ name
last-push [] name = refl
last-push (n ∷ []) name = refl
last-push (n ∷ m ∷ names) name = last-push (m ∷ names) name

pub last_asked_is : (names : List (String Global)) (i : ℕ) (name : String Global) → slice_get names i ≡ Some name → last_of (take (i + 1) (texts names)) ≡ string_bytes name
last_asked_is names i name at =
    ap last_of (splits (texts names) i (string_bytes name) (slice_get-map string_bytes names i ∙ ap (option_map string_bytes) at)).front
    ∙ last-push (take i (texts names)) (string_bytes name)

pub once_more : (names : Names) (i : ℕ) (name : List ℕ) → slice_get names i ≡ Some name → IsOnce (queue i names) → (is_among (take i names) name ≡ false) × IsOnce (queue (i + 1) names)
once_more names i name at once =
    let s = splits names i name at in
    let P : List (List ℕ) → Type 0 = λ l. fresh (take i names) l ≡ l in
    let Q : List (List ℕ) → Type 0 = λ l. fresh l (drop (i + 1) names) ≡ drop (i + 1) names in
    let h = fresh-head (take i names) name (drop (i + 1) names) (subst P s.behind once) in
    (h.0, subst Q (sym s.front) h.1)

pub asked_more : (files : Files) (names : Names) (i : ℕ) (name : List ℕ) (file : Option (List ℕ)) → slice_get names i ≡ Some name → IsOnce (queue i names) → files (file_of name) ≡ file → next files (take i names) (drop i names) ≡ found_or file (take (i + 1) names) (drop (i + 1) names) (next files (take (i + 1) names) (drop (i + 1) names))
asked_more files names i name file at once is =
    let s = splits names i name at in
    let step : next files (take i names) (name ∷ drop (i + 1) names) ≡ found_or file (take i names ++ name ∷ []) (drop (i + 1) names) (next files (take i names ++ name ∷ []) (drop (i + 1) names)) = next-first files (take i names) name (drop (i + 1) names) file (once_more names i name at once).0 is in
    let P : Names → Type 0 = λ l. next files (take i names) l ≡ found_or file (take i names ++ name ∷ []) (drop (i + 1) names) (next files (take i names ++ name ∷ []) (drop (i + 1) names)) in
    let Q : Names → Type 0 = λ l. next files (take i names) (drop i names) ≡ found_or file l (drop (i + 1) names) (next files l (drop (i + 1) names)) in
    subst Q (sym s.front) (subst P (sym s.behind) step)

pub asked_all : (files : Files) (names : List (String Global)) (i : ℕ) → length names ≤ i → next files (take i (texts names)) (drop i (texts names)) ≡ None
asked_all files names i le =
    let all : length (texts names) ≤ i = omega (arith, length-map names string_bytes) in
    ap (next files (take i (texts names))) (drop_all i (texts names) all) ∙ next-none files (take i (texts names))

pub text_at : (names : List (String Global)) (i : ℕ) (name : String Global) → slice_get names i ≡ Some name → slice_get (texts names) i ≡ Some (string_bytes name)
text_at names i name at = slice_get-map string_bytes names i ∙ ap (option_map string_bytes) at

pub found_some : (q : Queue) (found : Option (Vec ℕ Global)) (others : Option Found) → is_some found ≡ true → found_or (option_map (λ v. v.items) found) q.asked q.waiting others ≡ option_map (file_found q) found
found_some q None others e = absurd cc
found_some q (Some v) others e = refl

pub found_none : (asked waiting : Names) (found : Option (Vec ℕ Global)) (others : Option Found) → is_some found ≡ false → found_or (option_map (λ v. v.items) found) asked waiting others ≡ others
found_none asked waiting None others e = refl
found_none asked waiting (Some v) others e = absurd cc

-- ---- names are added

among_texts : (name : String Global) (names : List (String Global)) → list_any (string_eq name) names ≡ is_among (texts names) (string_bytes name)
among_texts name [] = refl
among_texts name (n ∷ names) = ap (λ b. string_eq name n || b) (among_texts name names)

pub inserted : (names : List (String Global)) (name : String Global) → texts (insert_key string_eq names name) ≡ texts names ++ fresh (texts names) (string_bytes name ∷ [])
inserted names name = subst P (sym (among_texts name names)) (by (is_among (texts names) (string_bytes name)))
  where
    P : Bool → Type 0
    P b = texts (cond b names (names ++ name ∷ [])) ≡ texts names ++ fresh (texts names) (string_bytes name ∷ [])

    by : (b : Bool) → texts (cond b names (names ++ name ∷ [])) ≡ texts names ++ cond b [] (string_bytes name ∷ [])
    by true = sym (append-nil (texts names))
    by false = map-append string_bytes names (name ∷ [])

-- names that were added to those that wait, and more
pub added_more : (asked waiting mid new done more : Names) → mid ≡ waiting ++ fresh (asked ++ waiting) done → new ≡ mid ++ fresh (asked ++ mid) more → new ≡ waiting ++ fresh (asked ++ waiting) (done ++ more)
added_more asked waiting mid new done more first second =
    let all = asked ++ waiting in
    let there : asked ++ mid ≡ all ++ fresh all done = ap (λ m. asked ++ m) first ∙ sym (append_assoc asked waiting (fresh all done)) in
    second ∙ ap (λ m. m ++ fresh (asked ++ mid) more) first ∙ ap (λ k. (waiting ++ fresh all done) ++ fresh k more) there
    ∙ append_assoc waiting (fresh all done) (fresh (all ++ fresh all done) more)
    ∙ ap (λ l. waiting ++ l) (sym (fresh-append all done more))

-- the queue with added names
pub record IsQueueWith (i : ℕ) (old names new : Names) : Type 0 where
  pub asked : take i new ≡ take i old
  pub waiting : drop i new ≡ drop i old ++ fresh (take i old ++ drop i old) names
  pub once : IsOnce (queue i new)

pub queue_with : (i : ℕ) (old names new : Names) → i ≤ length old → IsOnce (queue i old) → new ≡ old ++ fresh old names → IsQueueWith i old names new
queue_with i old names new le once is = record { asked = front; waiting = back; once = same }
  where
    front : take i new ≡ take i old
    front = ap (take i) is ∙ take-append-le i old (fresh old names) le

    back : drop i new ≡ drop i old ++ fresh (take i old ++ drop i old) names
    back = ap (drop i) is ∙ drop-append-le i old (fresh old names) le ∙ ap (λ l. drop i old ++ fresh l names) (sym (take-append-drop i old))

    all : Names
    all = take i old ++ drop i old

    same : IsOnce (queue i new)
    same =
        ap (λ l. fresh l (drop i new)) front ∙ ap (fresh (take i old)) back
        ∙ fresh-append (take i old) (drop i old) (fresh all names)
        ∙ ap (λ l. l ++ fresh (take i old ++ l) (fresh all names)) once
        ∙ ap (λ l. drop i old ++ l) (fresh-fresh all names)
        ∙ sym back

pub inserted_queue : (i : ℕ) (old new : List (String Global)) (name : String Global) → i ≤ length old → IsOnce (queue i (texts old)) → new ≡ insert_key string_eq old name → IsQueueWith i (texts old) (string_bytes name ∷ []) (texts new)
inserted_queue i old new name le once is =
    let within : i ≤ length (texts old) = omega (arith, length-map old string_bytes) in
    queue_with i (texts old) (string_bytes name ∷ []) (texts new) within once (ap texts is ∙ inserted old name)

-- the names of one more entry of a pool
pub entry_added : (pool : List Entry) (i : ℕ) (e : Entry) (asked waiting mid new names : Names) → i < length pool → e ≡ get_or pool i e → asked_in pool e ≡ names → mid ≡ waiting ++ fresh (asked ++ waiting) (flat_map (asked_in pool) (take i pool)) → new ≡ mid ++ fresh (asked ++ mid) names → new ≡ waiting ++ fresh (asked ++ waiting) (flat_map (asked_in pool) (take (i + 1) pool))
entry_added pool i e asked waiting mid new names lt at is first second =
    let P : Entry → Type 0 = λ x. take (i + 1) pool ≡ take i pool ++ x ∷ [] in
    let taken : take (i + 1) pool ≡ take i pool ++ e ∷ [] = subst P (sym at) (take_more pool i e lt) in
    let more : flat_map (asked_in pool) (take (i + 1) pool) ≡ flat_map (asked_in pool) (take i pool) ++ names =
    ap (flat_map (asked_in pool)) taken ∙ sym (flat_map_more (asked_in pool) [] (take i pool) e) ∙ ap (λ l. flat_map (asked_in pool) (take i pool) ++ l) is in
    added_more asked waiting mid new (flat_map (asked_in pool) (take i pool)) names first second ∙ ap (λ l. waiting ++ fresh (asked ++ waiting) l) (sym more)
