-- Files that are loaded one after the other.
use Rattle.std.proofs.Common.{◌≡◌, ◌∙◌, ◌<◌, ◌+◌, ℕ, List, [], ◌∷◌, ◌++◌, length, take, drop, get_or, Option, Result, Ok, Err, Vec, Global, refl, sym, ap, subst, append_assoc}
use Rattle.std.proofs.lemmas.List.{map-append, take-append-drop, take_more}
use Rattle.nv_outside.specs.Files.{AgreeWith, Files}
use Rattle.nv_outside.proofs.FilesLemmas.{agree_before}
use Rattle.obj_reader.specs.Files.{files_of}
use Rattle.command_words.specs.declared.named.Named.{Named}
use Rattle.command_deeds.specs.Checks.{Behind, Check, after_check, file_at, file_that_is_named}
use Rattle.command_deeds.specs.Ends.{CommandAnswer, GivesEnd, Over}
use Rattle.command_deeds.specs.World.{SameShelf, Seen}
use Rattle.command_deeds.specs.declared.stop.Stop.{Stop}
use Rattle.command_deeds.proofs.DeedLemmas.{over_any, same_shelf, same_then_load, same_then_shelf}
use Rattle.command_link.specs.Loading.{AreLoaded, IsWithOtherFiles}

-- ---- lists

-- one more of a list of names
named_more : (xs : List Named) (i : ℕ) (x : Named) → i < length xs → x ≡ get_or xs i x → take (i + 1) xs ≡ take i xs ++ x ∷ []
named_more xs i x within is = take_more xs i x within ∙ ap (λ y. take i xs ++ y ∷ []) (sym is)

-- a list of names at one of them
named_at : (xs : List Named) (i : ℕ) (x : Named) → i < length xs → x ≡ get_or xs i x → take i xs ++ x ∷ drop (i + 1) xs ≡ xs
named_at xs i x within is =
    sym (append_assoc (take i xs) (x ∷ []) (drop (i + 1) xs)) ∙ ap (λ front. front ++ drop (i + 1) xs) (sym (named_more xs i x within is))
    ∙ take-append-drop (i + 1) xs

-- ---- files behind files

-- files before what others come to
abbrev joined : List (List ℕ) → Check (List (List ℕ)) → Check (List (List ℕ))
joined files check = after_check check (λ others. Ok (files ++ others))

none_before : (check : Check (List (List ℕ))) → check ≡ joined [] check
none_before (Ok others) = refl
none_before (Err answer) = refl

one_before : (file : List ℕ) (files : List (List ℕ)) (check : Check (List (List ℕ)))
    → joined (file ∷ files) check ≡ after_check (joined files check) (λ rest. Ok (file ∷ rest))
one_before file files (Ok others) = refl
one_before file files (Err answer) = refl

loaded_then : (told : Option Files) (front rest : List Named) (files : List (List ℕ)) (check : Check (List (List ℕ))) → AreLoaded told front (Ok files)
    → AreLoaded told rest check → AreLoaded told (front ++ rest) (joined files check)
loaded_then told [] rest files check h more =
    let none : files ≡ [] = cc in
    subst (AreLoaded told rest) (none_before check ∙ ap (λ f. joined f check) (sym none)) more
loaded_then told (name ∷ names) rest files check h more =
    (h.0, h.1, behind (file_that_is_named h.0 name) h.2 (λ others are. loaded_then told names rest others check are more))
  where
    split : (file : List ℕ) (others : Check (List (List ℕ))) → AreLoaded told names others → Ok files ≡ after_check others (λ rest. Ok (file ∷ rest))
        → ((others : List (List ℕ)) → AreLoaded told names (Ok others) → AreLoaded told (names ++ rest) (joined others check))
        → IsWithOtherFiles (AreLoaded told (names ++ rest)) file (joined files check)
    split file (Err answer) are is next = absurd (cc)
    split file (Ok others) are is next =
        let e : files ≡ file ∷ others = cc in
        (joined others check, next others are, ap (λ f. joined f check) e ∙ one_before file others check)

    behind : (c : Check (List ℕ)) → Behind c (IsWithOtherFiles (AreLoaded told names)) (Ok files)
        → ((others : List (List ℕ)) → AreLoaded told names (Ok others) → AreLoaded told (names ++ rest) (joined others check))
        → Behind c (IsWithOtherFiles (AreLoaded told (names ++ rest))) (joined files check)
    behind (Err answer) h next = absurd (cc)
    behind (Ok file) h next = split file h.0 h.1 h.2 next

one_loaded : (told : Option Files) (name : Named) (files : Files) (file : List ℕ) → AgreeWith told files → Ok file ≡ file_that_is_named files name
    → AreLoaded told (name ∷ []) (Ok (file ∷ []))
one_loaded told name files file agree is =
    (files, agree, subst (λ c. Behind c (IsWithOtherFiles (AreLoaded told [])) (Ok (file ∷ []))) is (Ok [], refl, refl))

one_lacks : (told : Option Files) (name : Named) (names : List Named) (files : Files) (answer : CommandAnswer) → AgreeWith told files
    → Err answer ≡ file_that_is_named files name → AreLoaded told (name ∷ names) (Err answer)
one_lacks told name names files answer agree is =
    (files, agree, subst (λ c. Behind c (IsWithOtherFiles (AreLoaded told names)) (Err answer)) is refl)

-- ---- from the shelf

-- the files of the names before one were loaded, and nothing changed
pub record HasLoaded (old now : Seen Files) (names : List Named) (i : ℕ) (files : List (List ℕ)) : Type 0 where
  pub same : SameShelf old now
  pub are : AreLoaded old.told (take i names) (Ok files)

pub none_loaded : (shelf : Seen Files) (names : List Named) → HasLoaded shelf shelf names 0 []
none_loaded shelf names = record { same = same_shelf shelf; are = refl }

-- one more was
pub one_more : (a b c : Seen Files) (names : List Named) (i : ℕ) (name : Named) (text : List ℕ) (old new : List (Vec ℕ Global)) (v : Vec ℕ Global)
    → i < length names → name ≡ get_or names i name → text ≡ name.text → new ≡ old ++ v ∷ [] → HasLoaded a b names i (files_of old)
    → Over (λ files. Ok v.items ≡ file_at files name.word text) b c → HasLoaded a c names (i + 1) (files_of new)
one_more a b c names i name text old new v within is text_is new_is h o = record {
  same = same_then_shelf a b c h.same o.same;
  are = subst (λ xs. AreLoaded a.told xs (Ok (files_of new))) (sym (named_more names i name within is))
      (subst (λ fs. AreLoaded a.told (take i names ++ name ∷ []) (Ok fs)) (sym (ap files_of new_is ∙ map-append (λ (w : Vec ℕ Global). w.items) old (v ∷ [])))
      (loaded_then a.told (take i names) (name ∷ []) (files_of old) (Ok (v.items ∷ [])) h.are
      (one_loaded a.told name o.files v.items (agree_before a.told b.told o.files h.same.0 o.agree) (o.is ∙ ap (file_at o.files name.word) text_is))));
}

-- one is not there, or was not loaded
pub one_ends : (a b c : Seen Files) (names : List Named) (i : ℕ) (name : Named) (text : List ℕ) (files : List (List ℕ)) (end : Result CommandAnswer Stop)
    → i < length names → name ≡ get_or names i name → text ≡ name.text → HasLoaded a b names i files
    → GivesEnd (λ files answer. Err answer ≡ file_at files name.word text) b c end
    → GivesEnd (λ files answer. AreLoaded a.told names (Err answer)) a c end
one_ends a b c names i name text files (Err stop) within is text_is h q = same_then_load a b c stop h.same q
one_ends a b c names i name text files (Ok answer) within is text_is h q = (
  q.0,
  record {
    files = q.1.files;
    agree = agree_before a.told b.told q.1.files h.same.0 q.1.agree;
    same = same_then_shelf a b c h.same q.1.same;
    is = subst (λ xs. AreLoaded a.told xs (Err answer)) (named_at names i name within is)
        (loaded_then a.told (take i names) (name ∷ drop (i + 1) names) files (Err answer) h.are
        (one_lacks a.told name (drop (i + 1) names) q.1.files answer (agree_before a.told b.told q.1.files h.same.0 q.1.agree)
        (q.1.is ∙ ap (file_at q.1.files name.word) text_is)));
  },
)

-- all were
pub all_loaded : (a b : Seen Files) (names : List Named) (i : ℕ) (files : List (List ℕ)) → take i names ≡ names → HasLoaded a b names i files
    → Over (λ other. AreLoaded a.told names (Ok files)) a b
all_loaded a b names i files whole h =
    over_any (λ other. AreLoaded a.told names (Ok files)) a b h.same (λ other. subst (λ xs. AreLoaded a.told xs (Ok files)) whole h.are)
