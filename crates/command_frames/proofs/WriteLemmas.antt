-- Classes that are written one after the other.
use Rattle.std.proofs.Common.{◌≡◌, ℕ, ◌+◌, ◌<◌, suc, zero, List, [], ◌∷◌, ◌++◌, length, map, take, get_or, refl, sym, ap, ◌∙◌, subst, arith}
use Rattle.std.specs.List.{AllZip}
use Rattle.std.proofs.lemmas.List.{map-append, take_more}
use Rattle.class_definition.specs.declared.framed_class.FramedClass.{FramedClass}
use Rattle.class_definition.specs.FramedClassFile.{SpellsFramed}
use Rattle.class_sets.specs.ClassSets.{file_of}
use Rattle.class_names.proofs.PlaceLemmas.{AllZip-append}
use Rattle.command_deeds.specs.Deeds.{Deed, stores}
use Rattle.command_frames.specs.declared.stored_class.StoredClass.{StoredClass}
use Rattle.command_frames.specs.Frames.{AreWritten, all_stored, deed_of}

zip-length : {A B : Type 0} (R : A → B → Type 0) (xs : List A) (ys : List B) → AllZip R xs ys → length xs ≡ length ys
zip-length R [] [] z = refl
zip-length R [] (y ∷ ys) z = absurd z
zip-length R (x ∷ xs) [] z = absurd z
zip-length R (x ∷ xs) (y ∷ ys) z = ap suc (zip-length R xs ys z.1)

taken : {A : Type 0} (xs : List A) (i : ℕ) → i < length xs → length (take i xs) ≡ i
taken [] i less = absurd (omega (arith, less))
taken (y ∷ xs) zero less = refl
taken (y ∷ xs) (suc i) less = ap suc (taken xs i (omega (arith, less)))

one-more : {A : Type 0} (xs : List A) (i : ℕ) (x : A) → i < length xs → x ≡ get_or xs i x → take (i + 1) xs ≡ take i xs ++ x ∷ []
one-more xs i x less is = take_more xs i x less ∙ ap (λ y. take i xs ++ y ∷ []) (sym is)

all-of : {A : Type 0} (xs : List A) (n : ℕ) → n ≡ length xs → take n xs ≡ xs
all-of [] zero e = refl
all-of [] (suc n) e = refl
all-of (x ∷ xs) zero e = absurd (omega (arith, e))
all-of (x ∷ xs) (suc n) e = ap (λ ys. x ∷ ys) (all-of xs n (omega (arith, e)))

stored-push : (names files : List (List ℕ)) (name bytes : List ℕ) → length names ≡ length files → all_stored (names ++ name ∷ []) (files ++ bytes ∷ []) ≡ all_stored names files ++ stores (file_of name) bytes ∷ []
stored-push [] [] name bytes e = refl
stored-push [] (b ∷ files) name bytes e = absurd (omega (arith, e))
stored-push (n ∷ names) [] name bytes e = absurd (omega (arith, e))
stored-push (n ∷ names) (b ∷ files) name bytes e = ap (λ ds. stores (file_of n) b ∷ ds) (stored-push names files name bytes (omega (arith, e)))

pub written-none : (names : List (List ℕ)) (framed : List FramedClass) (files : List StoredClass) → files ≡ [] → AreWritten (take 0 names) (take 0 framed) (map deed_of files)
written-none names framed files e = record { files = []; spelled = tt; are = ap (map deed_of) e }

pub written-next : (names : List (List ℕ)) (framed : List FramedClass) (i : ℕ) (name : List ℕ) (f : FramedClass) (files more : List StoredClass) (file : StoredClass) → i < length names → i < length framed → name ≡ get_or names i name → f ≡ get_or framed i f → more ≡ files ++ file ∷ [] → deed_of file ≡ stores (file_of name) file.bytes.items → SpellsFramed file.bytes.items f → AreWritten (take i names) (take i framed) (map deed_of files) → AreWritten (take (i + 1) names) (take (i + 1) framed) (map deed_of more)
written-next names framed i name f files more file name-less f-less name-is f-is more-is deed spells w =
    let bytes = file.bytes.items in
    let count : length (take i names) ≡ length w.files = taken names i name-less ∙ (sym (taken framed i f-less) ∙ sym (zip-length SpellsFramed w.files (take i framed) w.spelled)) in
    record {
      files = w.files ++ bytes ∷ [];
      spelled = subst (AllZip SpellsFramed (w.files ++ bytes ∷ [])) (sym (one-more framed i f f-less f-is)) (AllZip-append SpellsFramed w.files (bytes ∷ []) (take i framed) (f ∷ []) w.spelled (spells, tt));
      are = ap (map deed_of) more-is ∙ (map-append deed_of files (file ∷ []) ∙ (ap (λ ds. ds ++ deed_of file ∷ []) w.are ∙ (ap (λ d. all_stored (take i names) w.files ++ d ∷ []) deed
          ∙ (sym (stored-push (take i names) w.files name bytes count) ∙ ap (λ ns. all_stored ns (w.files ++ bytes ∷ [])) (sym (one-more names i name name-less name-is))))));
    }

pub written-all : (names : List (List ℕ)) (framed : List FramedClass) (i : ℕ) (deeds : List Deed) → i ≡ length framed → length names ≡ length framed → AreWritten (take i names) (take i framed) deeds → AreWritten names framed deeds
written-all names framed i deeds end count w =
    subst (λ ns. AreWritten ns framed deeds) (all-of names i (end ∙ sym count)) (subst (λ fs. AreWritten (take i names) fs deeds) (all-of framed i end) w)
