-- A class with more entries in its pool, and with other code, asks for the same classes.
use Rattle.std.proofs.Common.{◌≡◌, ◌∙◌, ℕ, suc, ◌-◌, ◌⊎◌, ⊎_elim, cond, ◌||◌, List, [], ◌∷◌, ◌++◌, map, Some, None, refl, sym, ap, subst, arith}
use Rattle.std.specs.Prelude.{not, filter, flat_map, slice_get, option_to_list}
use Rattle.std.specs.List.{AllZip}
use Rattle.std.proofs.lemmas.Option.{same_Some, none-some}
use Rattle.class_definition.specs.declared.entry.Entry.{Entry}
use Rattle.class_definition.specs.declared.entry.Entry.TheVariants.{Utf8, Integer, Long, LongRest, ClassName, Text, FieldRef, MethodRef, NameAnd}
use Rattle.class_definition.specs.NameGrammar.{is_array_name, is_class_file_name}
use Rattle.class_definition.specs.PoolChecks.{pool_entry_fault, text_at}
use Rattle.class_definition.specs.declared.class.Class.{Class}
use Rattle.class_definition.specs.declared.framed_class.FramedClass.{FramedClass}
use Rattle.class_sets.specs.ClassSets.{asked_in, has_file, names_asked}
use Rattle.emit_classes.proofs.Sound.{at-index, index-at, pool-parts}
use Rattle.emit_classes.proofs.Stays.{text-stays}
use Rattle.emit_classes.proofs.Classes.{class-parts}
use Rattle.stackmap_laws.specs.Like.{AreLikeIn, IsLike, IsLikeIn, IsNew}
use Rattle.stackmap_laws.proofs.NameLaws.{text-there}
use Rattle.stackmap_maker.specs.Refusals.{class_without_tables}

-- ---- one entry

-- an entry that was there before asks for what it asked for
entry-same : (old new : Class) → IsLike old new → (e : Entry) → pool_entry_fault old.pool e ≡ None → asked_in new.pool e ≡ asked_in old.pool e
unfolding pool_entry_fault
entry-same old new like (ClassName n) sound =
    let t = text-there (λ cs. is_class_file_name cs || is_array_name cs) (text_at old.pool n) sound in
    ap (λ o. filter has_file (option_to_list o)) (text-stays old.pool new.pool like.stays n t.0 t.1 ∙ sym t.1)
entry-same old new like (Utf8 cs) sound = refl
entry-same old new like (Integer n) sound = refl
entry-same old new like (Long n) sound = refl
entry-same old new like LongRest sound = refl
entry-same old new like (Text n) sound = refl
entry-same old new like (FieldRef n m) sound = refl
entry-same old new like (MethodRef n m) sound = refl
entry-same old new like (NameAnd n m) sound = refl

-- a new one asks for nothing
entry-new : (entries : List Entry) (e : Entry) → IsNew entries e → asked_in entries e ≡ []
entry-new entries (Utf8 cs) k = refl
entry-new entries (ClassName n) k =
    ap (λ o. filter has_file (option_to_list o)) k.1 ∙ ap (λ b. cond (not b) (k.0 ∷ []) []) k.2
entry-new entries (Integer n) k = absurd k
entry-new entries (Long n) k = absurd k
entry-new entries LongRest k = absurd k
entry-new entries (Text n) k = absurd k
entry-new entries (FieldRef n m) k = absurd k
entry-new entries (MethodRef n m) k = absurd k
entry-new entries (NameAnd n m) k = absurd k

-- ---- all entries

module _ (old new : Class) (like : IsLike old new) where
  entries-same : (xs ys : List Entry) → ((i : ℕ) (e : Entry) → slice_get xs i ≡ Some e → pool_entry_fault old.pool e ≡ None) → ((i : ℕ) (e : Entry) → slice_get xs i ≡ Some e → slice_get ys i ≡ Some e) → ((i : ℕ) (e : Entry) → slice_get ys i ≡ Some e → (slice_get xs i ≡ Some e) ⊎ IsNew new.pool e) → flat_map (asked_in new.pool) ys ≡ flat_map (asked_in old.pool) xs
  entries-same [] [] sound stays known = refl
  entries-same [] (y ∷ ys) sound stays known =
      let none : asked_in new.pool y ≡ [] = ⊎_elim (λ h. absurd (none-some y h)) (λ k. entry-new new.pool y k) (known 0 y refl) in
      ap (λ names. names ++ flat_map (asked_in new.pool) ys) none ∙ entries-same [] ys sound (λ i e h. absurd (none-some e h)) (λ i e h. known (suc i) e h)
  entries-same (x ∷ xs) [] sound stays known = absurd (none-some x (stays 0 x refl))
  entries-same (x ∷ xs) (y ∷ ys) sound stays known =
      let first : asked_in new.pool y ≡ asked_in old.pool x = ap (asked_in new.pool) (same_Some y x (stays 0 x refl)) ∙ entry-same old new like x (sound 0 x refl) in
      let others = entries-same xs ys (λ i e h. sound (suc i) e h) (λ i e h. stays (suc i) e h) (λ i e h. known (suc i) e h) in
      λ i. first i ++ others i

names-same : (old new : Class) → IsLikeIn old new → names_asked new ≡ names_asked old
names-same old new l =
    let sound = (pool-parts old.pool (class-parts old l.like.fits).pool_is).sound in
    entries-same old new l.like old.pool new.pool
    (λ i e h. sound (suc i) e (index-at old.pool i e h))
    (λ i e h.
    let place : suc i - 1 ≡ i = omega arith in
    subst (λ j. slice_get new.pool j ≡ Some e) place (at-index new.pool (suc i) e (l.like.stays (suc i) e (index-at old.pool i e h))))
    l.entries

-- ---- all classes

-- a class with tables asks for the same classes
abbrev pub AsksSame : Class → FramedClass → Type 0
AsksSame c f = names_asked f.class ≡ names_asked c

pub all-same : (cs : List Class) (fs : List FramedClass) → AreLikeIn cs (map class_without_tables fs) → AllZip AsksSame cs fs
all-same [] [] l = tt
all-same [] (f ∷ fs) l = absurd l
all-same (c ∷ cs) [] l = absurd l
all-same (c ∷ cs) (f ∷ fs) l = (names-same c f.class l.0, all-same cs fs l.1)
