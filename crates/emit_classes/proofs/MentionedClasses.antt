-- Which classes a pool names, each where it is named first.
use Rattle.std.proofs.Common.{◌≡◌, ℕ, zero, suc, ◌||◌, Bool, true, false, if◌then◌else◌, List, [], ◌∷◌, ◌++◌, Option, Some, None, refl, sym, ap, ◌∙◌}
use Rattle.std.specs.Prelude.{slice_get, unwrap_or, flat_map, option_to_list}
use Rattle.std.specs.List.{list_any}
use Rattle.std.specs.Option.{option_and_then}
use Rattle.std.proofs.lemmas.List.{append-nil}
use Rattle.std.proofs.lemmas.Grind.{flat_map-append}
use Rattle.class_definition.specs.declared.entry.Entry.{Entry}
use Rattle.class_definition.specs.declared.entry.Entry.TheVariants.{Utf8, Integer, Long, LongRest, ClassName, Text, FieldRef, MethodRef}
use Rattle.class_definition.specs.declared.entry.Entry.TheVariants.{NameAnd}
use Rattle.class_definition.specs.NameGrammar.{same_text}
use Rattle.class_definition.specs.PoolEntries.{class_entry_name}
use Rattle.class_definition.specs.PoolChecks.{text_at, pool_entry_fault}
use Rattle.emit_classes.specs.Sound.{IsPool}
use Rattle.emit_classes.specs.Mentioned.{Mention, OfClass, OfMember, mentions_in, mentioned, fresh, once, same_mention, Mentions, class_mention, classes_among}
use Rattle.emit_classes.proofs.Sound.{pool-parts, index-at}
use Rattle.emit_classes.proofs.Mentions.{class-named}

classes-append : (xs ys : List Mention) → classes_among (xs ++ ys) ≡ classes_among xs ++ classes_among ys
classes-append xs ys = flat_map-append class_mention xs ys

-- ---- each once

among-classes : (name : List ℕ) (xs : List Mention) → list_any (same_mention (OfClass name)) xs ≡ list_any (same_text name) (classes_among xs)
among-classes name [] = refl
among-classes name (OfClass n ∷ xs) = ap (λ b. same_text name n || b) (among-classes name xs)
among-classes name (OfMember k r ∷ xs) = among-classes name xs

classes-if : (b : Bool) (n : List ℕ) (p q : List Mention)
    → classes_among (if b then p else OfClass n ∷ q) ≡ (if b then classes_among p else n ∷ classes_among q)
classes-if true n p q = refl
classes-if false n p q = refl

classes-fresh : (before xs : List Mention)
    → classes_among (fresh same_mention before xs) ≡ fresh same_text (classes_among before) (classes_among xs)
unfolding fresh
classes-fresh before [] = refl
classes-fresh before (OfClass n ∷ xs) =
    let more : List Mention = before ++ OfClass n ∷ [] in
    let kept = classes-fresh before xs in
    let put = classes-fresh more xs ∙ ap (λ l. fresh same_text l (classes_among xs)) (classes-append before (OfClass n ∷ [])) in
    let there = among-classes n before in
    classes-if (list_any (same_mention (OfClass n)) before) n (fresh same_mention before xs) (fresh same_mention more xs)
    ∙ (λ i. if there i then kept i else n ∷ put i)
classes-fresh before (OfMember k r ∷ xs) =
    let more : List Mention = before ++ OfMember k r ∷ [] in
    let kept = classes-fresh before xs in
    let put = classes-fresh more xs
    ∙ ap (λ l. fresh same_text l (classes_among xs)) (classes-append before (OfMember k r ∷ []) ∙ append-nil (classes_among before)) in
    elim (list_any (same_mention (OfMember k r)) before) as
    (λ b. classes_among (if b then fresh same_mention before xs else OfMember k r ∷ fresh same_mention more xs)
    ≡ fresh same_text (classes_among before) (classes_among xs)) [ true ↦ kept | false ↦ put ]

pub classes-once : (xs : List Mention) → classes_among (once same_mention xs) ≡ once same_text (classes_among xs)
classes-once xs = classes-fresh [] xs

pub mentions-classes : (pool : List Entry) (names : List Mention) → Mentions pool names
    → once same_text (classes_among (mentioned pool)) ≡ once same_text (classes_among names)
mentions-classes pool names is = sym (classes-once (mentioned pool)) ∙ ap classes_among is.are ∙ classes-once names

-- ---- as the entries of classes name them

class-asked : (pool : List Entry) (e : Entry) → pool_entry_fault pool e ≡ None
    → option_to_list (option_and_then (text_at pool) (class_entry_name e)) ≡ classes_among (mentions_in pool e)
class-asked pool (Utf8 cs) none = refl
class-asked pool (Integer n) none = refl
class-asked pool (Long n) none = refl
class-asked pool LongRest none = refl
class-asked pool (ClassName n) none =
    let there = (class-named pool (ClassName n) n none refl).1 in
    ap option_to_list there ∙ ap (λ (o : Option (List ℕ)). unwrap_or o [] ∷ []) (sym there)
class-asked pool (Text n) none = refl
class-asked pool (FieldRef n m) none = refl
class-asked pool (MethodRef n m) none = refl
class-asked pool (NameAnd n m) none = refl

all-asked : (pool es : List Entry) → ((i : ℕ) (e : Entry) → slice_get es i ≡ Some e → pool_entry_fault pool e ≡ None)
    → flat_map (λ e. option_to_list (option_and_then (text_at pool) (class_entry_name e))) es ≡ classes_among (flat_map (mentions_in pool) es)
all-asked pool [] sound = refl
all-asked pool (e ∷ es) sound =
    let here = class-asked pool e (sound zero e refl) in
    let later = all-asked pool es (λ i x at. sound (suc i) x at) in
    (λ i. here i ++ later i) ∙ sym (classes-append (mentions_in pool e) (flat_map (mentions_in pool) es))

-- the classes that the entries of a pool name are those among what it mentions
pub classes-asked : (pool : List Entry) → IsPool pool
    → flat_map (λ e. option_to_list (option_and_then (text_at pool) (class_entry_name e))) pool ≡ classes_among (mentioned pool)
classes-asked pool is = all-asked pool pool (λ i e at. (pool-parts pool is).sound (suc i) e (index-at pool i e at))
