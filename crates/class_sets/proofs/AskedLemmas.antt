-- What was asked for is not asked for again.
use Rattle.std.proofs.Common.{◌≡◌, ℕ, Bool, true, false, cond, ◌||◌, List, [], ◌∷◌, ◌++◌, Result, Ok, Err, refl, sym, ap, ◌∙◌, append_assoc}
use Rattle.std.specs.Prelude.{nat_eq, OnOk}
use Rattle.std.specs.List.{list_any}
use Rattle.std.proofs.lemmas.Bool.{eqb-true}
use Rattle.std.proofs.lemmas.List.Folds.{list_any-append}
use Rattle.std.proofs.lemmas.Slice.Eq.{bytes_eq-Decides}
use Rattle.class_definition.specs.declared.entry.Entry.{Entry}
use Rattle.class_definition.specs.declared.entry.Entry.TheVariants.{ClassName}
use Rattle.class_definition.specs.NameGrammar.{same_text}
use Rattle.class_sets.specs.ClassSets.{asked_in, is_among}
use Rattle.class_sets.specs.Waiting.{AreAsked, Queue, fresh}

abbrev Names : Type 0
Names = List (List ℕ)

among_more : (known more : Names) (n : List ℕ) → is_among known n ≡ true → is_among (known ++ more) n ≡ true
among_more known more n on = list_any-append (same_text n) known more ∙ ap (λ t. t || list_any (same_text n) more) on

or_true : (s t : Bool) → t ≡ true → (s || t) ≡ true
or_true true t e = refl
or_true false t e = e

among_last : (known more : Names) (n : List ℕ) → is_among (known ++ n ∷ more) n ≡ true
among_last known more n =
    list_any-append (same_text n) known (n ∷ more)
    ∙ or_true (list_any (same_text n) known) (same_text n n || list_any (same_text n) more)
    (ap (λ t. t || list_any (same_text n) more) ((bytes_eq-Decides n n).1 refl))

-- names that are there are there among more
fresh-none-more : (known more names : Names) → fresh known names ≡ [] → fresh (known ++ more) names ≡ []
fresh-none-more known more [] h = refl
fresh-none-more known more (n ∷ names) h = by (fresh-none-more known more names) (is_among known n) refl h
  where
    by : (fresh known names ≡ [] → fresh (known ++ more) names ≡ []) → (b : Bool) → is_among known n ≡ b → cond b (fresh known names) (n ∷ fresh (known ++ n ∷ []) names) ≡ [] → fresh (known ++ more) (n ∷ names) ≡ []
    by others true on none =
        ap (λ t. cond t (fresh (known ++ more) names) (n ∷ fresh ((known ++ more) ++ n ∷ []) names)) (among_more known more n on)
        ∙ others none
    by others false off none = absurd (cc)

-- names that were put behind others are there
fresh-after : (known names : Names) → fresh (known ++ fresh known names) names ≡ []
fresh-after known [] = refl
fresh-after known (n ∷ names) = by (fresh-after known names) (fresh-after (known ++ n ∷ []) names) (is_among known n) refl
  where
    more : Names
    more = known ++ n ∷ []

    skipped : (all : Names) → is_among all n ≡ true → fresh all (n ∷ names) ≡ fresh all names
    skipped all on = ap (λ t. cond t (fresh all names) (n ∷ fresh (all ++ n ∷ []) names)) on

    by : fresh (known ++ fresh known names) names ≡ [] → fresh (more ++ fresh more names) names ≡ []
        → (b : Bool) → is_among known n ≡ b → fresh (known ++ fresh known (n ∷ names)) (n ∷ names) ≡ []
    by skip put true on =
        let same : fresh known (n ∷ names) ≡ fresh known names = skipped known on in
        ap (λ l. fresh (known ++ l) (n ∷ names)) same
        ∙ skipped (known ++ fresh known names) (among_more known (fresh known names) n on) ∙ skip
    by skip put false off =
        let same : fresh known (n ∷ names) ≡ n ∷ fresh more names = ap (λ t. cond t (fresh known names) (n ∷ fresh more names)) off in
        ap (λ l. fresh (known ++ l) (n ∷ names)) same
        ∙ skipped (known ++ n ∷ fresh more names) (among_last known (fresh more names) n)
        ∙ ap (λ l. fresh l names) (sym (append_assoc known (n ∷ []) (fresh more names))) ∙ put

-- no text was seen
pub none_asked : (pool : List Entry) (slots : List ℕ) (q : Queue) → slots ≡ [] → AreAsked pool slots q
none_asked pool slots q none slot there =
    let no : list_any (nat_eq slot) [] ≡ true = ap (list_any (nat_eq slot)) (sym none) ∙ there in
    absurd (cc)

-- one text more
pub asked_too : (pool : List Entry) (slots more : List ℕ) (slot : ℕ) (q r : Queue) (names : Names) → asked_in pool (ClassName slot) ≡ names
    → r.asked ≡ q.asked → r.waiting ≡ q.waiting ++ fresh (q.asked ++ q.waiting) names
    → ((s : ℕ) → list_any (nat_eq s) more ≡ cond (nat_eq slot s) true (list_any (nat_eq s) slots))
    → AreAsked pool slots q → AreAsked pool more r
asked_too pool slots more slot q r names is stays grown step was s there =
    ap (λ l. fresh l (asked_in pool (ClassName s))) all ∙ by (nat_eq slot s) refl
  where
    known : Names
    known = q.asked ++ q.waiting

    all : r.asked ++ r.waiting ≡ known ++ fresh known names
    all = ap (λ l. l ++ r.waiting) stays ∙ ap (λ l. q.asked ++ l) grown ∙ sym (append_assoc q.asked q.waiting (fresh known names))

    by : (b : Bool) → nat_eq slot s ≡ b → fresh (known ++ fresh known names) (asked_in pool (ClassName s)) ≡ []
    by true on =
        let same : slot ≡ s = eqb-true slot s on in
        ap (λ k. fresh (known ++ fresh known names) (asked_in pool (ClassName k))) (sym same)
        ∙ ap (fresh (known ++ fresh known names)) is ∙ fresh-after known names
    by false off =
        let before : list_any (nat_eq s) slots ≡ true = ap (λ t. cond t true (list_any (nat_eq s) slots)) (sym off) ∙ sym (step s) ∙ there in
        fresh-none-more known (fresh known names) (asked_in pool (ClassName s)) (was s before)

-- what follows of two facts of a call that went well
pub on_both : {A E X Y Z : Type 0} (r : Result A E) → (X → Y → Z) → OnOk r X → OnOk r Y → OnOk r Z
on_both (Ok a) both x y = both x y
on_both (Err e) both x y = tt
