-- What holds of all that a pool names holds of what each entry names there.
use Rattle.std.proofs.Common.{◌≡◌, ℕ, zero, suc, ◌-◌, ◌&&◌, ◌||◌, Bool, true, false, List, [], ◌∷◌, Some, refl, sym, ap, ◌∙◌}
use Rattle.std.specs.Prelude.{slice_get, flat_map, not, option_to_list}
use Rattle.std.specs.List.{list_any, list_all}
use Rattle.std.specs.Option.{option_and_then}
use Rattle.std.proofs.lemmas.Bool.{and_parts}
use Rattle.std.proofs.lemmas.Option.{same_Some}
use Rattle.std.proofs.lemmas.List.Folds.{list_all-append}
use Rattle.class_definition.specs.declared.entry.Entry.{Entry}
use Rattle.class_definition.specs.NameGrammar.{same_text}
use Rattle.class_definition.specs.PoolEntries.{class_entry_name}
use Rattle.class_definition.specs.PoolChecks.{text_at}
use Rattle.constant_pool.specs.Slots.{IsAt}
use Rattle.emit_classes.specs.Sound.{IsPool}
use Rattle.emit_classes.specs.Mentioned.{Mention, mentions_in, mentioned, once, Mentions, classes_among}
use Rattle.emit_classes.proofs.Sound.{at-index}
use Rattle.emit_classes.proofs.Mentions.{mentions-any}
use Rattle.emit_classes.proofs.MentionedClasses.{mentions-classes, classes-asked}

turned : (a b c : Bool) → b ≡ not c → (a && b) ≡ not (not a || c)
turned true b c is = is
turned false b c is = refl

none-fails : (test : Mention → Bool) (xs : List Mention) → list_all test xs ≡ not (list_any (λ x. not (test x)) xs)
none-fails test [] = refl
none-fails test (x ∷ xs) = turned (test x) (list_all test xs) (list_any (λ y. not (test y)) xs) (none-fails test xs)

pub mentions-pass : (pool : List Entry) (names : List Mention) → Mentions pool names → (test : Mention → Bool) → list_all test names ≡ true
    → list_all test (mentioned pool) ≡ true
mentions-pass pool names is test all =
    none-fails test (mentioned pool) ∙ ap not (mentions-any pool names is (λ x. not (test x))) ∙ sym (none-fails test names) ∙ all

pass-at : (test : Mention → Bool) (f : Entry → List Mention) (es : List Entry) (i : ℕ) (e : Entry) → slice_get es i ≡ Some e
    → list_all test (flat_map f es) ≡ true → list_all test (f e) ≡ true
pass-at test f [] i e at all = absurd cc
pass-at test f (x ∷ es) zero e at all =
    let p = and_parts (list_all test (f x)) (list_all test (flat_map f es)) (sym (list_all-append test (f x) (flat_map f es)) ∙ all) in
    ap (λ y. list_all test (f y)) (sym (same_Some x e at)) ∙ p.0
pass-at test f (x ∷ es) (suc i) e at all =
    let p = and_parts (list_all test (f x)) (list_all test (flat_map f es)) (sym (list_all-append test (f x) (flat_map f es)) ∙ all) in
    pass-at test f es i e at p.1

pub entries-pass : (pool : List Entry) (names : List Mention) → Mentions pool names → (test : Mention → Bool) → list_all test names ≡ true
    → (slot : ℕ) (e : Entry) → IsAt pool slot e → list_all test (mentions_in pool e) ≡ true
entries-pass pool names is test all slot e at =
    pass-at test (mentions_in pool) pool (slot - 1) e (at-index pool slot e at) (mentions-pass pool names is test all)

pub classes-named : (pool : List Entry) (names : List Mention) → IsPool pool → Mentions pool names
    → once same_text (flat_map (λ e. option_to_list (option_and_then (text_at pool) (class_entry_name e))) pool)
    ≡ once same_text (classes_among names)
classes-named pool names sound is = ap (once same_text) (classes-asked pool sound) ∙ mentions-classes pool names is
